-- What a whole tree does to what the reader has built: it is added, or its first fault comes.
use Rattle.std.proofs.Common.{◌≡◌, ◌+◌, ◌++◌, append_assoc, append-nil, ℕ, zero, suc, Bool, true, false, cond, List, [], ◌∷◌, length, refl, ap, sym, ◌∙◌, arith}
use Rattle.std.specs.Prelude.{◌%◌, nat_lt, Option, Some, None, Ok, Err}
use Rattle.sw_tree.specs.Tree.{Tree, list, map, trees, entries, turns, items, pairs}
use Rattle.sw_tree.specs.Tree as tree
use Rattle.sw_tree.specs.Raw.{Raw, RawItems, no_items, item, RawEntries, no_entries, entry}
use Rattle.sw_tree.specs.Raw as raw
use Rattle.sw_tree.specs.Faults.{faults, items_faults, entries_faults, level_fault, number_fault, first}
use Rattle.sw_tree.specs.Builder.{Built, Frame, added, opened, closed}
use Rattle.sw_tree.specs.declared.fail.WireError.{WireError}
use Rattle.sw_tree.specs.declared.fail.WireError.TheVariants as wire
use Rattle.sw_compact.specs.Lengths.{length_bytes}
use Rattle.sw_compact.specs.Located.{located, items_located, entries_located, width}
use Rattle.sw_compact.specs.Decoding.{built}
use Rattle.sw_compact.specs.Inner.Machine.{Progress, went, with_close, with_head}
use Rattle.sw_compact.specs.Inner.Machine as machine
use Rattle.sw_compact.specs.declared.version.Version.{Version}
use Rattle.sw_compact.specs.Head.{leaf}
use Rattle.sw_compact.specs.Laws.Heads.{IsLeaf}

-- ---- faults, one behind the other

number_apart : (at : ℕ) (n : Option _) (rest : List WireError) → number_fault at n rest ≡ number_fault at n [] ++ rest
number_apart at None rest = refl
number_apart at (Some n) rest = refl

level_by : (t : Bool) (at : ℕ) (own rest : List WireError) → cond t (own ++ rest) (wire.TooDeep at ∷ own ++ rest) ≡ cond t own (wire.TooDeep at ∷ own) ++ rest
level_by true at own rest = refl
level_by false at own rest = refl

mutual
  pub apart : (d : ℕ) (r : Raw) (rest : List WireError) → faults d r rest ≡ faults d r [] ++ rest
  apart d (raw.null at) rest = refl
  apart d (raw.truth at b) rest = refl
  apart d (raw.number at n) rest = number_apart at n rest
  apart d (raw.text at s) rest = refl
  apart d (raw.bytes at s) rest = level_by (nat_lt d 128) at [] rest
  apart d (raw.list at rs) rest = ap (λ (fs : List WireError). cond (nat_lt d 128) fs (wire.TooDeep at ∷ fs)) (items_apart (suc d) rs rest) ∙ level_by (nat_lt d 128) at (items_faults (suc d) rs []) rest
  apart d (raw.map at es) rest = ap (λ (fs : List WireError). cond (nat_lt d 128) fs (wire.TooDeep at ∷ fs)) (entries_apart (suc d) es rest) ∙ level_by (nat_lt d 128) at (entries_faults (suc d) es []) rest

  pub items_apart : (d : ℕ) (rs : RawItems) (rest : List WireError) → items_faults d rs rest ≡ items_faults d rs [] ++ rest
  items_apart d no_items rest = refl
  items_apart d (item r rs) rest =
      apart d r (items_faults d rs rest) ∙ ap (λ fs. faults d r [] ++ fs) (items_apart d rs rest)
      ∙ sym (append_assoc (faults d r []) (items_faults d rs []) rest) ∙ ap (λ fs. fs ++ rest) (sym (apart d r (items_faults d rs [])))

  pub entries_apart : (d : ℕ) (es : RawEntries) (rest : List WireError) → entries_faults d es rest ≡ entries_faults d es [] ++ rest
  entries_apart d no_entries rest = refl
  entries_apart d (entry k r es) rest =
      apart d k (faults d r (entries_faults d es rest)) ∙ ap (λ fs. faults d k [] ++ fs) (apart d r (entries_faults d es rest) ∙ ap (λ fs. faults d r [] ++ fs) (entries_apart d es rest)
      ∙ sym (append_assoc (faults d r []) (entries_faults d es []) rest) ∙ ap (λ fs. fs ++ rest) (sym (apart d r (entries_faults d es []))))
      ∙ sym (append_assoc (faults d k []) (faults d r (entries_faults d es [])) rest) ∙ ap (λ fs. fs ++ rest) (sym (apart d k (faults d r (entries_faults d es []))))

-- ---- one step behind the other

pub went_twice : (xs ys : List WireError) (e g : Built → Built) (p : Progress) → went (first ys) g (went (first xs) e p) ≡ went (first (xs ++ ys)) (λ b. g (e b)) p
went_twice xs ys e g (Err x) = refl
went_twice [] [] e g (Ok b) = refl
went_twice [] (y ∷ ys) e g (Ok b) = refl
went_twice (x ∷ xs) ys e g (Ok b) = refl

pub went_same : (f : Option WireError) (e g : Built → Built) (p : Progress) → ((b : Built) → e b ≡ g b) → went f e p ≡ went f g p
went_same f e g (Err x) h = refl
went_same None e g (Ok b) h = ap (λ c. Ok c) (h b)
went_same (Some x) e g (Ok b) h = refl

-- ---- trees

abbrev pub adds : Built → List Tree → Built
adds b [] = b
adds b (t ∷ ts) = adds (added b t) ts

abbrev pub absorb : Version → ℕ → ℕ → Tree → Progress → Progress
absorb v at d t p = went (first (faults d (located v at t) [])) (λ b. added b t) p

abbrev pub absorbs : Version → ℕ → ℕ → List Tree → Progress → Progress
absorbs v at d [] p = p
absorbs v at d (t ∷ ts) p = absorbs v (at + width v t) d ts (absorb v at d t p)

nothing_went : (p : Progress) → p ≡ went None (λ b. b) p
nothing_went (Ok b) = refl
nothing_went (Err x) = refl

items_absorbed : (v : Version) (at d : ℕ) (ts : List Tree) (p : Progress) → absorbs v at d ts p ≡ went (first (items_faults d (items_located v at (trees ts)) [])) (λ b. adds b ts) p
items_absorbed v at d [] p = nothing_went p
items_absorbed v at d (t ∷ ts) p =
    items_absorbed v (at + width v t) d ts (absorb v at d t p)
    ∙ went_twice (faults d (located v at t) []) (items_faults d (items_located v (at + width v t) (trees ts)) []) (λ b. added b t) (λ b. adds b ts) p
    ∙ ap (λ fs. went (first fs) (λ b. adds b (t ∷ ts)) p) (sym (apart d (located v at t) (items_faults d (items_located v (at + width v t) (trees ts)) [])))

entries_absorbed : (v : Version) (at d : ℕ) (ts : List Tree) (p : Progress) → length ts % 2 ≡ 0
    → absorbs v at d ts p ≡ went (first (entries_faults d (entries_located v at (entries (turns ts))) [])) (λ b. adds b ts) p
entries_absorbed v at d [] p even = nothing_went p
entries_absorbed v at d (t ∷ []) p even = cc
entries_absorbed v at d (t ∷ u ∷ ts) p even =
    let behind = at + width v t in
    let es = entries_faults d (entries_located v (behind + width v u) (entries (turns ts))) [] in
    entries_absorbed v (behind + width v u) d ts (absorb v behind d u (absorb v at d t p)) (omega (arith, even))
    ∙ went_twice (faults d (located v behind u) []) es (λ b. added b u) (λ b. adds b ts) (absorb v at d t p)
    ∙ ap (λ fs. went (first fs) (λ b. adds b (u ∷ ts)) (absorb v at d t p)) (sym (apart d (located v behind u) es))
    ∙ went_twice (faults d (located v at t) []) (faults d (located v behind u) es) (λ b. added b t) (λ b. adds b (u ∷ ts)) p
    ∙ ap (λ fs. went (first fs) (λ b. adds b (t ∷ u ∷ ts)) p) (sym (apart d (located v at t) (faults d (located v behind u) es)))

-- ---- lists and maps

abbrev pub with_open : ℕ → ℕ → Bool → Progress → Progress
with_open d at m p = went (machine.level_fault true d at) (λ b. opened b m) p

adds_children : (input : List ℕ) (side : ℕ) (m : Bool) (cs : List Tree) (fs : List Frame) (root : Option Tree) (ts : List Tree)
    → adds (record { input = input; side_len = side; frames = record { is_map = m; children = cs } ∷ fs; root = root }) ts
    ≡ record { input = input; side_len = side; frames = record { is_map = m; children = cs ++ ts } ∷ fs; root = root }
adds_children input side m cs fs root [] = ap (λ (xs : List Tree). record { input = input; side_len = side; frames = record { is_map = m; children = xs } ∷ fs; root = root }) (sym (append-nil cs))
adds_children input side m cs fs root (t ∷ ts) =
    adds_children input side m (cs ++ t ∷ []) fs root ts
    ∙ ap (λ (xs : List Tree). record { input = input; side_len = side; frames = record { is_map = m; children = xs } ∷ fs; root = root }) (append_assoc cs (t ∷ []) ts)

closed_over : (input : List ℕ) (side : ℕ) (m : Bool) (fs : List Frame) (root : Option Tree) (ts : List Tree)
    → closed (record { input = input; side_len = side; frames = record { is_map = m; children = ts } ∷ fs; root = root }) ≡ added (record { input = input; side_len = side; frames = fs; root = root }) (built m ts)
closed_over input side false [] root ts = refl
closed_over input side true [] root ts = refl
closed_over input side false (f ∷ fs) root ts = refl
closed_over input side true (f ∷ fs) root ts = refl

pub closed_all : (m : Bool) (ts : List Tree) (b : Built) → closed (adds (opened b m) ts) ≡ added b (built m ts)
closed_all m ts b = ap closed (adds_children b.input b.side_len m [] b.frames b.root ts) ∙ closed_over b.input b.side_len m b.frames b.root ts

open_first : (d at : ℕ) → machine.level_fault true d at ≡ first (level_fault d at [])
open_first d at = by (nat_lt d 128)
  where
    by : (t : Bool) → cond t None (Some (wire.TooDeep at)) ≡ first (cond t [] (wire.TooDeep at ∷ []))
    by true = refl
    by false = refl

level_apart : (d at : ℕ) (rest : List WireError) → level_fault d at rest ≡ level_fault d at [] ++ rest
level_apart d at rest = level_by (nat_lt d 128) at [] rest

-- an opening, parts that have these faults together, and the closing
around : (d at : ℕ) (m : Bool) (ts : List Tree) (ys : List WireError) (p : Progress)
    → with_close (went (first ys) (λ b. adds b ts) (with_open d at m p)) ≡ went (first (level_fault d at ys)) (λ b. added b (built m ts)) p
around d at m ts ys p =
    ap (λ f. with_close (went (first ys) (λ b. adds b ts) (went f (λ b. opened b m) p))) (open_first d at)
    ∙ ap with_close (went_twice (level_fault d at []) ys (λ b. opened b m) (λ b. adds b ts) p)
    ∙ went_twice (level_fault d at [] ++ ys) [] (λ b. adds (opened b m) ts) closed p
    ∙ ap (λ fs. went (first fs) (λ b. closed (adds (opened b m) ts)) p) (append-nil (level_fault d at [] ++ ys) ∙ sym (level_apart d at ys))
    ∙ went_same (first (level_fault d at ys)) (λ b. closed (adds (opened b m) ts)) (λ b. added b (built m ts)) p (closed_all m ts)

items-trees : (ts : List Tree) → items (trees ts) ≡ ts
items-trees [] = refl
items-trees (t ∷ ts) = ap (λ us. t ∷ us) (items-trees ts)

pairs-entries : (es : List (Tree × Tree)) → pairs (entries es) ≡ es
pairs-entries [] = refl
pairs-entries (e ∷ es) = ap (λ fs. e ∷ fs) (pairs-entries es)

pub list_absorbed : (v : Version) (at d c : ℕ) (ts : List Tree) (p : Progress) → length ts ≡ c
    → with_close (absorbs v (suc at + length (length_bytes v c)) (suc d) ts (with_open d at false p)) ≡ absorb v at d (built false ts) p
list_absorbed v at d c ts p e =
    let inner = suc at + length (length_bytes v c) in
    ap with_close (items_absorbed v inner (suc d) ts (with_open d at false p))
    ∙ around d at false ts (items_faults (suc d) (items_located v inner (trees ts)) []) p
    ∙ ap (λ n. went (first (level_fault d at (items_faults (suc d) (items_located v (suc at + length (length_bytes v n)) (trees ts)) []))) (λ b. added b (built false ts)) p) (sym (ap length (items-trees ts) ∙ e))

length-turns : (c : ℕ) (ts : List Tree) → length ts ≡ c + c → length (turns ts) ≡ c
length-turns zero [] e = refl
length-turns zero (t ∷ ts) e = absurd (omega (arith, e))
length-turns (suc c) [] e = absurd (omega (arith, e))
length-turns (suc c) (t ∷ []) e = absurd (omega (arith, e))
length-turns (suc c) (t ∷ u ∷ ts) e = ap suc (length-turns c ts (omega (arith, e)))

pub map_absorbed : (v : Version) (at d c : ℕ) (ts : List Tree) (p : Progress) → length ts ≡ c + c
    → with_close (absorbs v (suc at + length (length_bytes v c)) (suc d) ts (with_open d at true p)) ≡ absorb v at d (built true ts) p
map_absorbed v at d c ts p e =
    let inner = suc at + length (length_bytes v c) in
    let even : length ts % 2 ≡ 0 = omega (arith, e) in
    ap with_close (entries_absorbed v inner (suc d) ts (with_open d at true p) even)
    ∙ around d at true ts (entries_faults (suc d) (entries_located v inner (entries (turns ts))) []) p
    ∙ ap (λ n. went (first (level_fault d at (entries_faults (suc d) (entries_located v (suc at + length (length_bytes v n)) (entries (turns ts))) []))) (λ b. added b (built true ts)) p) (sym (ap length (pairs-entries (turns ts)) ∙ length-turns c ts e))

pub leaf_absorbed : (v : Version) (at d : ℕ) (t : Tree) (p : Progress) → IsLeaf t → with_head at d (leaf t) p ≡ absorb v at d t p
leaf_absorbed v at d tree.null p h = refl
leaf_absorbed v at d (tree.truth b) p h = refl
leaf_absorbed v at d (tree.int n) p h = refl
leaf_absorbed v at d (tree.text s) p h = refl
leaf_absorbed v at d (tree.bytes s) p h = ap (λ f. went f (λ b. added b (tree.bytes s)) p) (open_first d at)
leaf_absorbed v at d (list ts) p h = absurd h
leaf_absorbed v at d (map es) p h = absurd h
