-- Bytes are read as the tree that they spell, and as no other.
use Rattle.std.proofs.Common.{◌≡◌, ◌≤◌, ◌+◌, ◌++◌, ℕ, zero, suc, Bool, true, false, List, [], ◌∷◌, length, length-append, refl, ap, ap₂, sym, subst, ◌∙◌, arith}
use Rattle.std.specs.Prelude.{Some, None, option_map, option_and_then}
use Rattle.sw_tree.specs.Laws.Options.{some_is}
use Rattle.sw_tree.specs.Laws.Tree.{items-trees, pairs-entries}
use Rattle.sw_tree.specs.Tree.{Tree, null, truth, int, text, bytes, list, map, items, pairs, trees, entries, turns, by_turns, Trees, no_trees, tree, Entries, no_entries, entry}
use Rattle.sw_tree.specs.Proper.{IsProper, AreProper, AreProperEntries}
use Rattle.sw_tree.specs.Short.{IsShort, AreShort, AreShortEntries, IsLength}
use Rattle.sw_compact.specs.Lengths.{length_bytes}
use Rattle.sw_compact.specs.Spelling.{spelling, items_spelling, entries_spelling}
use Rattle.sw_compact.specs.Head.{Front, Head, leaf, opens, head}
use Rattle.sw_compact.specs.Decoding.{repeated, built, behind_head, node, all_of, tree_of}
use Rattle.sw_compact.specs.Laws.Heads.{OpensAt, head_sound, leaf_read, opening_read}
use Rattle.sw_compact.specs.Laws.Widths.{width_some, length-spelling, items_few, entries_few}
use Rattle.sw_compact.specs.declared.version.Version.{Version}

-- ---- what is read is spelled

-- The bytes are the spelling of a proper short tree, and what is behind it.
pub record NodeAt (v : Version) (b : List ℕ) (t : Tree) (k : List ℕ) : Type 0 where
  pub spelled : b ≡ spelling v t k
  pub proper : IsProper t
  pub short : IsShort t

record NodesAt (v : Version) (b : List ℕ) (c : ℕ) (ts : List Tree) (k : List ℕ) : Type 0 where
  spelled : b ≡ items_spelling v (trees ts) k
  proper : AreProper (trees ts)
  short : AreShort (trees ts)
  count : length ts ≡ c

-- what the reading gives is spelled
abbrev Sound : Version → (List ℕ → Front Tree) → Type 0
Sound v one = (b : List ℕ) (t : Tree) (k : List ℕ) → one b ≡ Some (t, k) → NodeAt v b t k

repeated_sound : (v : Version) (one : List ℕ → Front Tree) → Sound v one → (c : ℕ) (b : List ℕ) (ts : List Tree) (k : List ℕ) → repeated c one b ≡ Some (ts, k) → NodesAt v b c ts k
repeated_sound v one sound zero b ts k e =
    subst (λ (x : List Tree × List ℕ). NodesAt v b zero x.0 x.1) (some_is e) (record { spelled = refl; proper = tt; short = tt; count = refl })
repeated_sound v one sound (suc c) b ts k e = by (one b) refl (repeated_sound v one sound c) e
  where
    of : (x : Tree × List ℕ) (o : Front (List Tree)) → one b ≡ Some x → repeated c one x.1 ≡ o → ((us : List Tree) (l : List ℕ) → repeated c one x.1 ≡ Some (us, l) → NodesAt v x.1 c us l)
        → option_map {T = List Tree × List ℕ} {U = List Tree × List ℕ} (λ z. (x.0 ∷ z.0, z.1)) o ≡ Some (ts, k) → NodesAt v b (suc c) ts k
    of x None f g next i = cc
    of x (Some y) f g next i =
        let this = sound b x.0 x.1 f in
        let others = next y.0 y.1 g in
        subst (λ (z : List Tree × List ℕ). NodesAt v b (suc c) z.0 z.1) (some_is i)
        (record { spelled = this.spelled ∙ ap (spelling v x.0) others.spelled; proper = (this.proper, others.proper); short = (this.short, others.short); count = ap suc others.count })

    by : (o : Front Tree) → one b ≡ o → ((d : List ℕ) (us : List Tree) (l : List ℕ) → repeated c one d ≡ Some (us, l) → NodesAt v d c us l) → option_and_then {U = List Tree × List ℕ} (λ x. option_map (λ (z : List Tree × List ℕ). (x.0 ∷ z.0, z.1)) (repeated c one x.1)) o ≡ Some (ts, k) → NodesAt v b (suc c) ts k
    by None f next i = cc
    by (Some x) f next i = of x (repeated c one x.1) f refl (next x.1) i

-- keys and values by turns are spelled as entries
turns_spelled : (v : Version) (c : ℕ) (ts : List Tree) (k : List ℕ) → length ts ≡ c + c → items_spelling v (trees ts) k ≡ entries_spelling v (entries (turns ts)) k
turns_spelled v c [] k e = refl
turns_spelled v c (t ∷ []) k e = absurd (omega (arith, e))
turns_spelled v zero (t ∷ u ∷ ts) k e = absurd (omega (arith, e))
turns_spelled v (suc c) (t ∷ u ∷ ts) k e = ap (λ x. spelling v t (spelling v u x)) (turns_spelled v c ts k (omega (arith, e)))

turns_proper : (ts : List Tree) → AreProper (trees ts) → AreProperEntries (entries (turns ts))
turns_proper [] h = tt
turns_proper (t ∷ []) h = tt
turns_proper (t ∷ u ∷ ts) h = (h.0, h.1.0, turns_proper ts h.1.1)

turns_short : (ts : List Tree) → AreShort (trees ts) → AreShortEntries (entries (turns ts))
turns_short [] h = tt
turns_short (t ∷ []) h = tt
turns_short (t ∷ u ∷ ts) h = (h.0, h.1.0, turns_short ts h.1.1)

length-turns : (c : ℕ) (ts : List Tree) → length ts ≡ c + c → length (turns ts) ≡ c
length-turns zero [] e = refl
length-turns zero (t ∷ ts) e = absurd (omega (arith, e))
length-turns (suc c) [] e = absurd (omega (arith, e))
length-turns (suc c) (t ∷ []) e = absurd (omega (arith, e))
length-turns (suc c) (t ∷ u ∷ ts) e = ap suc (length-turns c ts (omega (arith, e)))

built_at : (v : Version) (m : Bool) (n : ℕ) (b k0 : List ℕ) (ts : List Tree) (k : List ℕ) → OpensAt v b m n k0 → NodesAt v k0 n ts k → NodeAt v b (built m ts) k
built_at v false n b k0 ts k o w =
    let count : length (items (trees ts)) ≡ o.count = ap length (items-trees ts) ∙ w.count ∙ o.parts_are in
    record {
      spelled = o.spelled ∙ ap₂ (λ (c : ℕ) (x : List ℕ). 7 ∷ (length_bytes v c ++ x)) (sym count) w.spelled;
      proper = w.proper;
      short = (subst IsLength (sym count) o.low, w.short);
    }
built_at v true n b k0 ts k o w =
    let even : length ts ≡ o.count + o.count = w.count ∙ o.parts_are in
    let count : length (pairs (entries (turns ts))) ≡ o.count = ap length (pairs-entries (turns ts)) ∙ length-turns o.count ts even in
    record {
      spelled = o.spelled ∙ ap₂ (λ (c : ℕ) (x : List ℕ). 8 ∷ (length_bytes v c ++ x)) (sym count) (w.spelled ∙ turns_spelled v o.count ts k even);
      proper = turns_proper ts w.proper;
      short = (subst IsLength (sym count) o.low, turns_short ts w.short);
    }

behind_sound : (v : Version) (one : List ℕ → Front Tree) → Sound v one → (b : List ℕ) (h : Head) (k0 : List ℕ) (t : Tree) (k : List ℕ) → head v b ≡ Some (h, k0) → behind_head one h k0 ≡ Some (t, k) → NodeAt v b t k
behind_sound v one sound b (leaf u) k0 t k e g =
    let l = head_sound v b (leaf u) k0 e in
    subst (λ (x : Tree × List ℕ). NodeAt v b x.0 x.1) (some_is g) (record { spelled = l.spelled; proper = l.proper; short = l.short })
behind_sound v one sound b (opens m n) k0 t k e g = by (repeated n one k0) refl g
  where
    by : (o : Front (List Tree)) → repeated n one k0 ≡ o → option_map {T = List Tree × List ℕ} {U = Tree × List ℕ} (λ x. (built m x.0, x.1)) o ≡ Some (t, k) → NodeAt v b t k
    by None f i = cc
    by (Some x) f i = subst (λ (y : Tree × List ℕ). NodeAt v b y.0 y.1) (some_is i) (built_at v m n b k0 x.0 x.1 (head_sound v b (opens m n) k0 e) (repeated_sound v one sound n k0 x.0 x.1 f))

pub node_sound : (n : ℕ) (v : Version) → Sound v (node n v)
node_sound zero v b t k e = cc
node_sound (suc n) v b t k e = by (head v b) refl (node_sound n v) e
  where
    by : (o : Front Head) → head v b ≡ o → Sound v (node n v) → option_and_then (λ x. behind_head (node n v) x.0 x.1) o ≡ Some (t, k) → NodeAt v b t k
    by None f next i = cc
    by (Some x) f next i = behind_sound v (node n v) next b x.0 x.1 t k f i

-- ---- what is spelled is read

head_then : (n : ℕ) (v : Version) (b : List ℕ) (h : Head) (k : List ℕ) → head v b ≡ Some (h, k) → node (suc n) v b ≡ behind_head (node n v) h k
head_then n v b h k e = ap (option_and_then (λ x. behind_head (node n v) x.0 x.1)) e

repeated_more : (n c : ℕ) (v : Version) (b : List ℕ) (t : Tree) (b2 : List ℕ) (ts : List Tree) (k : List ℕ) → node n v b ≡ Some (t, b2) → repeated c (node n v) b2 ≡ Some (ts, k) → repeated (suc c) (node n v) b ≡ Some (t ∷ ts, k)
repeated_more n c v b t b2 ts k e f =
    ap (option_and_then {U = List Tree × List ℕ} (λ x. option_map (λ (z : List Tree × List ℕ). (x.0 ∷ z.0, z.1)) (repeated c (node n v) x.1))) e
    ∙ ap (option_map {T = List Tree × List ℕ} {U = List Tree × List ℕ} (λ z. (t ∷ z.0, z.1))) f

turned : (es : List (Tree × Tree)) → turns (by_turns es) ≡ es
turned [] = refl
turned (e ∷ es) = ap (λ fs. e ∷ fs) (turned es)

trees-items : (ts : Trees) → trees (items ts) ≡ ts
trees-items no_trees = refl
trees-items (tree t ts) = ap (tree t) (trees-items ts)

entries-pairs : (es : Entries) → entries (pairs es) ≡ es
entries-pairs no_entries = refl
entries-pairs (entry k t es) = ap (entry k t) (entries-pairs es)

length-by_turns : (es : List (Tree × Tree)) → length (by_turns es) ≡ length es + length es
length-by_turns [] = refl
length-by_turns (e ∷ es) = omega (arith, length-by_turns es)

mutual
  pub node_read : (n : ℕ) (v : Version) (t : Tree) (k : List ℕ) → IsProper t → IsShort t → length (spelling v t k) ≤ n → node n v (spelling v t k) ≡ Some (t, k)
  node_read zero v t k p s few = absurd (omega (arith, few, width_some v t, length-spelling v t k))
  node_read (suc n) v null k p s few = head_then n v (spelling v null k) (leaf null) k (leaf_read v null k tt p s)
  node_read (suc n) v (truth b) k p s few = head_then n v (spelling v (truth b) k) (leaf (truth b)) k (leaf_read v (truth b) k tt p s)
  node_read (suc n) v (int i) k p s few = head_then n v (spelling v (int i) k) (leaf (int i)) k (leaf_read v (int i) k tt p s)
  node_read (suc n) v (text x) k p s few = head_then n v (spelling v (text x) k) (leaf (text x)) k (leaf_read v (text x) k tt p s)
  node_read (suc n) v (bytes x) k p s few = head_then n v (spelling v (bytes x) k) (leaf (bytes x)) k (leaf_read v (bytes x) k tt p s)
  node_read (suc n) v (list ts) k p s few =
      let c = length (items ts) in
      let inner = items_spelling v ts k in
      head_then n v (spelling v (list ts) k) (opens false c) inner (opening_read v false c inner s.0 (omega (arith, items_few v ts k)))
      ∙ ap (option_map {T = List Tree × List ℕ} {U = Tree × List ℕ} (λ x. (built false x.0, x.1))) (items_read n v ts k p s.1 (omega (arith, few, length-append (length_bytes v c) inner)))
      ∙ ap (λ us. Some (list us, k)) (trees-items ts)
  node_read (suc n) v (map es) k p s few =
      let c = length (pairs es) in
      let inner = entries_spelling v es k in
      head_then n v (spelling v (map es) k) (opens true (c + c)) inner (opening_read v true c inner s.0 (omega (arith, entries_few v es k)))
      ∙ ap (λ m. option_map {T = List Tree × List ℕ} {U = Tree × List ℕ} (λ x. (built true x.0, x.1)) (repeated m (node n v) inner)) (sym (length-by_turns (pairs es)))
      ∙ ap (option_map {T = List Tree × List ℕ} {U = Tree × List ℕ} (λ x. (built true x.0, x.1))) (entries_read n v es k p s.1 (omega (arith, few, length-append (length_bytes v c) inner)))
      ∙ ap (λ fs. Some (map fs, k)) (ap entries (turned (pairs es)) ∙ entries-pairs es)

  items_read : (n : ℕ) (v : Version) (ts : Trees) (k : List ℕ) → AreProper ts → AreShort ts → length (items_spelling v ts k) ≤ n → repeated (length (items ts)) (node n v) (items_spelling v ts k) ≡ Some (items ts, k)
  items_read n v no_trees k p s few = refl
  items_read n v (tree t ts) k p s few =
      let inner = items_spelling v ts k in
      repeated_more n (length (items ts)) v (spelling v t inner) t inner (items ts) k (node_read n v t inner p.0 s.0 few)
      (items_read n v ts k p.1 s.1 (omega (arith, few, length-spelling v t inner)))

  entries_read : (n : ℕ) (v : Version) (es : Entries) (k : List ℕ) → AreProperEntries es → AreShortEntries es → length (entries_spelling v es k) ≤ n
      → repeated (length (by_turns (pairs es))) (node n v) (entries_spelling v es k) ≡ Some (by_turns (pairs es), k)
  entries_read n v no_entries k p s few = refl
  entries_read n v (entry x t es) k p s few =
      let inner = entries_spelling v es k in
      let value = spelling v t inner in
      let less : length value ≤ n = omega (arith, few, length-spelling v x value) in
      repeated_more n (suc (length (by_turns (pairs es)))) v (spelling v x value) x value (t ∷ by_turns (pairs es)) k (node_read n v x value p.0 s.0 few)
      (repeated_more n (length (by_turns (pairs es))) v value t inner (by_turns (pairs es)) k (node_read n v t inner p.1 s.1 less)
      (entries_read n v es k p.2 s.2 (omega (arith, less, length-spelling v t inner))))

-- ---- all the bytes

pub tree_read : (v : Version) (t : Tree) → IsProper t → IsShort t → tree_of v (spelling v t []) ≡ Some t
tree_read v t p s = ap all_of (node_read (length (spelling v t [])) v t [] p s (omega arith))

pub tree_sound : (v : Version) (b : List ℕ) (t : Tree) → tree_of v b ≡ Some t → NodeAt v b t []
tree_sound v b t e = by (node (length b) v b) refl e
  where
    by : (o : Front Tree) → node (length b) v b ≡ o → all_of o ≡ Some t → NodeAt v b t []
    by None f i = cc
    by (Some (u, [])) f i = subst (λ x. NodeAt v b x []) (some_is i) (node_sound (length b) v b u [] f)
    by (Some (u, c ∷ cs)) f i = cc
