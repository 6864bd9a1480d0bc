-- The reader's loop: what is kept of the bytes so far, and what is left of them.
use Rattle.std.proofs.Common.{◌≡◌, ◌≤◌, ◌<◌, ◌+◌, ◌-◌, ◌++◌, append_assoc, ℕ, zero, suc, Bool, true, false, eqb, List, [], ◌∷◌, length, length-append, take, drop, take_at, drop_at, refl, ap, sym, subst, ◌∙◌, arith}
use Rattle.std.proofs.lemmas.Bool.Decides.{nat_tests}
use Rattle.std.proofs.lemmas.List.{nil_from_length}
use Rattle.std.specs.Prelude.{Option, Some, None, IfSome, is_some, Result, Ok, Err, IfOk, is_err}
use Rattle.sw_tree.specs.Answered.{wire_cause}
use Rattle.sw_tree.specs.Tree.{Tree, null, truth, int, text, bytes, list, map}
use Rattle.sw_tree.specs.Builder.{Built, Frame, added, added_to, closed, closed_from, built_tree}
use Rattle.sw_tree.specs.declared.fail.WireError.{WireError}
use Rattle.sw_tree.specs.declared.fail.WireError.TheVariants as wire
use Rattle.sw_compact.specs.Spelling.{mark}
use Rattle.sw_compact.specs.Spelled.{judged}
use Rattle.sw_compact.specs.Decoding.{tree_of}
use Rattle.sw_compact.specs.Head.{Head, leaf, opens, head}
use Rattle.sw_compact.specs.Inner.Machine.{Progress, State, run, answer, rooted, effect, went, with_head, with_close, settle, before, follow, go_on, head_fault}
use Rattle.sw_compact.specs.Inner.Kept.{progress_of, Waits, HasCome, HasOpened, IsOpened, AreOpen, IsEven, IsPart, Fits, CanBuild, CanFollow, Stands}
use Rattle.sw_compact.specs.declared.level.Level.{Level}
use Rattle.sw_compact.specs.declared.version.Version.{Version}
use Rattle.sw_compact.specs.Laws.Heads.{head_sound}
use Rattle.sw_compact.proofs.Fronts.{Ends, IsFound, head_found, head_apart}
use Rattle.sw_compact.proofs.Running.{fresh, read_runs, run_head, run_none}

-- the input, and how long the text beside it is
abbrev pub base : Built → List ℕ × ℕ
base b = (b.input, b.side_len)

-- The bytes are read as what the state comes to by what is left of them.
pub record Reads (v : Version) (input body : List ℕ) (fault : Option WireError) (b : Built) (ls : List Level) (rest : List ℕ) : Type 0 where
  pub here : judged v (tree_of v body) ≡ answer (run (length rest) v (length input) (record { progress = progress_of fault b; levels = ls }) rest)
  pub waits : fault ≡ None → Waits b ls
  pub over : fault ≡ None → base b ≡ (input, 0)
  pub read : List ℕ
  pub parts_are : input ≡ read ++ rest

pub at_start : (v : Version) (input body : List ℕ) → input ≡ mark v ++ body → Reads v input body None (fresh input) [] body
at_start v input body e = record {
  here = read_runs v input body e;
  waits = λ _. record { no_root = refl; frames = tt };
  over = λ _. refl;
  read = mark v;
  parts_are = e;
}

-- ---- a part of the input

-- what stands there is the part
is_part : (input read rest s k : List ℕ) → input ≡ read ++ rest → Ends rest s k → IsPart s (length input - length k) input
is_part input read rest s k e f =
    let whole : input ≡ (read ++ f.before) ++ (s ++ k) = e ∙ ap (λ r. read ++ r) f.is ∙ sym (append_assoc read f.before (s ++ k)) in
    let long : length input ≡ length (read ++ f.before) + (length s + length k) = ap length whole ∙ length-append (read ++ f.before) (s ++ k) ∙ ap (λ n. length (read ++ f.before) + n) (length-append s k) in
    let start : length (read ++ f.before) ≡ length input - length k - length s = omega (arith, long) in
    let count : length s ≡ length input - length k - (length input - length k - length s) = omega (arith, long) in
    record {
      behind = omega (arith, long);
      inside = omega arith;
      part =
          ap (λ r. take (length input - length k - (length input - length k - length s)) (drop (length input - length k - length s) r)) whole
          ∙ ap (take (length input - length k - (length input - length k - length s))) (drop_at (read ++ f.before) (s ++ k) (length input - length k - length s) start)
          ∙ take_at s k (length input - length k - (length input - length k - length s)) count;
    }

-- ---- the levels and the frames

length-open : (n : ℕ) (fs : List Frame) (ls : List Level) → AreOpen n fs ls → length fs ≡ length ls
length-open n [] [] h = refl
length-open n [] (l ∷ ls) h = absurd h
length-open n (f ∷ fs) [] h = absurd h
length-open n (f ∷ fs) (l ∷ ls) h = ap suc (length-open 1 fs ls h.2)

fits_found : (h : Head) (input read rest k : List ℕ) → input ≡ read ++ rest → IsFound h rest k → Fits h (length input - length k) input
fits_found (leaf null) input read rest k e f = tt
fits_found (leaf (truth b)) input read rest k e f = tt
fits_found (leaf (int n)) input read rest k e f = f
fits_found (leaf (text s)) input read rest k e f = (is_part input read rest s k e f.0, f.1)
fits_found (leaf (bytes s)) input read rest k e f = is_part input read rest s k e f
fits_found (leaf (list ts)) input read rest k e f = tt
fits_found (leaf (map es)) input read rest k e f = tt
fits_found (opens m n) input read rest k e f = tt

-- a further child of the innermost, or the root
come_in : (b : Built) (ls : List Level) (t : Tree) → b.root ≡ None → AreOpen 1 b.frames ls → HasCome (added b t) ls
come_in b ls t free h = by b.frames ls h
  where
    by : (fs : List Frame) (ms : List Level) → AreOpen 1 fs ms → HasCome (added_to b fs t) ms
    by [] [] h = refl
    by [] (l ∷ ms) h = absurd h
    by (f ∷ fs) [] h = absurd h
    by (f ∷ fs) (l ∷ ms) h = (free, (h.0, more l.is_map f.children l.due h.1, h.2))
      where
        more : (m : Bool) (cs : List Tree) (n : ℕ) → IsEven m (length cs + (1 + n)) → IsEven m (length (cs ++ t ∷ []) + (0 + n))
        more false cs n i = tt
        more true cs n i = omega (arith, i, length-append cs (t ∷ []))

closed_in : (b : Built) (l : Level) (ls : List Level) → b.root ≡ None → AreOpen 0 b.frames (l ∷ ls) → HasCome (closed b) ls
closed_in b l ls free h = by b.frames h
  where
    by : (fs : List Frame) → AreOpen 0 fs (l ∷ ls) → HasCome (closed_from b fs) ls
    by [] h = absurd h
    by (f ∷ fs) h = come_in (record { input = b.input; side_len = b.side_len; frames = fs; root = b.root }) ls (built_tree f.is_map f.children) free h.2

closed_over : (b : Built) → base (closed b) ≡ base b
closed_over b = by b.frames
  where
    by : (fs : List Frame) → base (closed_from b fs) ≡ base b
    by [] = refl
    by (f ∷ []) = refl
    by (f ∷ g ∷ fs) = refl

added_over : (b : Built) (t : Tree) → base (added b t) ≡ base b
added_over b t = by b.frames
  where
    by : (fs : List Frame) → base (added_to b fs t) ≡ base b
    by [] = refl
    by (f ∷ fs) = refl

-- what is built over the input stands so behind a node: the root is there, or a further node comes
abbrev Stays : List ℕ → Progress → List Level → Type 0
Stays input (Err e) ls = Unit {0}
Stays input (Ok b) [] = (base b ≡ (input, 0)) × (is_some b.root ≡ true)
Stays input (Ok b) (l ∷ ls) = (base b ≡ (input, 0)) × Waits b (l ∷ ls)

abbrev StaysSo : List ℕ → State → Type 0
StaysSo input s = Stays input s.progress s.levels

even_same : (m : Bool) (i j : ℕ) → i ≡ j → IsEven m i → IsEven m j
even_same m i j e h = subst (IsEven m) e h

-- what waits for a further part, where so many are left
waits_more : (m : Bool) (n : ℕ) (fs : List Frame) (ls : List Level) → AreOpen 0 fs (record { is_map = m; due = suc n } ∷ ls) → AreOpen 1 fs (record { is_map = m; due = n } ∷ ls)
waits_more m n [] ls h = absurd h
waits_more m n (f ∷ fs) ls h = (h.0, even_same m (length f.children + (0 + suc n)) (length f.children + (1 + n)) (omega arith) h.1, h.2)

before_stays : (input : List ℕ) (b : Built) (m : Bool) (n : ℕ) (ls : List Level) → base b ≡ (input, 0) → b.root ≡ None → AreOpen 0 b.frames (record { is_map = m; due = n } ∷ ls) → (HasCome (closed b) ls → StaysSo input (settle (Ok (closed b)) ls))
    → StaysSo input (before n m (Ok b) ls (settle (with_close (Ok b)) ls))
before_stays input b m zero ls over free h closing = closing (closed_in b (record { is_map = m; due = zero }) ls free h)
before_stays input b m (suc n) ls over free h closing = (over, record { no_root = free; frames = waits_more m n b.frames ls h })

settled : (input : List ℕ) (b : Built) (ls : List Level) → base b ≡ (input, 0) → HasCome b ls → StaysSo input (settle (Ok b) ls)
settled input b [] over h = (over, h)
settled input b (l ∷ ls) over h = before_stays input b l.is_map l.due ls over h.0 h.1 (λ c. settled input (closed b) ls (closed_over b ∙ over) c)

opened_frames : (m : Bool) (n : ℕ) (fs : List Frame) (ls : List Level) → IsEven m n → IsOpened fs m ls → AreOpen 0 fs (record { is_map = m; due = n } ∷ ls)
opened_frames m n [] ls even o = absurd o
opened_frames m n (f ∷ fs) ls even o = (o.0, even_same m n (length f.children + (0 + n)) (omega (arith, ap length o.1)) even, o.2)

entered : (input : List ℕ) (b : Built) (m : Bool) (n : ℕ) (ls : List Level) → base b ≡ (input, 0) → HasOpened b m n ls → StaysSo input (before n m (Ok b) ls (settle (with_close (Ok b)) ls))
entered input b m n ls over h =
    before_stays input b m n ls over h.no_root (opened_frames m n b.frames ls h.even h.opened) (λ c. settled input (closed b) ls (closed_over b ∙ over) c)

-- a head that is built, by what came before
record WasBuilt (depth at : ℕ) (h : Head) (fault : Option WireError) (b c : Built) : Type 0 where
  no_fault : fault ≡ None
  is : c ≡ effect h b

was_built : (depth at : ℕ) (h : Head) (fault : Option WireError) (b c : Built) → with_head at depth h (progress_of fault b) ≡ Ok c → WasBuilt depth at h fault b c
was_built depth at h (Some e) b c is = cc
was_built depth at h None b c is = by (head_fault depth at h) is
  where
    by : (f : Option WireError) → went f (effect h) (Ok b) ≡ Ok c → WasBuilt depth at h None b c
    by (Some e) i = cc
    by None i = record { no_fault = refl; is = cc }

head_even : (v : Version) (b : List ℕ) (m : Bool) (n : ℕ) (k : List ℕ) → head v b ≡ Some (opens m n, k) → IsEven m n
head_even v b false n k e = tt
head_even v b true n k e = let o = head_sound v b (opens true n) k e in omega (arith, o.parts_are)

follows : (v : Version) (rest : List ℕ) (h : Head) (k : List ℕ) (b : Built) (ls : List Level) → head v rest ≡ Some (h, k) → Waits b ls → CanFollow (effect h b) h ls
follows v rest (leaf t) k b ls e w = come_in b ls t w.no_root w.frames
follows v rest (opens m n) k b ls e w = record { no_root = w.no_root; opened = (refl, refl, w.frames); even = head_even v rest m n k e }

effect_over : (h : Head) (b : Built) → base (effect h b) ≡ base b
effect_over (leaf t) b = added_over b t
effect_over (opens m n) b = refl

followed : (input : List ℕ) (h : Head) (b : Built) (ls : List Level) → base b ≡ (input, 0) → CanFollow b h ls → StaysSo input (follow h (Ok b) ls)
followed input (leaf t) b ls over c = settled input b ls over c
followed input (opens m n) b ls over c = entered input b m n ls over c

module _ {v : Version} {input body : List ℕ} {fault : Option WireError} {b : Built} {ls : List Level} {rest : List ℕ} (r : Reads v input body fault b ls rest) where
  pub inside : length rest ≤ length input
  inside = omega (arith, ap length r.parts_are ∙ length-append r.read rest)

  pub syntax : head v rest ≡ None → judged v (tree_of v body) ≡ Err wire.Syntax
  syntax e = r.here ∙ ap answer (run_none v (length input) (length rest) (record { progress = progress_of fault b; levels = ls }) rest e)

  pub can_build : (h : Head) (k : List ℕ) → head v rest ≡ Some (h, k) → fault ≡ None → CanBuild b (length input - length k) (length ls) h
  can_build h k e n = record {
    no_root = (r.waits n).no_root;
    levels = length-open 1 b.frames ls (r.waits n).frames;
    fits = subst (Fits h (length input - length k)) (sym (ap (λ (x : List ℕ × ℕ). x.0) (r.over n))) (fits_found h input r.read rest k r.parts_are (head_found v rest h k e));
  }

  pub can_follow : (h : Head) (k : List ℕ) (f : Option WireError) (b2 : Built) → head v rest ≡ Some (h, k) → with_head (length input - length rest) (length ls) h (progress_of fault b) ≡ progress_of f b2 → f ≡ None → CanFollow b2 h ls
  can_follow h k f b2 e kept n =
      let w = was_built (length ls) (length input - length rest) h fault b b2 (kept ∙ ap (λ g. progress_of g b2) n) in
      subst (λ c. CanFollow c h ls) (sym w.is) (follows v rest h k b ls e (r.waits w.no_fault))

  stays : (h : Head) (k : List ℕ) (b2 b3 : Built) (ls3 : List Level) → head v rest ≡ Some (h, k) → with_head (length input - length rest) (length ls) h (progress_of fault b) ≡ Ok b2
      → Stands (follow h (Ok b2) ls) None b3 ls3 → Stays input (Ok b3) ls3
  stays h k b2 b3 ls3 e kept stands =
      let w = was_built (length ls) (length input - length rest) h fault b b2 kept in
      subst (StaysSo input) stands
      (followed input h b2 ls (ap base w.is ∙ effect_over h b ∙ r.over w.no_fault) (subst (λ c. CanFollow c h ls) (sym w.is) (follows v rest h k b ls e (r.waits w.no_fault))))

  -- the answer behind a head
  behind : (h : Head) (k : List ℕ) (f : Option WireError) (b2 : Built) (b3 : Built) (ls3 : List Level) → head v rest ≡ Some (h, k) → with_head (length input - length rest) (length ls) h (progress_of fault b) ≡ progress_of f b2
      → Stands (follow h (progress_of f b2) ls) f b3 ls3 → judged v (tree_of v body) ≡ answer (go_on (run (length k) v (length input)) (progress_of f b3) ls3 k)
  behind h k f b2 b3 ls3 e kept stands =
      r.here
      ∙ ap answer (run_head v (length input) (length rest) (record { progress = progress_of fault b; levels = ls }) rest h k e (omega arith))
      ∙ ap (λ p. answer (go_on (run (length k) v (length input)) (follow h p ls).progress (follow h p ls).levels k)) kept
      ∙ ap (λ (s : State). answer (go_on (run (length k) v (length input)) s.progress s.levels k)) stands

  pub turn : (h : Head) (k : List ℕ) (f : Option WireError) (b2 b3 : Built) (l : Level) (more : List Level) → head v rest ≡ Some (h, k) → with_head (length input - length rest) (length ls) h (progress_of fault b) ≡ progress_of f b2
      → Stands (follow h (progress_of f b2) ls) f b3 (l ∷ more) → Reads v input body f b3 (l ∷ more) k
  turn h k f b2 b3 l more e kept stands = record {
    here = behind h k f b2 b3 (l ∷ more) e kept stands;
    waits = λ n. (stays h k b2 b3 (l ∷ more) e (kept ∙ ap (λ g. progress_of g b2) n) (subst (λ g. Stands (follow h (progress_of g b2) ls) g b3 (l ∷ more)) n stands)).1;
    over = λ n. (stays h k b2 b3 (l ∷ more) e (kept ∙ ap (λ g. progress_of g b2) n) (subst (λ g. Stands (follow h (progress_of g b2) ls) g b3 (l ∷ more)) n stands)).0;
    read = r.read ++ (head_apart v rest h k e).0;
    parts_are = r.parts_are ∙ ap (λ z. r.read ++ z) (head_apart v rest h k e).1 ∙ sym (append_assoc r.read (head_apart v rest h k e).0 k);
  }

  pub not_ended : (h : Head) (c : ℕ) (k : List ℕ) (f : Option WireError) (b2 b3 : Built) → head v rest ≡ Some (h, c ∷ k) → with_head (length input - length rest) (length ls) h (progress_of fault b) ≡ progress_of f b2
      → Stands (follow h (progress_of f b2) ls) f b3 [] → judged v (tree_of v body) ≡ Err wire.Syntax
  not_ended h c k f b2 b3 e kept stands = behind h (c ∷ k) f b2 b3 [] e kept stands

  pub faulty : (h : Head) (x : WireError) (b2 b3 : Built) → head v rest ≡ Some (h, []) → with_head (length input - length rest) (length ls) h (progress_of fault b) ≡ progress_of (Some x) b2
      → Stands (follow h (progress_of (Some x) b2) ls) (Some x) b3 [] → judged v (tree_of v body) ≡ Err x
  faulty h x b2 b3 e kept stands = behind h [] (Some x) b2 b3 [] e kept stands

  pub good : (h : Head) (b2 b3 : Built) → head v rest ≡ Some (h, []) → with_head (length input - length rest) (length ls) h (progress_of fault b) ≡ progress_of None b2
      → Stands (follow h (progress_of None b2) ls) None b3 [] → (t : Tree) × (b3.root ≡ Some t) × (judged v (tree_of v body) ≡ Ok t) × (b3.side_len ≡ 0)
  good h b2 b3 e kept stands =
      let s = stays h [] b2 b3 [] e kept stands in
      let g = rooted_by b3 s.1 (behind h [] None b2 b3 [] e kept stands) in
      (g.0, g.1, g.2, ap (λ (x : List ℕ × ℕ). x.1) s.0)
    where
      rooted_by : (c : Built) → is_some c.root ≡ true → judged v (tree_of v body) ≡ answer (Some (Ok c)) → (t : Tree) × (c.root ≡ Some t) × (judged v (tree_of v body) ≡ Ok t)
      rooted_by c some is = by c.root some is
        where
          by : (o : Option Tree) → is_some o ≡ true → judged v (tree_of v body) ≡ rooted o → (t : Tree) × (o ≡ Some t) × (judged v (tree_of v body) ≡ Ok t)
          by None s i = cc
          by (Some t) s i = (t, refl, i)

  -- what the code learns: whether something is open, and whether bytes are left

  module _ (h : Head) (k : List ℕ) (f : Option WireError) (b2 b3 : Built) (ls3 : List Level) (e : head v rest ≡ Some (h, k)) (kept : with_head (length input - length rest) (length ls) h (progress_of fault b) ≡ progress_of f b2)
      (stands : Stands (follow h (progress_of f b2) ls) f b3 ls3) where
    pub still_reads : 0 < length ls3 → Reads v input body f b3 ls3 k
    still_reads some = by ls3 stands some
      where
        by : (ms : List Level) → Stands (follow h (progress_of f b2) ls) f b3 ms → 0 < length ms → Reads v input body f b3 ms k
        by [] s i = absurd (omega (arith, i))
        by (l ∷ more) s i = turn h k f b2 b3 l more e kept s

    closed_stands : length ls3 ≡ 0 → Stands (follow h (progress_of f b2) ls) f b3 []
    closed_stands none = subst (λ ms. Stands (follow h (progress_of f b2) ls) f b3 ms) (nil_from_length ls3 none) stands

    all_read : length k ≡ 0 → head v rest ≡ Some (h, [])
    all_read nothing = subst (λ (z : List ℕ). head v rest ≡ Some (h, z)) (nil_from_length k nothing) e

    pub too_long : length ls3 ≡ 0 → 0 < length k → judged v (tree_of v body) ≡ Err wire.Syntax
    too_long none more = by k e more
      where
        by : (z : List ℕ) → head v rest ≡ Some (h, z) → 0 < length z → judged v (tree_of v body) ≡ Err wire.Syntax
        by [] g i = absurd (omega (arith, i))
        by (c ∷ z) g i = not_ended h c z f b2 b3 g kept (closed_stands none)

    pub at_fault : (x : WireError) → length ls3 ≡ 0 → length k ≡ 0 → f ≡ Some x → judged v (tree_of v body) ≡ Err x
    at_fault x none nothing is =
        faulty h x b2 b3 (all_read nothing) (kept ∙ ap (λ g. progress_of g b2) is) (subst (λ g. Stands (follow h (progress_of g b2) ls) g b3 []) is (closed_stands none))

    pub at_tree : length ls3 ≡ 0 → length k ≡ 0 → f ≡ None → (t : Tree) × (b3.root ≡ Some t) × (judged v (tree_of v body) ≡ Ok t) × (b3.side_len ≡ 0)
    at_tree none nothing is =
        good h b2 b3 (all_read nothing) (kept ∙ ap (λ g. progress_of g b2) is) (subst (λ g. Stands (follow h (progress_of g b2) ls) g b3 []) is (closed_stands none))

pub where_ok : {T E : Type 0} {Q : Type 0} (r : Result T E) → false ≡ is_err r → IfOk r (λ _. Q) → Q
where_ok (Ok x) e q = q
where_ok (Err x) e q = cc

pub is_zero : (n : ℕ) → true ≡ eqb n 0 → n ≡ 0
is_zero n h = grind (arith, nat_tests)

pub is_some_number : (n : ℕ) → false ≡ eqb n 0 → 0 < n
is_some_number n h = grind (arith, nat_tests)

-- the cause of a fault
pub caused : (x : WireError) (r : Result Tree WireError) → r ≡ Err x → IfSome (wire_cause x) (λ c. r ≡ Err c)
caused wire.Syntax r e = e
caused (wire.NotWhole at) r e = e
caused (wire.TooDeep at) r e = e
caused wire.Memory r e = tt
