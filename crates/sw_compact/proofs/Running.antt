-- The reader's machine reads a whole node as the tree that the bytes spell.
use Rattle.std.proofs.Common.{◌≡◌, ◌≤◌, ◌<◌, ◌+◌, ◌-◌, ◌++◌, ℕ, zero, suc, Bool, true, false, List, [], ◌∷◌, length, length-append, refl, ap, sym, ◌∙◌, arith}
use Rattle.std.specs.Prelude.{Option, Some, None, option_map, option_and_then, Ok}
use Rattle.sw_tree.specs.Laws.Options.{some_is}
use Rattle.sw_tree.specs.Tree.{Tree}
use Rattle.sw_tree.specs.Builder.{Built, added}
use Rattle.sw_tree.specs.Faults.{faults, first, judged_by}
use Rattle.sw_tree.specs.declared.fail.WireError.{WireError}
use Rattle.sw_compact.specs.Lengths.{length_bytes}
use Rattle.sw_compact.specs.Spelling.{mark}
use Rattle.sw_compact.specs.Located.{located, width}
use Rattle.sw_compact.specs.Head.{Head, leaf, opens, head, Front}
use Rattle.sw_compact.specs.Decoding.{repeated, built, behind_head, node, all_of, tree_of}
use Rattle.sw_compact.specs.Spelled.{judged}
use Rattle.sw_compact.specs.Inner.Machine.{Progress, State, went, with_close, settle, take, ended, go_on, run, answer, outcome}
use Rattle.sw_compact.specs.declared.level.Level.{Level}
use Rattle.sw_compact.specs.declared.version.Version.{Version}
use Rattle.sw_compact.proofs.Absorbing.{absorb, absorbs, with_open, list_absorbed, map_absorbed, leaf_absorbed}
use Rattle.sw_compact.specs.Laws.Heads.{OpensAt, parts, head_sound}
use Rattle.sw_compact.specs.Laws.Widths.{length-spelling}
use Rattle.sw_compact.specs.Laws.Decoding.{node_sound}
use Rattle.sw_compact.specs.Laws.Grammar.{whole-located}
use Rattle.sw_compact.proofs.Fronts.{head_shorter}

-- ---- what a front answers

module _ {A B : Type 0} where
  -- a value that a further reading gave
  pub record Then (f : A × List ℕ → Front B) (o : Front A) (y : B × List ℕ) : Type 0 where
    pub value : A
    pub behind : List ℕ
    pub found : o ≡ Some (value, behind)
    pub gives : f (value, behind) ≡ Some y

  pub then_some : (f : A × List ℕ → Front B) (o : Front A) (y : B × List ℕ) → option_and_then f o ≡ Some y → Then f o y
  then_some f None y e = cc
  then_some f (Some x) y e = record { value = x.0; behind = x.1; found = refl; gives = e }

module _ {A B : Type 0} (f : A → B) where
  pub record Mapped (o : Option A) (y : B) : Type 0 where
    pub value : A
    pub found : o ≡ Some value
    pub is : f value ≡ y

  pub mapped : (o : Option A) (y : B) → option_map f o ≡ Some y → Mapped o y
  mapped None y e = cc
  mapped (Some x) y e = record { value = x; found = refl; is = some_is e }

  pub unmapped : (o : Option A) → option_map f o ≡ None → o ≡ None
  unmapped None e = refl
  unmapped (Some x) e = cc

-- ---- more steps than there are bytes change nothing

module _ (v : Version) (end : ℕ) where
  abbrev pub goes : State → List ℕ → Option Progress
  goes s k = go_on (run (length k) v end) s.progress s.levels k

  abbrev pub after : State → List ℕ → Head × List ℕ → State
  after s b x = take (end - length b) x.0 s.progress s.levels

  -- both give the same where no more bytes are left than that
  abbrev AreSame : ℕ → ℕ → Type 0
  AreSame n m = (s : State) (b : List ℕ) → length b ≤ n → length b ≤ m → run n v end s b ≡ run m v end s b

  levels_more : (n m : ℕ) → AreSame n m → (p : Progress) (ls : List Level) (k : List ℕ) → length k ≤ n → length k ≤ m → go_on (run n v end) p ls k ≡ go_on (run m v end) p ls k
  levels_more n m same p [] k h i = refl
  levels_more n m same p (l ∷ ls) k h i = same (record { progress = p; levels = l ∷ ls }) k h i

  head_more : (n m : ℕ) → AreSame n m → (s : State) (b : List ℕ) (o : Front Head) → head v b ≡ o → length b ≤ suc n → length b ≤ suc m
      → option_and_then (λ x. let next = after s b x in go_on (run n v end) next.progress next.levels x.1) o
      ≡ option_and_then (λ x. let next = after s b x in go_on (run m v end) next.progress next.levels x.1) o
  head_more n m same s b None e h i = refl
  head_more n m same s b (Some x) e h i =
      let less : length x.1 < length b = head_shorter v b x.0 x.1 e in
      let next = after s b x in
      levels_more n m same next.progress next.levels x.1 (omega (arith, less, h)) (omega (arith, less, i))

  run_nothing : (n : ℕ) (s : State) → run n v end s [] ≡ None
  unfolding head
  run_nothing zero s = refl
  run_nothing (suc n) s = refl

  pub run_more : (n m : ℕ) → AreSame n m
  run_more zero zero s b h i = refl
  run_more zero (suc m) s [] h i = sym (run_nothing (suc m) s)
  run_more zero (suc m) s (x ∷ b) h i = absurd (omega (arith, h))
  run_more (suc n) zero s [] h i = run_nothing (suc n) s
  run_more (suc n) zero s (x ∷ b) h i = absurd (omega (arith, i))
  run_more (suc n) (suc m) s b h i = head_more n m (run_more n m) s b (head v b) refl h i

  -- behind a head that is read
  pub run_head : (n : ℕ) (s : State) (b : List ℕ) (h : Head) (k : List ℕ) → head v b ≡ Some (h, k) → length b ≤ n → run n v end s b ≡ goes (after s b (h, k)) k
  run_head zero s [] h k e few = absurd (omega (arith, head_shorter v [] h k e))
  run_head zero s (x ∷ b) h k e few = absurd (omega (arith, few))
  run_head (suc n) s b h k e few =
      let less : length k < length b = head_shorter v b h k e in
      ap (option_and_then (λ x. let next = after s b x in go_on (run n v end) next.progress next.levels x.1)) e
      ∙ levels_more n (length k) (run_more n (length k)) (after s b (h, k)).progress (after s b (h, k)).levels k (omega (arith, less, few)) (omega arith)

  pub run_none : (n : ℕ) (s : State) (b : List ℕ) → head v b ≡ None → run n v end s b ≡ None
  run_none zero s b e = refl
  run_none (suc n) s b e = ap (option_and_then (λ x. let next = after s b x in go_on (run n v end) next.progress next.levels x.1)) e

  -- ---- a whole node

  abbrev pub state : Progress → List Level → State
  state p ls = record { progress = p; levels = ls }

  width_read : (n : ℕ) (b : List ℕ) (t : Tree) (k : List ℕ) → node n v b ≡ Some (t, k) → length b ≡ width v t + length k
  width_read n b t k e = ap length (node_sound n v b t k e).spelled ∙ length-spelling v t k

  opening_read : (b : List ℕ) (m : Bool) (n : ℕ) (k : List ℕ) (o : OpensAt v b m n k) → length b ≡ suc (length (length_bytes v o.count) + length k)
  opening_read b m n k o = ap length o.spelled ∙ ap suc (length-append (length_bytes v o.count) k)

  length-repeated : (c : ℕ) (one : List ℕ → Front Tree) (b : List ℕ) (ts : List Tree) (k : List ℕ) → repeated c one b ≡ Some (ts, k) → length ts ≡ c
  length-repeated zero one b ts k e = sym (ap length (ap (λ (x : List Tree × List ℕ). x.0) (some_is e)))
  length-repeated (suc c) one b ts k e =
      let x = then_some (λ y. option_map (λ z. (y.0 ∷ z.0, z.1)) (repeated c one y.1)) (one b) (ts, k) e in
      let y = mapped (λ z. (x.value ∷ z.0, z.1)) (repeated c one x.behind) (ts, k) x.gives in
      ap length (ap (λ (z : List Tree × List ℕ). z.0) (sym y.is)) ∙ ap suc (length-repeated c one x.behind y.value.0 y.value.1 y.found)

  -- what the reading gives, the machine comes to
  abbrev Runs : (List ℕ → Front Tree) → Type 0
  Runs one =
      (b : List ℕ) (t : Tree) (k : List ℕ) (p : Progress) (ls : List Level) (f : ℕ) → one b ≡ Some (t, k) → length b ≤ f → length b ≤ end
      → (run f v end (state p ls) b ≡ goes (settle (absorb v (end - length b) (length ls) t p) ls) k) × (length b ≡ width v t + length k)

  parts_run : (one : List ℕ → Front Tree) → Runs one → (c : ℕ) (b : List ℕ) (ts : List Tree) (k : List ℕ) (m : Bool) (p : Progress) (ls : List Level) (f : ℕ) → repeated (suc c) one b ≡ Some (ts, k) → length b ≤ f → length b ≤ end
      → run f v end (state p (record { is_map = m; due = c } ∷ ls)) b ≡ goes (settle (with_close (absorbs v (end - length b) (suc (length ls)) ts p)) ls) k
  parts_run one runs zero b ts k m p ls f e few inside =
      let x = then_some (λ y. option_map (λ z. (y.0 ∷ z.0, z.1)) (repeated zero one y.1)) (one b) (ts, k) e in
      let this = runs b x.value x.behind p (record { is_map = m; due = zero } ∷ ls) f x.found few inside in
      this.0 ∙ ap (λ (z : List Tree × List ℕ). goes (settle (with_close (absorbs v (end - length b) (suc (length ls)) z.0 p)) ls) z.1) (some_is x.gives)
  parts_run one runs (suc c) b ts k m p ls f e few inside =
      let x = then_some (λ y. option_map (λ z. (y.0 ∷ z.0, z.1)) (repeated (suc c) one y.1)) (one b) (ts, k) e in
      let y = mapped (λ (z : List Tree × List ℕ). (x.value ∷ z.0, z.1)) (repeated (suc c) one x.behind) (ts, k) x.gives in
      let this = runs b x.value x.behind p (record { is_map = m; due = suc c } ∷ ls) f x.found few inside in
      let at : end - length x.behind ≡ end - length b + width v x.value = omega (arith, this.1, inside) in
      let within : length x.behind ≤ end = omega (arith, this.1, inside) in
      this.0
      ∙ parts_run one runs c x.behind y.value.0 y.value.1 m (absorb v (end - length b) (suc (length ls)) x.value p) ls (length x.behind) y.found (omega arith) within
      ∙ ap (λ n. goes (settle (with_close (absorbs v n (suc (length ls)) y.value.0 (absorb v (end - length b) (suc (length ls)) x.value p))) ls) y.value.1) at
      ∙ ap (λ (z : List Tree × List ℕ). goes (settle (with_close (absorbs v (end - length b) (suc (length ls)) z.0 p)) ls) z.1) y.is

  -- the parts of an opening, and its closing
  absorbed : (m : Bool) (at d c : ℕ) (ts : List Tree) (p : Progress) → length ts ≡ parts m c
      → with_close (absorbs v (suc at + length (length_bytes v c)) (suc d) ts (with_open d at m p)) ≡ absorb v at d (built m ts) p
  absorbed false at d c ts p e = list_absorbed v at d c ts p e
  absorbed true at d c ts p e = map_absorbed v at d c ts p e

  behind_runs : (one : List ℕ → Front Tree) → Runs one → (b : List ℕ) (h : Head) (k0 : List ℕ) (t : Tree) (k : List ℕ) (p : Progress) (ls : List Level) (f : ℕ) → head v b ≡ Some (h, k0) → behind_head one h k0 ≡ Some (t, k) → length b ≤ f → length b ≤ end
      → run f v end (state p ls) b ≡ goes (settle (absorb v (end - length b) (length ls) t p) ls) k
  behind_runs one runs b (leaf u) k0 t k p ls f e g few inside =
      run_head f (state p ls) b (leaf u) k0 e few
      ∙ ap (λ q. goes (settle q ls) k0) (leaf_absorbed v (end - length b) (length ls) u p (head_sound v b (leaf u) k0 e).leaf)
      ∙ ap (λ (x : Tree × List ℕ). goes (settle (absorb v (end - length b) (length ls) x.0 p) ls) x.1) (some_is g)
  behind_runs one runs b (opens m zero) k0 t k p ls f e g few inside =
      let o = head_sound v b (opens m zero) k0 e in
      run_head f (state p ls) b (opens m zero) k0 e few
      ∙ ap (λ q. goes (settle q ls) k0) (absorbed m (end - length b) (length ls) o.count [] p o.parts_are)
      ∙ ap (λ (x : Tree × List ℕ). goes (settle (absorb v (end - length b) (length ls) x.0 p) ls) x.1) (some_is g)
  behind_runs one runs b (opens m (suc c)) k0 t k p ls f e g few inside =
      let o = head_sound v b (opens m (suc c)) k0 e in
      let long = opening_read b m (suc c) k0 o in
      let y = mapped (λ (z : List Tree × List ℕ). (built m z.0, z.1)) (repeated (suc c) one k0) (t, k) g in
      let q = with_open (length ls) (end - length b) m p in
      let at : end - length k0 ≡ suc (end - length b) + length (length_bytes v o.count) = omega (arith, long, inside) in
      run_head f (state p ls) b (opens m (suc c)) k0 e few
      ∙ parts_run one runs c k0 y.value.0 y.value.1 m q ls (length k0) y.found (omega arith) (omega (arith, long, inside))
      ∙ ap (λ n. goes (settle (with_close (absorbs v n (suc (length ls)) y.value.0 q)) ls) y.value.1) at
      ∙ ap (λ r. goes (settle r ls) y.value.1) (absorbed m (end - length b) (length ls) o.count y.value.0 p (length-repeated (suc c) one k0 y.value.0 y.value.1 y.found ∙ o.parts_are))
      ∙ ap (λ (x : Tree × List ℕ). goes (settle (absorb v (end - length b) (length ls) x.0 p) ls) x.1) y.is

  pub node_runs : (n : ℕ) → Runs (node n v)
  node_runs zero b t k p ls f e few inside = cc
  node_runs (suc n) b t k p ls f e few inside =
      let x = then_some (λ y. behind_head (node n v) y.0 y.1) (head v b) (t, k) e in
      (behind_runs (node n v) (node_runs n) b x.value x.behind t k p ls f x.found x.gives few inside, width_read (suc n) b t k e)

  -- ---- where no node is read

  -- where the reading gives nothing, the machine comes to nothing
  abbrev Fails : (List ℕ → Front Tree) → ℕ → Type 0
  Fails one n = (b : List ℕ) (p : Progress) (ls : List Level) (f : ℕ) → one b ≡ None → length b ≤ n → length b ≤ f → length b ≤ end → run f v end (state p ls) b ≡ None

  parts_fail : (one : List ℕ → Front Tree) (n : ℕ) → Runs one → Fails one n → (c : ℕ) (b : List ℕ) (o : Front Tree) (m : Bool) (p : Progress) (ls : List Level) (f : ℕ)
      → one b ≡ o → option_and_then {U = List Tree × List ℕ} (λ y. option_map (λ (z : List Tree × List ℕ). (y.0 ∷ z.0, z.1)) (repeated c one y.1)) o ≡ None → length b ≤ n → length b ≤ f → length b ≤ end
      → run f v end (state p (record { is_map = m; due = c } ∷ ls)) b ≡ None
  parts_fail one n runs fails c b None m p ls f e g low few inside = fails b p (record { is_map = m; due = c } ∷ ls) f e low few inside
  parts_fail one n runs fails zero b (Some x) m p ls f e g low few inside = cc
  parts_fail one n runs fails (suc c) b (Some x) m p ls f e g low few inside =
      let this = runs b x.0 x.1 p (record { is_map = m; due = suc c } ∷ ls) f e few inside in
      let less : length x.1 ≤ length b = omega (arith, this.1) in
      this.0
      ∙ parts_fail one n runs fails c x.1 (one x.1) m (absorb v (end - length b) (suc (length ls)) x.0 p) ls (length x.1) refl (unmapped (λ (z : List Tree × List ℕ). (x.0 ∷ z.0, z.1)) (repeated (suc c) one x.1) g) (omega (arith, less, low)) (omega arith) (omega (arith, less, inside))

  behind_fails : (one : List ℕ → Front Tree) (n : ℕ) → Runs one → Fails one n → (b : List ℕ) (o : Front Head) (p : Progress) (ls : List Level) (f : ℕ) → head v b ≡ o → option_and_then (λ x. behind_head one x.0 x.1) o ≡ None
      → length b ≤ suc n → length b ≤ f → length b ≤ end → run f v end (state p ls) b ≡ None
  behind_fails one n runs fails b None p ls f e g low few inside = run_none f (state p ls) b e
  behind_fails one n runs fails b (Some (leaf t, k)) p ls f e g low few inside = cc
  behind_fails one n runs fails b (Some (opens m zero, k)) p ls f e g low few inside = cc
  behind_fails one n runs fails b (Some (opens m (suc c), k)) p ls f e g low few inside =
      let less : length k < length b = head_shorter v b (opens m (suc c)) k e in
      run_head f (state p ls) b (opens m (suc c)) k e few
      ∙ parts_fail one n runs fails c k (one k) m (with_open (length ls) (end - length b) m p) ls (length k) refl (unmapped (λ (z : List Tree × List ℕ). (built m z.0, z.1)) (repeated (suc c) one k) g) (omega (arith, less, low)) (omega arith) (omega (arith, less, inside))

  pub node_fails : (n : ℕ) → Fails (node n v) n
  node_fails zero [] p ls f e low few inside = run_nothing f (state p ls)
  node_fails zero (x ∷ b) p ls f e low few inside = absurd (omega (arith, low))
  node_fails (suc n) b p ls f e low few inside = behind_fails (node n v) n (node_runs n) (node_fails n) b (head v b) p ls f refl e low few inside

-- ---- all the bytes

abbrev pub begun : Built → State
begun b = record { progress = Ok b; levels = [] }

-- nothing built, over these bytes
abbrev pub fresh : List ℕ → Built
fresh input = record { input = input; side_len = 0; frames = []; root = None }

first_judged : (fs : List WireError) (input : List ℕ) (t : Tree) → judged_by fs t ≡ outcome (went (first fs) (λ c. added c t) (Ok (fresh input)))
first_judged [] input t = refl
first_judged (x ∷ fs) input t = refl

module _ (v : Version) (input body : List ℕ) (e : input ≡ mark v ++ body) where
  abbrev start : Option Progress
  start = run (length body) v (length input) (begun (fresh input)) body

  long : length input ≡ length (mark v) + length body
  long = ap length e ∙ length-append (mark v) body

  tree_judged : (t : Tree) → judged v (Some t) ≡ outcome (absorb v (length input - length body) 0 t (Ok (fresh input)))
  tree_judged t =
      let at : length (mark v) ≡ length input - length body = omega (arith, long) in
      ap (judged_by (faults 0 (located v (length (mark v)) t) [])) (whole-located v (length (mark v)) t)
      ∙ first_judged (faults 0 (located v (length (mark v)) t) []) input t
      ∙ ap (λ n. outcome (absorb v n 0 t (Ok (fresh input)))) at

  ended_judged : (t : Tree) (k : List ℕ) → judged v (all_of (Some (t, k))) ≡ answer (ended (absorb v (length input - length body) 0 t (Ok (fresh input))) k)
  ended_judged t [] = tree_judged t
  ended_judged t (c ∷ k) = refl

  judged_run : (o : Front Tree) → node (length body) v body ≡ o → judged v (all_of o) ≡ answer start
  judged_run None h = sym (ap answer (node_fails v (length input) (length body) body (Ok (fresh input)) [] (length body) h (omega arith) (omega arith) (omega (arith, long))))
  judged_run (Some x) h =
      ended_judged x.0 x.1 ∙ sym (ap answer (node_runs v (length input) (length body) body x.0 x.1 (Ok (fresh input)) [] (length body) h (omega arith) (omega (arith, long))).0)

  -- the bytes are read as what the machine comes to
  pub read_runs : judged v (tree_of v body) ≡ answer start
  read_runs = judged_run (node (length body) v body) refl
