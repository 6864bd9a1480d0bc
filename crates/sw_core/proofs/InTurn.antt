-- A tuple that is read part by part, each at its place, and written part by part.
use Rattle.std.proofs.Common.{◌≡◌, ℕ, suc, Bool, true, false, cond, List, [], ◌∷◌, length, ◌==◌, Option, Some, None, option_map, Result, Ok, Err, refl, ap, sym, ◌∙◌, subst}
use Rattle.std.proofs.Math.Dec.{eqb-suc-suc, eqb-suc-zero, eqb-zero-suc}
use Rattle.std.specs.Result.{IsErrAnd}
use Rattle.sw_tree.specs.Building.{puts, with_put, IsBuilt, IsPut, BuildsLists}
use Rattle.sw_tree.specs.Laws.Meaning.{parts-meanings}
use Rattle.sw_tree.specs.Meaning.{Meaning}
use Rattle.sw_tree.specs.Meant.{row}
use Rattle.sw_tree.specs.Mode.{at_value}
use Rattle.sw_tree.specs.Placed.{placed, placed_at, placed_notes}
use Rattle.sw_tree.specs.Seen.{Seen, place_at, behind, items_seen}
use Rattle.sw_tree.specs.Seen as seen
use Rattle.sw_tree.specs.Steps.{bind}
use Rattle.sw_tree.specs.Tree.{Tree, trees, list, items, len_of}
use Rattle.sw_tree.specs.Tree as node
use Rattle.sw_tree.specs.declared.mode.Mode.{Mode}
use Rattle.sw_tree.specs.declared.fail.DeError.TheVariants as fail
use Rattle.sw_tree.specs.declared.fail.Refusal.{Refusal}
use Rattle.sw_tree.specs.declared.fail.SerError.{SerError}
use Rattle.sw_tree.specs.declared.fail.SerFail.{SerFail}
use Rattle.sw_tree.specs.declared.fail.SerFail.TheVariants as ser
use Rattle.sw_elem.specs.Equations.{Writes}
use Rattle.sw_core.specs.Inner.Parts.{row_put, row_seen}
use Rattle.sw_core.specs.Inner.Rows.{seen_reads, seen_logs}
use Rattle.sw_core.specs.Parts.{Reading, all_in, row_writes}
use Rattle.sw_core.specs.Rows.{Reader}
use Rattle.sw_core.specs.Tuple.{tuple_writes, tuple_plan, tuple_reads, tuple_spot, tuple_skips}
use Rattle.sw_core.proofs.Places.{plan-placed, plan-logged}
use Rattle.sw_core.specs.Laws.Putting.{not_put, closed_on}

-- ---- reading

-- the values, where there are as many items as readers
abbrev whole : Bool → List Meaning → Option (List Meaning)
whole b vs = cond b (Some vs) None

next_seen : (x : Result Meaning Refusal) (y : Result (List Meaning) Refusal) (b : Bool) (z : Result (Option (List Meaning)) Refusal) → z ≡ bind y (λ vs. Ok (whole b vs)) →
    bind x (λ v. bind z (λ o. Ok (option_map (λ vs. v ∷ vs) o))) ≡ bind (bind x (λ v. bind y (λ vs. Ok (v ∷ vs)))) (λ vs. Ok (whole b vs))
next_seen (Err e) y b z i = refl
next_seen (Ok v) (Err e) b z i = rw i refl
next_seen (Ok v) (Ok vs) true z i = rw i refl
next_seen (Ok v) (Ok vs) false z i = rw i refl

row_seen-is : (rs : List (Reader Meaning)) (ss : List Seen) → row_seen rs ss ≡ bind (seen_reads rs ss) (λ vs. Ok (whole (length ss == length rs) vs))
row_seen-is [] [] = refl
row_seen-is [] (s ∷ ss) = rw (eqb-suc-zero (length ss)) refl
row_seen-is (r ∷ rs) [] = rw (eqb-zero-suc (length rs)) refl
row_seen-is (r ∷ rs) (s ∷ ss) =
    rw (eqb-suc-suc (length ss) (length rs)) (next_seen (placed r.reads r.spot s) (seen_reads rs ss) (length ss == length rs) (row_seen rs ss) (row_seen-is rs ss))

-- what is made of the values at the list: the tuple, or a refusal of its length
abbrev pub ended : Seen → ℕ → Option (List Meaning) → Result Meaning Refusal
ended s found (Some vs) = Ok (row vs)
ended s found None = placed_at s 0 (Err (fail.InvalidLength found))

made_whole : (s : Seen) (found : ℕ) (b c : Bool) (y : Result (List Meaning) Refusal) → b ≡ c →
    bind (bind y (λ vs. Ok (whole b vs))) (λ o. ended s found o) ≡ bind y (λ vs. placed_at s 0 (cond c (Ok (row vs)) (Err (fail.InvalidLength found))))
made_whole s found b true (Ok vs) i = rw i refl
made_whole s found b false (Ok vs) i = rw i refl
made_whole s found b c (Err e) i = refl

length-row : (c : Bool) (p : ℕ) (ts : List Tree) → length (seen.row c p ts) ≡ length ts
length-row c p [] = refl
length-row c p (t ∷ ts) = ap (λ (n : ℕ). suc n) (length-row c (behind c p t) ts)

length-all_in : (m : Mode) (xs : List Reading) → length (all_in m xs) ≡ length xs
length-all_in m [] = refl
length-all_in m (x ∷ xs) = ap (λ (n : ℕ). suc n) (length-all_in m xs)

abbrev view_of : Bool → ℕ → Tree → Seen
view_of c p t = record { tree = t; place = p; counts = c }

module _ (xs : List Reading) (m : Mode) where
  -- what reading the items in turn answers and logs is what the list does
  abbrev IsTuple : List Seen → Seen → Type 0
  IsTuple ss s =
      (bind (row_seen (all_in (at_value m) xs) ss) (λ o. ended s (len_of s.tree) o) ≡ placed (tuple_reads xs m) (tuple_spot xs m) s) × (seen_logs (all_in (at_value m) xs) ss ≡ placed_notes s (tuple_skips xs m s.tree))

  tuple_is : (t : Tree) (p : ℕ) (c : Bool) (ss : List Seen) → Some ss ≡ items_seen (view_of c p t) → IsTuple ss (view_of c p t)
  tuple_is (node.list ts) p c ss e =
      let s = view_of c p (node.list ts) in
      let rs = all_in (at_value m) xs in
      let is : ss ≡ seen.row c (place_at s 1) (items ts) = cc in
      let same : (length ss == length rs) ≡ (length (items ts) == length xs) = rw (is, length-row c (place_at s 1) (items ts), length-all_in (at_value m) xs) refl in
      (rw (row_seen-is rs ss) (made_whole s (length (items ts)) (length ss == length rs) (length (items ts) == length xs) (seen_reads rs ss) same ∙ rw is (plan-placed (tuple_plan xs) m s)), rw is (plan-logged (tuple_plan xs) m s))
  tuple_is node.null p c ss e = absurd (cc)
  tuple_is (node.truth b) p c ss e = absurd (cc)
  tuple_is (node.int n) p c ss e = absurd (cc)
  tuple_is (node.text b) p c ss e = absurd (cc)
  tuple_is (node.bytes b) p c ss e = absurd (cc)
  tuple_is (node.map es) p c ss e = absurd (cc)

  module _ (s : Seen) (ss : List Seen) (e : Some ss ≡ items_seen s) where
    pub tuple_ended : (x : Result (Option (List Meaning)) Refusal) → row_seen (all_in (at_value m) xs) ss ≡ x → placed (tuple_reads xs m) (tuple_spot xs m) s ≡ bind x (λ o. ended s (len_of s.tree) o)
    tuple_ended x i = sym ((tuple_is s.tree s.place s.counts ss e).0) ∙ ap (λ y. bind y (λ o. ended s (len_of s.tree) o)) i

    pub tuple_logged : seen_logs (all_in (at_value m) xs) ss ≡ placed_notes s (tuple_skips xs m s.tree)
    tuple_logged = (tuple_is s.tree s.place s.counts ss e).1

-- ---- writing

module _ {S : Type 0} (put : Tree → S → S) where
  next_put : (x : Result Tree SerError) (y : Result (List Tree) SerError) (k : S → Result S SerError) → ((z : S) → k z ≡ bind y (λ ts. Ok (puts put ts z))) → (s : S) →
      bind (with_put put x s) k ≡ bind (bind x (λ t. bind y (λ ts. Ok (t ∷ ts)))) (λ ts. Ok (puts put ts s))
  next_put (Ok t) (Ok ts) k e s = e (put t s)
  next_put (Ok t) (Err d) k e s = e (put t s)
  next_put (Err d) y k e s = refl

  row_put-is : (ws : List Writes) (m : Mode) (vs : List Meaning) (s : S) → row_put put ws m vs s ≡ bind (row_writes ws m vs) (λ ts. Ok (puts put ts s))
  row_put-is [] m vs s = refl
  row_put-is (w ∷ ws) m [] s = refl
  row_put-is (w ∷ ws) m (v ∷ vs) s = next_put (w m v) (row_writes ws m vs) (row_put put ws m vs) (row_put-is ws m vs) s

  module _ (ws : List Writes) (m : Mode) (vs : List Meaning) where
    refused_on : (s old new : S) (e : SerFail) → IsBuilt (Err e) (row_put put ws (at_value m) vs s) new → IsPut put (Err e) (tuple_writes ws m (row vs)) old new
    refused_on s old new (ser.Unwritable e) h = rw (parts-meanings vs) (not_put put s old (row_writes ws (at_value m) vs) e (sym (row_put-is ws (at_value m) vs s) ∙ h))
    refused_on s old new ser.Memory h = tt

    -- why parts aren't put in is why the tuple isn't
    pub tuple_refused : (s old new : S) (x : Result (Unit {0}) SerFail) (e : SerFail) → IsErrAnd x (λ d. d ≡ e) → IsBuilt (Err e) (row_put put ws (at_value m) vs s) new → IsPut put x (tuple_writes ws m (row vs)) old new
    tuple_refused s old new (Ok u) e k h = absurd k
    tuple_refused s old new (Err d) e k h = refused_on s old new d (subst (λ (z : SerFail). IsBuilt (Err z) (row_put put ws (at_value m) vs s) new) (sym k) h)

    -- what is opened, filled and closed is put in whole
    pub tuple_closed : (opened : Bool → S → S) (closed : S → Result S SerError) → BuildsLists put opened closed → (old s now new : S) (x : Result (Unit {0}) SerFail) →
        ◌≡◌ {A = Result S SerError} (Ok (opened false old)) (Ok s) → row_put put ws (at_value m) vs s ≡ Ok now → IsBuilt x (closed now) new → IsPut put x (tuple_writes ws m (row vs)) old new
    tuple_closed opened closed lists old s now new x i h k =
        let same : opened false old ≡ s = cc in
        let filled : bind (row_writes ws (at_value m) vs) (λ ts. Ok (puts put ts (opened false old))) ≡ Ok now = sym (row_put-is ws (at_value m) vs (opened false old)) ∙ rw same h in
        subst (λ r. IsBuilt x r new) (rw (parts-meanings vs) (closed_on put closed (opened false old) old now (row_writes ws (at_value m) vs) (lists old) filled)) k
