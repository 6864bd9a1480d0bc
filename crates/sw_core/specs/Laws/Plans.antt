-- The laws of a node that is read by a plan, from what the readers of its children keep.
use Rattle.std.specs.Prelude.{◌≡◌, ◌+◌, List, Result, Ok, Err}
use Rattle.std.proofs.Common.{refl, subst, arith}
use Rattle.sw_tree.specs.Meaning.{Meaning}
use Rattle.sw_tree.specs.Nodes.{kinds, IsNoteIn}
use Rattle.sw_tree.specs.Laws.Nodes.{kinds-size}
use Rattle.sw_tree.specs.Placed.{Note, spot_next}
use Rattle.sw_tree.specs.Proper.{IsNodeTree}
use Rattle.sw_tree.specs.Steps.{bind, Each}
use Rattle.sw_tree.specs.Laws.Steps.{bind_ok}
use Rattle.sw_tree.specs.Tree.{Tree}
use Rattle.sw_tree.specs.declared.mode.Kind.{Kind}
use Rattle.sw_tree.specs.declared.mode.Mode.{Mode}
use Rattle.sw_tree.specs.declared.fail.DeError.{DeError}
use Rattle.sw_tree.specs.declared.fail.DeError.TheVariants as fail
use Rattle.sw_elem.specs.Equations.{LawfulReading}
use Rattle.sw_elem.specs.Statements.{HasSpotKinds, HasNoteKinds}
use Rattle.sw_core.specs.Rows.{row_reads, row_spot, row_skips}
use Rattle.sw_core.specs.Plans.{children, Plans, plan_reads, plan_spot, plan_skips}
use Rattle.sw_core.specs.Laws.Nodes.{children-nodes, below, all_below}
use Rattle.sw_tree.specs.Laws.Nodes.{refusal, IsOwn, IsStable, IsBelow, IsOfKind, below-stable, kind-stable, note-stable}
use Rattle.sw_core.specs.Laws.Rows.{EachAt, Refuses, Notes, AreRead, row-read, row-refused, row-noted}

-- what is made of the children's values refuses the node for itself alone
abbrev pub RefusesItself : {M : Type 0} → Plans M → Type 0
RefusesItself {M} f = (m : Mode) (t : Tree) (vs : List M) (e : DeError) → (f m t).makes vs ≡ Err e → IsOwn t e

module _ (Q : List Kind → Note → Type 0) (s : IsStable Q) {M : Type 0} (f : Plans M) (m : Mode) (t : Tree) where
  ended : (x : Result (List M) DeError) → row_reads (f m t).readers (children t) ≡ x → EachAt (Refuses Q) (f m t).readers (children t) →
      ((vs : List M) (e : DeError) → (f m t).makes vs ≡ Err e → IsOwn t e) →
      (e : DeError) → bind x (f m t).makes ≡ Err e → Q (kinds t) (refusal e (spot_next x (1 + row_spot (f m t).readers (children t)) 0))
  ended (Ok vs) i each own e p = s.root t e (own vs e p)
  ended (Err d) i each own e p =
      let k : d ≡ e = cc in
      below Q s t (refusal e (row_spot (f m t).readers (children t)))
      (row-refused Q s (f m t).readers (children t) each e (subst (λ (z : DeError). row_reads (f m t).readers (children t) ≡ Err z) k i))

  pub plan-refused : EachAt (Refuses Q) (f m t).readers (children t) → ((vs : List M) (e : DeError) → (f m t).makes vs ≡ Err e → IsOwn t e) →
      (e : DeError) → plan_reads f m t ≡ Err e → Q (kinds t) (refusal e (plan_spot f m t))
  plan-refused each own e p = ended (row_reads (f m t).readers (children t)) refl each own e p

  pub plan-noted : EachAt (Notes Q) (f m t).readers (children t) → Each (Q (kinds t)) (plan_skips f m t)
  plan-noted each = all_below Q s t (row_skips (f m t).readers (children t)) (row-noted Q s (f m t).readers (children t) each)

module _ {M : Type 0} (f : Plans M) (own : RefusesItself f) where
  -- what is read is one of those meanings, and a refused node is one of the tree's
  pub plan_lawful : (P : Meaning → Type 0) →
      ((m : Mode) (t : Tree) (vs : List M) (v : Meaning) → Each IsNodeTree (children t) → AreRead (f m t).readers (children t) vs → (f m t).makes vs ≡ Ok v → P v) →
      ((m : Mode) (t : Tree) → EachAt (Refuses IsBelow) (f m t).readers (children t)) → LawfulReading P (plan_reads f) (plan_spot f)
  plan_lawful P meant each = record {
    meanings = λ m t v n p.
        let q = bind_ok (row_reads (f m t).readers (children t)) (f m t).makes v p in
        meant m t q.0 v (children-nodes t n) (row-read (f m t).readers (children t) q.0 q.1) q.2;
    inside = λ m t e p. omega (arith, kinds-size t, plan-refused IsBelow below-stable f m t (each m t) (own m t) e p);
  }

  -- a node that is refused for its kind has that kind
  pub plan_spot_kinds : (m : Mode) → ((t : Tree) → EachAt (Refuses IsOfKind) (f m t).readers (children t)) → HasSpotKinds (plan_reads f) (plan_spot f) m
  plan_spot_kinds m each t k p = plan-refused IsOfKind kind-stable f m t (each t) (own m t) (fail.InvalidType k) p k refl

-- a node that is passed over has the kind that the note says
pub plan_note_kinds : {M : Type 0} (f : Plans M) (m : Mode) → ((t : Tree) → EachAt (Notes IsNoteIn) (f m t).readers (children t)) → HasNoteKinds (plan_skips f) m
plan_note_kinds f m each t = plan-noted IsNoteIn note-stable f m t (each t)
