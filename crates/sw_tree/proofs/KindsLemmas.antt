-- What it says of two sets of kinds that one is within the other.
use Rattle.std.proofs.Common.{◌≡◌, Bool, true, false, refl}
use Rattle.std.specs.Prelude.{◌&&◌}
use Rattle.std.proofs.lemmas.Bool.{and_parts}
use Rattle.sw_tree.specs.Kinds.{has}
use Rattle.sw_tree.specs.KindsWithin.{implied, within}
use Rattle.sw_tree.specs.declared.mode.Kind.{Kind}
use Rattle.sw_tree.specs.declared.mode.Kind.TheVariants as kind
use Rattle.sw_tree.specs.declared.kinds.Kinds.{Kinds}

abbrev Follows : Bool → Bool → Type 0
Follows x y = x ≡ true → y ≡ true

follows : (x y : Bool) → implied x y ≡ true → Follows x y
follows true y e f = e
follows false y e f = absurd (cc)

-- one of two tests failed
data Fails (p q : Bool) : Type 0 where
  first : p ≡ false → Fails p q
  second : q ≡ false → Fails p q

fails : (p q : Bool) → p && q ≡ false → Fails p q
fails true q h = second h
fails false q h = first refl

lacks : (x y : Bool) → implied x y ≡ false → (x ≡ true) × (y ≡ false)
lacks true y e = (refl, e)
lacks false y e = absurd (cc)

module _ (a b : Kinds) where
  pub within-has : within a b ≡ true → (k : Kind) → has a k ≡ true → has b k ≡ true
  within-has h k =
      let m = and_parts _ _ h in
      let l = and_parts _ _ m.0 in
      let y = and_parts _ _ l.0 in
      let s = and_parts _ _ y.0 in
      let i = and_parts _ _ s.0 in
      let t = and_parts _ _ i.0 in
      by k (follows _ _ t.0) (follows _ _ t.1) (follows _ _ i.1) (follows _ _ s.1) (follows _ _ y.1) (follows _ _ l.1) (follows _ _ m.1)
    where
      by : (k : Kind) → Follows a.null b.null → Follows a.truth b.truth → Follows a.int b.int → Follows a.text b.text → Follows a.bytes b.bytes → Follows a.list b.list → Follows a.map b.map →
          has a k ≡ true → has b k ≡ true
      by kind.Null n t i s y l m = n
      by kind.Bool n t i s y l m = t
      by kind.Int n t i s y l m = i
      by kind.Text n t i s y l m = s
      by kind.Bytes n t i s y l m = y
      by kind.List n t i s y l m = l
      by kind.Map n t i s y l m = m

  abbrev Lacking : Type 0
  Lacking = (k : Kind) × (has a k ≡ true) × (has b k ≡ false)

  at : (k : Kind) → (has a k ≡ true) × (has b k ≡ false) → Lacking
  at k h = (k, h.0, h.1)

  null_lacks : implied a.null b.null ≡ false → Lacking
  null_lacks h = at kind.Null (lacks _ _ h)

  truth_lacks : (implied a.null b.null && implied a.truth b.truth) ≡ false → Lacking
  truth_lacks h = elim (fails _ _ h) [ first e ↦ null_lacks e | second e ↦ at kind.Bool (lacks _ _ e) ]

  int_lacks : (implied a.null b.null && implied a.truth b.truth && implied a.int b.int) ≡ false → Lacking
  int_lacks h = elim (fails _ _ h) [ first e ↦ truth_lacks e | second e ↦ at kind.Int (lacks _ _ e) ]

  text_lacks : (implied a.null b.null && implied a.truth b.truth && implied a.int b.int && implied a.text b.text) ≡ false → Lacking
  text_lacks h = elim (fails _ _ h) [ first e ↦ int_lacks e | second e ↦ at kind.Text (lacks _ _ e) ]

  bytes_lacks : (implied a.null b.null && implied a.truth b.truth && implied a.int b.int && implied a.text b.text && implied a.bytes b.bytes) ≡ false → Lacking
  bytes_lacks h = elim (fails _ _ h) [ first e ↦ text_lacks e | second e ↦ at kind.Bytes (lacks _ _ e) ]

  list_lacks : (implied a.null b.null && implied a.truth b.truth && implied a.int b.int && implied a.text b.text && implied a.bytes b.bytes && implied a.list b.list) ≡ false → Lacking
  list_lacks h = elim (fails _ _ h) [ first e ↦ bytes_lacks e | second e ↦ at kind.List (lacks _ _ e) ]

  pub within-lacks : within a b ≡ false → Lacking
  within-lacks h = elim (fails _ _ h) [ first e ↦ list_lacks e | second e ↦ at kind.Map (lacks _ _ e) ]

pub ruleset kinds = (within-has, within-lacks)
