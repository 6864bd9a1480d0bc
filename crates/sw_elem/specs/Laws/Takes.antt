-- What is taken, and the kind of what isn't.
use Rattle.std.specs.Prelude.{◌≡◌, Result, Err, Option, Some, None, Ok}
use Rattle.std.specs.Option.{ok_or}
use Rattle.sw_tree.specs.Meaning.{Meaning}
use Rattle.sw_tree.specs.Steps.{bind}
use Rattle.sw_tree.specs.Tree.{Tree, kind_of}
use Rattle.sw_tree.specs.declared.mode.Mode.{Mode}
use Rattle.sw_tree.specs.declared.mode.Kind.{Kind}
use Rattle.sw_tree.specs.declared.fail.DeError.{DeError}
use Rattle.sw_tree.specs.declared.fail.DeError.TheVariants as fail
use Rattle.sw_tree.specs.Laws.Nodes.{own_kind}
use Rattle.sw_tree.specs.Laws.Steps.{bind_ok}
use Rattle.sw_elem.specs.Equations.{own_spot}
use Rattle.sw_elem.specs.Statements.{HasSpotKinds}
use Rattle.sw_elem.specs.Takes.{takes}

-- what was taken isn't refused for its kind
abbrev pub NeverKind : {A : Type 0} → (A → Result Meaning DeError) → Type 0
NeverKind g = (x : _) (k : Kind) → g x ≡ Err (fail.InvalidType k) → ⊥

some_taken : {A : Type 0} (o : Option A) (e : DeError) (x : A) → ok_or o e ≡ Ok x → o ≡ Some x
some_taken (Some y) e x p = cc
some_taken None e x p = absurd (cc)

not_taken : {A : Type 0} (g : A → Result Meaning DeError) → NeverKind g → (o : Option A) (j k : Kind) → bind (ok_or o (fail.InvalidType j)) g ≡ Err (fail.InvalidType k) → j ≡ k
not_taken g never (Some x) j k p = absurd (never x k p)
not_taken g never None j k p = cc

module _ {A : Type 0} (at : Tree → Option A) (g : A → Result Meaning DeError) where
  -- what is read was taken
  pub read_taken : (t : Tree) (v : Meaning) → bind (takes at t) g ≡ Ok v → (x : A) × (at t ≡ Some x) × (g x ≡ Ok v)
  read_taken t v p = let q = bind_ok (takes at t) g v p in (q.0, some_taken (at t) (fail.InvalidType (kind_of t)) q.0 q.1, q.2)

  -- so it has the kind of what is taken
  pub read_kind : (k : Kind) → ((t : Tree) (x : A) → at t ≡ Some x → kind_of t ≡ k) → (t : Tree) (v : Meaning) → bind (takes at t) g ≡ Ok v → kind_of t ≡ k
  read_kind k is t v p = let q = read_taken t v p in is t q.0 q.1

-- a node that is refused for its kind has that kind
pub takes_spots : {A : Type 0} (at : Mode → Tree → Option A) (g : A → Result Meaning DeError) → NeverKind g → (m : Mode) → HasSpotKinds (λ n t. bind (takes (at n) t) g) own_spot m
takes_spots at g never m t k p = own_kind t k (not_taken g never (at m t) (kind_of t) k p)
