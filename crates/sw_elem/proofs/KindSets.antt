use Rattle.std.proofs.Common.{◌≡◌, ◌||◌, ◌∙◌, refl, Bool, true, false}
use Rattle.sw_tree.specs.Kinds.{has, is_kind}
use Rattle.sw_tree.specs.declared.kinds.Kinds.{Kinds}
use Rattle.sw_tree.specs.declared.mode.Kind.{Kind}
use Rattle.sw_tree.specs.declared.mode.Kind.TheVariants as kind
use Rattle.sw_elem.specs.Facts.{only, with_kind}

pub only_from : (s : Kinds) (k : Kind) → ((j : Kind) → has s j ≡ is_kind k j) → s ≡ only k
only_from s k h = λ i. record {
  null = h kind.Null i;
  truth = h kind.Bool i;
  int = h kind.Int i;
  text = h kind.Text i;
  bytes = h kind.Bytes i;
  list = h kind.List i;
  map = h kind.Map i;
}

turned : (a b : Bool) → (a || b) ≡ (b || a)
turned true true = refl
turned true false = refl
turned false true = refl
turned false false = refl

pub with_from : (s r : Kinds) (k : Kind) → ((j : Kind) → has r j ≡ (has s j || is_kind k j)) → r ≡ with_kind s k
with_from s r k h = λ i. record {
  null = (h kind.Null ∙ turned s.null (is_kind k kind.Null)) i;
  truth = (h kind.Bool ∙ turned s.truth (is_kind k kind.Bool)) i;
  int = (h kind.Int ∙ turned s.int (is_kind k kind.Int)) i;
  text = (h kind.Text ∙ turned s.text (is_kind k kind.Text)) i;
  bytes = (h kind.Bytes ∙ turned s.bytes (is_kind k kind.Bytes)) i;
  list = (h kind.List ∙ turned s.list (is_kind k kind.List)) i;
  map = (h kind.Map ∙ turned s.map (is_kind k kind.Map)) i;
}
