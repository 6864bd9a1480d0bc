-- How the logic stores a truth value and a set of kinds.
use Rattle.std.specs.Prelude.{Bool, true, false, zero, suc, ◌≡◌}
use base.Stored.{Gv, gnil, gnum, gcons}
use Rattle.std.proofs.Common.{refl}
use Rattle.sw_tree.specs.declared.kinds.Kinds.{Kinds}

abbrev pub first : Gv → Gv
first gnil = gnil
first (gnum n) = gnil
first (gcons a b) = a

abbrev pub rest : Gv → Gv
rest gnil = gnil
rest (gnum n) = gnil
rest (gcons a b) = b

abbrev pub truth_code : Bool → Gv
truth_code true = gnum 1
truth_code false = gnum 0

abbrev pub truth_at : Gv → Bool
truth_at gnil = false
truth_at (gnum zero) = false
truth_at (gnum (suc n)) = true
truth_at (gcons a b) = false

pub truth_back : (b : Bool) → truth_at (truth_code b) ≡ b
truth_back true = refl
truth_back false = refl

abbrev pub kinds_code : Kinds → Gv
kinds_code s = gcons (truth_code s.null) (gcons (truth_code s.truth) (gcons (truth_code s.int) (gcons (truth_code s.text) (gcons (truth_code s.bytes) (gcons (truth_code s.list) (truth_code s.map))))))

abbrev pub kinds_at : Gv → Kinds
kinds_at g = record {
  null = truth_at (first g);
  truth = truth_at (first (rest g));
  int = truth_at (first (rest (rest g)));
  text = truth_at (first (rest (rest (rest g))));
  bytes = truth_at (first (rest (rest (rest (rest g)))));
  list = truth_at (first (rest (rest (rest (rest (rest g))))));
  map = truth_at (rest (rest (rest (rest (rest (rest g))))));
}

pub kinds_back : (s : Kinds) → kinds_at (kinds_code s) ≡ s
kinds_back s = λ i. record {
  null = truth_back s.null i;
  truth = truth_back s.truth i;
  int = truth_back s.int i;
  text = truth_back s.text i;
  bytes = truth_back s.bytes i;
  list = truth_back s.list i;
  map = truth_back s.map i;
}
