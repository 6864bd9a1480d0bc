-- An order from the other end is an order of the same meanings, and tells the same ones apart.
use Rattle.std.specs.Prelude.{◌≡◌}
use Rattle.std.proofs.Common.{sym}
use Rattle.sw_tree.specs.Meaning.{Meaning}
use Rattle.sw_tree.specs.Ranks.{Order, Ranks, TellsApart}
use Rattle.sw_examples.specs.Priority.{backwards}

pub backwards_ranks : {P : Meaning → Type 0} {R : Order} → Ranks P R → Ranks P (backwards R)
backwards_ranks ranks = record {
  itself = ranks.itself;
  turned = λ x y h k. ranks.turned y x k h;
  chains = λ x y z h k l a b. ranks.chains z y x l k h b a;
}

pub backwards_apart : {P : Meaning → Type 0} {R : Order} → TellsApart P R → TellsApart P (backwards R)
backwards_apart apart x y h k e = sym (apart y x k h e)
