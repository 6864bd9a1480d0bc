use Rattle.std.specs.Prelude.{false}
use Rattle.std.proofs.Common.{subst}
use Rattle.sw_tree.specs.Mode.{plain}
use Rattle.sw_check.specs.Blame.{IsSound}
use Rattle.sw_schemas.proofs.laws.keeps_schema.Goals as goal

pub returns : goal.returns
returns g c json assumed t i written imaged =
    g.met.A.SchemaAdapter.fits.fits assumed false (subst (λ w. IsSound g.A.Adapter.expr (plain w)) json c.args.token.now.sound) (g.T.Named.meaning c.args.value.now) t i c.in_hand.ensures written imaged
