use Rattle.std.proofs.Common.{sym, ◌∙◌}
use Rattle.sw_tree.specs.Inner.View.{seen}
use Rattle.sw_core.proofs.Tagging.{is_first, is_second}
use Rattle.sw_core.proofs.tagged.entry_tag.Goals as goal

pub returns-in-First : goal.returns-in-First
returns-in-First g c s e = is_first g.N.Tags.names s (seen c.args.key) (seen c.args.value) c.in-Some.name.now e c.in-Some.ensures (sym c.variant.ensures ∙ c.in-First.is)

pub returns-in-Second : goal.returns-in-Second
returns-in-Second g c s e = is_second g.N.Tags.names s (seen c.args.key) (seen c.args.value) c.in-Some.name.now e c.in-Some.ensures (sym c.variant.ensures ∙ c.in-Second.is)
