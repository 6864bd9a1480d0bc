use Rattle.sw_tree.specs.Inner.View.{seen}
use Rattle.sw_core.proofs.Tagging.{only_one}
use Rattle.sw_core.proofs.tagged.tag_of.Goals as goal

pub returns-in-Some-next : goal.returns-in-Some-next
returns-in-Some-next g c =
    c.entry_tag.ensures (seen c.args.view)
    (only_one (seen c.args.view) c.len-count.result c.in-Some-entries.entries c.next.new.self (seen c.in-Some-next.key, seen c.in-Some-next.value) c.in-Some-entries.ensures c.in-Some-next.ensures.steps c.len-count.ensures.entries
    c.if-count-ne1.false)
