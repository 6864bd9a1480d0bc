use Rattle.std.proofs.Common.{rules, sym, ◌∙◌}
use Rattle.std.proofs.lemmas.List.{nil_from_length}
use Rattle.sw_core.specs.Laws.Iterated.{pushed, all_pushed}
use Rattle.sw_core.proofs.linked.linked.Goals as goal

pub loop-value-preserved : goal.loop-value-preserved
loop-value-preserved g c =
    pushed c.loop-value.list c.push_back.new.self c.args.values.items c.loop-value.value-iterator.rest.items c.next.new.self.rest.items c.in-Some.value c.loop-value.invariant (search rules) c.in_ok-push_back.ensures.items

pub returns : goal.returns
returns g c =
    let rest = c.loop-value.value-iterator.rest in
    all_pushed c.loop-value.list c.args.values.items rest.items c.loop-value.invariant (nil_from_length rest.items (sym rest.ok.0 ∙ c.in-None.ensures.steps.0))
