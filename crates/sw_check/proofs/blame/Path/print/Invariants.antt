use Rattle.std.proofs.Common.{◌≡◌, ◌++◌, drop}
use Rattle.std.specs.Prelude.{map, string_bytes}
use Rattle.sw_tree.specs.PathText.{steps_text}
use Rattle.sw_tree.specs.declared.path.Step.TheVariants.{Item}
use Rattle.sw_check.specs.PathText.{path_text}
use Rattle.sw_check.proofs.blame.Path.print.Given as goal

abbrev pub invariant-loop-step : goal.invariant-loop-step
invariant-loop-step l = path_text l.self ≡ string_bytes l.text ++ steps_text (map Item (drop l.step-index l.self))
