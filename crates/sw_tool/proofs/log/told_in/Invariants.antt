use Rattle.std.proofs.Common.{length, take, string_bytes}
use Rattle.sw_tree.specs.Inner.View.{seen}
use Rattle.sw_tool.specs.Log.{heading}
use Rattle.sw_tool.specs.Path.{IsPathIn}
use Rattle.sw_tool.specs.Inner.Log.{IsTold}
use Rattle.sw_tool.proofs.log.told_in.Given as goal

abbrev pub invariant-loop-refusal : goal.invariant-loop-refusal
invariant-loop-refusal l = IsTold (IsPathIn (seen l.view)) (heading (length l.log)) (take l.refusal-index l.log) (string_bytes l.text)
