use Rattle.sw_json.specs.Inner.Plain.{ArePlain}
use Rattle.sw_json.proofs.plain.are_few_plain.Given as goal

abbrev pub invariant-loop-byte : goal.invariant-loop-byte
invariant-loop-byte l = ArePlain l.bytes 0 l.byte-index
