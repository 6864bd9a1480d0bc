use Rattle.std.proofs.Common.{◌≡◌, ◌++◌, take, drop}
use Rattle.sw_json.specs.Bytes.{front, behind}
use Rattle.sw_json.specs.Inner.Class.{test_of}
use Rattle.sw_json.proofs.class.split_class.Given as goal

abbrev pub invariant-loop-i : goal.invariant-loop-i
invariant-loop-i l = record {
  front : take l.i l.bytes ++ front (test_of l.class) (drop l.i l.bytes) ≡ front (test_of l.class) l.bytes;
  behind : behind (test_of l.class) (drop l.i l.bytes) ≡ behind (test_of l.class) l.bytes;
}
