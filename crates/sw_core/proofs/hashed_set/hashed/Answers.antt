use Rattle.std.proofs.Common.{rules}
use Rattle.sw_core.proofs.Hashing.{keys_next}
use Rattle.sw_core.proofs.hashed_set.hashed.Goals as goal

pub loop-value-preserved : goal.loop-value-preserved
loop-value-preserved g c =
    keys_next g.T.Ord.cmp g.T.PartialEq.eq g.met.T.Ord.total g.met.T.Ord.matches_eq c.args.values.items c.loop-value.set.keys c.insert.new.self.keys c.loop-value.value-iterator.rest.items c.next.new.self.rest.items
    c.in-Some.value c.in_ok-insert.field-0 c.loop-value.invariant (search rules) c.in_ok-insert.ensures.added c.in_ok-insert.ensures.keys c.in_ok-insert.ensures.unique
