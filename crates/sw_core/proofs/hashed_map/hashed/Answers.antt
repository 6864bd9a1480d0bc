use Rattle.std.proofs.Common.{rules}
use Rattle.sw_core.proofs.Hashing.{hashes_next}
use Rattle.sw_core.proofs.hashed_map.hashed.Goals as goal

pub loop-key-preserved : goal.loop-key-preserved
loop-key-preserved g c =
    hashes_next g.K.Ord.cmp g.K.PartialEq.eq g.met.K.Ord.total g.met.K.Ord.matches_eq c.args.pairs.items c.loop-key.map.entries c.insert.new.self.entries c.loop-key.key-iterator.rest.items c.next.new.self.rest.items
    c.in-Some.key c.in-Some.value c.in_ok-insert.field-0 c.loop-key.invariant (search rules) c.in_ok-insert.ensures.old c.in_ok-insert.ensures.entries c.in_ok-insert.ensures.unique

pub loop-key-preserved-in_ok-insert : goal.loop-key-preserved-in_ok-insert
loop-key-preserved-in_ok-insert g c =
    hashes_next g.K.Ord.cmp g.K.PartialEq.eq g.met.K.Ord.total g.met.K.Ord.matches_eq c.args.pairs.items c.loop-key.map.entries c.insert.new.self.entries c.loop-key.key-iterator.rest.items c.next.new.self.rest.items
    c.in-Some.key c.in-Some.value c.in_ok-insert.field-0 c.loop-key.invariant (search rules) c.in_ok-insert.ensures.old c.in_ok-insert.ensures.entries c.in_ok-insert.ensures.unique
