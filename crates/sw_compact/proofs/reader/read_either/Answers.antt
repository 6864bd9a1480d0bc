use Rattle.sw_compact.proofs.Marked.{found_marked, found_unmarked}
use Rattle.sw_compact.proofs.reader.read_either.Goals as goal

pub returns-in-Some-clause-found : goal.returns-in-Some-clause-found
returns-in-Some-clause-found c = found_marked c.args.bytes.now c.in-Some.body.now _ c.in-Some.ensures c.read_by.ensures.found

pub returns-in-None-clause-found : goal.returns-in-None-clause-found
returns-in-None-clause-found c = found_unmarked c.args.bytes.now _ c.in-None.ensures c.read_by-in-None.ensures.found
