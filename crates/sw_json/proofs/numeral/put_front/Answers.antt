use Rattle.std.proofs.Common.{◌≡◌, ◌+◌, ◌-◌, arith}
use Rattle.std.proofs.lemmas.List.{drop-set}
use Rattle.sw_json.proofs.numeral.put_front.Goals as goal

pub returns-clause-written : goal.returns-clause-written
returns-clause-written c =
    let e : c.args.start - 1 + 1 ≡ c.args.start = omega arith in
    rw (drop-set c.args.room.now (c.args.start - 1) _ (omega arith), e)
