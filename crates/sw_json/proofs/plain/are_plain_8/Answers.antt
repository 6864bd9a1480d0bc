use Rattle.sw_json.proofs.Stops.{plain_on_zero}
use Rattle.sw_json.proofs.plain.are_plain_8.Goals as goal

pub returns : goal.returns
returns c = plain_on_zero c.stops_8.result c.args.bytes.now c.args.at 8 c.requires c.stops_8.ensures
