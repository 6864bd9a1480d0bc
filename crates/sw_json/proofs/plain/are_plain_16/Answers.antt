use Rattle.sw_json.proofs.Stops.{plain_on_zero}
use Rattle.sw_json.proofs.plain.are_plain_16.Goals as goal

pub returns : goal.returns
returns c = plain_on_zero c.stops_16.result c.args.bytes.now c.args.at 16 c.requires c.stops_16.ensures
