use Rattle.std.proofs.Common.{arith}
use Rattle.sw_json.proofs.Stops.{stops_mask}
use Rattle.sw_json.proofs.plain.stops_8.Goals as goal

pub returns : goal.returns
returns c = stops_mask c.args.v 8 c.fits-v.0 (omega arith)
