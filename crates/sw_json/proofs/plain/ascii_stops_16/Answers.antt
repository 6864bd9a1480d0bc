use Rattle.std.proofs.Common.{arith}
use Rattle.sw_json.proofs.Stops.{ascii_stops_mask}
use Rattle.sw_json.proofs.plain.ascii_stops_16.Goals as goal

pub returns : goal.returns
returns c = ascii_stops_mask c.args.v 16 c.fits-v.0 (omega arith)
