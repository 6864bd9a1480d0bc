use Rattle.sw_tool.proofs.Gained.{noted}
use Rattle.sw_tool.proofs.report.note.Goals as goal

pub returns : goal.returns
returns g c = noted _ _ _ c.write_line.ensures
