use Rattle.sw_tool.proofs.Gained.{writes_on, writes_less, joined}
use Rattle.sw_tool.proofs.output.write_line.Goals as goal

pub returns-in-Ok : goal.returns-in-Ok
returns-in-Ok g c = rw joined (writes_on _ _ _ _ _ _ _ _ _ c.in-Ok.ensures c.write_all.ensures)

pub returns-in-Err : goal.returns-in-Err
returns-in-Err g c = rw joined (writes_less _ _ _ _ _ _ _ c.in-Err.ensures)
