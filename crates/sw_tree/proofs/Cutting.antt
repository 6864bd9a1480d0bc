-- What is cut out of a part.
use Rattle.std.specs.Prelude.{slice_range}
use Rattle.sw_tree.specs.declared.part.Reach.{Reach}
use Rattle.sw_tree.specs.Inner.Cells.{Store}

-- these ranges alone
abbrev pub cut : Store → Reach → Store
cut s g =
    record {
      input = slice_range s.input g.input.start g.input.end;
      side = slice_range s.side g.side.start g.side.end;
      wides = slice_range s.wides g.wides.start g.wides.end;
    }
