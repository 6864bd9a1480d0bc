-- A part of a document: the ranges that its cells point into, and its cells, moved to where these begin.
use Rattle.std.specs.Prelude.{ℕ, min, max, ◌+◌, List, [], ◌∷◌, ◌-◌}
use Rattle.sw_tree.specs.declared.cell.Cell.{Cell}
use Rattle.sw_tree.specs.declared.cell.Span.{Span}
use Rattle.sw_tree.specs.declared.cell.Cell.TheVariants.{Null, Bool, Natural, Negative, Wide, Text, Copied, Bytes, CopiedBytes, List as Items, Map}
use Rattle.sw_tree.specs.declared.part.Stretch.{Stretch}
use Rattle.sw_tree.specs.declared.part.Reach.{Reach}

-- the least range over both
abbrev pub joined : Stretch → ℕ → ℕ → Stretch
joined r start end = record { start = min r.start start; end = max r.end end }

-- the ranges, and what the cell points into
abbrev pub widened : Reach → Cell → Reach
widened g (Wide k) = record { input = g.input; side = g.side; wides = joined g.wides k (k + 1) }
widened g (Text p) = record { input = joined g.input p.start p.end; side = g.side; wides = g.wides }
widened g (Bytes p) = record { input = joined g.input p.start p.end; side = g.side; wides = g.wides }
widened g (Copied p) = record { input = g.input; side = joined g.side p.start p.end; wides = g.wides }
widened g (CopiedBytes p) = record { input = g.input; side = joined g.side p.start p.end; wides = g.wides }
widened g Null = g
widened g (Bool b) = g
widened g (Natural z) = g
widened g (Negative z) = g
widened g (Items r) = g
widened g (Map r) = g

abbrev pub reach_from : Reach → List Cell → Reach
reach_from g [] = g
reach_from g (c ∷ cs) = reach_from (widened g c) cs

-- a range over nothing yet
abbrev pub nothing : Stretch
nothing = record { start = 4294967295; end = 0 }

abbrev pub settled : Stretch → Stretch
settled r = record { start = min r.start r.end; end = r.end }

abbrev pub all_settled : Reach → Reach
all_settled g = record { input = settled g.input; side = settled g.side; wides = settled g.wides }

-- the ranges that cells point into
abbrev pub reach_of : List Cell → Reach
reach_of cs = all_settled (reach_from (record { input = nothing; side = nothing; wides = nothing }) cs)

abbrev pub moved_span : ℕ → Span → Span
moved_span n p = record { start = p.start - n; end = p.end - n }

abbrev pub moved : Reach → Cell → Cell
moved g (Wide k) = Wide (k - g.wides.start)
moved g (Text p) = Text (moved_span g.input.start p)
moved g (Bytes p) = Bytes (moved_span g.input.start p)
moved g (Copied p) = Copied (moved_span g.side.start p)
moved g (CopiedBytes p) = CopiedBytes (moved_span g.side.start p)
moved g Null = Null
moved g (Bool b) = Bool b
moved g (Natural z) = Natural z
moved g (Negative z) = Negative z
moved g (Items r) = Items r
moved g (Map r) = Map r
