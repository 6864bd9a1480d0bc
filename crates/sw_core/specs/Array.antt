-- An array: it is written as a list of its values, and read as a tuple of so many parts that are all the same.
use Rattle.std.specs.Prelude.{ℕ, List, replicate}
use Rattle.sw_elem.specs.Equations.{Reads, Spots, Skips}
use Rattle.sw_core.specs.Parts.{Reading, reading}
use Rattle.sw_core.specs.Tuple.{tuple_reads, tuple_spot, tuple_skips}

module _ (n : ℕ) (r : Reads) (s : Spots) (k : Skips) where
  abbrev pub array_readings : List Reading
  array_readings = replicate n (reading r s k)

  abbrev pub array_reads : Reads
  array_reads = tuple_reads array_readings

  abbrev pub array_spot : Spots
  array_spot = tuple_spot array_readings

  abbrev pub array_skips : Skips
  array_skips = tuple_skips array_readings
