-- An array of pairs as the entries of a map: as many entries are read in order as it has pairs, and then counted.
use Rattle.std.specs.Prelude.{ℕ, length, take}
use Rattle.sw_tree.specs.Meaning.{Meaning}
use Rattle.sw_tree.specs.Mode.{at_key, at_value}
use Rattle.sw_tree.specs.Tree.{pairs, kind_of}
use Rattle.sw_tree.specs.Tree as node
use Rattle.sw_tree.specs.declared.fail.DeError.TheVariants as fail
use Rattle.sw_elem.specs.Equations.{Reads, Spots, Skips}
use Rattle.sw_core.specs.Entries.{twos}
use Rattle.sw_core.specs.Plans.{Plans, refused, plan_reads, plan_spot, plan_skips}
use Rattle.sw_core.specs.Rows.{reader, turns_by}
use Rattle.sw_core.specs.Tuple.{tuple_made}

module _ (n : ℕ) (r : Reads) (s : Spots) (k : Skips) (q : Reads) (z : Spots) (l : Skips) where
  -- the entries in order, as far as there are pairs for them
  abbrev pub entry_array_plan : Plans Meaning
  entry_array_plan m (node.map es) =
      record { readers = turns_by (reader r s k (at_key m)) (reader q z l (at_value m)) (take n (pairs es)); makes = λ vs. tuple_made n (length (pairs es)) (twos vs) }
  entry_array_plan m t = refused (fail.InvalidType (kind_of t))

  abbrev pub entry_array_reads : Reads
  entry_array_reads = plan_reads entry_array_plan

  abbrev pub entry_array_spot : Spots
  entry_array_spot = plan_spot entry_array_plan

  abbrev pub entry_array_skips : Skips
  entry_array_skips = plan_skips entry_array_plan
