-- A range that is read as its record, and one that is written as a map of one entry.
use Rattle.std.proofs.Common.{◌≡◌, ℕ, List, [], ◌∷◌, true, Result, Ok, Err, refl}
use Rattle.sw_tree.specs.Building.{within}
use Rattle.sw_tree.specs.Meaning.{Meaning}
use Rattle.sw_tree.specs.Meant.{row}
use Rattle.sw_tree.specs.Mode.{at_value}
use Rattle.sw_tree.specs.Placed.{placed}
use Rattle.sw_tree.specs.Seen.{Seen}
use Rattle.sw_tree.specs.Steps.{bind}
use Rattle.sw_tree.specs.Tree.{Tree, entries, kind_of}
use Rattle.sw_tree.specs.Tree as node
use Rattle.sw_tree.specs.declared.mode.Kind.TheVariants as kind
use Rattle.sw_tree.specs.declared.mode.Mode.{Mode}
use Rattle.sw_tree.specs.declared.fail.SerError.{SerError}
use Rattle.sw_elem.specs.Equations.{Writes}
use Rattle.sw_core.specs.Fields.{Field}
use Rattle.sw_core.specs.Range.{range_reads, range_spot}
use Rattle.sw_core.specs.Record.{named, record_writes, record_reads, record_spot}
use Rattle.sw_core.specs.Tagged.{case_writes}

module _ (fs : List Field) (m : Mode) where
  unlisted : (t : Tree) → (kind_of t ≡ kind.List → ⊥) → (range_reads fs m t ≡ record_reads true fs m t) × (range_spot fs m t ≡ record_spot true fs m t)
  unlisted (node.list ts) h = absurd (h refl)
  unlisted _ h = (refl, refl)

  -- what is no list
  pub of_record : (s : Seen) → (kind_of s.tree ≡ kind.List → ⊥) → placed (range_reads fs m) (range_spot fs m) s ≡ placed (record_reads true fs m) (record_spot true fs m) s
  of_record s h = let c = unlisted s.tree h in rw (c.0, c.1) refl

one_entry : (s : List ℕ) (r : Result Tree SerError) → case_writes s r ≡ bind (bind r (λ t. Ok (t ∷ []))) (λ ts. within (node.map (entries (named (s ∷ []) ts))))
one_entry s (Ok t) = refl
one_entry s (Err e) = refl

-- such a map is the record of one field
pub one_written : (s : List ℕ) (w : Writes) (m : Mode) (v : Meaning) → case_writes s (w (at_value m) v) ≡ record_writes (s ∷ []) (w ∷ []) m (row (v ∷ []))
one_written s w m v = one_entry s (w (at_value m) v)
