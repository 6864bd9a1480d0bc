-- What the tag of a node tells of its reading, whatever reads the values.
use Rattle.std.specs.Prelude.{◌≡◌, ℕ, List, [], Option, Some, None, Result, Ok, Err}
use Rattle.sw_tree.specs.Meaning.{nothing, case}
use Rattle.sw_tree.specs.Mode.{at_value}
use Rattle.sw_tree.specs.Placed.{placed, placed_notes}
use Rattle.sw_tree.specs.Seen.{Seen}
use Rattle.sw_tree.specs.Inner.View.{seen}
use Rattle.sw_tree.specs.Steps.{bind}
use Rattle.sw_tree.specs.declared.mode.Mode.{Mode}
use Rattle.sw_tree.specs.declared.fail.DeFail.{DeFail}
use Rattle.sw_tree.specs.declared.fail.DeFail.TheVariants as de
use Rattle.sw_core.specs.Parts.{Reading}
use Rattle.sw_core.specs.Tagged.{Names, tagged_reads, tagged_spot, tagged_skips}
use Rattle.sw_core.specs.declared.tagged.Tag.{Tag}
use Rattle.sw_core.specs.declared.tagged.Tag.TheVariants.{One, Two, Bare}

-- the variant of that number, whose value is there and is read so
pub record IsCase (n : Names) (s : Seen) (of : Reading → Reading → Reading) (i : ℕ) (v : Seen) : Type 0 where
  pub reads : (x y : Reading) (m : Mode) → placed (tagged_reads n x y m) (tagged_spot n x y m) s ≡ bind (placed ((of x y).reads (at_value m)) ((of x y).spot (at_value m)) v) (λ u. Ok (case i u))
  pub logs : (x y : Reading) (m : Mode) → placed_notes s (tagged_skips n x y m s.tree) ≡ placed_notes v ((of x y).skips (at_value m) v.tree)

-- there is a variant without a value
abbrev pub HasAlone : Option (List ℕ) → Type 0
HasAlone (Some s) = Unit {0}
HasAlone None = ⊥

abbrev pub IsTag : Names → Seen → Result Tag DeFail → Type 0
IsTag n s (Ok (One v)) = IsCase n s (λ x y. x) 0 (seen v)
IsTag n s (Ok (Two v)) = IsCase n s (λ x y. y) 1 (seen v)
IsTag n s (Ok Bare) = HasAlone n.alone × ((x y : Reading) (m : Mode) → (placed (tagged_reads n x y m) (tagged_spot n x y m) s ≡ Ok (case 2 nothing)) × (placed_notes s (tagged_skips n x y m s.tree) ≡ []))
IsTag n s (Err (de.Refused e)) = (x y : Reading) (m : Mode) → (placed (tagged_reads n x y m) (tagged_spot n x y m) s ≡ Err e) × (placed_notes s (tagged_skips n x y m s.tree) ≡ [])
IsTag n s (Err de.Memory) = ⊥
