-- What follows of the promise: the text of a short node that is written for the value spells its image, and reads again.
use Rattle.std.proofs.Common.{◌≡◌, ℕ, List, Option, Some, option_map, ap, sym, ◌∙◌}
use Rattle.sw_tree.specs.Meaning.{Meaning}
use Rattle.sw_tree.specs.Mode.{plain}
use Rattle.sw_tree.specs.Short.{IsShort}
use Rattle.sw_tree.specs.Tree.{Tree}
use Rattle.sw_tree.specs.Wires.{Spelled, Texts, printed}
use Rattle.sw_tree.specs.declared.mode.WireKind.{WireKind}
use Rattle.std.specs.Prelude.{Ok}
use Rattle.sw_elem.specs.Equations.{Writes, Reads}
use Rattle.sw_elem.specs.Statements.{Norm}
use Rattle.sw_core.specs.Again.{SpellsImage, ReadsAgain, IsKept}

one_text : (o : Option (List ℕ)) (b c : List ℕ) → o ≡ Some b → o ≡ Some c → b ≡ c
one_text o b c p q = cc

module _ (w : Writes) (r : Reads) (id : WireKind) (spelled : Spelled) (text : Texts) (n : Norm) (a : Type 0) (v : Meaning) (kept : IsKept w r id spelled text n a v)
    (u : Tree) (written : w (plain id) v ≡ Ok u) (short : IsShort u) (b : List ℕ) (p : printed id text u ≡ Some b) where
  pub kept_spells : SpellsImage w id spelled b v
  kept_spells =
      let i = kept.imaged u written in
      let same = one_text (printed id text u) (text i.0) b (ap (option_map text) i.1) p in
      record { tree = u; written = written; found = i.0; imaged = i.1; spells = ap spelled (sym same) ∙ kept.spells u i.0 written short i.1 }

  pub kept_again : a → ReadsAgain w r id spelled b v (n (plain id) v)
  kept_again y =
      let i = kept.imaged u written in
      let same = one_text (printed id text u) (text i.0) b (ap (option_map text) i.1) p in
      let found : SpellsImage w id spelled b v = record { tree = u; written = written; found = i.0; imaged = i.1; spells = ap spelled (sym same) ∙ kept.spells u i.0 written short i.1 } in
      record { image_of = found; means = kept.back y u i.0 written i.1 }
