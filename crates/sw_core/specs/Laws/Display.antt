-- The laws of a value by its text, from those of the text.
use Rattle.std.specs.Prelude.{ℕ, List, Option}
use Rattle.std.proofs.Common.{refl}
use Rattle.sw_tree.specs.Meaning.{Meaning}
use Rattle.sw_tree.specs.declared.fail.DeError.TheVariants as fail
use Rattle.sw_check.specs.Form.{leaf}
use Rattle.sw_check.specs.declared.class.TextClass.{TextClass}
use Rattle.sw_elem.specs.Equations.{LawfulReading, own_spot, no_skips}
use Rattle.sw_elem.specs.Facts.{text_facts}
use Rattle.sw_elem.specs.Lawful.{Lawful, same_norm}
use Rattle.sw_elem.specs.Laws.Leaf.{leaf_lawful}
use Rattle.sw_elem.specs.Text.{LawfulText}
use Rattle.sw_elem.specs.Laws.Text.{texted_lawful}
use Rattle.sw_elem.specs.Laws.TextLeaf.{texted_keeps}
use Rattle.sw_core.specs.Display.{display_writes, display_reads}

module _ {P : Meaning → Type 0} {shows : Meaning → List ℕ} {parses : List ℕ → Option Meaning} {class : TextClass} (law : LawfulText P shows parses class) where
  pub display_lawful : LawfulReading P (display_reads parses) own_spot
  display_lawful = texted_lawful law fail.Text

  pub display_keeps : Lawful P (display_writes shows) (display_reads parses) own_spot no_skips (leaf text_facts) same_norm (Unit {0})
  display_keeps =
      leaf_lawful P (display_writes shows) (display_reads parses) own_spot no_skips text_facts same_norm (Unit {0})
      (texted_keeps law fail.Text (λ k p. absurd (cc))) (λ m t. refl)
