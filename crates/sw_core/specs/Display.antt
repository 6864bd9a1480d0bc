-- A value by its text.
use Rattle.std.specs.Prelude.{ℕ, List, Option}
use Rattle.sw_tree.specs.Meaning.{Meaning}
use Rattle.sw_tree.specs.declared.fail.DeError.TheVariants as fail
use Rattle.sw_elem.specs.Equations.{Writes, Reads}
use Rattle.sw_elem.specs.Strings.{texted_writes, texted_reads}

-- the text that is shown
abbrev pub display_writes : (Meaning → List ℕ) → Writes
display_writes = texted_writes

-- a text that parses; Text where it doesn't
abbrev pub display_reads : (List ℕ → Option Meaning) → Reads
display_reads parses = texted_reads parses fail.Text
