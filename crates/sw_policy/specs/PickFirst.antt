-- The first of several options that reads a tree, or a refusal that names all refusals.
use Rattle.std.specs.Prelude.{List, [], ◌∷◌, Option, Some, None, Result, Ok, Err}
use Rattle.sw_tree.specs.Meaning.{Meaning}
use Rattle.sw_tree.specs.Mode.{marked}
use Rattle.sw_tree.specs.declared.fail.DeError.{DeError}
use Rattle.sw_tree.specs.declared.fail.DeError.TheVariants.{NoVariant}
use Rattle.sw_tree.specs.declared.fail.DeKind.{DeKind}
use Rattle.sw_elem.specs.Equations.{Reads, Skips}
use Rattle.sw_elem.specs.Statements.{Norm}
use Rattle.sw_policy.specs.Options.{Reader, first_read, tried_skips}

-- up to four kinds, in four places
abbrev pub four : List DeKind → List (Option DeKind)
four [] = None ∷ None ∷ None ∷ None ∷ []
four (a ∷ []) = Some a ∷ None ∷ None ∷ None ∷ []
four (a ∷ b ∷ []) = Some a ∷ Some b ∷ None ∷ None ∷ []
four (a ∷ b ∷ c ∷ []) = Some a ∷ Some b ∷ Some c ∷ None ∷ []
four (a ∷ b ∷ c ∷ d ∷ ks) = Some a ∷ Some b ∷ Some c ∷ Some d ∷ []

abbrev pub or_no_variant : Result Meaning (List DeKind) → Result Meaning DeError
or_no_variant (Ok v) = Ok v
or_no_variant (Err ks) = Err (NoVariant (four ks))

-- The first value, where each option reads the tree as one that was set aside; else the kinds of the refusals.
abbrev pub pick_reads : List Reader → Reads
pick_reads os m t = or_no_variant (first_read os (marked m) t)

abbrev pub pick_skips : List Reader → Skips
pick_skips os m t = tried_skips os (marked m) t

-- the norm of the first option, buffered
abbrev pub pick_norm : Norm → Norm
pick_norm n m v = n (marked m) v
