-- A value of one of two variants: a map of one entry, whose key names the variant; or of a third, which has no value and is its name alone.
use Rattle.std.specs.Prelude.{ℕ, zero, suc, List, [], ◌∷◌, length, cond, Option, Some, None, Result, Ok, Err, codes}
use Rattle.std.specs.Str.{bytes_eq}
use Rattle.sw_tree.specs.Building.{within}
use Rattle.sw_tree.specs.Meaning.{Meaning, nothing, case}
use Rattle.sw_tree.specs.Mode.{at_value}
use Rattle.sw_tree.specs.Steps.{bind}
use Rattle.sw_tree.specs.Tree.{Tree, Entries, no_entries, entry, pairs, kind_of}
use Rattle.sw_tree.specs.Tree as node
use Rattle.sw_tree.specs.declared.mode.Kind.TheVariants as kind
use Rattle.sw_tree.specs.declared.mode.Mode.{Mode}
use Rattle.sw_tree.specs.declared.fail.DeError.{DeError}
use Rattle.sw_tree.specs.declared.fail.DeError.TheVariants as fail
use Rattle.sw_tree.specs.declared.fail.SerError.{SerError}
use Rattle.sw_elem.specs.Equations.{Writes, Reads, Spots, Skips, own_spot, no_skips}
use Rattle.sw_elem.specs.Statements.{Norm}
use Rattle.sw_elem.specs.Strings.{nothing_reads}
use Rattle.sw_core.specs.Parts.{Reading, reading, in_mode}
use Rattle.sw_core.specs.Plans.{Plan, Plans, refused, plan_reads, plan_spot, plan_skips}
use Rattle.sw_core.specs.Rows.{Reader}
use Rattle.sw_core.specs.declared.tagged.Variant.{Variant}
use Rattle.sw_core.specs.declared.tagged.Variant.TheVariants.{First, Second, Alone, Unknown}

-- the names of the variants
pub record Names : Type 0 where
  pub first : List ℕ
  pub second : List ℕ
  -- of the one without a value, if there is one
  pub alone : Option (List ℕ)

-- which variant a text names
abbrev pub alone_of : Option (List ℕ) → List ℕ → Variant
alone_of None s = Unknown
alone_of (Some a) s = cond (bytes_eq s a) Alone Unknown

abbrev pub variant_of : Names → List ℕ → Variant
variant_of n s = cond (bytes_eq s n.first) First (cond (bytes_eq s n.second) Second (alone_of n.alone s))

-- ---- reading

-- a key says no more than its variant
abbrev pub tag : Reader Meaning
tag = record { reads = λ t. Ok nothing; spot = λ t. 0; skips = λ t. [] }

abbrev pub no_tag : DeError → Reader Meaning
no_tag e = record { reads = λ t. Err e; spot = λ t. 0; skips = λ t. [] }

-- the variant of that number, of what the key and the value mean
abbrev pub case_makes : ℕ → List Meaning → Result Meaning DeError
case_makes i (k ∷ v ∷ []) = Ok (case i v)
case_makes i _ = Err fail.UnknownVariant

abbrev pub case_plan : ℕ → Mode → Reading → Plan Meaning
case_plan i m x = record { readers = tag ∷ in_mode m x ∷ []; makes = case_makes i }

abbrev pub untagged : DeError → Plan Meaning
untagged e = record { readers = no_tag e ∷ []; makes = λ vs. Err fail.UnknownVariant }

-- the value is read in value place; that of the variant without one is null
abbrev pub variant_plan : Reading → Reading → Mode → Variant → Plan Meaning
variant_plan x y m First = case_plan 0 (at_value m) x
variant_plan x y m Second = case_plan 1 (at_value m) y
variant_plan x y m Alone = case_plan 2 (at_value m) (reading nothing_reads own_spot no_skips)
variant_plan x y m Unknown = untagged fail.UnknownVariant

abbrev pub key_plan : Names → Reading → Reading → Mode → Tree → Plan Meaning
key_plan n x y m (node.text s) = variant_plan x y m (variant_of n s)
key_plan n x y m k = untagged (fail.InvalidType (kind_of k))

-- there is exactly one entry
abbrev pub entry_plan : Names → Reading → Reading → Mode → Entries → Plan Meaning
entry_plan n x y m (entry k v no_entries) = key_plan n x y m k
entry_plan n x y m es = refused (fail.InvalidLength (length (pairs es)))

-- a text by itself
abbrev pub text_makes : Variant → Result Meaning DeError
text_makes First = Err (fail.InvalidType kind.Text)
text_makes Second = Err (fail.InvalidType kind.Text)
text_makes Alone = Ok (case 2 nothing)
text_makes Unknown = Err fail.UnknownVariant

abbrev pub tagged_plan : Names → Reading → Reading → Plans Meaning
tagged_plan n x y m (node.map es) = entry_plan n x y m es
tagged_plan n x y m (node.text s) = record { readers = []; makes = λ vs. text_makes (variant_of n s) }
tagged_plan n x y m t = refused (fail.InvalidType (kind_of t))

abbrev pub tagged_reads : Names → Reading → Reading → Reads
tagged_reads n x y = plan_reads (tagged_plan n x y)

abbrev pub tagged_spot : Names → Reading → Reading → Spots
tagged_spot n x y = plan_spot (tagged_plan n x y)

abbrev pub tagged_skips : Names → Reading → Reading → Skips
tagged_skips n x y = plan_skips (tagged_plan n x y)

-- ---- writing

-- the map of the one entry
abbrev pub entry_of : List ℕ → Tree → Tree
entry_of s t = node.map (entry (node.text s) t no_entries)

abbrev pub case_writes : List ℕ → Result Tree SerError → Result Tree SerError
case_writes s r = bind r (λ t. within (entry_of s t))

abbrev pub alone_writes : Option (List ℕ) → Result Tree SerError
alone_writes (Some s) = Ok (node.text s)
alone_writes None = Ok node.null

-- what is no such case is free
abbrev pub tagged_writes : Names → Writes → Writes → Writes
tagged_writes n w z m (case zero v) = case_writes n.first (w (at_value m) v)
tagged_writes n w z m (case (suc zero) v) = case_writes n.second (z (at_value m) v)
tagged_writes n w z m v = alone_writes n.alone

-- the norm of the value
abbrev pub tagged_norm : Norm → Norm → Norm
tagged_norm n l m (case zero v) = case 0 (n (at_value m) v)
tagged_norm n l m (case (suc zero) v) = case 1 (l (at_value m) v)
tagged_norm n l m v = v

-- ---- results, and the ends of ranges

abbrev pub result_names : Names
result_names = record { first = codes "Ok"; second = codes "Err"; alone = None }

abbrev pub bound_names : Names
bound_names = record { first = codes "Included"; second = codes "Excluded"; alone = Some (codes "Unbounded") }
