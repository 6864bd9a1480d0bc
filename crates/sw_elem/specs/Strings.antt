-- A value by its text; so a text by itself, and a character. And nothing, by the null.
use Rattle.std.specs.Prelude.{ℕ, List, Ok, Option, [], Some, Bool, ◌&&◌, ◌==◌, length, if◌then◌else◌, None}
use Rattle.std.specs.Option.{ok_or}
use Rattle.std.specs.Str.{chars, is_utf8}
use Rattle.sw_tree.specs.Meaning.{Meaning, text, nothing}
use Rattle.sw_tree.specs.Steps.{bind}
use Rattle.sw_tree.specs.Tree.{text_at, kind_of}
use Rattle.sw_tree.specs.Tree as node
use Rattle.sw_tree.specs.declared.mode.Kind.{Kind}
use Rattle.sw_tree.specs.declared.mode.Kind.TheVariants as kind
use Rattle.sw_tree.specs.declared.fail.DeError.{DeError}
use Rattle.sw_tree.specs.declared.fail.DeError.TheVariants as fail
use Rattle.sw_elem.specs.Equations.{Writes, Reads}
use Rattle.sw_elem.specs.Takes.{takes}

-- the text that is shown
abbrev pub texted_writes : (Meaning → List ℕ) → Writes
texted_writes shows m v = Ok (node.text (shows v))

-- what a text stands for, or that refusal
abbrev pub texted_reads : (List ℕ → Option Meaning) → DeError → Reads
texted_reads parses e m t = bind (takes text_at t) (λ s. ok_or (parses s) e)

-- the text; what no text means is free
abbrev pub text_shows : Meaning → List ℕ
text_shows (text s) = s
text_shows _ = []

abbrev pub text_writes : Writes
text_writes = texted_writes text_shows

-- no text is refused
abbrev pub text_parses : List ℕ → Option Meaning
text_parses s = Some (text s)

abbrev pub text_reads : Reads
text_reads = texted_reads text_parses fail.InvalidValue

-- the text of one character
abbrev pub is_character : List ℕ → Bool
is_character s = is_utf8 s && (length (chars s) == 1)

abbrev pub character_parses : List ℕ → Option Meaning
character_parses s = if is_character s then Some (text s) else None

abbrev pub character_reads : Reads
character_reads = texted_reads character_parses fail.InvalidValue

abbrev pub nothing_writes : Writes
nothing_writes m v = Ok node.null

abbrev pub nothing_of : Kind → Option Meaning
nothing_of kind.Null = Some nothing
nothing_of k = None

-- nothing, where the node is the null
abbrev pub nothing_reads : Reads
nothing_reads m t = bind (takes (λ u. nothing_of (kind_of u)) t) (λ v. Ok v)
