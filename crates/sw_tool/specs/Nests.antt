-- The nests of the profiles, as equations, and what they answer of a JSON text and pass over in it.
use Rattle.std.specs.Prelude.{ℕ, ◌^◌, true, false, List, [], ◌∷◌, Option, Result}
use Rattle.sw_tree.specs.LeafRanks.{text_order}
use Rattle.sw_tree.specs.Meaning.{Meaning}
use Rattle.sw_tree.specs.declared.fail.Refusal.{Refusal}
use Rattle.sw_tree.specs.declared.mode.WireKind.TheVariants.{Json}
use Rattle.sw_elem.specs.Decimal.{decimal_shows, unsigned_parses, signed_parses}
use Rattle.sw_tree.specs.Mode.{plain}
use Rattle.sw_check.specs.Form.{Form, leaf, vec, map, key_map, pick_first, one_or_many, option, tuple, fields, form, forms, no_forms}
use Rattle.sw_check.specs.Blame.{blame}
use Rattle.sw_check.specs.Grade.{grade}
use Rattle.sw_check.specs.declared.blame.Blame.{Blame}
use Rattle.sw_check.specs.declared.grade.Grade.{Grade}
use Rattle.sw_check.specs.declared.grade.Grade.TheVariants.{Exact}
use Rattle.sw_elem.specs.Facts.{number_facts, truth_facts, text_facts, any_facts}
use Rattle.sw_elem.specs.Numbers.{number_writes, number_reads, is_below}
use Rattle.sw_elem.specs.Strings.{text_writes, text_reads}
use Rattle.sw_elem.specs.Truths.{truth_writes, truth_reads}
use Rattle.sw_elem.specs.Foreign.{any_reads, any_spot, any_writes}
use Rattle.sw_elem.specs.Equations.{Writes, Reads, Spots, Skips, own_spot, no_skips}
use Rattle.sw_core.specs.Display.{display_writes, display_reads}
use Rattle.sw_core.specs.Entries.{entries_writes, entries_reads, entries_spot, entries_skips}
use Rattle.sw_core.specs.Fields.{Field}
use Rattle.sw_core.specs.Option.{option_writes, option_reads, option_spot, option_skips}
use Rattle.sw_core.specs.OrderedMap.{ordered_map_reads}
use Rattle.sw_core.specs.Parts.{reading}
use Rattle.sw_core.specs.Recoding.{answer, skipped}
use Rattle.sw_core.specs.Record.{record_reads, record_spot, record_skips, record_writes}
use Rattle.sw_core.specs.Tuple.{tuple_writes, tuple_reads, tuple_spot, tuple_skips}
use Rattle.sw_core.specs.Vec.{list_writes, list_reads, list_spot, list_skips}
use Rattle.sw_core.specs.declared.recode.RecodeError.{RecodeError}
use Rattle.sw_policy.specs.Options.{Reader, reader}
use Rattle.sw_policy.specs.PickFirst.{pick_reads, pick_skips}
use Rattle.sw_policy.specs.OneOrMany.{one_or_many_writes, one_or_many_reads, one_or_many_skips}
use Rattle.sw_json.specs.Spelled.{spelled}
use Rattle.sw_json.specs.Text.{image_text}
use Rattle.sw_tool.specs.Settings.{settings_names, settings_fields}
use Rattle.sw_tool.specs.declared.command.Profile.{Profile}
use Rattle.sw_tool.specs.declared.command.Profile.TheVariants.{Ids, Any, Table, Flex, Names, Lists, Keys, Wrap, Settings}

-- a value and its new text, or the first error on the way
abbrev pub Answer : Type 0
Answer = Result (Meaning × List ℕ) RecodeError

-- what a nest answers of a JSON text
abbrev pub json_answer : Reads → Spots → Writes → List ℕ → Answer
json_answer reads spot writes bytes = answer reads spot writes Json spelled image_text bytes

-- the refusals that a nest passes over while it reads a JSON text, in order
abbrev pub json_log : Skips → List ℕ → List Refusal
json_log skips bytes = skipped skips Json spelled bytes

-- what a nest reads, where it refuses, what it passes over, what it writes, and its expression
pub record Nest : Type 0 where
  pub reads : Reads
  pub spot : Spots
  pub skips : Skips
  pub writes : Writes
  pub expr : Form

abbrev nest : Reads → Spots → Skips → Writes → Form → Nest
nest reads spot skips writes expr = record { reads = reads; spot = spot; skips = skips; writes = writes; expr = expr }

-- a text that spells a number below 2^32
abbrev id_reads : Reads
id_reads = display_reads (unsigned_parses (2 ^ 32))

-- a text that spells a number from -2^31 to 2^31 - 1
abbrev key_reads : Reads
key_reads = display_reads (signed_parses (2 ^ 31))

-- a number below that limit
abbrev below : ℕ → Reads
below limit = number_reads (is_below limit)

-- a number below 2^32, or a text that spells it
abbrev flex_options : List Reader
flex_options = reader (below (2 ^ 32)) no_skips ∷ reader id_reads no_skips ∷ []

-- a number below 2^32 that was set aside
abbrev aside_options : List Reader
aside_options = reader (below (2 ^ 32)) no_skips ∷ reader (below (2 ^ 32)) no_skips ∷ []

-- a list of numbers below 2^8
abbrev octets_reads : Reads
octets_reads = list_reads (below (2 ^ 8)) own_spot no_skips

abbrev octets_spot : Spots
octets_spot = list_spot (below (2 ^ 8)) own_spot no_skips

abbrev octets_skips : Skips
octets_skips = list_skips (below (2 ^ 8)) own_spot no_skips

-- a map with a text for each key
abbrev texts_reads : Reads
texts_reads = entries_reads text_reads own_spot no_skips any_reads any_spot no_skips

abbrev texts_spot : Spots
texts_spot = entries_spot text_reads own_spot no_skips any_reads any_spot no_skips

abbrev texts_skips : Skips
texts_skips = entries_skips text_reads own_spot no_skips any_reads any_spot no_skips

-- the fields of settings: a text, one number or many, two numbers or none, and a map of texts
abbrev settings : List Field
settings =
    let ids = pick_reads flex_options in
    let skips = pick_skips flex_options in
    let both = reading (below (2 ^ 32)) own_spot no_skips ∷ reading (below (2 ^ 32)) own_spot no_skips ∷ [] in
    settings_fields (reading text_reads own_spot no_skips) (reading (one_or_many_reads ids own_spot skips) own_spot (one_or_many_skips ids own_spot skips))
    (reading (option_reads (tuple_reads both)) (option_spot (tuple_spot both)) (option_skips (tuple_skips both)))
    (reading (ordered_map_reads text_order text_reads own_spot no_skips text_reads own_spot no_skips) (entries_spot text_reads own_spot no_skips text_reads own_spot no_skips)
    (entries_skips text_reads own_spot no_skips text_reads own_spot no_skips))

abbrev settings_writes : List Writes
settings_writes = text_writes ∷ one_or_many_writes true number_writes ∷ option_writes (tuple_writes (number_writes ∷ number_writes ∷ [])) ∷ entries_writes text_writes text_writes ∷ []

abbrev number : Form
number = leaf number_facts

abbrev text : Form
text = leaf text_facts

abbrev pub nest_of : Profile → Nest
nest_of Ids =
    nest (list_reads id_reads own_spot no_skips) (list_spot id_reads own_spot no_skips) (list_skips id_reads own_spot no_skips) (list_writes (display_writes decimal_shows)) (vec text)
nest_of Any = nest any_reads any_spot no_skips any_writes (leaf any_facts)
nest_of Table =
    nest (entries_reads key_reads own_spot no_skips octets_reads octets_spot octets_skips) (entries_spot key_reads own_spot no_skips octets_reads octets_spot octets_skips)
    (entries_skips key_reads own_spot no_skips octets_reads octets_spot octets_skips) (entries_writes (display_writes decimal_shows) (list_writes number_writes)) (map text (vec number))
nest_of Flex =
    let reads = pick_reads flex_options in
    let skips = pick_skips flex_options in
    nest (list_reads reads own_spot skips) (list_spot reads own_spot skips) (list_skips reads own_spot skips) (list_writes number_writes) (vec (pick_first number (form text no_forms)))
nest_of Names = nest (one_or_many_reads text_reads own_spot no_skips) own_spot (one_or_many_skips text_reads own_spot no_skips) (one_or_many_writes true text_writes) (one_or_many text)
nest_of Lists =
    nest (one_or_many_reads octets_reads octets_spot octets_skips) own_spot (one_or_many_skips octets_reads octets_spot octets_skips) (one_or_many_writes true (list_writes number_writes))
    (one_or_many (vec number))
nest_of Keys =
    let reads = pick_reads aside_options in
    let skips = pick_skips aside_options in
    nest (entries_reads reads own_spot skips truth_reads own_spot no_skips) (entries_spot reads own_spot skips truth_reads own_spot no_skips) (entries_skips reads own_spot skips truth_reads own_spot no_skips)
    (entries_writes number_writes truth_writes) (map (pick_first number (form number no_forms)) (leaf truth_facts))
nest_of Wrap =
    nest (one_or_many_reads texts_reads texts_spot texts_skips) own_spot (one_or_many_skips texts_reads texts_spot texts_skips) (one_or_many_writes false (entries_writes text_writes any_writes))
    (one_or_many (map text (leaf any_facts)))
nest_of Settings =
    let parts = text ∷ one_or_many (pick_first number (form text no_forms)) ∷ option (tuple (forms (number ∷ number ∷ []))) ∷ key_map text text ∷ [] in
    nest (record_reads false settings) (record_spot false settings) (record_skips false settings) (record_writes settings_names settings_writes) (fields (forms parts) false Exact)

-- what is blamed in the nest, where a JSON text is recoded
unfoldable pub blame_of : Profile → Option Blame
blame_of p = blame (nest_of p).expr (plain Json)

unfoldable pub grade_of : Profile → Grade
grade_of p = grade (nest_of p).expr (plain Json)

unfoldable pub answer_of : Profile → List ℕ → Answer
answer_of p bytes = json_answer (nest_of p).reads (nest_of p).spot (nest_of p).writes bytes

unfoldable pub log_of : Profile → List ℕ → List Refusal
log_of p bytes = json_log (nest_of p).skips bytes
