-- The texts of what is left of a list or map.
use Rattle.std.specs.Prelude.{ℕ, List, Option, Some, codes, [], option_map}
use Rattle.sw_tree.specs.Tree.{Tree, trees, entries}
use Rattle.sw_tree.specs.Image.{trees_image, entries_image}
use Rattle.sw_json.specs.Text.{json_text, more_items, more_entries}
use Rattle.sw_json.specs.Inner.Pushed.{joined}
use Rattle.sw_json.specs.Inner.Text.{key_text}

-- the text of an entry
abbrev pub entry_text : Tree → Tree → Option (List ℕ)
entry_text key value = joined (key_text key) (joined (Some (codes ":")) (json_text value))

-- what stands behind the first item of a list
abbrev pub more_items_text : List Tree → Option (List ℕ)
more_items_text ts = option_map (λ i. more_items i []) (trees_image (trees ts))

-- what stands behind the first entry of a map
abbrev pub more_entries_text : List (Tree × Tree) → Option (List ℕ)
more_entries_text es = option_map (λ i. more_entries i []) (entries_image (entries es))
