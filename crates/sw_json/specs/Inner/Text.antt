-- The text of a key behind what is there.
use Rattle.std.specs.Prelude.{ℕ, List, [], Option, option_map}
use Rattle.sw_tree.specs.Tree.{Tree}
use Rattle.sw_tree.specs.Image.{image}
use Rattle.sw_tree.specs.declared.mode.WireKind.TheVariants.{Json}
use Rattle.sw_tree.specs.declared.mode.Place.TheVariants.{Key}
use Rattle.sw_json.specs.Text.{text_of}

-- what a key prints as
abbrev pub key_text : Tree → Option (List ℕ)
key_text t = option_map (λ i. text_of i []) (image Json Key t)
