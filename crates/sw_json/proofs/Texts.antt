-- The text of a number, and of a quoted text, in front of a rest.
use Rattle.std.specs.Prelude.{codes}
use Rattle.std.proofs.Common.{◌≡◌, ℕ, List, [], ◌∷◌, ap, Some}
use Rattle.sw_tree.specs.Tree.{text}
use Rattle.sw_json.specs.Text.{escaped, json_text}
use Rattle.sw_json.specs.Inner.Pushed.{joined}
use Rattle.sw_json.specs.Laws.PrintedTexts.{escaped-append}

-- a text, by what stands between its quotes
pub quoted_text : (s : List ℕ) → json_text (text s) ≡ joined (Some (codes "\"")) (joined (Some (escaped s [])) (Some (codes "\"")))
quoted_text s = ap (λ r. Some (34 ∷ r)) (escaped-append s [] (34 ∷ []))
