-- What a writer of JSON texts means: the text so far, and the lists and maps that are open.
use Rattle.std.specs.Prelude.{ℕ, List, Option, Bool, true, false, Some, None, [], ◌∷◌, suc, cond, nat_le, Result, Ok, Err}
use Rattle.sw_tree.specs.Tree.{Tree, depth}
use Rattle.sw_tree.specs.declared.fail.SerError.{SerError}
use Rattle.sw_tree.specs.declared.fail.SerError.TheVariants as reason
use Rattle.sw_json.specs.declared.level.Level.{Level}
use Rattle.sw_json.specs.declared.turn.Turn.TheVariants.{Root}
use Rattle.sw_json.specs.Inner.Pushed.{joined}
use Rattle.sw_json.specs.Inner.Turns.{separator, piece, after, opening, first_level, ending}

-- the text so far, or none where a key has no image; the innermost list or map; and those around it, the innermost first
pub record Written : Type 0 where
  pub text : Option (List ℕ)
  pub top : Level
  pub outer : List Level

abbrev pub shown : Bool → List ℕ → Option (List ℕ)
shown true s = None
shown false s = Some s

abbrev pub fresh : Written
fresh = record { text = Some []; top = record { turn = Root; height = 0 }; outer = [] }

abbrev pub put : Tree → Written → Written
put t w = record { text = joined w.text (joined (Some (separator w.top.turn)) (piece w.top.turn t)); top = after w.top (depth t); outer = w.outer }

abbrev pub opened : Bool → Written → Written
opened b w = record { text = joined w.text (joined (Some (separator w.top.turn)) (opening w.top.turn b)); top = first_level b; outer = w.top ∷ w.outer }

abbrev pub closed_to : Written → List Level → Result Written SerError
closed_to w [] = Ok w
closed_to w (l ∷ ls) =
    cond (nat_le (suc w.top.height) 128) (Ok (record { text = joined w.text (Some (ending w.top.turn)); top = after l (suc w.top.height); outer = ls })) (Err reason.TooDeep)

abbrev pub closed : Written → Result Written SerError
closed w = closed_to w w.outer
