-- What a writer shows once a piece is put in.
use Rattle.std.proofs.Common.{◌≡◌, ℕ, List, ◌++◌, Bool, true, false, Option, Some, None, option_map, Result, Ok, Err, refl, sym, ◌∙◌}
use Rattle.std.proofs.lemmas.List.{reverse-append}
use Rattle.sw_tree.specs.declared.fail.PrintError.{PrintError}
use Rattle.sw_tree.specs.declared.fail.PrintError.TheVariants.{Key, Memory}
use Rattle.sw_json.proofs.Pushing.{none_onto}
use Rattle.sw_json.specs.Inner.Pushed.{IsPushed, joined}
use Rattle.sw_json.specs.Inner.Kept.{IsKept}
use Rattle.sw_json.specs.Inner.Written.{shown}

onto-shown : (before : List ℕ) (r : Option (List ℕ)) → option_map (λ s. before ++ s) r ≡ joined (Some before) r
onto-shown before None = refl
onto-shown before (Some s) = refl

void : (x : Option (List ℕ)) → joined x None ≡ None
void None = refl
void (Some s) = refl

-- the text with the piece, or none
pub shown_kept : (pushed : Result (Unit {0}) PrintError) (u : Unit {0}) (lost lost' : Bool) (before after : List ℕ) (r : Option (List ℕ)) → IsPushed pushed before after r → IsKept (Ok u) pushed lost lost'
    → shown lost' after ≡ joined (shown lost before) r
shown_kept (Ok v) u true lost' before after r h k = rw k refl
shown_kept (Ok v) u false lost' before after r h k = rw k (sym h ∙ onto-shown before r)
shown_kept (Err Key) u lost lost' before after r h k = rw (k, none_onto before r h) (sym (void (shown lost before)))
shown_kept (Err Memory) u lost lost' before after r h k = absurd k

pub ruleset keeping = (shown_kept, reverse-append)
