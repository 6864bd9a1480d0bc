-- What a finished writer answers.
use Rattle.std.proofs.Common.{◌≡◌, ℕ, Result, Ok, Err, sym, subst, ◌∙◌, Vec, Global, IfOk, length}
use Rattle.sw_tree.specs.Tree.{Tree}
use Rattle.sw_tree.specs.Short.{IsLength, IsShort}
use Rattle.sw_tree.specs.Wires.{IsPrinted}
use Rattle.sw_tree.specs.declared.fail.PrintError.{PrintError}
use Rattle.sw_json.specs.Text.{json_text}
use Rattle.sw_json.specs.Inner.Written.{Written, fresh, put}
use Rattle.sw_json.proofs.ShortTexts.{text_short}
use Rattle.sw_json.proofs.Writing.{fresh_text}

pub whole : (x : Result (Vec ℕ Global) PrintError) (w : Written) (t : Tree) → w ≡ put t fresh → IsPrinted x w.text → IsPrinted x (json_text t)
whole x w t e h = subst (IsPrinted x) (fresh_text w t e) h

pub short : (x : Result (Vec ℕ Global) PrintError) (w : Written) (t : Tree) → w ≡ put t fresh → IsPrinted x w.text → IfOk x (λ v. IsLength (length v.items)) → IfOk x (λ v. IsShort t)
short (Ok v) w t e h l = text_short t v.items (sym (fresh_text w t e) ∙ h) l
short (Err e) w t h k l = tt

pub ruleset finishing = (whole, short)
