-- The texts in hand mean texts.
use Rattle.std.specs.Prelude.{String, string_bytes}
use Rattle.std.specs.Coded.{Coded-set, coded_bool}
use Rattle.std.specs.declared.alloc.Global.{Global}
use Rattle.std.proofs.Math.Logic.{∥∥₁_elim}
use Rattle.std.proofs.lemmas.Str.{is_utf8-from_IsUtf8}
use Rattle.sw_tree.specs.Meant.{text_meaning, IsText}

pub text_meaning-is : (s : String Global) → IsText (text_meaning s)
text_meaning-is s = ∥∥₁_elim s.ok (Coded-set coded_bool _ _) (is_utf8-from_IsUtf8 (string_bytes s))
