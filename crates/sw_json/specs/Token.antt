-- What the bytes of a JSON text fall into, with the offset of the first byte where a node begins.
use Rattle.std.specs.Prelude.{ℕ, List, Bool}

-- a text: the offset of its opening quotation mark, what stands between its quotation marks, and the text that this stands for
pub record Quote : Type 0 where
  pub at : ℕ
  pub spelling : List ℕ
  pub text : List ℕ

pub data Token : Type 0 where
  null : ℕ → Token
  truth : ℕ → Bool → Token
  number : ℕ → List ℕ → Token
  text : Quote → Token
  open_list : ℕ → Token
  close_list : Token
  open_map : ℕ → Token
  close_map : Token
  comma : Token
  colon : Token
