-- What a token does to the document that is built.
use Rattle.std.specs.Prelude.{length, if◌then◌else◌, true, false, ℕ, ℤ, Option, Some, None, nat_lt, ◌≡◌, ◌+◌, ◌≤◌, ◌<◌, ◌^◌, slice_range}
use Rattle.std.specs.Option.{option_or}
use Rattle.std.specs.Str.{IsUtf8}
use Rattle.sw_tree.specs.Tree as tree
use Rattle.sw_tree.specs.Builder.{Built, added, longer, opened, closed, CanClose}
use Rattle.sw_tree.specs.Number.{key_number}
use Rattle.sw_tree.specs.Faults.{int_of}
use Rattle.sw_tree.specs.declared.fail.WireError.{WireError}
use Rattle.sw_tree.specs.declared.fail.WireError.TheVariants.{NotWhole, TooDeep}
use Rattle.sw_json.specs.Token.{Quote, Token}
use Rattle.sw_json.specs.Quoted.{has_escape}

-- a text is copied beside the input where its spelling has an escape
abbrev pub effect_text : Quote → Built → Built
effect_text q b = if has_escape q.spelling then added (longer b (length q.text)) (tree.text q.text) else added b (tree.text q.text)

-- what is built with the token
abbrev pub effect : Token → Built → Built
effect (Token.null at) b = added b tree.null
effect (Token.truth at v) b = added b (tree.truth v)
effect (Token.number at s) b = added b (tree.int (int_of (key_number s)))
effect (Token.text q) b = effect_text q b
effect (Token.open_list at) b = opened b false
effect Token.close_list b = closed b
effect (Token.open_map at) b = opened b true
effect Token.close_map b = closed b
effect Token.comma b = b
effect Token.colon b = b

abbrev pub number_fault_of : ℕ → Option ℤ → Option WireError
number_fault_of at (Some n) = None
number_fault_of at None = Some (NotWhole at)

abbrev pub open_fault_of : ℕ → ℕ → Option WireError
open_fault_of depth at = if nat_lt depth 128 then None else Some (TooDeep at)

-- the fault of the token below so many levels
abbrev pub fault_of : ℕ → Token → Option WireError
fault_of depth (Token.number at s) = number_fault_of at (key_number s)
fault_of depth (Token.open_list at) = open_fault_of depth at
fault_of depth (Token.open_map at) = open_fault_of depth at
fault_of depth t = None

-- The spelling between quotation marks is this part of the input.
pub record IsPart (q : Quote) (b : Built) : Type 0 where
  pub room : q.at + 1 + length q.spelling < 2 ^ 64
  pub inside : q.at + 1 + length q.spelling ≤ length b.input
  pub part : slice_range b.input (q.at + 1) (q.at + 1 + length q.spelling) ≡ q.spelling
  pub utf8 : IsUtf8 q.text

abbrev pub Fits : Token → Built → Type 0
Fits (Token.text q) b = IsPart q b
Fits Token.close_list b = CanClose b
Fits Token.close_map b = CanClose b
Fits t b = Unit {0}

-- the token can be built
pub record CanBuild (depth : ℕ) (t : Token) (b : Built) : Type 0 where
  pub no_root : b.root ≡ None
  pub levels : length b.frames ≡ depth
  pub fits : Fits t b

-- The first fault with that of the token; as long as there is none, the token is built.
pub record Builds (before after : Option WireError) (depth : ℕ) (t : Token) (old new : Built) : Type 0 where
  pub fault : after ≡ option_or before (fault_of depth t)
  pub built : after ≡ None → new ≡ effect t old
