-- A usual token that is read and built in one step.
use Rattle.std.specs.Prelude.{◌≡◌, ℕ, List, length, Option, Some, None}
use denote.Ref.{Bor}
use Rattle.sw_tree.specs.Builder.{Built}
use Rattle.sw_tree.specs.declared.fail.WireError.{WireError}
use Rattle.sw_json.specs.Token.{Token}
use Rattle.sw_json.specs.Lexing.{lexeme}
use Rattle.sw_json.specs.declared.place.Place.{Place}
use Rattle.sw_json.specs.declared.place.Open.{Open}
use Rattle.sw_json.specs.declared.place.Open.TheVariants.{List as OfList, Map as OfMap}
use Rattle.sw_json.specs.Inner.Building.{Builds, CanBuild}
use Rattle.sw_json.specs.Inner.Place.{place_step}

-- The token in front, at that offset, leads to that place with these open, and is built.
pub record Took (at : ℕ) (place : Place) (opens later : List Open) (bytes : List ℕ) (fault : Option WireError) (old new : Built) (next : Place) (behind : List ℕ) : Type 0 where
  pub token : Token
  pub found : lexeme at bytes ≡ Some (token, behind)
  pub leads : place_step place opens token ≡ Some (next, later)
  pub builds : Builds fault fault (length opens) token old new

-- The same are open, and nothing is built.
pub record Rests (opens later : List Open) (old new : Built) : Type 0 where
  pub levels : later ≡ opens
  pub unbuilt : new ≡ old

-- where no token was taken, all is as it was
abbrev pub Takes : ℕ → Place → List Open → List Open → List ℕ → Option WireError → Built → Built → Option (Place × Bor (List ℕ)) → Type 0
Takes at place opens later bytes fault old new None = Rests opens later old new
Takes at place opens later bytes fault old new (Some x) = Took at place opens later bytes fault old new x.0 x.1.now

-- a token in front can be built, if it can come
abbrev pub CanTake : ℕ → Place → List Open → List ℕ → Option WireError → Built → Type 0
CanTake at place opens bytes fault b =
    (token : Token) (behind : List ℕ) (next : Place) (later : List Open) → lexeme at bytes ≡ Some (token, behind) → place_step place opens token ≡ Some (next, later) → fault ≡ None → CanBuild (length opens) token b

-- the byte that opens it
abbrev pub opening_byte : Open → ℕ
opening_byte OfList = 91
opening_byte OfMap = 123

-- the byte that closes it
abbrev pub closing_byte : Open → ℕ
closing_byte OfList = 93
closing_byte OfMap = 125
