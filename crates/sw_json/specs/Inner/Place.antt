-- What the code keeps of the machine's state: the place, and what is open, the innermost first.
use Rattle.std.specs.Prelude.{List, [], ◌∷◌, Option, Some, None, ℕ, ◌≡◌, Bool, true, false}
use Rattle.sw_json.specs.Token.{Token}
use Rattle.sw_json.specs.declared.place.Place.{Place}
use Rattle.sw_json.specs.declared.place.Place.TheVariants.{FreshList, FreshMap, After, Colon, Value, Name}
use Rattle.sw_json.specs.declared.place.Open.{Open}
use Rattle.sw_json.specs.declared.place.Open.TheVariants.{List as OfList, Map as OfMap}

abbrev pub outer : List Open → List Open
outer [] = []
outer (o ∷ os) = os

abbrev pub place_value : List Open → Token → Option (Place × List Open)
place_value os (Token.null at) = Some (After, os)
place_value os (Token.truth at b) = Some (After, os)
place_value os (Token.number at s) = Some (After, os)
place_value os (Token.text q) = Some (After, os)
place_value os (Token.open_list at) = Some (FreshList, OfList ∷ os)
place_value os (Token.open_map at) = Some (FreshMap, OfMap ∷ os)
place_value os t = None

abbrev pub place_fresh_list : List Open → Token → Option (Place × List Open)
place_fresh_list os Token.close_list = Some (After, outer os)
place_fresh_list os t = place_value os t

abbrev pub place_fresh_map : List Open → Token → Option (Place × List Open)
place_fresh_map os Token.close_map = Some (After, outer os)
place_fresh_map os (Token.text q) = Some (Colon, os)
place_fresh_map os t = None

abbrev pub place_name : List Open → Token → Option (Place × List Open)
place_name os (Token.text q) = Some (Colon, os)
place_name os t = None

abbrev pub place_colon : List Open → Token → Option (Place × List Open)
place_colon os Token.colon = Some (Value, os)
place_colon os t = None

abbrev pub place_after : Open → List Open → Token → Option (Place × List Open)
place_after OfList os Token.close_list = Some (After, os)
place_after OfList os Token.comma = Some (Value, OfList ∷ os)
place_after OfMap os Token.close_map = Some (After, os)
place_after OfMap os Token.comma = Some (Name, OfMap ∷ os)
place_after o os t = None

-- the token that opens it
abbrev pub opening : ℕ → Open → Token
opening at OfList = Token.open_list at
opening at OfMap = Token.open_map at

-- the token that closes it
abbrev pub closing : Open → Token
closing OfList = Token.close_list
closing OfMap = Token.close_map

-- where a token leads to, and what is open then
abbrev pub place_step : Place → List Open → Token → Option (Place × List Open)
place_step Value os t = place_value os t
place_step FreshList os t = place_fresh_list os t
place_step FreshMap os t = place_fresh_map os t
place_step Name os t = place_name os t
place_step Colon os t = place_colon os t
place_step After [] t = None
place_step After (o ∷ os) t = place_after o os t

-- the token led to that place, or can't come, and these are open then
abbrev pub Leads : Option (Place × List Open) → List Open → Option Place → Type 0
Leads x os None = x ≡ None
Leads x os (Some p) = x ≡ Some (p, os)

abbrev pub is_outside : List Open → Bool
is_outside [] = true
is_outside (o ∷ os) = false

-- the text may end there
abbrev pub place_end : Place → List Open → Bool
place_end After os = is_outside os
place_end p os = false
