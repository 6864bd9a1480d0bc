-- What stands at the front of bytes, computed: a length, a number, the head of a node.
use Rattle.std.specs.Prelude.{ℕ, List, [], ◌∷◌, ◌+◌, ◌-◌, ◌*◌, ◌^◌, ◌==◌, ◌&&◌, Bool, true, false, zero, suc, nat_le, nat_lt, if◌then◌else◌, pos, negsuc, length, take, drop, Option, Some, None, option_map, option_and_then}
use Rattle.std.specs.Int.{from_be_bytes, w64}
use Rattle.std.specs.List.{list_all}
use Rattle.std.specs.Str.{is_utf8}
use Rattle.sw_tree.specs.Tree.{Tree, null, truth, int, text, bytes}
use Rattle.sw_compact.specs.declared.version.Version.{Version}
use Rattle.sw_compact.specs.declared.version.Version.TheVariants.{One, Two}

-- what a node begins with: all of a node without parts, or the opening of a map, or a list, of so many parts, a map's keys and values counted
pub data Head : Type 0 where
  leaf : Tree → Head
  opens : Bool → ℕ → Head

-- a number or a list of bytes, or a head, and what is behind it
abbrev pub Front : Type 0 → Type 0
Front A = Option (A × List ℕ)

abbrev pub is_byte : ℕ → Bool
is_byte b = nat_lt b 256

-- so many bytes in front
abbrev pub split : ℕ → List ℕ → Front (List ℕ)
split n b = if nat_le n (length b) && list_all is_byte (take n b) then Some (take n b, drop n b) else None

-- ---- lengths and counts
-- the number with a group below it that isn't the last: then it isn't 0, and stays below 2^64
abbrev pub lengthened : ℕ → ℕ × List ℕ → Front ℕ
lengthened b x = if nat_lt 0 x.0 && nat_lt x.0 (2 ^ 57) then Some (b - 128 + 128 * x.0, x.1) else None

-- groups of seven bits, at most so many
abbrev pub groups_front : ℕ → List ℕ → Front ℕ
groups_front zero b = None
groups_front (suc m) [] = None
groups_front (suc m) (b ∷ bs) = if nat_lt b 128 then Some (b, bs) else (if nat_lt b 256 then option_and_then (lengthened b) (groups_front m bs) else None)

abbrev pub length_front : Version → List ℕ → Front ℕ
length_front One b = option_map (λ x. (from_be_bytes w64 x.0, x.1)) (split 8 b)
length_front Two b = groups_front 10 b

-- ---- numbers
-- the number of these bytes behind a number, the highest first
abbrev pub value_from : ℕ → List ℕ → ℕ
value_from n [] = n
value_from n (b ∷ bs) = value_from (256 * n + b) bs

-- the first of them isn't zero
abbrev pub is_minimal : List ℕ → Bool
is_minimal [] = true
is_minimal (b ∷ bs) = nat_lt 0 b

abbrev pub minimal : List ℕ × List ℕ → Front ℕ
minimal x = if is_minimal x.0 then Some (value_from 0 x.0, x.1) else None

-- a count of at most 16, and that many bytes
abbrev pub number_front : List ℕ → Front ℕ
number_front [] = None
number_front (k ∷ b) = if nat_le k 16 then option_and_then minimal (split k b) else None

-- ---- heads
abbrev pub negative : ℕ × List ℕ → Front Head
negative x = if nat_lt x.0 (2 ^ 127) then Some (leaf (int (negsuc x.0)), x.1) else None

abbrev pub textual : List ℕ × List ℕ → Front Head
textual x = if is_utf8 x.0 then Some (leaf (text x.0), x.1) else None

-- no more parts than there are bytes left
abbrev pub opening : Bool → ℕ → List ℕ → Front Head
opening m n b = if nat_le n (length b) then Some (opens m n, b) else None

-- the head at the front, by its tag
unfoldable pub head : Version → List ℕ → Front Head
head v [] = None
head v (tag ∷ b) =
    if tag == 0 then Some (leaf null, b)
    else (if tag == 1 then Some (leaf (truth false), b)
    else (if tag == 2 then Some (leaf (truth true), b)
    else (if tag == 3 then option_map (λ x. (leaf (int (pos x.0)), x.1)) (number_front b)
    else (if tag == 4 then option_and_then negative (number_front b)
    else (if tag == 5 then option_and_then textual (option_and_then (λ x. split x.0 x.1) (length_front v b))
    else (if tag == 6 then option_map (λ x. (leaf (bytes x.0), x.1)) (option_and_then (λ x. split x.0 x.1) (length_front v b))
    else (if tag == 7 then option_and_then (λ x. opening false x.0 x.1) (length_front v b)
    else (if tag == 8 then option_and_then (λ x. opening true (x.0 + x.0) x.1) (length_front v b)
    else None))))))))
