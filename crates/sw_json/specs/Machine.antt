-- The tokens of a raw tree, read one after another: what is open, and what may come next.
use Rattle.std.specs.Prelude.{ℕ, List, Option, Some, None, ◌∷◌, [], option_and_then}
use Rattle.sw_json.specs.Token.{Quote, Token}
use Rattle.sw_json.specs.Raw.{RawItems, RawEntries, Raw, no_items, item, no_entries, entry}
use Rattle.sw_json.specs.Raw as raw

-- what is open: a list with its items up to the last comma, or a map with its entries up to there and the name at hand; with its offset
pub data Level : Type 0 where
  in_list : ℕ → RawItems → Level
  in_map : ℕ → RawEntries → Quote → Level

pub data State : Type 0 where
  -- a value comes
  value : List Level → State
  -- in a list just opened at this offset, a value or the closing bracket comes
  fresh_list : ℕ → List Level → State
  -- in a map just opened at this offset, a name or the closing brace comes
  fresh_map : ℕ → List Level → State
  -- behind a comma in a map, a name comes
  name : ℕ → RawEntries → List Level → State
  -- behind a name, the colon comes
  colon : ℕ → RawEntries → Quote → List Level → State
  -- behind a value, a comma or what closes comes, or the end
  after : Raw → List Level → State

abbrev pub push : RawItems → Raw → RawItems
push no_items r = item r no_items
push (item q qs) r = item q (push qs r)

abbrev pub enter : RawEntries → Quote → Raw → RawEntries
enter no_entries k r = entry k r no_entries
enter (entry j q es) k r = entry j q (enter es k r)

abbrev pub step_value : List Level → Token → Option State
step_value ls (Token.null at) = Some (after (raw.null at) ls)
step_value ls (Token.truth at b) = Some (after (raw.truth at b) ls)
step_value ls (Token.number at s) = Some (after (raw.number at s) ls)
step_value ls (Token.text q) = Some (after (raw.text q) ls)
step_value ls (Token.open_list at) = Some (fresh_list at ls)
step_value ls (Token.open_map at) = Some (fresh_map at ls)
step_value ls t = None

abbrev pub step_fresh_list : ℕ → List Level → Token → Option State
step_fresh_list at ls Token.close_list = Some (after (raw.list at no_items) ls)
step_fresh_list at ls t = step_value (in_list at no_items ∷ ls) t

abbrev pub step_name : ℕ → RawEntries → List Level → Token → Option State
step_name at es ls (Token.text q) = Some (colon at es q ls)
step_name at es ls t = None

abbrev pub step_fresh_map : ℕ → List Level → Token → Option State
step_fresh_map at ls Token.close_map = Some (after (raw.map at no_entries) ls)
step_fresh_map at ls t = step_name at no_entries ls t

abbrev pub step_colon : ℕ → RawEntries → Quote → List Level → Token → Option State
step_colon at es q ls Token.colon = Some (value (in_map at es q ∷ ls))
step_colon at es q ls t = None

abbrev pub step_after : Raw → Level → List Level → Token → Option State
step_after r (in_list at rs) ls Token.close_list = Some (after (raw.list at (push rs r)) ls)
step_after r (in_list at rs) ls Token.comma = Some (value (in_list at (push rs r) ∷ ls))
step_after r (in_map at es q) ls Token.close_map = Some (after (raw.map at (enter es q r)) ls)
step_after r (in_map at es q) ls Token.comma = Some (name at (enter es q r) ls)
step_after r l ls t = None

abbrev pub step : State → Token → Option State
step (value ls) t = step_value ls t
step (fresh_list at ls) t = step_fresh_list at ls t
step (fresh_map at ls) t = step_fresh_map at ls t
step (name at es ls) t = step_name at es ls t
step (colon at es q ls) t = step_colon at es q ls t
step (after r []) t = None
step (after r (l ∷ ls)) t = step_after r l ls t

abbrev pub root : State → Option Raw
root (after r []) = Some r
root s = None

-- the tree that the tokens make from here on
abbrev pub run : State → List Token → Option Raw
run s [] = root s
run s (t ∷ ts) = option_and_then (λ next. run next ts) (step s t)
