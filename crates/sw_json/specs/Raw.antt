-- A raw tree: each node has the offset of its first byte, and numbers and texts have their spelling.
use Rattle.std.specs.Prelude.{ℕ, List, Bool, ◌∷◌}
use Rattle.sw_json.specs.Token.{Quote, Token}

mutual
  pub data Raw : Type 0 where
    null : ℕ → Raw
    truth : ℕ → Bool → Raw
    number : ℕ → List ℕ → Raw
    text : Quote → Raw
    list : ℕ → RawItems → Raw
    map : ℕ → RawEntries → Raw

  pub data RawItems : Type 0 where
    no_items : RawItems
    item : Raw → RawItems → RawItems

  -- of each entry the name and the value; a name may come again
  pub data RawEntries : Type 0 where
    no_entries : RawEntries
    entry : Quote → Raw → RawEntries → RawEntries

-- the tokens of a raw tree, and then the rest (RFC 8259, section 3)
abbrev mutual
  pub tokens : Raw → List Token → List Token
  tokens (null at) rest = Token.null at ∷ rest
  tokens (truth at b) rest = Token.truth at b ∷ rest
  tokens (number at s) rest = Token.number at s ∷ rest
  tokens (text q) rest = Token.text q ∷ rest
  tokens (list at rs) rest = Token.open_list at ∷ items_tokens rs rest
  tokens (map at es) rest = Token.open_map at ∷ entries_tokens es rest

  -- section 5: a list from behind its opening bracket on
  pub items_tokens : RawItems → List Token → List Token
  items_tokens no_items rest = Token.close_list ∷ rest
  items_tokens (item r rs) rest = tokens r (more_tokens rs rest)

  -- from behind an item on
  pub more_tokens : RawItems → List Token → List Token
  more_tokens no_items rest = Token.close_list ∷ rest
  more_tokens (item r rs) rest = Token.comma ∷ tokens r (more_tokens rs rest)

  -- section 4: a map from behind its opening brace on
  pub entries_tokens : RawEntries → List Token → List Token
  entries_tokens no_entries rest = Token.close_map ∷ rest
  entries_tokens (entry q r es) rest = Token.text q ∷ Token.colon ∷ tokens r (more_entries es rest)

  -- from behind an entry on
  pub more_entries : RawEntries → List Token → List Token
  more_entries no_entries rest = Token.close_map ∷ rest
  more_entries (entry q r es) rest = Token.comma ∷ Token.text q ∷ Token.colon ∷ tokens r (more_entries es rest)
