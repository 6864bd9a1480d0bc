-- A raw tree: what bytes spell on a wire, before it is asked whether a node can be that tree. Each node has the offset of its first byte.
use Rattle.std.specs.Prelude.{ℕ, ℤ, List, Bool, Option}

mutual
  pub data Raw : Type 0 where
    null : ℕ → Raw
    truth : ℕ → Bool → Raw
    -- a number, by its value where it is a whole one from -2^127 to 2^128 - 1
    number : ℕ → Option ℤ → Raw
    text : ℕ → List ℕ → Raw
    bytes : ℕ → List ℕ → Raw
    list : ℕ → RawItems → Raw
    map : ℕ → RawEntries → Raw

  pub data RawItems : Type 0 where
    no_items : RawItems
    item : Raw → RawItems → RawItems

  -- of each entry the key and the value; a key may come again
  pub data RawEntries : Type 0 where
    no_entries : RawEntries
    entry : Raw → Raw → RawEntries → RawEntries
