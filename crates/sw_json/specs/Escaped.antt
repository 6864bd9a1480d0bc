-- How long the texts with escapes are together, in bytes of UTF-8.
use Rattle.std.specs.Prelude.{ℕ, length, if◌then◌else◌, ◌+◌}
use Rattle.sw_json.specs.Token.{Quote}
use Rattle.sw_json.specs.Raw.{text, Raw, null, truth, number, list, map, RawItems, no_items, item, RawEntries, no_entries, entry}
use Rattle.sw_json.specs.Quoted.{has_escape}

-- of a text, whose spelling may hold a backslash
abbrev pub quote_escaped : Quote → ℕ
quote_escaped q = if has_escape q.spelling then length q.text else 0

-- of a tree, names included
abbrev mutual
  pub escaped : Raw → ℕ
  escaped (null at) = 0
  escaped (truth at b) = 0
  escaped (number at s) = 0
  escaped (text q) = quote_escaped q
  escaped (list at rs) = items_escaped rs
  escaped (map at es) = entries_escaped es

  pub items_escaped : RawItems → ℕ
  items_escaped no_items = 0
  items_escaped (item r rs) = escaped r + items_escaped rs

  pub entries_escaped : RawEntries → ℕ
  entries_escaped no_entries = 0
  entries_escaped (entry q r es) = quote_escaped q + escaped r + entries_escaped es
