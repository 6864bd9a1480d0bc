-- A JSON raw tree as a raw tree of any wire: each number by its value, each text and name by what its spelling stands for.
use Rattle.sw_tree.specs.Number.{key_number}
use Rattle.sw_tree.specs.Raw as shape
use Rattle.sw_json.specs.Token.{Quote}
use Rattle.sw_json.specs.Raw.{Raw, text, null, truth, number, list, map, RawItems, no_items, item, RawEntries, no_entries, entry}

abbrev pub quote_shape : Quote → shape.Raw
quote_shape q = shape.text q.at q.text

abbrev mutual
  pub shape_of : Raw → shape.Raw
  shape_of (null at) = shape.null at
  shape_of (truth at b) = shape.truth at b
  -- the value is that of a number without fraction and exponent
  shape_of (number at s) = shape.number at (key_number s)
  shape_of (text q) = quote_shape q
  shape_of (list at rs) = shape.list at (items_shape rs)
  shape_of (map at es) = shape.map at (entries_shape es)

  pub items_shape : RawItems → shape.RawItems
  items_shape no_items = shape.no_items
  items_shape (item r rs) = shape.item (shape_of r) (items_shape rs)

  pub entries_shape : RawEntries → shape.RawEntries
  entries_shape no_entries = shape.no_entries
  entries_shape (entry q r es) = shape.entry (quote_shape q) (shape_of r) (entries_shape es)
