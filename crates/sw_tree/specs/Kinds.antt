-- Sets of kinds.
use Rattle.std.specs.Prelude.{Bool, true, false}
use Rattle.sw_tree.specs.declared.mode.Kind.{Kind}
use Rattle.sw_tree.specs.declared.mode.Kind.TheVariants as kind
use Rattle.sw_tree.specs.declared.kinds.Kinds.{Kinds}

-- whether the kind is in the set
abbrev pub has : Kinds → Kind → Bool
has s kind.Null = s.null
has s kind.Bool = s.truth
has s kind.Int = s.int
has s kind.Text = s.text
has s kind.Bytes = s.bytes
has s kind.List = s.list
has s kind.Map = s.map

-- whether two kinds are the same
abbrev pub is_kind : Kind → Kind → Bool
is_kind kind.Null kind.Null = true
is_kind kind.Bool kind.Bool = true
is_kind kind.Int kind.Int = true
is_kind kind.Text kind.Text = true
is_kind kind.Bytes kind.Bytes = true
is_kind kind.List kind.List = true
is_kind kind.Map kind.Map = true
is_kind _ _ = false
