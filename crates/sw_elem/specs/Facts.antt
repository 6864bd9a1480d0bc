-- What is known of the types that write and read themselves.
use Rattle.std.specs.Prelude.{Bool, ◌||◌, true, false}
use Rattle.sw_tree.specs.Kinds.{is_kind}
use Rattle.sw_tree.specs.declared.kinds.Kinds.{Kinds}
use Rattle.sw_tree.specs.declared.mode.Kind.{Kind}
use Rattle.sw_tree.specs.declared.mode.Kind.TheVariants as kind
use Rattle.sw_check.specs.declared.facts.Claims.{Claims}
use Rattle.sw_check.specs.declared.facts.Facts.{Facts}
use Rattle.sw_check.specs.declared.grade.Grade.{Grade}
use Rattle.sw_check.specs.declared.grade.Grade.TheVariants.{Exact}

-- that kind alone
abbrev pub only : Kind → Kinds
only k = record {
  null = is_kind k kind.Null;
  truth = is_kind k kind.Bool;
  int = is_kind k kind.Int;
  text = is_kind k kind.Text;
  bytes = is_kind k kind.Bytes;
  list = is_kind k kind.List;
  map = is_kind k kind.Map;
}

-- those kinds, and that one
abbrev pub with_kind : Kinds → Kind → Kinds
with_kind s k = record {
  null = is_kind k kind.Null || s.null;
  truth = is_kind k kind.Bool || s.truth;
  int = is_kind k kind.Int || s.int;
  text = is_kind k kind.Text || s.text;
  bytes = is_kind k kind.Bytes || s.bytes;
  list = is_kind k kind.List || s.list;
  map = is_kind k kind.Map || s.map;
}

-- one kind and another
abbrev pub either : Kind → Kind → Kinds
either k j = with_kind (only k) j

abbrev pub all_but_bytes : Kinds
all_but_bytes = record { null = true; truth = true; int = true; text = true; bytes = false; list = true; map = true }

-- as values and on the compact wire; as keys of JSON, and as buffered keys, where it is said
abbrev pub stands : Bool → Bool → Claims
stands key buffered_key = record { value = true; buffered_value = true; key = key; buffered_key = buffered_key; compact = true }

-- those kinds written, and those read, in every mode
abbrev pub told : Kinds → Kinds → Claims → Grade → Facts
told written read c g = record { claims = c; written = written; read_value = read; read_key = read; read_buffered_key = read; grade = g }

-- those kinds, written and read in every mode
abbrev pub everywhere : Kinds → Claims → Facts
everywhere ks c = told ks ks c Exact

-- that kind, for which a text may stand as a key of JSON that isn't buffered; as a buffered key it doesn't stand
abbrev pub keyed : Kind → Grade → Facts
keyed k g = record { claims = stands true false; written = only k; read_value = only k; read_key = either k kind.Text; read_buffered_key = only k; grade = g }

abbrev pub number_facts : Facts
number_facts = keyed kind.Int Exact

abbrev pub truth_facts : Facts
truth_facts = keyed kind.Bool Exact

-- of texts, and of characters by their texts
abbrev pub text_facts : Facts
text_facts = everywhere (only kind.Text) (stands true true)

abbrev pub nothing_facts : Facts
nothing_facts = everywhere (only kind.Null) (stands false false)

abbrev pub any_facts : Facts
any_facts = everywhere all_but_bytes (stands false false)
