-- The laws of whole numbers, at a type of any range, and of truth values.
use Rattle.std.specs.Prelude.{◌≡◌, ℕ, List, Bool, true, false, if◌then◌else◌, Some, None, Option, Ok, Result, ℤ, Err}
use Rattle.std.specs.Option.{option_or, option_and_then, ok_or}
use Rattle.std.specs.Fmt.{signed_decimal}
use Rattle.std.proofs.Common.{refl, ap, ◌∙◌, sym, subst, arith}
use Rattle.sw_tree.specs.Image.{bool_text}
use Rattle.sw_tree.specs.Kinds.{has}
use Rattle.sw_tree.specs.Meaning.{Meaning, number, truth}
use Rattle.sw_tree.specs.Meant.{IsTruth}
use Rattle.sw_tree.specs.Number.{key_number, IsInRange}
use Rattle.sw_tree.specs.Proper.{IsNodeTree}
use Rattle.sw_tree.specs.Steps.{bind}
use Rattle.sw_tree.specs.Tree.{Tree, kind_of, int_at, truth_at}
use Rattle.sw_tree.specs.Tree as node
use Rattle.sw_tree.specs.declared.mode.Mode.{Mode}
use Rattle.sw_tree.specs.declared.mode.WireKind.{WireKind}
use Rattle.sw_tree.specs.declared.mode.WireKind.TheVariants.{Json, Compact}
use Rattle.sw_tree.specs.declared.mode.Place.{Place}
use Rattle.sw_tree.specs.declared.mode.Place.TheVariants.{Value, Key}
use Rattle.sw_tree.specs.declared.mode.Kind.{Kind}
use Rattle.sw_tree.specs.declared.mode.Kind.TheVariants as kind
use Rattle.sw_tree.specs.declared.fail.DeError.{DeError}
use Rattle.sw_tree.specs.declared.fail.DeError.TheVariants as fail
use Rattle.sw_tree.specs.Laws.Number.{key_number-signed_decimal}
use Rattle.sw_check.specs.Facts.{read_at, claims_at}
use Rattle.sw_check.specs.declared.grade.Grade.{Grade}
use Rattle.sw_check.specs.declared.grade.Grade.TheVariants.{Exact}
use Rattle.sw_elem.specs.Equations.{own_spot}
use Rattle.sw_elem.specs.Facts.{keyed, only, either, stands, number_facts, truth_facts}
use Rattle.sw_elem.specs.KeyPlace.{is_plain_key, key_text, keyed_at, keyed_reads}
use Rattle.sw_elem.specs.Lawful.{LawfulLeaf, same_norm}
use Rattle.sw_elem.specs.Integer.{IsInteger}
use Rattle.sw_elem.specs.Numbers.{number_writes, ranged_or_invalid, number_reads, ranged}
use Rattle.sw_elem.specs.Truths.{truth_writes, truth_reads, truth_named}
use Rattle.sw_elem.specs.Laws.Leaf.{IsBack, IsLeaf, keeps_leaf}
use Rattle.sw_elem.specs.Laws.Numbers.{wide_range}
use Rattle.sw_elem.specs.Laws.Takes.{read_taken, takes_spots}

-- ---- the kinds that are read
plain_text : (b : Bool) (s q : List ℕ) → (if b then Some s else None) ≡ Some q → b ≡ true
plain_text true s q h = refl
plain_text false s q h = absurd (cc)

-- a text stands for something in that place alone
key_texted : (m : Mode) (t : Tree) (q : List ℕ) → key_text m t ≡ Some q → (kind_of t ≡ kind.Text) × (is_plain_key m ≡ true)
key_texted m (node.text s) q h = (refl, plain_text (is_plain_key m) s q h)
key_texted m _ q h = absurd (cc)

text_read : (k : Kind) (g : Grade) (w : WireKind) (p : Place) (b : Bool) → is_plain_key (record { wire = w; place = p; buffered = b }) ≡ true → has (read_at (keyed k g) (record { wire = w; place = p; buffered = b })) kind.Text ≡ true
text_read k g Json Key false h = refl
text_read k g Json Key true h = absurd (cc)
text_read k g Json Value b h = absurd (cc)
text_read k g Compact Value b h = absurd (cc)
text_read k g Compact Key b h = absurd (cc)

module _ (k : Kind) (grade : Grade) (only_has : has (only k) k ≡ true) (either_has : has (either k kind.Text) k ≡ true) where
  own_read : (w : WireKind) (p : Place) (b : Bool) → has (read_at (keyed k grade) (record { wire = w; place = p; buffered = b })) k ≡ true
  own_read Json Value b = only_has
  own_read Json Key false = either_has
  own_read Json Key true = only_has
  own_read Compact p b = only_has

  module _ {A : Type 0} (own : Tree → Option A) (named : List ℕ → Option A) (is : (t : Tree) (x : A) → own t ≡ Some x → kind_of t ≡ k) where
    by_parts : (m : Mode) (t : Tree) (o : Option A) (s : Option (List ℕ)) (x : A) →
        own t ≡ o → key_text m t ≡ s → option_or o (option_and_then named s) ≡ Some x → has (read_at (keyed k grade) m) (kind_of t) ≡ true
    by_parts m t (Some y) s x h q p = ap (has (read_at (keyed k grade) m)) (is t y h) ∙ own_read m.wire m.place m.buffered
    by_parts m t None (Some s) x h q p = let c = key_texted m t s q in ap (has (read_at (keyed k grade) m)) c.0 ∙ text_read k grade m.wire m.place m.buffered c.1
    by_parts m t None None x h q p = absurd (cc)

    keyed_read : (g : A → Result Meaning DeError) (m : Mode) (t : Tree) (v : Meaning) → bind (keyed_reads own named m t) g ≡ Ok v → has (read_at (keyed k grade) m) (kind_of t) ≡ true
    keyed_read g m t v p = let q = read_taken (keyed_at own named m) g t v p in by_parts m t (own t) (key_text m t) q.0 refl refl q.1

-- ---- whole numbers
number_node : Meaning → Tree
number_node (number n) = node.int n
number_node v = node.null

number_written : (m : Mode) (v : Meaning) → number_writes m v ≡ Ok (number_node v)
unfolding number_node
number_written m (number n) = refl
number_written m _ = refl

int_kind : (t : Tree) (n : ℤ) → int_at t ≡ Some n → kind_of t ≡ kind.Int
int_kind (node.int n) k h = refl
int_kind _ k h = absurd (cc)

ranged_never : (o : Option Meaning) (k : Kind) → ok_or o fail.InvalidValue ≡ Err (fail.InvalidType k) → ⊥
ranged_never (Some v) k p = cc
ranged_never None k p = cc

module _ (fits : ℤ → Bool) (n : ℤ) (inside : fits n ≡ true) (r : IsInRange n) where
  in_range : ranged_or_invalid fits n ≡ Ok (number n)
  in_range = rw inside refl

  spelled : bind (ok_or (option_or None (key_number (signed_decimal n))) (fail.InvalidType kind.Text)) (ranged_or_invalid fits) ≡ Ok (number n)
  spelled = ap (λ (o : Option ℤ). bind (ok_or (option_or None o) (fail.InvalidType kind.Text)) (ranged_or_invalid fits)) (key_number-signed_decimal n r) ∙ in_range

  number_claimed : (w : WireKind) (p : Place) (b : Bool) → claims_at (stands true false) (record { wire = w; place = p; buffered = b }) ≡ true →
      IsBack (number_reads fits) (record { wire = w; place = p; buffered = b }) (node.int n) (number n)
  number_claimed Compact p b h = (node.int n, refl, in_range)
  number_claimed Json Value b h = (node.int n, refl, in_range)
  number_claimed Json Key false h = (node.text (signed_decimal n), refl, spelled)
  number_claimed Json Key true h = absurd (cc)

module _ (signed : Bool) (fits : ℤ → Bool) (P : Meaning → Type 0) (law : IsInteger signed fits P) where
  number_back : (m : Mode) → claims_at (stands true false) m ≡ true → (v : Meaning) → P v → IsBack (number_reads fits) m (number_node v) v
  unfolding number_node
  number_back m c v h =
      let n = law.numbers v h in
      let r = wide_range signed n.0 (law.wide n.0 n.2) in
      subst (λ (u : Meaning). IsBack (number_reads fits) m (number_node u) u) (sym n.1) (number_claimed fits n.0 n.2 r m.wire m.place m.buffered c)

  number_kind : (v : Meaning) → P v → has (only kind.Int) (kind_of (number_node v)) ≡ true
  unfolding number_node
  number_kind v h = let n = law.numbers v h in ap (λ (u : Meaning). has (only kind.Int) (kind_of (number_node u))) n.1

  number_nodes : (v : Meaning) → P v → IsNodeTree (number_node v)
  unfolding number_node
  number_nodes v h =
      let n = law.numbers v h in
      let is : IsNodeTree (node.int n.0) = record { proper = wide_range signed n.0 (law.wide n.0 n.2); shallow = omega arith } in
      subst (λ (u : Meaning). IsNodeTree (number_node u)) (sym n.1) is

  number_leaf : IsLeaf P number_writes (number_reads fits) own_spot number_facts number_node
  number_leaf = record {
    writing = number_written;
    back = number_back;
    written = number_kind;
    nodes = number_nodes;
    read = λ m t v p. keyed_read kind.Int Exact refl refl int_at key_number int_kind (ranged_or_invalid fits) m t v p;
    spots = takes_spots (keyed_at int_at key_number) (ranged_or_invalid fits) (λ n k p. ranged_never (ranged fits n) k p);
  }

  -- numbers of any range keep the laws of a leaf
  pub number_keeps : LawfulLeaf P number_writes (number_reads fits) own_spot number_facts same_norm (Unit {0})
  number_keeps = keeps_leaf P number_writes (number_reads fits) own_spot number_facts number_node number_leaf

-- ---- truth values
truth_node : Meaning → Tree
truth_node (truth b) = node.truth b
truth_node v = node.null

truth_written : (m : Mode) (v : Meaning) → truth_writes m v ≡ Ok (truth_node v)
unfolding truth_node
truth_written m (truth b) = refl
truth_written m _ = refl

truth_kind : (t : Tree) (b : Bool) → truth_at t ≡ Some b → kind_of t ≡ kind.Bool
truth_kind (node.truth b) k h = refl
truth_kind _ k h = absurd (cc)

truth_claimed : (t : Bool) (w : WireKind) (p : Place) (b : Bool) → claims_at (stands true false) (record { wire = w; place = p; buffered = b }) ≡ true →
    IsBack truth_reads (record { wire = w; place = p; buffered = b }) (node.truth t) (truth t)
truth_claimed t Compact p b h = (node.truth t, refl, refl)
truth_claimed t Json Value b h = (node.truth t, refl, refl)
truth_claimed true Json Key false h = (node.text (bool_text true), refl, refl)
truth_claimed false Json Key false h = (node.text (bool_text false), refl, refl)
truth_claimed t Json Key true h = absurd (cc)

truth_back : (m : Mode) → claims_at (stands true false) m ≡ true → (v : Meaning) → IsTruth v → IsBack truth_reads m (truth_node v) v
unfolding truth_node
truth_back m c (truth b) h = truth_claimed b m.wire m.place m.buffered c
truth_back m c _ h = absurd h

truth_is : (v : Meaning) → IsTruth v → has (only kind.Bool) (kind_of (truth_node v)) ≡ true
unfolding truth_node
truth_is (truth b) h = refl
truth_is _ h = absurd h

truth_nodes : (v : Meaning) → IsTruth v → IsNodeTree (truth_node v)
unfolding truth_node
truth_nodes (truth b) h = record { proper = tt; shallow = omega arith }
truth_nodes _ h = absurd h

truth_leaf : IsLeaf IsTruth truth_writes truth_reads own_spot truth_facts truth_node
truth_leaf = record {
  writing = truth_written;
  back = truth_back;
  written = truth_is;
  nodes = truth_nodes;
  read = λ m t v p. keyed_read kind.Bool Exact refl refl truth_at truth_named truth_kind (λ b. Ok (truth b)) m t v p;
  spots = takes_spots (keyed_at truth_at truth_named) (λ (b : Bool). Ok (truth b)) (λ b k p. cc);
}

pub truth_keeps : LawfulLeaf IsTruth truth_writes truth_reads own_spot truth_facts same_norm (Unit {0})
truth_keeps = keeps_leaf IsTruth truth_writes truth_reads own_spot truth_facts truth_node truth_leaf
