-- The laws of texts, of characters and of nothing.
use Rattle.std.specs.Prelude.{◌≡◌, ℕ, List, Some, Bool, true, Option, None, Ok, Err, false}
use Rattle.std.specs.Option.{ok_or}
use Rattle.std.proofs.Common.{refl, ap, arith}
use Rattle.sw_tree.specs.Kinds.{has}
use Rattle.sw_tree.specs.Meaning.{Meaning, nothing}
use Rattle.sw_tree.specs.Proper.{IsNodeTree}
use Rattle.sw_tree.specs.Meant.{IsText, IsCharText, IsNothing}
use Rattle.sw_tree.specs.Tree.{Tree, text_at, kind_of}
use Rattle.sw_tree.specs.Tree as node
use Rattle.sw_tree.specs.declared.mode.Mode.{Mode}
use Rattle.sw_tree.specs.declared.mode.WireKind.{WireKind}
use Rattle.sw_tree.specs.declared.mode.WireKind.TheVariants.{Json, Compact}
use Rattle.sw_tree.specs.declared.mode.Place.{Place}
use Rattle.sw_tree.specs.declared.mode.Place.TheVariants.{Value, Key}
use Rattle.sw_tree.specs.declared.mode.Kind.{Kind}
use Rattle.sw_tree.specs.declared.mode.Kind.TheVariants as kind
use Rattle.sw_tree.specs.declared.fail.DeError.{DeError}
use Rattle.sw_tree.specs.declared.fail.DeError.TheVariants as fail
use Rattle.sw_check.specs.Facts.{claims_at}
use Rattle.sw_check.specs.declared.class.TextClass.{TextClass}
use Rattle.sw_elem.specs.Equations.{own_spot}
use Rattle.sw_elem.specs.Facts.{only, stands, text_facts, nothing_facts}
use Rattle.sw_elem.specs.Lawful.{LawfulLeaf, same_norm}
use Rattle.sw_elem.specs.Text.{LawfulText}
use Rattle.sw_elem.specs.Strings.{texted_writes, texted_reads, text_writes, text_reads, character_reads, nothing_reads, nothing_of, nothing_writes}
use Rattle.sw_elem.specs.Laws.Leaf.{IsBack, IsLeaf, everywhere_read, keeps_leaf}
use Rattle.sw_elem.specs.Laws.Takes.{read_kind, takes_spots, read_taken}
use Rattle.sw_elem.specs.Laws.Text.{text_lawful, character_lawful}

-- ---- texts, and what they stand for
text_kind : (t : Tree) (s : List ℕ) → text_at t ≡ Some s → kind_of t ≡ kind.Text
text_kind (node.text r) s h = refl
text_kind _ s h = absurd (cc)

-- by the law of the text, where what doesn't parse isn't refused for its kind
module _ {P : Meaning → Type 0} {shows : Meaning → List ℕ} {parses : List ℕ → Option Meaning} {class : TextClass} (law : LawfulText P shows parses class) (e : DeError) (never : (k : Kind) → e ≡ fail.InvalidType k → ⊥) where
  texted_node : Meaning → Tree
  texted_node v = node.text (shows v)

  texted_written : (m : Mode) (v : Meaning) → texted_writes shows m v ≡ Ok (texted_node v)
  unfolding texted_node
  texted_written m v = refl

  texted_claimed : (v : Meaning) → P v → (w : WireKind) (p : Place) (b : Bool) → IsBack (texted_reads parses e) (record { wire = w; place = p; buffered = b }) (node.text (shows v)) v
  texted_claimed v h Compact p b = (node.text (shows v), refl, rw (law.shown v h) refl)
  texted_claimed v h Json Value b = (node.text (shows v), refl, rw (law.shown v h) refl)
  texted_claimed v h Json Key b = (node.text (shows v), refl, rw (law.shown v h) refl)

  texted_back : (m : Mode) → claims_at (stands true true) m ≡ true → (v : Meaning) → P v → IsBack (texted_reads parses e) m (texted_node v) v
  unfolding texted_node
  texted_back m c v h = texted_claimed v h m.wire m.place m.buffered

  texted_is : (v : Meaning) → P v → has (only kind.Text) (kind_of (texted_node v)) ≡ true
  unfolding texted_node
  texted_is v h = refl

  texted_nodes : (v : Meaning) → P v → IsNodeTree (texted_node v)
  unfolding texted_node
  texted_nodes v h = record { proper = law.utf8 v h; shallow = omega arith }

  not_kind : (o : Option Meaning) (k : Kind) → ok_or o e ≡ Err (fail.InvalidType k) → ⊥
  not_kind (Some v) k p = cc
  not_kind None k p = never k cc

  texted_leaf : IsLeaf P (texted_writes shows) (texted_reads parses e) own_spot text_facts texted_node
  texted_leaf = record {
    writing = texted_written;
    back = texted_back;
    written = texted_is;
    nodes = texted_nodes;
    read = λ m t v p. everywhere_read (only kind.Text) (stands true true) m (kind_of t) (ap (has (only kind.Text)) (read_kind text_at (λ s. ok_or (parses s) e) kind.Text text_kind t v p));
    spots = takes_spots (λ m. text_at) (λ s. ok_or (parses s) e) (λ s k p. not_kind (parses s) k p);
  }

  pub texted_keeps : LawfulLeaf P (texted_writes shows) (texted_reads parses e) own_spot text_facts same_norm (Unit {0})
  texted_keeps = keeps_leaf P (texted_writes shows) (texted_reads parses e) own_spot text_facts texted_node texted_leaf

pub text_keeps : LawfulLeaf IsText text_writes text_reads own_spot text_facts same_norm (Unit {0})
text_keeps = texted_keeps text_lawful fail.InvalidValue (λ k p. absurd (cc))

pub character_keeps : LawfulLeaf IsCharText text_writes character_reads own_spot text_facts same_norm (Unit {0})
character_keeps = texted_keeps character_lawful fail.InvalidValue (λ k p. absurd (cc))

-- ---- nothing
nothing_node : Meaning → Tree
nothing_node v = node.null

nothing_claimed : (w : WireKind) (p : Place) (b : Bool) → claims_at (stands false false) (record { wire = w; place = p; buffered = b }) ≡ true →
    IsBack nothing_reads (record { wire = w; place = p; buffered = b }) node.null nothing
nothing_claimed Compact p b h = (node.null, refl, refl)
nothing_claimed Json Value b h = (node.null, refl, refl)
nothing_claimed Json Key true h = absurd (cc)
nothing_claimed Json Key false h = absurd (cc)

nothing_back : (m : Mode) → claims_at (stands false false) m ≡ true → (v : Meaning) → IsNothing v → IsBack nothing_reads m (nothing_node v) v
unfolding nothing_node
nothing_back m c nothing h = nothing_claimed m.wire m.place m.buffered c
nothing_back m c _ h = absurd h

null_alone : (k : Kind) (v : Meaning) → nothing_of k ≡ Some v → has (only kind.Null) k ≡ true
null_alone kind.Null v p = refl
null_alone _ v p = absurd (cc)

null_read : (m : Mode) (t : Tree) (v : Meaning) → nothing_reads m t ≡ Ok v → has (only kind.Null) (kind_of t) ≡ true
null_read m t v p = let q = read_taken (λ u. nothing_of (kind_of u)) (λ x. Ok x) t v p in null_alone (kind_of t) q.0 q.1

nothing_written : (m : Mode) (v : Meaning) → nothing_writes m v ≡ Ok (nothing_node v)
unfolding nothing_node
nothing_written m v = refl

nothing_is : (v : Meaning) → IsNothing v → has (only kind.Null) (kind_of (nothing_node v)) ≡ true
unfolding nothing_node
nothing_is v h = refl

nothing_nodes : (v : Meaning) → IsNothing v → IsNodeTree (nothing_node v)
unfolding nothing_node
nothing_nodes v h = record { proper = tt; shallow = omega arith }

nothing_leaf : IsLeaf IsNothing nothing_writes nothing_reads own_spot nothing_facts nothing_node
nothing_leaf = record {
  writing = nothing_written;
  back = nothing_back;
  written = nothing_is;
  nodes = nothing_nodes;
  read = λ m t v p. everywhere_read (only kind.Null) (stands false false) m (kind_of t) (null_read m t v p);
  spots = takes_spots (λ m u. nothing_of (kind_of u)) (λ (x : Meaning). Ok x) (λ x k p. cc);
}

pub nothing_keeps : LawfulLeaf IsNothing nothing_writes nothing_reads own_spot nothing_facts same_norm (Unit {0})
nothing_keeps = keeps_leaf IsNothing nothing_writes nothing_reads own_spot nothing_facts nothing_node nothing_leaf
