-- The laws of an expression that is a leaf, from those of what stands there; and of a type that writes a value as the same tree in every mode.
use Rattle.std.specs.Prelude.{◌≡◌, Some, Ok, true, Bool, false, []}
use Rattle.std.proofs.Common.{refl, ap, ◌∙◌, subst}
use Rattle.sw_tree.specs.Image.{image}
use Rattle.sw_tree.specs.Meaning.{Meaning}
use Rattle.sw_tree.specs.Kinds.{has}
use Rattle.sw_tree.specs.Proper.{IsNodeTree}
use Rattle.sw_tree.specs.Tree.{Tree, kind_of}
use Rattle.sw_tree.specs.declared.kinds.Kinds.{Kinds}
use Rattle.sw_tree.specs.declared.mode.Mode.{Mode}
use Rattle.sw_tree.specs.declared.mode.WireKind.{WireKind}
use Rattle.sw_tree.specs.declared.mode.WireKind.TheVariants.{Json, Compact}
use Rattle.sw_tree.specs.declared.mode.Place.{Place}
use Rattle.sw_tree.specs.declared.mode.Place.TheVariants as place
use Rattle.sw_tree.specs.declared.mode.Kind.{Kind}
use Rattle.sw_check.specs.Form.{leaf}
use Rattle.sw_check.specs.Facts.{claims_at, read_at}
use Rattle.sw_check.specs.declared.facts.Claims.{Claims}
use Rattle.sw_check.specs.declared.facts.Facts.{Facts}
use Rattle.sw_check.specs.declared.rule.Rule.TheVariants.{S1}
use Rattle.sw_check.specs.Laws.Sound.{sound-rule}
use Rattle.sw_elem.specs.Equations.{Reads, Writes, Spots, Skips}
use Rattle.sw_elem.specs.Facts.{everywhere}
use Rattle.sw_elem.specs.Statements.{HasSpotKinds, Norm}
use Rattle.sw_elem.specs.Lawful.{LawfulLeaf, same_norm, Lawful}

-- the tree has an image in the mode, which is read as that meaning
abbrev pub IsBack : Reads → Mode → Tree → Meaning → Type 0
IsBack reads m t v = (i : Tree) × (image m.wire m.place t ≡ Some i) × (reads m i ≡ Ok v)

-- `node` gives the tree of each meaning
pub record IsLeaf (P : Meaning → Type 0) (writes : Writes) (reads : Reads) (spot : Spots) (f : Facts) (node : Meaning → Tree) : Type 0 where
  pub writing : (m : Mode) (v : Meaning) → writes m v ≡ Ok (node v)
  pub back : (m : Mode) → claims_at f.claims m ≡ true → (v : Meaning) → P v → IsBack reads m (node v) v
  pub written : (v : Meaning) → P v → has f.written (kind_of (node v)) ≡ true
  pub nodes : (v : Meaning) → P v → IsNodeTree (node v)
  pub read : (m : Mode) (t : Tree) (v : Meaning) → reads m t ≡ Ok v → has (read_at f m) (kind_of t) ≡ true
  pub spots : (m : Mode) → HasSpotKinds reads spot m

same_kinds : (ks : Kinds) (c : Claims) (w : WireKind) (p : Place) (b : Bool) → read_at (everywhere ks c) (record { wire = w; place = p; buffered = b }) ≡ ks
same_kinds ks c Json place.Value b = refl
same_kinds ks c Json place.Key true = refl
same_kinds ks c Json place.Key false = refl
same_kinds ks c Compact p b = refl

-- what is read everywhere is read in each mode
pub everywhere_read : (ks : Kinds) (c : Claims) (m : Mode) (k : Kind) → has ks k ≡ true → has (read_at (everywhere ks c) m) k ≡ true
everywhere_read ks c m k h = ap (λ (s : Kinds). has s k) (same_kinds ks c m.wire m.place m.buffered) ∙ h

module _ (P : Meaning → Type 0) (writes : Writes) (reads : Reads) (spot : Spots) (f : Facts) (node : Meaning → Tree) (is : IsLeaf P writes reads spot f node) where
  same : (m : Mode) (v : Meaning) (t : Tree) → writes m v ≡ Ok t → node v ≡ t
  same m v t p = let e = is.writing m v in cc

  -- such a type keeps the laws of a leaf
  pub keeps_leaf : LawfulLeaf P writes reads spot f same_norm (Unit {0})
  keeps_leaf = record {
    images = λ m c v t h p. let b = is.back m c v h in let e = same m v t p in (b.0, cc (ap (image m.wire m.place) e, b.1));
    back = λ u m c v t i h p q. let b = is.back m c v h in let e = same m v t p in cc (ap (image m.wire m.place) e, b.1, b.2);
    never_key = λ m c v h p. let e = is.writing m v in cc;
    written_kinds = λ m v t h p. let w = is.written v h in let e = same m v t p in cc (ap (λ u. has f.written (kind_of u)) e);
    read_kinds = is.read;
    unmarked = λ m v. cc (is.writing _ v, is.writing m v);
    exact = λ g m v h. refl;
    spot_kinds = is.spots;
    nodes = λ m v t h p. subst IsNodeTree (same m v t p) (is.nodes v h);
    norms = λ m v h. h;
  }

module _ (P : Meaning → Type 0) (writes : Writes) (reads : Reads) (spot : Spots) (skips : Skips) (f : Facts) (norm : Norm) (assumes : Type 0)
    (law : LawfulLeaf P writes reads spot f norm assumes) (passes : (m : Mode) (t : Tree) → skips m t ≡ []) where
  -- what keeps the laws of a leaf and passes nothing over is lawful under the expression that is that leaf
  pub leaf_lawful : Lawful P writes reads spot skips (leaf f) norm assumes
  leaf_lawful = record {
    images = λ m s. law.images m (sound-rule (leaf f) m s S1);
    back = λ a m s. law.back a m (sound-rule (leaf f) m s S1);
    never_key = λ m s. law.never_key m (sound-rule (leaf f) m s S1);
    written_kinds = law.written_kinds;
    read_kinds = law.read_kinds;
    unmarked = law.unmarked;
    exact = λ m g. law.exact g m;
    spot_kinds = law.spot_kinds;
    note_kinds = λ m t. rw (passes m t) tt;
    nodes = law.nodes;
    norms = law.norms;
  }
