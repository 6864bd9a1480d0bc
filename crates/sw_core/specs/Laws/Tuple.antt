-- The laws of a tuple, from its parts'.
use Rattle.std.specs.Prelude.{◌≡◌, ℕ, List, [], ◌∷◌, length, ◌==◌, cond, Bool, true, false, ◌≤◌, option_map, Result, Ok, Err}
use Rattle.std.proofs.Common.{refl, ap, sym, subst, ◌∙◌, eq-eqb, eqb-true}
use Rattle.sw_tree.specs.Building.{within}
use Rattle.sw_tree.specs.Image.{image}
use Rattle.sw_tree.specs.Kinds.{is_kind}
use Rattle.sw_tree.specs.Laws.Meaning.{meanings-parts}
use Rattle.sw_tree.specs.Laws.Nodes.{IsBelow, IsOfKind, IsOwn}
use Rattle.sw_tree.specs.Laws.NodeTrees.{list-is_node}
use Rattle.sw_tree.specs.Laws.Steps.{option_traverse}
use Rattle.sw_tree.specs.Laws.Tree.{items-trees}
use Rattle.sw_tree.specs.Meaning.{Meaning, list, meanings, parts, Meanings, no_meanings, meaning}
use Rattle.sw_tree.specs.Meant.{row, AreOf, IsRowOf, IsPairOf}
use Rattle.sw_tree.specs.Mode.{at_value, marked}
use Rattle.sw_tree.specs.Nodes.{IsNoteIn}
use Rattle.sw_tree.specs.Proper.{IsNodeTree}
use Rattle.sw_tree.specs.Steps.{bind, Each}
use Rattle.sw_tree.specs.Tree.{Tree, trees, items, depth, kind_of}
use Rattle.sw_tree.specs.Tree as node
use Rattle.sw_tree.specs.declared.mode.Kind.TheVariants as kind
use Rattle.sw_tree.specs.declared.mode.Mode.{Mode}
use Rattle.sw_tree.specs.declared.mode.Place.TheVariants.{Value}
use Rattle.sw_tree.specs.declared.fail.DeError.{DeError}
use Rattle.sw_tree.specs.declared.fail.SerError.{SerError}
use Rattle.sw_tree.specs.declared.fail.DeError.TheVariants as fail
use Rattle.sw_check.specs.Form.{tuple}
use Rattle.sw_check.specs.Grade.{is_exact}
use Rattle.sw_check.specs.Laws.SoundForms.{sound-tuple}
use Rattle.sw_check.specs.Rules.{is_json_key}
use Rattle.sw_elem.specs.Equations.{LawfulReading}
use Rattle.sw_elem.specs.Lawful.{Lawful}
use Rattle.sw_elem.specs.Statements.{HasImages, ReadsBack, NeverKey, IsUnmarked, IsExact, HasSpotKinds, HasNoteKinds, WritesNodes, NormsWithin}
use Rattle.sw_core.specs.Parts.{Reading, in_mode, all_in, row_writes, row_norm}
use Rattle.sw_core.specs.Plans.{children}
use Rattle.sw_core.specs.Rows.{Reader}
use Rattle.sw_core.specs.Tuple.{tuple_writes, tuple_plan, tuple_reads, tuple_spot, tuple_skips, tuple_norm}
use Rattle.sw_core.specs.Laws.Images.{list-image, mapped_some}
use Rattle.sw_core.specs.Laws.Parts.{Read, meanings_of, readings_of, are_lawful, Kept, parts_of, are_kept, same_reading, same_keeps, HasKinds, HasNotes, AreReadings, IsInside, reading_kinds, reading_notes, all_inside, all_in-at, all_in-meant, all_in-count, Part, IsPart, EachPart, are_of, writes_of, bys_of, exprs_of, norms_of, All, parts_sound, parts_keep, parts_read, row_nodes, row_normed, IsImaged, IsReadBack, IsNeverKey, IsKept, row_imaged, row_back, row_count, row_never, row_exact, row_same, parts_back, parts_exact}
use Rattle.sw_core.specs.Laws.Plans.{RefusesItself, plan_lawful, plan_spot_kinds, plan_note_kinds}
use Rattle.sw_core.specs.Laws.Rows.{EachAt, Refuses, Notes, AreRead, row-reads}
use Rattle.sw_core.specs.Laws.Within.{within_ok, within_shallow, within_key}

-- ---- reading

pub was_made : (b : Bool) (found : ℕ) (vs : List Meaning) (v : Meaning) → cond b (Ok (row vs)) (Err (fail.InvalidLength found)) ≡ Ok v → (b ≡ true) × (row vs ≡ v)
was_made true found vs v p = (refl, cc)
was_made false found vs v p = absurd (cc)

pub own_length : (b : Bool) (found : ℕ) (vs : List Meaning) (t : Tree) (e : DeError) → cond b (Ok (row vs)) (Err (fail.InvalidLength found)) ≡ Err e → IsOwn t e
own_length true found vs t e p = absurd (cc)
own_length false found vs t e p = λ j i. absurd (cc)

module _ (xs : List Reading) where
  at_parts : (R : Reader Meaning → Tree → Type 0) (H : Reading → Type 0) (m : Mode) → ((x : Reading) → H x → (t : Tree) → R (in_mode (at_value m) x) t) → Each H xs → (t : Tree) → EachAt R (tuple_plan xs m t).readers (children t)
  at_parts R H m one h (node.list ts) = all_in-at R H (at_value m) one xs h (items ts)
  at_parts R H m one h _ = tt

  itself : RefusesItself (tuple_plan xs)
  itself m (node.list ts) vs e p = own_length (length (items ts) == length xs) (length (items ts)) vs (node.list ts) e p
  itself m _ vs e p = λ j i. cc

  meant : (Ps : List (Meaning → Type 0)) → AreReadings Ps xs → (m : Mode) (t : Tree) (vs : List Meaning) (v : Meaning) → Each IsNodeTree (children t) → AreRead (tuple_plan xs m t).readers (children t) vs →
      (tuple_plan xs m t).makes vs ≡ Ok v → IsRowOf Ps v
  meant Ps h m (node.list ts) vs v n r p =
      let c = was_made (length (items ts) == length xs) (length (items ts)) vs v p in
      let count = all_in-count (at_value m) xs (items ts) vs r (eqb-true (length (items ts)) (length xs) c.0) in
      subst (IsRowOf Ps) c.1 (all_in-meant (at_value m) Ps xs h (items ts) vs n count r)
  meant Ps h m _ vs v n r p = absurd (cc)

  pub row_lawful : (Ps : List (Meaning → Type 0)) → AreReadings Ps xs → LawfulReading (IsRowOf Ps) (tuple_reads xs) (tuple_spot xs)
  row_lawful Ps h = plan_lawful (tuple_plan xs) itself (IsRowOf Ps) (meant Ps h) (λ m. at_parts (Refuses IsBelow) (IsInside (at_value m)) m (λ x i. i) (all_inside (at_value m) Ps xs h))

  -- as many items as there are parts are read as their values
  pub items_read : (m : Mode) (i : Tree) (is : List Tree) (us : List Meaning) → i ≡ node.list (trees is) → length is ≡ length xs → AreRead (all_in (at_value m) xs) is us → tuple_reads xs m i ≡ Ok (row us)
  items_read m i is us e n r = rw (e, items-trees is, row-reads (all_in (at_value m) xs) is us r, eq-eqb (length is) (length xs) n) refl

  pub items_kind : (m : Mode) (t : Tree) (v : Meaning) → tuple_reads xs m t ≡ Ok v → is_kind kind.List (kind_of t) ≡ true
  items_kind m (node.list ts) v p = refl
  items_kind m _ v p = absurd (cc)

  pub row_spot_kinds : (m : Mode) → Each (HasKinds (at_value m)) xs → HasSpotKinds (tuple_reads xs) (tuple_spot xs) m
  row_spot_kinds m h = plan_spot_kinds (tuple_plan xs) itself m (at_parts (Refuses IsOfKind) (HasKinds (at_value m)) m (reading_kinds (at_value m)) h)

  pub row_note_kinds : (m : Mode) → Each (HasNotes (at_value m)) xs → HasNoteKinds (tuple_skips xs) m
  row_note_kinds m h = plan_note_kinds (tuple_plan xs) m (at_parts (Notes IsNoteIn) (HasNotes (at_value m)) m (reading_notes (at_value m)) h)

pub tuple_lawful : (xs : List Read) → LawfulReading (IsRowOf (meanings_of xs)) (tuple_reads (readings_of xs)) (tuple_spot (readings_of xs))
tuple_lawful xs = row_lawful (readings_of xs) (meanings_of xs) (are_lawful xs)

-- ---- writing, and reading back

abbrev make : List Tree → Tree
make ts = node.list (trees ts)

module _ (ps : List Part) where
  abbrev Is : Meaning → Type 0
  Is = IsRowOf (are_of ps)

  -- the meanings of the parts
  of_parts : (vs : Meanings) → AreOf (are_of ps) vs → AreOf (are_of ps) (meanings (parts vs))
  of_parts vs a = subst (AreOf (are_of ps)) (sym (meanings-parts vs)) a

  module _ (m : Mode) where
    abbrev written : Meanings → Result (List Tree) SerError
    written vs = row_writes (writes_of ps) (at_value m) (parts vs)

    imaged : EachPart (IsImaged (at_value m)) ps → is_json_key m.wire m.place ≡ false → HasImages Is (tuple_writes (writes_of ps)) m
    imaged h away (list vs) t a p =
        let c = within_ok make (written vs) t p in
        let z = row_imaged (at_value m) ps h (parts vs) c.0 (of_parts vs a) c.1 in
        (make z.0, list-image m.wire m.place t c.0 away c.2 ∙ ap (option_map make) z.1)
    imaged h away _ t a p = absurd a

    back : EachPart (IsReadBack (at_value m)) ps → is_json_key m.wire m.place ≡ false → ReadsBack Is (tuple_writes (writes_of ps)) (tuple_reads (bys_of ps)) (tuple_norm (norms_of ps)) m
    back h away (list vs) t i a p e =
        let us = row_norm (norms_of ps) (at_value m) (parts vs) in
        let c = within_ok make (written vs) t p in
        let d = mapped_some make (option_traverse (image m.wire Value) c.0) i (sym (list-image m.wire m.place t c.0 away c.2) ∙ e) in
        let b = row_back (at_value m) ps h (parts vs) c.0 d.0 (of_parts vs a) c.1 d.1 in
        let n = row_count (at_value m) ps (parts vs) c.0 d.0 (of_parts vs a) c.1 d.1 in
        items_read (bys_of ps) m i d.0 us d.2 n b
    back h away _ t i a p e = absurd a

    never_key : EachPart (IsNeverKey (at_value m)) ps → NeverKey Is (tuple_writes (writes_of ps)) m
    never_key h (list vs) a p = row_never (at_value m) ps h (parts vs) (of_parts vs a) (within_key make (written vs) p)
    never_key h _ a p = a

    exact : EachPart (IsKept (at_value m)) ps → IsExact Is (tuple_norm (norms_of ps)) m
    exact h (list vs) a = ap row (row_exact (at_value m) ps h (parts vs) (of_parts vs a)) ∙ ap list (meanings-parts vs)
    exact h _ a = absurd a

    written_kind : (v : Meaning) (t : Tree) → Is v → tuple_writes (writes_of ps) m v ≡ Ok t → is_kind kind.List (kind_of t) ≡ true
    written_kind (list vs) t a p = ap (λ (u : Tree). is_kind kind.List (kind_of u)) ((within_ok make (written vs) t p).2)
    written_kind _ t a p = absurd a

  nodes : EachPart (λ p. WritesNodes p.is p.writes) ps → WritesNodes Is (tuple_writes (writes_of ps))
  nodes h m (list vs) t a p =
      let c = within_ok make (written m vs) t p in
      let shallow = within_shallow make (written m vs) t p in
      rw c.2 (list-is_node c.0 (row_nodes (at_value m) ps h (parts vs) c.0 (of_parts vs a) c.1) (subst (λ u. depth u ≤ 128) c.2 shallow))
  nodes h m _ t a p = absurd a

  norms : EachPart (λ p. NormsWithin p.is p.norm) ps → NormsWithin Is (tuple_norm (norms_of ps))
  norms h m (list vs) a = row_normed (at_value m) ps h (parts vs) (of_parts vs a)
  norms h m _ a = absurd a

  unmarked : EachPart (λ p. IsUnmarked p.writes) ps → IsUnmarked (tuple_writes (writes_of ps))
  unmarked h m (list vs) = ap (λ r. bind r (λ ts. within (make ts)))
      (row_same (at_value (marked m)) (at_value m) ps (parts_keep (λ p. IsUnmarked p.writes) (λ p. (v : Meaning) → p.writes (at_value (marked m)) v ≡ p.writes (at_value m) v) (λ p u v. u (at_value m) v) ps h) (parts vs))
  unmarked h m _ = refl

  row_keeps : EachPart IsPart ps → Lawful Is (tuple_writes (writes_of ps)) (tuple_reads (bys_of ps)) (tuple_spot (bys_of ps)) (tuple_skips (bys_of ps)) (tuple (exprs_of ps)) (tuple_norm (norms_of ps)) (All ps)
  row_keeps h =
      record {
        images = λ m s. let c = sound-tuple (exprs_of ps) m s in imaged m (parts_sound (at_value m) (IsImaged (at_value m)) (λ p k i. k.images (at_value m) i) ps h c.1) c.0;
        back = λ a m s. let c = sound-tuple (exprs_of ps) m s in back m (parts_back (at_value m) ps h a c.1) c.0;
        never_key = λ m s. let c = sound-tuple (exprs_of ps) m s in never_key m (parts_sound (at_value m) (IsNeverKey (at_value m)) (λ p k i. k.never_key (at_value m) i) ps h c.1);
        written_kinds = written_kind;
        read_kinds = items_kind (bys_of ps);
        unmarked = unmarked (parts_keep IsPart (λ p. IsUnmarked p.writes) (λ p k. k.unmarked) ps h);
        exact = λ m g. exact m (parts_exact (at_value m) ps h (ap is_exact g));
        spot_kinds = λ m. row_spot_kinds (bys_of ps) m (parts_read IsPart (HasKinds (at_value m)) (λ p k. k.spot_kinds (at_value m)) ps h);
        note_kinds = λ m. row_note_kinds (bys_of ps) m (parts_read IsPart (HasNotes (at_value m)) (λ p k. k.note_kinds (at_value m)) ps h);
        nodes = nodes (parts_keep IsPart (λ p. WritesNodes p.is p.writes) (λ p k. k.nodes) ps h);
        norms = norms (parts_keep IsPart (λ p. NormsWithin p.is p.norm) (λ p k. k.norms) ps h);
      }

module _ (xs : List Kept) where
  abbrev ps : List Part
  ps = parts_of xs

  pub tuple_keeps : Lawful (IsRowOf (are_of ps)) (tuple_writes (writes_of ps)) (tuple_reads (bys_of ps)) (tuple_spot (bys_of ps)) (tuple_skips (bys_of ps)) (tuple (exprs_of ps)) (tuple_norm (norms_of ps)) (All ps)
  tuple_keeps = row_keeps (parts_of xs) (are_kept xs)

-- ---- two parts, which mean a pair

pub pair-row : (P Q : Meaning → Type 0) (v : Meaning) → IsPairOf P Q v → IsRowOf (P ∷ Q ∷ []) v
pair-row P Q (list (meaning a (meaning b no_meanings))) h = (h.0, (h.1, tt))
pair-row P Q (list no_meanings) h = absurd h
pair-row P Q (list (meaning a no_meanings)) h = absurd h
pair-row P Q (list (meaning a (meaning b (meaning c vs)))) h = absurd h
pair-row P Q _ h = absurd h

row-pair : (P Q : Meaning → Type 0) (v : Meaning) → IsRowOf (P ∷ Q ∷ []) v → IsPairOf P Q v
row-pair P Q (list (meaning a (meaning b no_meanings))) h = (h.0, h.1.0)
row-pair P Q (list no_meanings) h = absurd h
row-pair P Q (list (meaning a no_meanings)) h = absurd h.1
row-pair P Q (list (meaning a (meaning b (meaning c vs)))) h = absurd h.1.1
row-pair P Q _ h = absurd h

pub pair_lawful : (x y : Read) → LawfulReading (IsPairOf x.is y.is) (tuple_reads (x.by ∷ y.by ∷ [])) (tuple_spot (x.by ∷ y.by ∷ []))
pair_lawful x y = same_reading (IsRowOf (x.is ∷ y.is ∷ [])) (IsPairOf x.is y.is) (row-pair x.is y.is) (tuple_lawful (x ∷ y ∷ []))

module _ (x y : Kept) where
  abbrev two : List Part
  two = x.part ∷ y.part ∷ []

  pub pair_keeps : Lawful (IsPairOf x.part.is y.part.is) (tuple_writes (writes_of two)) (tuple_reads (bys_of two)) (tuple_spot (bys_of two)) (tuple_skips (bys_of two)) (tuple (exprs_of two)) (tuple_norm (norms_of two)) (All two)
  pair_keeps = same_keeps (IsRowOf (are_of two)) (IsPairOf x.part.is y.part.is) (row-pair x.part.is y.part.is) (pair-row x.part.is y.part.is) (tuple_keeps (x ∷ y ∷ []))
