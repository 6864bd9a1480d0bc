-- The laws of a range, from those of its record and of the list of its bounds.
use Rattle.std.specs.Prelude.{◌≡◌, ◌<◌, ℕ, List, [], ◌∷◌, ◌||◌, Bool, true, false, Result, Ok, Err}
use Rattle.std.proofs.Common.{refl, ap, subst, sym}
use Rattle.sw_tree.specs.Kinds.{is_kind}
use Rattle.sw_tree.specs.Meaning.{Meaning, list, meaning, no_meanings, truth}
use Rattle.sw_tree.specs.Meant.{IsRowOf, IsTruth}
use Rattle.sw_tree.specs.Nodes.{kinds, HasKind, IsNoteIn}
use Rattle.sw_tree.specs.Placed.{Note}
use Rattle.sw_tree.specs.Steps.{Each, bind}
use Rattle.sw_tree.specs.Tree.{Tree, size, kind_of}
use Rattle.sw_tree.specs.Tree as node
use Rattle.sw_tree.specs.declared.mode.Kind.TheVariants as kind
use Rattle.sw_tree.specs.declared.mode.Mode.{Mode}
use Rattle.sw_tree.specs.declared.fail.DeError.{DeError}
use Rattle.sw_tree.specs.declared.fail.DeError.TheVariants as fail
use Rattle.sw_check.specs.Form.{Form, fields, form, no_forms}
use Rattle.sw_check.specs.declared.grade.Grade.{Grade}
use Rattle.sw_check.specs.declared.grade.Grade.TheVariants.{Rounded}
use Rattle.sw_elem.specs.Equations.{Writes, Reads, Spots, Skips, LawfulReading}
use Rattle.sw_elem.specs.Lawful.{Lawful}
use Rattle.sw_elem.specs.Statements.{Norm, HasSpotKinds, HasNoteKinds}
use Rattle.sw_elem.specs.Laws.Converted.{IsConversion, converted_lawful, converted_keeps}
use Rattle.sw_core.specs.Fields.{Field, fields_by}
use Rattle.sw_core.specs.Parts.{Reading, reading}
use Rattle.sw_core.specs.Range.{range_names, bounds, range_reads, range_spot, range_skips, both_bounds, unwalked, inclusive_writes, inclusive_reads, inclusive_norm}
use Rattle.sw_core.specs.Record.{record_writes, record_reads, record_spot, record_skips, record_norm}
use Rattle.sw_core.specs.Tuple.{tuple_reads, tuple_spot, tuple_skips}
use Rattle.sw_core.specs.Laws.Fields.{names_of, are_names}
use Rattle.sw_core.specs.Laws.Parts.{Read, read_by, meanings_of, readings_of, same_reading, Kept, kept, parts_of, are_of, writes_of, bys_of, exprs_of, norms_of, All}
use Rattle.sw_core.specs.Laws.Record.{AreAbsent, record_lawful, record_keeps}
use Rattle.sw_core.specs.Laws.Tuple.{items_kind, tuple_lawful, tuple_keeps}

or_true : (b c : Bool) → c ≡ true → (b || c) ≡ true
or_true true c h = refl
or_true false c h = h

module _ (fs : List Field) where
  -- what holds of both readings of a tree holds of the range's
  either : (Q : Result Meaning DeError → ℕ → List Note → Type 0) (m : Mode) (t : Tree) → Q (tuple_reads (fields_by fs) m t) (tuple_spot (fields_by fs) m t) (tuple_skips (fields_by fs) m t) →
      Q (record_reads true fs m t) (record_spot true fs m t) (record_skips true fs m t) → Q (range_reads fs m t) (range_spot fs m t) (range_skips fs m t)
  either Q m (node.list ts) h k = h
  either Q m _ h k = k

  -- a tree that is read as the record is no list
  as_record : (m : Mode) (t : Tree) (v : Meaning) → record_reads true fs m t ≡ Ok v → range_reads fs m t ≡ Ok v
  as_record m (node.list ts) v p = absurd (cc)
  as_record m _ v p = p

  pub range_lawful : (xs : List Read) → fields_by fs ≡ readings_of xs → AreAbsent (meanings_of xs) fs → LawfulReading (IsRowOf (meanings_of xs)) (range_reads fs) (range_spot fs)
  range_lawful xs same a =
      let one = record_lawful true fs xs same a in
      let two = subst (λ (rs : List Reading). LawfulReading (IsRowOf (meanings_of xs)) (tuple_reads rs) (tuple_spot rs)) (sym same) (tuple_lawful xs) in
      record {
        meanings = λ m t v n p. either (λ r s k. r ≡ Ok v → IsRowOf (meanings_of xs) v) m t (two.meanings m t v n) (one.meanings m t v n) p;
        inside = λ m t e p. either (λ r s k. r ≡ Err e → s < size t) m t (two.inside m t e) (one.inside m t e) p;
      }

  module _ (names : are_names (names_of fs) ≡ true) (xs : List Kept) (same : fields_by fs ≡ bys_of (parts_of xs)) where
    pub range_keeps : (own : Grade) →
        Lawful (IsRowOf (are_of (parts_of xs))) (record_writes (names_of fs) (writes_of (parts_of xs))) (range_reads fs) (range_spot fs) (range_skips fs) (fields (exprs_of (parts_of xs)) true own) (record_norm (norms_of (parts_of xs)))
        (All (parts_of xs))
    range_keeps own =
        let one = record_keeps true fs names xs same true own in
        let two = tuple_keeps xs in
        let spots : (m : Mode) → HasSpotKinds (tuple_reads (fields_by fs)) (tuple_spot (fields_by fs)) m = subst (λ (rs : List Reading). (m : Mode) → HasSpotKinds (tuple_reads rs) (tuple_spot rs) m) (sym same) two.spot_kinds in
        let notes : (m : Mode) → HasNoteKinds (tuple_skips (fields_by fs)) m = subst (λ (rs : List Reading). (m : Mode) → HasNoteKinds (tuple_skips rs) m) (sym same) two.note_kinds in
        record {
          images = one.images;
          back = λ a m s v t i h p e. as_record m i (record_norm (norms_of (parts_of xs)) m v) (one.back a m s v t i h p e);
          never_key = one.never_key;
          written_kinds = one.written_kinds;
          read_kinds = λ m t v p. either (λ r s k. r ≡ Ok v → (is_kind kind.Map (kind_of t) || is_kind kind.List (kind_of t)) ≡ true) m t
              (λ q. or_true (is_kind kind.Map (kind_of t)) (is_kind kind.List (kind_of t)) (items_kind (fields_by fs) m t v q)) (one.read_kinds m t v) p;
          unmarked = one.unmarked;
          exact = one.exact;
          spot_kinds = λ m t k p. either (λ r s n. r ≡ Err (fail.InvalidType k) → HasKind (kinds t) s k) m t (spots m t k) (one.spot_kinds m t k) p;
          note_kinds = λ m t. either (λ r s n. Each (IsNoteIn (kinds t)) n) m t (notes m t) (one.note_kinds m t);
          nodes = one.nodes;
          norms = one.norms;
        }

-- ---- a range with its end

module _ (P : Meaning → Type 0) where
  abbrev Both : Meaning → Type 0
  Both = IsRowOf (P ∷ P ∷ [])

  abbrev Inclusive : Meaning → Type 0
  Inclusive = IsRowOf (P ∷ P ∷ IsTruth ∷ [])

  pub out : (v : Meaning) → Inclusive v → Both (both_bounds v)
  out (list (meaning a (meaning b (meaning (truth c) no_meanings)))) h = (h.0, (h.1.0, tt))
  out (list no_meanings) h = absurd h
  out (list (meaning a no_meanings)) h = absurd h.1
  out (list (meaning a (meaning b no_meanings))) h = absurd h.1.1
  out (list (meaning a (meaning b (meaning c vs)))) h = (h.0, (h.1.0, tt))
  out _ h = absurd h

  into : (u : Meaning) → Both u → Inclusive (unwalked u) × (unwalked (both_bounds (unwalked u)) ≡ unwalked u)
  into (list (meaning a (meaning b vs))) h = ((h.0, (h.1.0, (tt, tt))), refl)
  into (list no_meanings) h = absurd h
  into (list (meaning a no_meanings)) h = absurd h.1
  into _ h = absurd h

  -- those whose walk hasn't ended are made of both bounds one to one
  abbrev Unwalked : Meaning → Type 0
  Unwalked v = Inclusive v × (unwalked (both_bounds v) ≡ v)

  one_to_one : IsConversion Both Unwalked unwalked both_bounds
  one_to_one = record { into = into; out = λ v h. out v h.0; same = λ v h. h.1 }

abbrev two_bounds : Reading → List Field
two_bounds x = bounds range_names x

module _ {P : Meaning → Type 0} {r : Reads} {s : Spots} (k : Skips) (law : LawfulReading P r s) where
  pub inclusive_lawful : LawfulReading (Inclusive P) (inclusive_reads (reading r s k)) (range_spot (two_bounds (reading r s k)))
  inclusive_lawful = same_reading (Unwalked P) (Inclusive P) (λ v h. h.0) (converted_lawful (one_to_one P) (range_lawful (two_bounds (reading r s k)) (read_by k law ∷ read_by k law ∷ []) refl (tt, (tt, tt))))

module _ {P : Meaning → Type 0} {w : Writes} {r : Reads} {s : Spots} {k : Skips} {e : Form} {n : Norm} {a : Type 0} (law : Lawful P w r s k e n a) where
  pub inclusive_keeps : Lawful (Inclusive P) (inclusive_writes w) (inclusive_reads (reading r s k)) (range_spot (two_bounds (reading r s k))) (range_skips (two_bounds (reading r s k))) (fields (form e (form e no_forms)) true Rounded) (inclusive_norm n) (a × (a × Unit {0}))
  inclusive_keeps =
      let one = range_keeps (two_bounds (reading r s k)) refl (kept law ∷ kept law ∷ []) refl Rounded in
      let two = converted_keeps (one_to_one P) one in
      record {
        images = λ m i v t h p. one.images m i (both_bounds v) t (out P v h) p;
        back = λ b m i v t j h p q. ap (λ z. bind z (λ u. Ok (unwalked u))) (one.back b m i (both_bounds v) t j (out P v h) p q);
        never_key = λ m i v h p. one.never_key m i (both_bounds v) (out P v h) p;
        written_kinds = λ m v t h p. one.written_kinds m (both_bounds v) t (out P v h) p;
        read_kinds = two.read_kinds;
        unmarked = two.unmarked;
        exact = λ m g. absurd (cc);
        spot_kinds = two.spot_kinds;
        note_kinds = two.note_kinds;
        nodes = λ m v t h p. one.nodes m (both_bounds v) t (out P v h) p;
        norms = λ m v h. (into P _ (one.norms m (both_bounds v) (out P v h))).0;
      }
