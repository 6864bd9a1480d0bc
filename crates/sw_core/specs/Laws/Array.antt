-- The laws of an array: those of a list where it is written, and those of a tuple where it is read.
use Rattle.std.specs.Prelude.{◌≡◌, ℕ, zero, suc, List, [], ◌∷◌, length, map as list_map, replicate, false, Ok}
use Rattle.std.proofs.Common.{refl, ap, sym, subst, ◌∙◌}
use Rattle.std.proofs.lemmas.List.{length-map, length-replicate}
use Rattle.sw_tree.specs.Image.{image}
use Rattle.sw_tree.specs.Laws.Meaning.{parts-meanings}
use Rattle.sw_tree.specs.Laws.Steps.{option_traverse}
use Rattle.sw_tree.specs.Meaning.{Meaning, list, meanings, parts, Meanings, no_meanings, meaning}
use Rattle.sw_tree.specs.Meant.{AreOf, IsRowOf, IsListOf, IsArrayOf}
use Rattle.sw_tree.specs.Mode.{at_value}
use Rattle.sw_tree.specs.Steps.{Each, traverse}
use Rattle.sw_tree.specs.Tree.{Tree, trees}
use Rattle.sw_tree.specs.Tree as node
use Rattle.sw_tree.specs.declared.mode.Mode.{Mode}
use Rattle.sw_tree.specs.declared.mode.Place.TheVariants.{Value}
use Rattle.sw_check.specs.Form.{Form, vec}
use Rattle.sw_check.specs.Laws.SoundForms.{sound-vec}
use Rattle.sw_check.specs.Rules.{is_json_key}
use Rattle.sw_elem.specs.Equations.{Writes, Reads, Spots, Skips, LawfulReading}
use Rattle.sw_elem.specs.Lawful.{Lawful}
use Rattle.sw_elem.specs.Statements.{Norm, ReadsBack, NormsWithin}
use Rattle.sw_core.specs.Array.{array_readings, array_reads, array_spot, array_skips}
use Rattle.sw_core.specs.Parts.{Reading, reading, all_in}
use Rattle.sw_core.specs.Vec.{list_writes, list_norm}
use Rattle.sw_core.specs.Laws.Each.{Beside, each_back}
use Rattle.sw_core.specs.Laws.Images.{list-image, mapped_some}
use Rattle.sw_core.specs.Laws.Parts.{IsReading, AreReadings, same_reading}
use Rattle.sw_core.specs.Laws.Rows.{AreRead}
use Rattle.sw_core.specs.Laws.Tuple.{row_lawful, items_read, items_kind, row_spot_kinds, row_note_kinds}
use Rattle.sw_core.specs.Laws.Vec.{list_keeps}
use Rattle.sw_core.specs.Laws.Within.{within_ok}

-- ---- reading

are_readings : (P : Meaning → Type 0) (x : Reading) → IsReading P x → (n : ℕ) → AreReadings (replicate n P) (replicate n x)
are_readings P x h zero = tt
are_readings P x h (suc n) = (h, are_readings P x h n)

-- so many meanings, all of one kind
are_each : (P : Meaning → Type 0) (n : ℕ) (vs : Meanings) → AreOf (replicate n P) vs → Each P (parts vs) × (length (parts vs) ≡ n)
are_each P zero no_meanings h = (tt, refl)
are_each P zero (meaning v vs) h = absurd h
are_each P (suc n) no_meanings h = absurd h
are_each P (suc n) (meaning v vs) h = let c = are_each P n vs h.1 in ((h.0, c.0), ap (λ (k : ℕ). suc k) c.1)

row-array : (P : Meaning → Type 0) (n : ℕ) (v : Meaning) → IsRowOf (replicate n P) v → IsArrayOf P n v
row-array P n (list vs) h = are_each P n vs h
row-array P n _ h = absurd h

module _ (n : ℕ) {P : Meaning → Type 0} {r : Reads} {s : Spots} (k : Skips) (law : LawfulReading P r s) where
  pub array_lawful : LawfulReading (IsArrayOf P n) (array_reads n r s k) (array_spot n r s k)
  array_lawful = same_reading (IsRowOf (replicate n P)) (IsArrayOf P n) (row-array P n) (row_lawful (array_readings n r s k) (replicate n P) (are_readings P (reading r s k) law n))

each_one : (H : Reading → Type 0) (x : Reading) → H x → (n : ℕ) → Each H (replicate n x)
each_one H x h zero = tt
each_one H x h (suc n) = (h, each_one H x h n)

-- ---- writing, and reading back

pub list-of : (P : Meaning → Type 0) (n : ℕ) (v : Meaning) → IsArrayOf P n v → IsListOf P v
list-of P n (list vs) h = h.0
list-of P n _ h = absurd h

abbrev make : List Tree → Tree
make ts = node.list (trees ts)

-- each image is read as the norm beside it, and there are as many
are_read : (m : Mode) (x : Reading) (ts : List Tree) (vs : List Meaning) → Beside (λ t v. x.reads m t ≡ Ok v) ts vs → AreRead (all_in m (replicate (length ts) x)) ts vs
are_read m x [] [] h = tt
are_read m x [] (v ∷ vs) h = absurd h
are_read m x (t ∷ ts) [] h = absurd h
are_read m x (t ∷ ts) (v ∷ vs) h = (h.0, are_read m x ts vs h.1)

as_many : (R : Tree → Meaning → Type 0) (ts : List Tree) (vs : List Meaning) → Beside R ts vs → length ts ≡ length vs
as_many R [] [] h = refl
as_many R [] (v ∷ vs) h = absurd h
as_many R (t ∷ ts) [] h = absurd h
as_many R (t ∷ ts) (v ∷ vs) h = ap (λ (k : ℕ). suc k) (as_many R ts vs h.1)

module _ (P : Meaning → Type 0) (w : Writes) (r : Reads) (s : Spots) (k : Skips) (n : ℕ) where
  row_read : (m : Mode) (i : Tree) (is : List Tree) (us : List Meaning) → i ≡ make is → length us ≡ n → Beside (λ t v. r (at_value m) t ≡ Ok v) is us → array_reads n r s k m i ≡ Ok (list (meanings us))
  row_read m i is us e c h =
      let x = reading r s k in
      let count : length is ≡ n = as_many (λ t v. r (at_value m) t ≡ Ok v) is us h ∙ c in
      let all : AreRead (all_in (at_value m) (replicate n x)) is us = subst (λ (j : ℕ). AreRead (all_in (at_value m) (replicate j x)) is us) count (are_read (at_value m) x is us h) in
      items_read (replicate n x) m i is us e (count ∙ sym (length-replicate n x)) all

  back : (f : Norm) (m : Mode) → ReadsBack P w r f (at_value m) → is_json_key m.wire m.place ≡ false → ReadsBack (IsArrayOf P n) (list_writes w) (array_reads n r s k) (list_norm f) m
  back f m part away (list vs) t i h p e =
      let g = w (at_value m) in
      let us = list_map (f (at_value m)) (parts vs) in
      let c = within_ok make (traverse g (parts vs)) t p in
      let d = mapped_some make (option_traverse (image m.wire Value) c.0) i (sym (list-image m.wire m.place t c.0 away c.2) ∙ e) in
      row_read m i d.0 us d.2 (length-map (parts vs) (f (at_value m)) ∙ h.1)
      (each_back g (image m.wire Value) P (λ t v. r (at_value m) t ≡ Ok v) (f (at_value m)) part (parts vs) c.0 d.0 h.0 c.1 d.1)
  back f m part away _ t i h p e = absurd h

norms : (P : Meaning → Type 0) (f : Norm) (n : ℕ) → NormsWithin (IsListOf P) (list_norm f) → NormsWithin (IsArrayOf P n) (list_norm f)
norms P f n all m (list vs) h = (all m (list vs) h.0, ap (λ (l : List Meaning). length l) (parts-meanings (list_map (f (at_value m)) (parts vs))) ∙ length-map (parts vs) (f (at_value m)) ∙ h.1)
norms P f n all m _ h = absurd h

module _ (n : ℕ) {P : Meaning → Type 0} {w : Writes} {r : Reads} {s : Spots} {k : Skips} {e : Form} {f : Norm} {a : Type 0} (part : Lawful P w r s k e f a) where
  pub array_keeps : Lawful (IsArrayOf P n) (list_writes w) (array_reads n r s k) (array_spot n r s k) (array_skips n r s k) (vec e) (list_norm f) a
  array_keeps =
      let all = list_keeps part in
      let x = reading r s k in
      record {
        images = λ m h v t q p. all.images m h v t (list-of P n v q) p;
        back = λ y m h. let c = sound-vec e m h in back P w r s k n f m (part.back y (at_value m) c.1) c.0;
        never_key = λ m h v q p. all.never_key m h v (list-of P n v q) p;
        written_kinds = λ m v t q p. all.written_kinds m v t (list-of P n v q) p;
        read_kinds = items_kind (replicate n x);
        unmarked = all.unmarked;
        exact = λ m g v q. all.exact m g v (list-of P n v q);
        spot_kinds = λ m. row_spot_kinds (replicate n x) m (each_one _ x (part.spot_kinds (at_value m)) n);
        note_kinds = λ m. row_note_kinds (replicate n x) m (each_one _ x (part.note_kinds (at_value m)) n);
        nodes = λ m v t q p. all.nodes m v t (list-of P n v q) p;
        norms = norms P f n all.norms;
      }
