-- What parts side by side keep, in reading, in writing and in reading back, from what each of them keeps.
use Rattle.std.specs.Prelude.{◌≡◌, true, List, [], ◌∷◌, length, Option, Some, None, Result, Ok, Err}
use Rattle.std.proofs.Common.{refl, ap, sym, ◌∙◌, subst, arith}
use Rattle.sw_tree.specs.Image.{image}
use Rattle.sw_tree.specs.Meaning.{Meaning, meanings}
use Rattle.sw_tree.specs.Meant.{AreOf}
use Rattle.sw_tree.specs.Nodes.{IsNoteIn}
use Rattle.sw_tree.specs.Proper.{IsNodeTree}
use Rattle.sw_tree.specs.Steps.{bind, Each}
use Rattle.sw_tree.specs.Laws.Nodes.{IsBelow, IsOfKind}
use Rattle.sw_tree.specs.Laws.Steps.{option_cons, option_traverse}
use Rattle.sw_tree.specs.Tree.{Tree}
use Rattle.sw_tree.specs.declared.mode.Mode.{Mode}
use Rattle.sw_tree.specs.declared.fail.SerError.{SerError}
use Rattle.sw_tree.specs.declared.fail.SerError.TheVariants as ser
use Rattle.sw_check.specs.Blame.{IsSound}
use Rattle.sw_check.specs.Form.{Form, Forms, no_forms, form}
use Rattle.sw_check.specs.Grade.{grade, worst_of, is_exact}
use Rattle.sw_check.specs.Laws.Sound.{AllSound}
use Rattle.sw_check.specs.Laws.SoundForms.{exact_is, exact-worst}
use Rattle.sw_elem.specs.Equations.{Writes, Reads, Spots, Skips, LawfulReading}
use Rattle.sw_elem.specs.Statements.{Norm, HasImages, ReadsBack, NeverKey, IsExact, HasSpotKinds, HasNoteKinds, WritesNodes, NormsWithin}
use Rattle.sw_elem.specs.Lawful.{Lawful}
use Rattle.sw_core.specs.Rows.{Reader}
use Rattle.sw_core.specs.Parts.{Reading, reading, in_mode, all_in, row_writes, row_norm}
use Rattle.sw_core.specs.Laws.Rows.{AreRead, EachAt, Refuses, Notes, reader_below, reader_kinds, reader_notes}

-- ---- parts that are read

-- the laws of one in each mode
abbrev pub IsReading : (Meaning → Type 0) → Reading → Type 0
IsReading P x = LawfulReading P x.reads x.spot

abbrev pub HasKinds : Mode → Reading → Type 0
HasKinds m x = HasSpotKinds x.reads x.spot m

abbrev pub HasNotes : Mode → Reading → Type 0
HasNotes m x = HasNoteKinds x.skips m

-- each of them keeps its law
abbrev pub AreReadings : List (Meaning → Type 0) → List Reading → Type 0
AreReadings [] [] = Unit {0}
AreReadings (P ∷ Ps) [] = ⊥
AreReadings [] (x ∷ xs) = ⊥
AreReadings (P ∷ Ps) (x ∷ xs) = IsReading P x × AreReadings Ps xs

-- a reader with its law
pub record Read : Type 1 where
  pub is : Meaning → Type 0
  pub by : Reading
  pub law : IsReading is by

abbrev pub read_by : {P : Meaning → Type 0} {r : Reads} {s : Spots} (k : Skips) → LawfulReading P r s → Read
read_by {P} {r} {s} k h = record { is = P; by = reading r s k; law = h }

abbrev pub meanings_of : List Read → List (Meaning → Type 0)
meanings_of [] = []
meanings_of (x ∷ xs) = x.is ∷ meanings_of xs

abbrev pub readings_of : List Read → List Reading
readings_of [] = []
readings_of (x ∷ xs) = x.by ∷ readings_of xs

pub are_lawful : (xs : List Read) → AreReadings (meanings_of xs) (readings_of xs)
are_lawful [] = tt
are_lawful (x ∷ xs) = (x.law, are_lawful xs)

-- a refused node is one of the tree's
abbrev pub IsInside : Mode → Reading → Type 0
IsInside m x = (t : Tree) → Refuses IsBelow (in_mode m x) t

pub reading_below : (m : Mode) (P : Meaning → Type 0) (x : Reading) → IsReading P x → IsInside m x
reading_below m P x h t = reader_below x.skips h m t

pub reading_kinds : (m : Mode) (x : Reading) → HasKinds m x → (t : Tree) → Refuses IsOfKind (in_mode m x) t
reading_kinds m x h = reader_kinds x.reads x.spot x.skips m h

pub reading_notes : (m : Mode) (x : Reading) → HasNotes m x → (t : Tree) → Notes IsNoteIn (in_mode m x) t
reading_notes m x h = reader_notes x.reads x.spot x.skips m h

pub all_inside : (m : Mode) (Ps : List (Meaning → Type 0)) (xs : List Reading) → AreReadings Ps xs → Each (IsInside m) xs
all_inside m [] [] h = tt
all_inside m (P ∷ Ps) [] h = absurd h
all_inside m [] (x ∷ xs) h = absurd h
all_inside m (P ∷ Ps) (x ∷ xs) h = (reading_below m P x h.0, all_inside m Ps xs h.1)

-- what is said of each reader and its tree, from what is said of each reading
pub all_in-at : (R : Reader Meaning → Tree → Type 0) (H : Reading → Type 0) (m : Mode) → ((x : Reading) → H x → (t : Tree) → R (in_mode m x) t) → (xs : List Reading) → Each H xs → (ts : List Tree) → EachAt R (all_in m xs) ts
all_in-at R H m one [] h ts = tt
all_in-at R H m one (x ∷ xs) h [] = tt
all_in-at R H m one (x ∷ xs) h (t ∷ ts) = (one x h.0 t, all_in-at R H m one xs h.1 ts)

-- where there is a value for each part, the values are the parts'
pub all_in-meant : (m : Mode) (Ps : List (Meaning → Type 0)) (xs : List Reading) → AreReadings Ps xs → (ts : List Tree) (vs : List Meaning) → Each IsNodeTree ts → length vs ≡ length xs → AreRead (all_in m xs) ts vs → AreOf Ps (meanings vs)
all_in-meant m [] [] h ts [] n e r = tt
all_in-meant m [] [] h ts (v ∷ vs) n e r = absurd r
all_in-meant m (P ∷ Ps) [] h ts vs n e r = absurd h
all_in-meant m [] (x ∷ xs) h ts vs n e r = absurd h
all_in-meant m (P ∷ Ps) (x ∷ xs) h ts [] n e r = absurd (omega arith)
all_in-meant m (P ∷ Ps) (x ∷ xs) h [] (v ∷ vs) n e r = absurd r
all_in-meant m (P ∷ Ps) (x ∷ xs) h (t ∷ ts) (v ∷ vs) n e r = (h.0.meanings m t v n.0 r.0, all_in-meant m Ps xs h.1 ts vs n.1 (omega arith) r.1)

-- as many values are read as there are trees, where there are as many trees as parts
pub all_in-count : (m : Mode) (xs : List Reading) (is : List Tree) (us : List Meaning) → AreRead (all_in m xs) is us → length is ≡ length xs → length us ≡ length xs
all_in-count m [] is [] a e = refl
all_in-count m [] is (u ∷ us) a e = absurd a
all_in-count m (x ∷ xs) [] us a e = absurd (omega arith)
all_in-count m (x ∷ xs) (i ∷ is) [] a e = absurd a
all_in-count m (x ∷ xs) (i ∷ is) (u ∷ us) a e = omega (arith, all_in-count m xs is us a.1 (omega arith))

-- ---- parts that are written too

-- an adapter of a part, with all that it names
pub record Part : Type 1 where
  pub is : Meaning → Type 0
  pub writes : Writes
  pub by : Reading
  pub expr : Form
  pub norm : Norm
  pub assumes : Type 0

abbrev pub IsPart : Part → Type 0
IsPart p = Lawful p.is p.writes p.by.reads p.by.spot p.by.skips p.expr p.norm p.assumes

abbrev pub EachPart : (Part → Type 0) → List Part → Type 0
EachPart H [] = Unit {0}
EachPart H (p ∷ ps) = H p × EachPart H ps

-- what each of them names
abbrev pub are_of : List Part → List (Meaning → Type 0)
are_of [] = []
are_of (p ∷ ps) = p.is ∷ are_of ps

abbrev pub writes_of : List Part → List Writes
writes_of [] = []
writes_of (p ∷ ps) = p.writes ∷ writes_of ps

abbrev pub bys_of : List Part → List Reading
bys_of [] = []
bys_of (p ∷ ps) = p.by ∷ bys_of ps

abbrev pub exprs_of : List Part → Forms
exprs_of [] = no_forms
exprs_of (p ∷ ps) = form p.expr (exprs_of ps)

abbrev pub norms_of : List Part → List Norm
norms_of [] = []
norms_of (p ∷ ps) = p.norm ∷ norms_of ps

abbrev pub All : List Part → Type 0
All [] = Unit {0}
All (p ∷ ps) = p.assumes × All ps

-- an adapter with its laws
pub record Kept : Type 1 where
  pub part : Part
  pub laws : IsPart part

abbrev pub kept : {P : Meaning → Type 0} {w : Writes} {r : Reads} {s : Spots} {k : Skips} {e : Form} {n : Norm} {a : Type 0} → Lawful P w r s k e n a → Kept
kept {P} {w} {r} {s} {k} {e} {n} {a} h = record { part = record { is = P; writes = w; by = reading r s k; expr = e; norm = n; assumes = a }; laws = h }

abbrev pub parts_of : List Kept → List Part
parts_of [] = []
parts_of (x ∷ xs) = x.part ∷ parts_of xs

pub are_kept : (xs : List Kept) → EachPart IsPart (parts_of xs)
are_kept [] = tt
are_kept (x ∷ xs) = (x.laws, are_kept xs)

-- each part keeps what its laws say of it, where all are sound
pub parts_sound : (m : Mode) (H : Part → Type 0) → ((p : Part) → IsPart p → IsSound p.expr m → H p) → (ps : List Part) → EachPart IsPart ps → AllSound (exprs_of ps) m → EachPart H ps
parts_sound m H one [] h s = tt
parts_sound m H one (p ∷ ps) h s = (one p h.0 s.0, parts_sound m H one ps h.1 s.1)

pub parts_keep : (H K : Part → Type 0) → ((p : Part) → H p → K p) → (ps : List Part) → EachPart H ps → EachPart K ps
parts_keep H K one [] h = tt
parts_keep H K one (p ∷ ps) h = (one p h.0, parts_keep H K one ps h.1)

pub parts_read : (H : Part → Type 0) (K : Reading → Type 0) → ((p : Part) → H p → K p.by) → (ps : List Part) → EachPart H ps → Each K (bys_of ps)
parts_read H K one [] h = tt
parts_read H K one (p ∷ ps) h = (one p h.0, parts_read H K one ps h.1)

next_wrote : (x : Result Tree SerError) (y : Result (List Tree) SerError) (ts : List Tree) → bind x (λ t. bind y (λ us. Ok (t ∷ us))) ≡ Ok ts → (t : Tree) × (us : List Tree) × (x ≡ Ok t) × (y ≡ Ok us) × (t ∷ us ≡ ts)
next_wrote (Ok t) (Ok us) ts p = (t, us, refl, refl, (cc))
next_wrote (Ok t) (Err e) ts p = absurd (cc)
next_wrote (Err e) y ts p = absurd (cc)

consed : (o : Option Tree) (r : Option (List Tree)) (is : List Tree) → option_cons o r ≡ Some is → (i : Tree) × (js : List Tree) × (o ≡ Some i) × (r ≡ Some js) × (i ∷ js ≡ is)
consed (Some i) (Some js) is p = (i, js, refl, refl, (cc))
consed (Some i) None is p = absurd (cc)
consed None r is p = absurd (cc)

-- what is written is as many trees that nodes can be
pub row_nodes : (m : Mode) (ps : List Part) → EachPart (λ p. WritesNodes p.is p.writes) ps → (vs : List Meaning) (ts : List Tree) → AreOf (are_of ps) (meanings vs) → row_writes (writes_of ps) m vs ≡ Ok ts → Each IsNodeTree ts
row_nodes m [] h [] ts a p = let e : [] ≡ ts = cc in subst (Each IsNodeTree) e tt
row_nodes m [] h (v ∷ vs) ts a p = absurd a
row_nodes m (q ∷ ps) h [] ts a p = absurd a
row_nodes m (q ∷ ps) h (v ∷ vs) ts a p =
    let c = next_wrote (q.writes m v) (row_writes (writes_of ps) m vs) ts p in
    subst (Each IsNodeTree) c.4 (h.0 m v c.0 a.0 c.2, row_nodes m ps h.1 vs c.1 a.1 c.3)

-- norms of the parts' values are the parts' values
pub row_normed : (m : Mode) (ps : List Part) → EachPart (λ p. NormsWithin p.is p.norm) ps → (vs : List Meaning) → AreOf (are_of ps) (meanings vs) → AreOf (are_of ps) (meanings (row_norm (norms_of ps) m vs))
row_normed m [] h [] a = tt
row_normed m [] h (v ∷ vs) a = absurd a
row_normed m (q ∷ ps) h [] a = absurd a
row_normed m (q ∷ ps) h (v ∷ vs) a = (h.0 m v a.0, row_normed m ps h.1 vs a.1)

module _ (m : Mode) where
  abbrev img : Tree → Option Tree
  img = image m.wire m.place

  abbrev pub IsImaged : Part → Type 0
  IsImaged p = HasImages p.is p.writes m

  abbrev pub IsReadBack : Part → Type 0
  IsReadBack p = ReadsBack p.is p.writes p.by.reads p.norm m

  abbrev pub IsNeverKey : Part → Type 0
  IsNeverKey p = NeverKey p.is p.writes m

  abbrev pub IsKept : Part → Type 0
  IsKept p = IsExact p.is p.norm m

  pub row_imaged : (ps : List Part) → EachPart IsImaged ps → (vs : List Meaning) (ts : List Tree) → AreOf (are_of ps) (meanings vs) → row_writes (writes_of ps) m vs ≡ Ok ts → (is : List Tree) × (option_traverse img ts ≡ Some is)
  row_imaged [] h [] ts a p = let e : [] ≡ ts = cc in ([], ap (option_traverse img) (sym e))
  row_imaged [] h (v ∷ vs) ts a p = absurd a
  row_imaged (q ∷ ps) h [] ts a p = absurd a
  row_imaged (q ∷ ps) h (v ∷ vs) ts a p =
      let c = next_wrote (q.writes m v) (row_writes (writes_of ps) m vs) ts p in
      let i = h.0 v c.0 a.0 c.2 in
      let j = row_imaged ps h.1 vs c.1 a.1 c.3 in
      (i.0 ∷ j.0, ap (option_traverse img) (sym c.4) ∙ rw (i.1, j.1) refl)

  -- the images are read as the norms,
  pub row_back : (ps : List Part) → EachPart IsReadBack ps → (vs : List Meaning) (ts is : List Tree) → AreOf (are_of ps) (meanings vs) → row_writes (writes_of ps) m vs ≡ Ok ts → option_traverse img ts ≡ Some is →
      AreRead (all_in m (bys_of ps)) is (row_norm (norms_of ps) m vs)
  row_back [] h [] ts is a p q = tt
  row_back [] h (v ∷ vs) ts is a p q = absurd a
  row_back (x ∷ ps) h [] ts is a p q = absurd a
  row_back (x ∷ ps) h (v ∷ vs) ts is a p q =
      let c = next_wrote (x.writes m v) (row_writes (writes_of ps) m vs) ts p in
      let d = consed (img c.0) (option_traverse img c.1) is (ap (option_traverse img) c.4 ∙ q) in
      subst (λ (l : List Tree). AreRead (all_in m (bys_of (x ∷ ps))) l (row_norm (norms_of (x ∷ ps)) m (v ∷ vs))) d.4 (h.0 v c.0 d.0 a.0 c.2 d.2, row_back ps h.1 vs c.1 d.1 a.1 c.3 d.3)

  -- and there are as many as there are parts
  pub row_count : (ps : List Part) (vs : List Meaning) (ts is : List Tree) → AreOf (are_of ps) (meanings vs) → row_writes (writes_of ps) m vs ≡ Ok ts → option_traverse img ts ≡ Some is → length is ≡ length (bys_of ps)
  row_count [] [] ts is a p q = let e : [] ≡ ts = cc in let f : [] ≡ is = cc (ap (option_traverse img) e) in ap (λ (l : List Tree). length l) (sym f)
  row_count [] (v ∷ vs) ts is a p q = absurd a
  row_count (x ∷ ps) [] ts is a p q = absurd a
  row_count (x ∷ ps) (v ∷ vs) ts is a p q =
      let c = next_wrote (x.writes m v) (row_writes (writes_of ps) m vs) ts p in
      let d = consed (img c.0) (option_traverse img c.1) is (ap (option_traverse img) c.4 ∙ q) in
      omega (arith, ap (λ (l : List Tree). length l) d.4, row_count ps vs c.1 d.1 a.1 c.3 d.3)

  next_never : (x : Result Tree SerError) (y : Result (List Tree) SerError) → (x ≡ Err ser.Key → ⊥) → (y ≡ Err ser.Key → ⊥) → bind x (λ t. bind y (λ us. Ok (t ∷ us))) ≡ Err ser.Key → ⊥
  next_never (Ok t) (Ok us) h k p = cc
  next_never (Ok t) (Err e) h k p = k (cc)
  next_never (Err e) y h k p = h (cc)

  pub row_never : (ps : List Part) → EachPart IsNeverKey ps → (vs : List Meaning) → AreOf (are_of ps) (meanings vs) → row_writes (writes_of ps) m vs ≡ Err ser.Key → ⊥
  row_never [] h vs a p = cc
  row_never (x ∷ ps) h [] a p = cc
  row_never (x ∷ ps) h (v ∷ vs) a p = next_never (x.writes m v) (row_writes (writes_of ps) m vs) (h.0 v a.0) (row_never ps h.1 vs a.1) p

  pub row_exact : (ps : List Part) → EachPart IsKept ps → (vs : List Meaning) → AreOf (are_of ps) (meanings vs) → row_norm (norms_of ps) m vs ≡ vs
  row_exact [] h vs a = refl
  row_exact (x ∷ ps) h [] a = refl
  row_exact (x ∷ ps) h (v ∷ vs) a = rw (h.0 v a.0, row_exact ps h.1 vs a.1) refl

  pub parts_back : (ps : List Part) → EachPart IsPart ps → All ps → AllSound (exprs_of ps) m → EachPart IsReadBack ps
  parts_back [] h a s = tt
  parts_back (p ∷ ps) h a s = (h.0.back a.0 m s.0, parts_back ps h.1 a.1 s.1)

  pub parts_exact : (ps : List Part) → EachPart IsPart ps → is_exact (worst_of (exprs_of ps) m) ≡ true → EachPart IsKept ps
  parts_exact [] h g = tt
  parts_exact (x ∷ ps) h g = let c = exact-worst (grade x.expr m) (worst_of (exprs_of ps) m) g in (h.0.exact m (exact_is (grade x.expr m) c.0), parts_exact ps h.1 c.1)

pub row_same : (m n : Mode) (ps : List Part) → EachPart (λ p. (v : Meaning) → p.writes m v ≡ p.writes n v) ps → (vs : List Meaning) → row_writes (writes_of ps) m vs ≡ row_writes (writes_of ps) n vs
row_same m n [] h vs = refl
row_same m n (x ∷ ps) h [] = refl
row_same m n (x ∷ ps) h (v ∷ vs) = rw (h.0 v, row_same m n ps h.1 vs) refl

-- ---- the same meanings by other words

-- laws hold of meanings that are the same ones
module _ (P Q : Meaning → Type 0) (to : (v : Meaning) → P v → Q v) where
  pub same_reading : {r : Reads} {s : Spots} → LawfulReading P r s → LawfulReading Q r s
  same_reading h = record { meanings = λ m t v n p. to v (h.meanings m t v n p); inside = h.inside }

  module _ (from : (v : Meaning) → Q v → P v) where
    pub same_keeps : {w : Writes} {r : Reads} {s : Spots} {k : Skips} {e : Form} {n : Norm} {a : Type 0} → Lawful P w r s k e n a → Lawful Q w r s k e n a
    same_keeps {n = n} h =
        record {
          images = λ m s v t q p. h.images m s v t (from v q) p;
          back = λ a m s v t i q p e. h.back a m s v t i (from v q) p e;
          never_key = λ m s v q p. h.never_key m s v (from v q) p;
          written_kinds = λ m v t q p. h.written_kinds m v t (from v q) p;
          read_kinds = h.read_kinds;
          unmarked = h.unmarked;
          exact = λ m g v q. h.exact m g v (from v q);
          spot_kinds = h.spot_kinds;
          note_kinds = h.note_kinds;
          nodes = λ m v t q p. h.nodes m v t (from v q) p;
          norms = λ m v q. to (n m v) (h.norms m v (from v q));
        }
