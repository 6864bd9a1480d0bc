-- The laws of a choice between options, from the options'.
use Rattle.std.specs.Prelude.{◌≡◌, Bool, true, false, ◌||◌, cond, is_ok, List, [], ◌∷◌, ◌++◌, Result, Ok, Err}
use Rattle.std.proofs.Common.{refl, ap, ◌∙◌}
use Rattle.sw_tree.specs.Meaning.{Meaning}
use Rattle.sw_tree.specs.Mode.{marked}
use Rattle.sw_tree.specs.Proper.{IsNodeTree}
use Rattle.sw_tree.specs.Steps.{Each}
use Rattle.sw_tree.specs.Tree.{Tree, kind_of}
use Rattle.sw_tree.specs.declared.mode.Mode.{Mode}
use Rattle.sw_tree.specs.declared.mode.Kind.{Kind}
use Rattle.sw_tree.specs.declared.fail.DeError.{DeError}
use Rattle.sw_tree.specs.declared.fail.DeError.TheVariants.{InvalidType}
use Rattle.sw_tree.specs.declared.fail.DeKind.{DeKind}
use Rattle.sw_check.specs.Form.{Form, pick_first, no_forms, forms}
use Rattle.sw_check.specs.Kinds.{kinds_read, any_reads}
use Rattle.sw_check.specs.Laws.Sound.{sound-checked}
use Rattle.sw_elem.specs.Equations.{Writes, Reads, Spots, Skips, LawfulReading, own_spot}
use Rattle.sw_elem.specs.Laws.Equations.{own_spot-inside}
use Rattle.sw_elem.specs.Statements.{Norm, HasSpotKinds, HasNoteKinds}
use Rattle.sw_elem.specs.Lawful.{Lawful}
use Rattle.sw_policy.specs.Options.{Reader, reader, or_later, first_read, tried_skips}
use Rattle.sw_policy.specs.PickFirst.{or_no_variant, pick_reads, pick_skips, pick_norm}

-- ---- reading

pub or_later-ok : (P : Meaning → Type 0) (r : Result Meaning DeError) (q : Result Meaning (List DeKind)) (v : Meaning) → (r ≡ Ok v → P v) → (q ≡ Ok v → P v) → or_later r q ≡ Ok v → P v
or_later-ok P (Ok w) q v a b p = let e : w ≡ v = cc in a (ap Ok e)
or_later-ok P (Err e) (Ok w) v a b p = b p
or_later-ok P (Err e) (Err ks) v a b p = absurd (cc)

pub or_no_variant-ok : (q : Result Meaning (List DeKind)) (v : Meaning) → or_no_variant q ≡ Ok v → q ≡ Ok v
or_no_variant-ok (Ok w) v p = let e : w ≡ v = cc in ap Ok e
or_no_variant-ok (Err ks) v p = absurd (cc)

module _ (P : Meaning → Type 0) where
  -- what an option reads is one of those meanings
  abbrev pub GivesMeanings : Reader → Type 0
  GivesMeanings o = (m : Mode) (t : Tree) (v : Meaning) → IsNodeTree t → o.reads m t ≡ Ok v → P v

  first_meanings : (os : List Reader) → Each GivesMeanings os → (m : Mode) (t : Tree) (v : Meaning) → IsNodeTree t → first_read os m t ≡ Ok v → P v
  first_meanings [] h m t v n p = absurd (cc)
  first_meanings (o ∷ os) h m t v n p = or_later-ok P (o.reads m t) (first_read os m t) v (h.0 m t v n) (first_meanings os h.1 m t v n) p

  pub pick_lawful : (os : List Reader) → Each GivesMeanings os → LawfulReading P (pick_reads os) own_spot
  pick_lawful os h = record {
    meanings = λ m t v n p. first_meanings os h (marked m) t v n (or_no_variant-ok (first_read os (marked m) t) v p);
    inside = λ m t e p. own_spot-inside m t;
  }

-- so it is with two to four options
module _ {P : Meaning → Type 0} {r r2 : Reads} {s s2 : Spots} (k : Skips) (first : LawfulReading P r s) (k2 : Skips) (second : LawfulReading P r2 s2) where
  pub pick_two_lawful : LawfulReading P (pick_reads (reader r k ∷ reader r2 k2 ∷ [])) own_spot
  pick_two_lawful = pick_lawful P (reader r k ∷ reader r2 k2 ∷ []) (first.meanings, (second.meanings, tt))

  module _ {r3 : Reads} {s3 : Spots} (k3 : Skips) (third : LawfulReading P r3 s3) where
    pub pick_three_lawful : LawfulReading P (pick_reads (reader r k ∷ reader r2 k2 ∷ reader r3 k3 ∷ [])) own_spot
    pick_three_lawful = pick_lawful P (reader r k ∷ reader r2 k2 ∷ reader r3 k3 ∷ []) (first.meanings, (second.meanings, (third.meanings, tt)))

    module _ {r4 : Reads} {s4 : Spots} (k4 : Skips) (fourth : LawfulReading P r4 s4) where
      pub pick_four_lawful : LawfulReading P (pick_reads (reader r k ∷ reader r2 k2 ∷ reader r3 k3 ∷ reader r4 k4 ∷ [])) own_spot
      pick_four_lawful = pick_lawful P (reader r k ∷ reader r2 k2 ∷ reader r3 k3 ∷ reader r4 k4 ∷ []) (first.meanings, (second.meanings, (third.meanings, (fourth.meanings, tt))))

-- ---- all laws

-- what an option that is tried keeps: it reads trees of its expression's kinds alone, and what it passes over are nodes of the tree
pub record IsOption (e : Form) (o : Reader) : Type 0 where
  pub read_kinds : (m : Mode) (t : Tree) (v : Meaning) → o.reads m t ≡ Ok v → kinds_read e m (kind_of t) ≡ true
  pub note_kinds : (m : Mode) → HasNoteKinds o.skips m

-- each option keeps that under its expression
abbrev pub AreOptions : List Form → List Reader → Type 0
AreOptions [] [] = Unit {0}
AreOptions (e ∷ es) (o ∷ os) = IsOption e o × AreOptions es os
AreOptions _ _ = ⊥

pub or_left : (a b : Bool) → a ≡ true → (a || b) ≡ true
or_left true b p = refl
or_left false b p = absurd (cc)

pub or_right : (a b : Bool) → b ≡ true → (a || b) ≡ true
or_right true b p = refl
or_right false b p = p

first_found : (r : Result Meaning DeError) (q : Result Meaning (List DeKind)) (v : Meaning) → r ≡ Ok v → or_no_variant (or_later r q) ≡ Ok v
first_found (Ok w) q v p = let e : w ≡ v = cc in ap Ok e
first_found (Err e) q v p = absurd (cc)

-- a tree that is read has a kind of one of the options
any_kinds : (m : Mode) (es : List Form) (os : List Reader) → AreOptions es os → (t : Tree) (v : Meaning) → first_read os m t ≡ Ok v → any_reads (forms es) m (kind_of t) ≡ true
any_kinds m [] [] h t v p = absurd (cc)
any_kinds m [] (o ∷ os) h t v p = absurd h
any_kinds m (e ∷ es) [] h t v p = absurd h
any_kinds m (e ∷ es) (o ∷ os) h t v p =
    let own = kinds_read e m (kind_of t) in
    let later = any_reads (forms es) m (kind_of t) in
    or_later-ok (λ u. (own || later) ≡ true) (o.reads m t) (first_read os m t) v (λ q. or_left own later (h.0.read_kinds m t v q)) (λ q. or_right own later (any_kinds m es os h.1 t v q)) p

no_invalid_type : (q : Result Meaning (List DeKind)) (k : Kind) → or_no_variant q ≡ Err (InvalidType k) → ⊥
no_invalid_type (Ok v) k p = absurd (cc)
no_invalid_type (Err ks) k p = absurd (cc)

-- the choice refuses no node for its kind
pub pick_spot_kinds : (m : Mode) (os : List Reader) → HasSpotKinds (pick_reads os) own_spot m
pick_spot_kinds m os t k p = absurd (no_invalid_type (first_read os (marked m) t) k p)

each-append : {A : Type 0} (Q : A → Type 0) (xs ys : List A) → Each Q xs → Each Q ys → Each Q (xs ++ ys)
each-append Q [] ys h k = k
each-append Q (x ∷ xs) ys h k = (h.0, each-append Q xs ys h.1 k)

each-cond : {A : Type 0} (Q : A → Type 0) (b : Bool) (xs : List A) → Each Q xs → Each Q (cond b [] xs)
each-cond Q true xs h = tt
each-cond Q false xs h = h

module _ (m : Mode) where
  -- what an option passes over are nodes of the tree
  abbrev pub OptionNotes : Reader → Type 0
  OptionNotes o = HasNoteKinds o.skips m

  tried_notes : (os : List Reader) → Each OptionNotes os → HasNoteKinds (tried_skips os) m
  tried_notes [] h t = tt
  tried_notes (o ∷ os) h t = each-append _ (o.skips m t) (cond (is_ok (o.reads m t)) [] (tried_skips os m t)) (h.0 t) (each-cond _ (is_ok (o.reads m t)) (tried_skips os m t) (tried_notes os h.1 t))

  each_notes : (es : List Form) (os : List Reader) → AreOptions es os → Each OptionNotes os
  each_notes [] [] h = tt
  each_notes [] (o ∷ os) h = absurd h
  each_notes (e ∷ es) [] h = absurd h
  each_notes (e ∷ es) (o ∷ os) h = (h.0.note_kinds m, each_notes es os h.1)

-- so are those of the choice
pub pick_note_kinds : (m : Mode) (os : List Reader) → Each (OptionNotes (marked m)) os → HasNoteKinds (pick_skips os) m
pick_note_kinds m os h t = tried_notes (marked m) os h t

module _ {P : Meaning → Type 0} {w : Writes} {r : Reads} {s : Spots} {k : Skips} {e : Form} {n : Norm} {a : Type 0} where
  pub is_option : Lawful P w r s k e n a → IsOption e (reader r k)
  is_option h = record { read_kinds = h.read_kinds; note_kinds = h.note_kinds }

  -- a single option is the choice
  pub pick_one_keeps : Lawful P w r s k e n a → Lawful P w r s k (pick_first e no_forms) n a
  pick_one_keeps h =
      record {
        images = λ m c. h.images m (sound-checked (pick_first e no_forms) m c);
        back = λ x m c. h.back x m (sound-checked (pick_first e no_forms) m c);
        never_key = λ m c. h.never_key m (sound-checked (pick_first e no_forms) m c);
        written_kinds = h.written_kinds;
        read_kinds = h.read_kinds;
        unmarked = h.unmarked;
        exact = h.exact;
        spot_kinds = h.spot_kinds;
        note_kinds = h.note_kinds;
        nodes = h.nodes;
        norms = h.norms;
      }

  -- of several the first decides, buffered; `b` assumes what it assumes
  pub pick_keeps : (b : Type 0) → (b → a) → Lawful P w r s k e n a → (f : Form) (fs : List Form) (os : List Reader) → AreOptions (f ∷ fs) os →
      Lawful P w (pick_reads (reader r k ∷ os)) own_spot (pick_skips (reader r k ∷ os)) (pick_first e (forms (f ∷ fs))) (pick_norm n) b
  pick_keeps b own h f fs os later =
      let all : Form = pick_first e (forms (f ∷ fs)) in
      let tried : List Reader = reader r k ∷ os in
      record {
        images = λ m c v t p q. h.images (marked m) (sound-checked all m c) v t p (h.unmarked m v ∙ q);
        back = λ x m c v t i p q j. first_found (r (marked m) i) (first_read os (marked m) i) (n (marked m) v) (h.back (own x) (marked m) (sound-checked all m c) v t i p (h.unmarked m v ∙ q) j);
        never_key = λ m c v p q. h.never_key (marked m) (sound-checked all m c) v p (h.unmarked m v ∙ q);
        written_kinds = λ m v t p q. h.written_kinds (marked m) v t p (h.unmarked m v ∙ q);
        read_kinds = λ m t v p. any_kinds (marked m) (e ∷ f ∷ fs) tried (is_option h, later) t v (or_no_variant-ok (first_read tried (marked m) t) v p);
        unmarked = h.unmarked;
        exact = λ m g. h.exact (marked m) g;
        spot_kinds = λ m. pick_spot_kinds m tried;
        note_kinds = λ m. pick_note_kinds m tried (each_notes (marked m) (e ∷ f ∷ fs) tried (is_option h, later));
        nodes = h.nodes;
        norms = λ m. h.norms (marked m);
      }

-- so it is with two to four options, each of which keeps the laws

module _ {P : Meaning → Type 0} {w w2 : Writes} {r r2 : Reads} {s s2 : Spots} {k k2 : Skips} {e e2 : Form} {n n2 : Norm} {a a2 : Type 0} (first : Lawful P w r s k e n a) (second : Lawful P w2 r2 s2 k2 e2 n2 a2) where
  pub pick_two_keeps : Lawful P w (pick_reads (reader r k ∷ reader r2 k2 ∷ [])) own_spot (pick_skips (reader r k ∷ reader r2 k2 ∷ [])) (pick_first e (forms (e2 ∷ []))) (pick_norm n) (a × a2)
  pick_two_keeps = pick_keeps (a × a2) (λ x. x.0) first e2 [] (reader r2 k2 ∷ []) (is_option second, tt)

  module _ {w3 : Writes} {r3 : Reads} {s3 : Spots} {k3 : Skips} {e3 : Form} {n3 : Norm} {a3 : Type 0} (third : Lawful P w3 r3 s3 k3 e3 n3 a3) where
    pub pick_three_keeps : Lawful P w (pick_reads (reader r k ∷ reader r2 k2 ∷ reader r3 k3 ∷ [])) own_spot (pick_skips (reader r k ∷ reader r2 k2 ∷ reader r3 k3 ∷ [])) (pick_first e (forms (e2 ∷ e3 ∷ []))) (pick_norm n) (a × a2 × a3)
    pick_three_keeps = pick_keeps (a × a2 × a3) (λ x. x.0) first e2 (e3 ∷ []) (reader r2 k2 ∷ reader r3 k3 ∷ []) (is_option second, (is_option third, tt))

    module _ {w4 : Writes} {r4 : Reads} {s4 : Spots} {k4 : Skips} {e4 : Form} {n4 : Norm} {a4 : Type 0} (fourth : Lawful P w4 r4 s4 k4 e4 n4 a4) where
      pub pick_four_keeps : Lawful P w (pick_reads (reader r k ∷ reader r2 k2 ∷ reader r3 k3 ∷ reader r4 k4 ∷ [])) own_spot (pick_skips (reader r k ∷ reader r2 k2 ∷ reader r3 k3 ∷ reader r4 k4 ∷ [])) (pick_first e (forms (e2 ∷ e3 ∷ e4 ∷ []))) (pick_norm n) (a × a2 × a3 × a4)
      pick_four_keeps = pick_keeps (a × a2 × a3 × a4) (λ x. x.0) first e2 (e3 ∷ e4 ∷ []) (reader r2 k2 ∷ reader r3 k3 ∷ reader r4 k4 ∷ []) (is_option second, (is_option third, (is_option fourth, tt)))
