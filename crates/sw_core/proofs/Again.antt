-- What a sound nest writes is printed, and what is printed is read again.
use Rattle.std.proofs.Common.{◌≡◌, ◌≤◌, ℕ, List, Option, Some, None, Result, Ok, Err, option_map, refl, ap, ◌∙◌, sym}
use Rattle.sw_tree.specs.Meaning.{Meaning}
use Rattle.sw_tree.specs.Mode.{plain}
use Rattle.sw_tree.specs.Placed.{placed, placed_at}
use Rattle.sw_tree.specs.Proper.{IsProper}
use Rattle.sw_tree.specs.Seen.{Seen}
use Rattle.sw_tree.specs.Tree.{Tree, depth}
use Rattle.sw_tree.specs.Short.{IsShort}
use Rattle.sw_tree.specs.Wires.{Spelled, Texts, printed, PrintsImages}
use Rattle.sw_tree.specs.declared.mode.Mode.{Mode}
use Rattle.sw_tree.specs.declared.mode.WireKind.{WireKind}
use Rattle.sw_tree.specs.declared.fail.SerError.TheVariants.{Key}
use Rattle.sw_tree.specs.declared.fail.DeError.{DeError}
use Rattle.sw_check.specs.Blame.{IsSound}
use Rattle.sw_check.specs.Form.{Form}
use Rattle.sw_check.specs.Grade.{grade}
use Rattle.sw_check.specs.declared.grade.Grade.TheVariants.{Exact}
use Rattle.sw_elem.specs.Equations.{Writes, Reads, Spots, Skips, LawfulReading}
use Rattle.sw_elem.specs.Statements.{Norm}
use Rattle.sw_elem.specs.Lawful.{Lawful}
use Rattle.std.specs.Result.{IfOk, IsErrAnd}
use Rattle.sw_elem.specs.Answers.{IsRead}
use Rattle.sw_tree.specs.declared.fail.DeFail.{DeFail}
use Rattle.sw_tree.specs.declared.fail.SerError.{SerError}
use Rattle.sw_tree.specs.declared.fail.SerFail.{SerFail}
use Rattle.sw_tree.specs.declared.fail.SerFail.TheVariants as ser
use Rattle.sw_core.specs.Again.{SpellsImage, ReadsAgain, IsKept}
use Rattle.sw_core.specs.Laws.Again.{kept_spells, kept_again}
use Rattle.sw_core.specs.Inner.Printing.{text_or_key, printed_as, IsPrintedAs}
use Rattle.sw_core.specs.Recoding.{answer, write_error}
use Rattle.sw_core.specs.declared.recode.RecodeError.{RecodeError}
use Rattle.sw_core.specs.declared.recode.RecodeError.TheVariants as fail
use Rattle.sw_core.proofs.Recoding.{err_is}

read_ok : (s : Seen) (k : ℕ) (r : Result Meaning DeError) (v : Meaning) → placed_at s k r ≡ Ok v → r ≡ Ok v
read_ok s k (Ok w) v p = let e : w ≡ v = cc in ap Ok e
read_ok s k (Err e) v p = absurd (cc)

no_text : (o : Option (List ℕ)) (b : List ℕ) → o ≡ Some b → o ≡ None → ⊥
no_text o b p q = cc

-- what is read of a tree that a view can show is a meaning of the type
pub is_meant : (P : Meaning → Type 0) (r : Reads) (k : Spots) → LawfulReading P r k → (m : Mode) (s : Seen) (v : Meaning) → IsProper s.tree → depth s.tree ≤ 128 → placed (r m) (k m) s ≡ Ok v → P v
is_meant P r k law m s v proper shallow p = law.meanings m s.tree v (record { proper = proper; shallow = shallow }) (read_ok s (k m s.tree) (r m s.tree) v p)

-- so is the value that a call answers
pub read_meant : {T : Type 0} (f : T → Meaning) (P : Meaning → Type 0) (r : Reads) (k : Spots) → LawfulReading P r k → (m : Mode) (s : Seen) → IsProper s.tree → depth s.tree ≤ 128 →
    (x : Result T DeFail) → IsRead f x (placed (r m) (k m) s) → IfOk x (λ y. P (f y))
read_meant f P r k law m s proper shallow (Ok y) h = is_meant P r k law m s (f y) proper shallow h
read_meant f P r k law m s proper shallow (Err e) h = tt

module _ (P : Meaning → Type 0) (w : Writes) (r : Reads) (s : Spots) (k : Skips) (e : Form) (n : Norm) (a : Type 0) (laws : Lawful P w r s k e n a) (id : WireKind) (spelled : Spelled) (text : Texts)
    (prints : PrintsImages id spelled text) (sound : IsSound e (plain id)) where
  -- what is kept of a value of the type
  pub kept : (v : Meaning) → P v → IsKept w r id spelled text n a v
  kept v h = record {
    imaged = λ t p. laws.images (plain id) sound v t h p;
    spells = λ t i p short q. prints t i (laws.nodes (plain id) v t h p) short q;
    back = λ y t i p q. laws.back y (plain id) sound v t i h p q;
    never_key = λ p. laws.never_key (plain id) sound v h p;
  }

  module _ (v : Meaning) (meant : P v) (u : Tree) (written : w (plain id) v ≡ Ok u) (short : IsShort u) where
    pub spells_image : (b : List ℕ) → printed id text u ≡ Some b → SpellsImage w id spelled b v
    spells_image b p = kept_spells w r id spelled text n a v (kept v meant) u written short b p

    pub again : a → (b : List ℕ) → printed id text u ≡ Some b → ReadsAgain w r id spelled b v (n (plain id) v)
    again y b p = kept_again w r id spelled text n a v (kept v meant) u written short b p y

    pub again_same : a → grade e (plain id) ≡ Exact → (b : List ℕ) → printed id text u ≡ Some b → ReadsAgain w r id spelled b v v
    again_same y g b p = let h = again y b p in record { image_of = h.image_of; means = h.means ∙ ap Ok (laws.exact (plain id) g v meant) }

    pub settled : a → grade e (plain id) ≡ Exact → (b : List ℕ) → printed id text u ≡ Some b → answer r s w id spelled text b ≡ Ok (v, b)
    settled y g b p = let h = again_same y g b p in rw (h.image_of.spells, h.means, written, p) refl

  pub never_unprinted : (v : Meaning) → P v → (u : Tree) → w (plain id) v ≡ Ok u → printed id text u ≡ None → ⊥
  never_unprinted v meant u written p = let i = (kept v meant).imaged u written in no_text (printed id text u) (text i.0) (ap (option_map text) i.1) p

-- a value that was read, in the mode of the wire
pub written_plain : (w : Writes) (id : WireKind) (m : Mode) → m ≡ plain id → (v : Meaning) (u : Tree) → w m v ≡ Ok u → w (plain id) v ≡ Ok u
written_plain w id m here v u p = ap (λ y. w y v) (sym here) ∙ p

-- ---- a value that is put straight into the wire's text

text_is : (o : Option (List ℕ)) (b : List ℕ) → text_or_key o ≡ Ok b → o ≡ Some b
text_is (Some c) b p = cc
text_is None b p = absurd (cc)

none_is : (o : Option (List ℕ)) → text_or_key o ≡ Err Key → o ≡ None
none_is (Some c) p = absurd (cc)
none_is None p = refl

-- the tree that was written, and what it prints as
pub written_text : (id : WireKind) (text : Texts) (r : Result Tree SerError) (b : List ℕ) → printed_as id text r ≡ Ok b → (t : Tree) × (r ≡ Ok t) × (printed id text t ≡ Some b)
written_text id text (Ok t) b p = (t, refl, text_is (printed id text t) b p)
written_text id text (Err e) b p = absurd (cc)

-- what isn't refused for a key, and prints, has a text
pub never_keyed : (id : WireKind) (text : Texts) (r : Result Tree SerError) → (r ≡ Err Key → ⊥) → ((t : Tree) → r ≡ Ok t → printed id text t ≡ None → ⊥) → printed_as id text r ≡ Err Key → ⊥
never_keyed id text (Ok t) a b p = b t refl (none_is (printed id text t) p)
never_keyed id text (Err e) a b p = let same : e ≡ Key = cc in a (ap (λ d. Err d) same)

-- what has no text is refused for another reason, or for want of memory
pub text_never_key : {T : Type 0} (x : Result T RecodeError) (e : SerFail) (q : Result (List ℕ) SerError) → IsErrAnd x (λ r. r ≡ write_error e) → IsPrintedAs (Err e) q → (q ≡ Err Key → ⊥) → x ≡ Err (fail.Unwritable Key) → ⊥
text_never_key x (ser.Unwritable r) q k h never p = let is = err_is x (fail.Unwritable r) k in let same : r ≡ Key = cc (is, p) in never (h ∙ ap (λ d. Err d) same)
text_never_key x ser.Memory q k h never p = let is = err_is x fail.Memory k in cc (p, is)
