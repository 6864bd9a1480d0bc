-- A map of a record's fields in order is valid for them, where their names are pairwise different and only one that isn't required is left out.
use Rattle.std.specs.Prelude.{◌≡◌, ◌≢◌, ℕ, bytes_eq, Bool, true, false, not, ◌&&◌, ◌||◌, List, [], ◌∷◌, Option, Some, None}
use Rattle.std.proofs.Common.{refl, sym}
use Rattle.std.proofs.lemmas.Bool.{false_from_ne_true, or_right}
use Rattle.sw_tree.specs.Tree.{Tree, entries}
use Rattle.sw_tree.specs.Laws.Tree.{pairs-entries}
use Rattle.sw_tree.specs.Tree as node
use Rattle.sw_schema.specs.Laws.SameTree.{both, bytes_eq-is, bytes_eq-self}
use Rattle.sw_schema.specs.Schema.{Fields, fields, no_fields, field}
use Rattle.sw_schema.specs.Valid.{valid, valid_fields, named_pass, has_name}

-- the name is none of these, and these are pairwise different
abbrev pub IsNewName : List ℕ → Fields → Type 0
IsNewName n no_fields = Unit {0}
IsNewName n (field m s r fs) = (n ≢ m) × IsNewName n fs

abbrev pub AreNewNames : Fields → Type 0
AreNewNames no_fields = Unit {0}
AreNewNames (field n s r fs) = IsNewName n fs × AreNewNames fs

-- the entries of these values by their fields' names, where there are values
abbrev pub named : Fields → List (Option Tree) → List (Tree × Tree)
named (field n s r fs) (Some v ∷ vs) = (node.text n, v) ∷ named fs vs
named (field n s r fs) (None ∷ vs) = named fs vs
named _ _ = []

-- each value is valid by its place, and only a field that isn't required has none
abbrev pub AreValid : Fields → List (Option Tree) → Type 0
AreValid no_fields [] = Unit {0}
AreValid (field n s r fs) (Some v ∷ vs) = (valid s v ≡ true) × AreValid fs vs
AreValid (field n s r fs) (None ∷ vs) = (r ≡ false) × AreValid fs vs
AreValid _ _ = ⊥

apart : (m n : List ℕ) → m ≢ n → bytes_eq m n ≡ false
apart m n h = false_from_ne_true (bytes_eq m n) (λ p. h (bytes_eq-is m n p))

-- what a name's entries pass is passed by entries of other names alone
others_pass : (n : List ℕ) (f : Tree → Bool) (fs : Fields) (vs : List (Option Tree)) → IsNewName n fs → AreValid fs vs → named_pass n f (named fs vs) ≡ true
others_pass n f no_fields [] h k = refl
others_pass n f no_fields (v ∷ vs) h k = absurd k
others_pass n f (field m s r fs) [] h k = absurd k
others_pass n f (field m s r fs) (Some v ∷ vs) h k = rw (apart n m h.0, others_pass n f fs vs h.1 k.1) refl
others_pass n f (field m s r fs) (None ∷ vs) h k = others_pass n f fs vs h.1 k.1

-- an entry of another name changes nothing
with_other : (n : List ℕ) (v : Tree) (fs : Fields) (es : List (Tree × Tree)) → IsNewName n fs → valid_fields fs es ≡ true → valid_fields fs ((node.text n, v) ∷ es) ≡ true
with_other n v no_fields es h p = refl
with_other n v (field m s r fs) es h p =
    let c = both (named_pass m (valid s) es) ((not r || has_name m es) && valid_fields fs es) p in
    let d = both (not r || has_name m es) (valid_fields fs es) c.1 in
    rw (apart m n (λ e. h.0 (sym e)), c.0, d.0, with_other n v fs es h.1 d.1) refl

-- a record's entries
pub named_valid : (fs : Fields) (vs : List (Option Tree)) → AreNewNames fs → AreValid fs vs → valid_fields fs (named fs vs) ≡ true
named_valid no_fields [] h k = refl
named_valid no_fields (v ∷ vs) h k = absurd k
named_valid (field n s r fs) [] h k = absurd k
named_valid (field n s r fs) (Some v ∷ vs) h k =
    rw (bytes_eq-self n, k.0, others_pass n (valid s) fs vs h.0 k.1, or_right (not r) true refl, with_other n v fs (named fs vs) h.0 (named_valid fs vs h.1 k.1)) refl
named_valid (field n s r fs) (None ∷ vs) h k = rw (others_pass n (valid s) fs vs h.0 k.1, k.0, named_valid fs vs h.1 k.1) refl

-- a record's map
pub record_valid : (fs : Fields) (vs : List (Option Tree)) → AreNewNames fs → AreValid fs vs → valid (fields fs) (node.map (entries (named fs vs))) ≡ true
record_valid fs vs h k = rw (pairs-entries (named fs vs)) (named_valid fs vs h k)
