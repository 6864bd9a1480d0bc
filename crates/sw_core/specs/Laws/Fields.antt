-- The names of a record's fields.
use Rattle.std.specs.Prelude.{◌≡◌, ℕ, zero, suc, List, [], ◌∷◌, ◌&&◌, ◌||◌, not, Bool, true, false}
use Rattle.std.proofs.Common.{refl, arith}
use Rattle.std.specs.Char.{is_ascii}
use Rattle.std.specs.Str.{IsAscii, IsUtf8, bytes_eq, is_utf8}
use Rattle.std.proofs.lemmas.Bool.{ltb-true}
use Rattle.std.proofs.lemmas.Slice.Eq.{bytes_eq-Decides}
use Rattle.std.proofs.lemmas.Str.{IsUtf8-from_ascii, IsUtf8-from_is_utf8}
use Rattle.sw_core.specs.Fields.{Field}

abbrev pub names_of : List Field → List (List ℕ)
names_of [] = []
names_of (f ∷ fs) = f.name ∷ names_of fs

-- the name is none of those
abbrev pub is_new : List ℕ → List (List ℕ) → Bool
is_new s [] = true
is_new s (n ∷ ns) = not (bytes_eq n s) && is_new s ns

-- each byte is ASCII
abbrev pub is_ascii_text : List ℕ → Bool
is_ascii_text [] = true
is_ascii_text (c ∷ cs) = is_ascii c && is_ascii_text cs

-- each is a text, and no two are the same: that of names in ASCII is found by computing
abbrev pub are_names : List (List ℕ) → Bool
are_names [] = true
are_names (n ∷ ns) = (is_ascii_text n || is_utf8 n) && (is_new n ns && are_names ns)

both : (a b : Bool) → (a && b) ≡ true → (a ≡ true) × (b ≡ true)
both true b h = (refl, h)
both false b h = absurd (cc)

ascii_is : (s : List ℕ) → is_ascii_text s ≡ true → IsAscii s
ascii_is [] h zero = omega arith
ascii_is [] h (suc i) = omega arith
ascii_is (c ∷ cs) h zero = ltb-true c 128 ((both (is_ascii c) (is_ascii_text cs) h).0)
ascii_is (c ∷ cs) h (suc i) = ascii_is cs ((both (is_ascii c) (is_ascii_text cs) h).1) i

text_is : (a b : Bool) (P : Type 0) → (a ≡ true → P) → (b ≡ true → P) → (a || b) ≡ true → P
text_is true b P f g h = f refl
text_is false b P f g h = g h

pub first_name : (n : List ℕ) (ns : List (List ℕ)) → are_names (n ∷ ns) ≡ true → IsUtf8 n × (is_new n ns ≡ true) × (are_names ns ≡ true)
first_name n ns h =
    let c = both (is_ascii_text n || is_utf8 n) (is_new n ns && are_names ns) h in
    let d = both (is_new n ns) (are_names ns) c.1 in
    (text_is (is_ascii_text n) (is_utf8 n) (IsUtf8 n) (λ a. IsUtf8-from_ascii n (ascii_is n a)) (IsUtf8-from_is_utf8 n) c.0, d.0, d.1)

other_first : (a b : Bool) → (not a && b) ≡ true → (a ≡ false) × (b ≡ true)
other_first true b h = absurd (cc)
other_first false b h = (refl, h)

pub new_behind : (s n : List ℕ) (ns : List (List ℕ)) → is_new s (n ∷ ns) ≡ true → (bytes_eq n s ≡ false) × (is_new s ns ≡ true)
new_behind s n ns h = other_first (bytes_eq n s) (is_new s ns) h

pub same_name : (s : List ℕ) → bytes_eq s s ≡ true
same_name s = (bytes_eq-Decides s s).1 refl
