-- The bytes of a text are bytes.
use lib.Utf8.{scalar, encode, scalars, encodes, next, scalar_cases}
use Rattle.std.proofs.Common.{◌≡◌, ◌<◌, ◌+◌, ◌/◌, ℕ, Bool, true, false, cond, List, [], ◌∷◌, inl, inr, refl, subst, arith, IsUtf8, nat_lt}
use Rattle.std.proofs.lemmas.Bool.{and_parts}
use Rattle.std.proofs.lemmas.Bool.Decides.{nat_tests}
use Rattle.std.proofs.lemmas.List.Folds.{list_all-append}
use Rattle.sw_compact.specs.Head.{is_byte}
use Rattle.sw_compact.specs.Laws.Numbers.{AreBytes, are_bytes}

scalar_low : (c : ℕ) → scalar c ≡ true → c < 1114112
scalar_low c h = elim (scalar_cases c h) [ inl low ↦ omega (arith, low) | inr high ↦ high.1 ]

encode_bytes : (c : ℕ) → c < 1114112 → AreBytes (encode c)
unfolding encode
encode_bytes c low = one (nat_lt c 128) (nat_lt c 2048) (nat_lt c 65536) refl refl refl
  where
    last : (q : ℕ) → AreBytes (next q ∷ [])
    last q = are_bytes (next q) [] (omega arith) refl

    one : (t u w : Bool) → nat_lt c 128 ≡ t → nat_lt c 2048 ≡ u → nat_lt c 65536 ≡ w
        → AreBytes (cond t (c ∷ []) (cond u ((192 + c / 64) ∷ next c ∷ []) (cond w ((224 + c / 4096) ∷ next (c / 64) ∷ next c ∷ []) ((240 + c / 262144) ∷ next (c / 4096) ∷ next (c / 64) ∷ next c ∷ []))))
    one true u w p q r = let h : c < 128 = grind (arith, nat_tests) in are_bytes c [] (omega (arith, h)) refl
    one false true w p q r = let h : c < 2048 = grind (arith, nat_tests) in are_bytes (192 + c / 64) (next c ∷ []) (omega (arith, h)) (last c)
    one false false true p q r =
        let h : c < 65536 = grind (arith, nat_tests) in
        are_bytes (224 + c / 4096) (next (c / 64) ∷ next c ∷ []) (omega (arith, h)) (are_bytes (next (c / 64)) (next c ∷ []) (omega arith) (last c))
    one false false false p q r =
        are_bytes (240 + c / 262144) (next (c / 4096) ∷ next (c / 64) ∷ next c ∷ []) (omega (arith, low))
        (are_bytes (next (c / 4096)) (next (c / 64) ∷ next c ∷ []) (omega arith) (are_bytes (next (c / 64)) (next c ∷ []) (omega arith) (last c)))

encodes_bytes : (cs : List ℕ) → scalars cs ≡ true → AreBytes (encodes cs)
encodes_bytes [] h = refl
encodes_bytes (c ∷ cs) h =
    let p = and_parts _ _ h in
    rw (list_all-append is_byte (encode c) (encodes cs), encode_bytes c (scalar_low c p.0)) (encodes_bytes cs p.1)

pub utf8_bytes : (s : List ℕ) → IsUtf8 s → AreBytes s
utf8_bytes s u = subst AreBytes u.1.1 (encodes_bytes u.0 u.1.0)
