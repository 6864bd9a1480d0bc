-- Reading a text with escapes run by run.
use Rattle.std.proofs.Common.{◌≡◌, ℕ, zero, suc, ◌≤◌, ◌<◌, List, [], ◌∷◌, ◌++◌, length, length-append, append_assoc, Option, Some, None, Bool, true, false, cond, eqb, refl, ap, sym, subst, ◌∙◌, arith}
use Rattle.std.proofs.lemmas.Bool.Decides.{nat_tests}
use Rattle.std.proofs.lemmas.List.{nil_from_length, append-nil}
use Rattle.std.specs.Prelude.{option_and_then}
use Rattle.std.specs.Char.{encode_utf8}
use Rattle.sw_json.specs.Bytes.{is_plain, front, behind, Stops}
use Rattle.sw_json.specs.Quoted.{escape_at, piece_at, at_quote, quote_or, before, content}
use Rattle.sw_json.specs.Inner.Unescaping.{unescaped}
use Rattle.sw_json.specs.Laws.Fronts.{split, behind_stops}
use Rattle.sw_json.proofs.Quoting.{piece_shorter}
use Rattle.sw_json.specs.Laws.Quoting.{plain_byte}

empty : (n : ℕ) (bs : List ℕ) → bs ≡ [] → content n bs ≡ None
unfolding content piece_at
empty zero bs h = rw h refl
empty (suc n) bs h = rw h refl

step_same : (o : Option (List ℕ × List ℕ)) (f g : List ℕ → Option (List ℕ × List ℕ)) → ((y : List ℕ × List ℕ) → o ≡ Some y → f y.1 ≡ g y.1)
    → option_and_then (λ x. before x.0 (f x.1)) o ≡ option_and_then (λ x. before x.0 (g x.1)) o
step_same None f g h = refl
step_same (Some y) f g h = ap (before y.0) (h y refl)

-- any count that is enough gives the same
same : (n m : ℕ) (bs : List ℕ) → length bs ≤ n → length bs ≤ m → content n bs ≡ content m bs
unfolding content
same zero m bs h k = let e = nil_from_length bs (omega arith) in empty zero bs e ∙ sym (empty m bs e)
same (suc n) zero bs h k = let e = nil_from_length bs (omega arith) in empty (suc n) bs e ∙ sym (empty zero bs e)
same (suc n) (suc m) bs h k = ap (quote_or (at_quote bs)) (step_same (piece_at bs) (content n) (content m) (λ y e. let s = piece_shorter bs y e in same n m y.1 (omega arith) (omega arith)))

before_before : (a b : List ℕ) (r : Option (List ℕ × List ℕ)) → before a (before b r) ≡ before (a ++ b) r
before_before a b None = refl
before_before a b (Some x) = ap (λ y. Some (y, x.1)) (sym (append_assoc a b x.0))

pub before_none : (r : Option (List ℕ × List ℕ)) → before [] r ≡ r
before_none None = refl
before_none (Some x) = refl

suc_content : (n : ℕ) (bs : List ℕ) (y : List ℕ × List ℕ) → at_quote bs ≡ None → piece_at bs ≡ Some y → length y.1 ≤ n → content (suc n) bs ≡ before y.0 (content (length y.1) y.1)
unfolding content
suc_content n bs y q h l = rw (q, h) (ap (before y.0) (same n (length y.1) y.1 l (omega arith)))

one_step : (n : ℕ) (bs : List ℕ) (y : List ℕ × List ℕ) → length bs ≡ n → at_quote bs ≡ None → piece_at bs ≡ Some y → content n bs ≡ before y.0 (content (length y.1) y.1)
one_step zero bs y e q h = absurd (let s = piece_shorter bs y h in omega arith)
one_step (suc n) bs y e q h = suc_content n bs y q h (let s = piece_shorter bs y h in omega arith)

-- one more piece
one_more : (out bs : List ℕ) (y : List ℕ × List ℕ) → at_quote bs ≡ None → piece_at bs ≡ Some y → unescaped out bs ≡ unescaped (out ++ y.0) y.1
unfolding unescaped
one_more out bs y q h = ap (before out) (one_step (length bs) bs y refl q h) ∙ before_before out y.0 (content (length y.1) y.1)

content_quote : (n : ℕ) (rest : List ℕ) → content n (34 ∷ rest) ≡ Some ([], rest)
unfolding content
content_quote zero rest = refl
content_quote (suc n) rest = refl

content_stuck : (n : ℕ) (bs : List ℕ) → at_quote bs ≡ None → piece_at bs ≡ None → content n bs ≡ None
unfolding content
content_stuck zero bs q h = rw q refl
content_stuck (suc n) bs q h = rw (q, h) refl

at_end : (out rest : List ℕ) → unescaped out (34 ∷ rest) ≡ Some (out, rest)
unfolding unescaped
at_end out rest = ap (before out) (content_quote (length (34 ∷ rest)) rest) ∙ ap (λ s. Some (s, rest)) (append-nil out)

no_more : (out bs : List ℕ) → at_quote bs ≡ None → piece_at bs ≡ None → unescaped out bs ≡ None
unfolding unescaped
no_more out bs q h = ap (before out) (content_stuck (length bs) bs q h)

-- a plain byte, and a run of them
plain_more : (out bs : List ℕ) (b : ℕ) → is_plain b ≡ true → unescaped out (b ∷ bs) ≡ unescaped (out ++ b ∷ []) bs
unfolding piece_at
plain_more out bs b p = one_more out (b ∷ bs) (b ∷ [], bs) (rw (plain_byte b p).1 refl) (rw ((plain_byte b p).0, p) refl)

run_step : (t : Bool) (out bs : List ℕ) (b : ℕ) → is_plain b ≡ t → ((s : List ℕ) → unescaped s bs ≡ unescaped (s ++ front is_plain bs) (behind is_plain bs))
    → unescaped out (b ∷ bs) ≡ unescaped (out ++ cond t (b ∷ front is_plain bs) []) (cond t (behind is_plain bs) (b ∷ bs))
run_step true out bs b p h = plain_more out bs b p ∙ h (out ++ b ∷ []) ∙ ap (λ s. unescaped s (behind is_plain bs)) (append_assoc out (b ∷ []) (front is_plain bs))
run_step false out bs b p h = ap (λ s. unescaped s (b ∷ bs)) (sym (append-nil out))

pub run_more : (out bs : List ℕ) → unescaped out bs ≡ unescaped (out ++ front is_plain bs) (behind is_plain bs)
run_more out [] = ap (λ s. unescaped s []) (sym (append-nil out))
run_more out (b ∷ bs) = run_step (is_plain b) out bs b refl (λ s. run_more s bs)

-- ---- what the bytes behind a run decide

run_is : (all : Option (List ℕ × List ℕ)) (out rest back : List ℕ) → unescaped out rest ≡ all → behind is_plain rest ≡ back → unescaped (out ++ front is_plain rest) back ≡ all
run_is all out rest back h e = ap (unescaped (out ++ front is_plain rest)) (sym e) ∙ sym (run_more out rest) ∙ h

pub closed_there : (all : Option (List ℕ × List ℕ)) (out rest after : List ℕ) (b : ℕ) → unescaped out rest ≡ all → behind is_plain rest ≡ b ∷ after → b ≡ 34 → Some (out ++ front is_plain rest, after) ≡ all
closed_there all out rest after b h e q =
    sym (at_end (out ++ front is_plain rest) after) ∙ run_is all out rest (34 ∷ after) h (e ∙ ap (λ x. x ∷ after) q)

pub ended_there : (all : Option (List ℕ × List ℕ)) (out rest : List ℕ) → unescaped out rest ≡ all → length (behind is_plain rest) ≡ 0 → ◌≡◌ {A = Option (List ℕ × List ℕ)} None all
unfolding piece_at
ended_there all out rest h l =
    let e = nil_from_length (behind is_plain rest) l in
    sym (no_more (out ++ front is_plain rest) [] refl refl) ∙ run_is all out rest [] h e

-- the byte behind a run isn't plain
stopped : (rest bs : List ℕ) (b : ℕ) → behind is_plain rest ≡ b ∷ bs → is_plain b ≡ false
stopped rest bs b e = subst (Stops is_plain) e (behind_stops is_plain rest)

not_eq : (a b : ℕ) → (a ≡ b → ⊥) → eqb a b ≡ false
not_eq a b h = grind (arith, nat_tests)

other_byte : (out bs : List ℕ) (b : ℕ) → is_plain b ≡ false → eqb b 34 ≡ false → eqb b 92 ≡ false → unescaped out (b ∷ bs) ≡ None
unfolding piece_at
other_byte out bs b p q e = no_more out (b ∷ bs) (rw q refl) (rw (e, p) refl)

pub stuck_there : (all : Option (List ℕ × List ℕ)) (out rest after : List ℕ) (b : ℕ) → unescaped out rest ≡ all → behind is_plain rest ≡ b ∷ after → (b ≡ 34 → ⊥) → (b ≡ 92 → ⊥)
    → ◌≡◌ {A = Option (List ℕ × List ℕ)} None all
stuck_there all out rest after b h e q n = sym (other_byte (out ++ front is_plain rest) after b (stopped rest after b e) (not_eq b 34 q) (not_eq b 92 n)) ∙ run_is all out rest (b ∷ after) h e

no_escape : (out bs : List ℕ) → escape_at bs ≡ None → unescaped out (92 ∷ bs) ≡ None
unfolding piece_at
no_escape out bs h = no_more out (92 ∷ bs) refl (rw h refl)

pub refused_there : (all : Option (List ℕ × List ℕ)) (out rest after : List ℕ) (b : ℕ) → unescaped out rest ≡ all → behind is_plain rest ≡ b ∷ after → b ≡ 92 → escape_at after ≡ None
    → ◌≡◌ {A = Option (List ℕ × List ℕ)} None all
refused_there all out rest after b h e q n =
    sym (no_escape (out ++ front is_plain rest) after n) ∙ run_is all out rest (92 ∷ after) h (e ∙ ap (λ x. x ∷ after) q)

escape_piece : (bs k : List ℕ) (c : ℕ) → escape_at bs ≡ Some (c, k) → piece_at (92 ∷ bs) ≡ Some (encode_utf8 c, k)
unfolding piece_at
escape_piece bs k c h = rw h refl

pub goes_on : (all : Option (List ℕ × List ℕ)) (out rest after k : List ℕ) (b c : ℕ) → unescaped out rest ≡ all → behind is_plain rest ≡ b ∷ after → b ≡ 92 → escape_at after ≡ Some (c, k)
    → unescaped ((out ++ front is_plain rest) ++ encode_utf8 c) k ≡ all
goes_on all out rest after k b c h e q s =
    sym (one_more (out ++ front is_plain rest) (92 ∷ after) (encode_utf8 c, k) refl (escape_piece after k c s)) ∙ run_is all out rest (92 ∷ after) h (e ∙ ap (λ x. x ∷ after) q)

pub behind_fits : (bs : List ℕ) → length (behind is_plain bs) ≤ length bs
behind_fits bs = omega (arith, ap length (split is_plain bs), length-append (front is_plain bs) (behind is_plain bs))

pub after_shorter : (rest after : List ℕ) (b : ℕ) → behind is_plain rest ≡ b ∷ after → length after < length rest
after_shorter rest after b e = omega (arith, behind_fits rest, ap length e)

pub escape_shorter : (rest after k : List ℕ) (b c : ℕ) → behind is_plain rest ≡ b ∷ after → escape_at after ≡ Some (c, k) → length k < length rest
escape_shorter rest after k b c e s = omega (arith, behind_fits rest, ap length e, piece_shorter (92 ∷ after) (encode_utf8 c, k) (escape_piece after k c s))
