-- What becomes of bytes with marks as a list or map closes.
use Rattle.std.proofs.Common.{◌≡◌, ◌≤◌, ◌<◌, ◌^◌, ℕ, List, [], ◌∷◌, ◌++◌, ◌+◌, ◌-◌, Ok, Err, Bool, false, suc, refl, ap, sym, subst, ◌∙◌, append_assoc, length, take, drop, arith, reverse, length-append}
use Rattle.std.proofs.lemmas.List.{take-append-drop, take_at, length-take-le, length-reverse, reverse-append}
use Rattle.std.proofs.lemmas.Bool.{lt-leb, le-leb, eqb-false}
use Rattle.std.specs.Prelude.{Vec, ◌==◌}
use Rattle.std.specs.declared.alloc.Global.{Global}
use Rattle.sw_tree.specs.declared.fail.SerError.TheVariants as reason
use Rattle.sw_compact.specs.Lengths.{length_bytes}
use Rattle.sw_compact.specs.Inner.Appended.{opening_tag}
use Rattle.sw_compact.specs.Inner.Written.{Written, frame, shown, spelled, settled, count, closed, longer, IsLaid, AreLaid}
use Rattle.sw_compact.specs.declared.version.Version.{Version}
use Rattle.sw_compact.specs.declared.writer.Open.{Open}
use Rattle.sw_compact.proofs.Marks.{laid-put, counts_on, shown-behind}

-- ---- the count
whole_from : (v : Version) (b : List ℕ) (o : Open) → IsLaid v b o → b ≡ take o.tag b ++ (opening_tag o.is_map ∷ length_bytes v o.told ++ drop o.start b)
whole_from v b o h = sym (take-append-drop o.tag b) ∙ ap (λ x. take o.tag b ++ x) h.told

-- the count that was told is right
pub settled-told : (v : Version) (b : List ℕ) (o : Open) → IsLaid v b o → count o.is_map o.parts ≡ o.told → b ≡ settled v b o
settled-told v b o h e = whole_from v b o h ∙ ap (λ x. take o.tag b ++ (opening_tag o.is_map ∷ length_bytes v x ++ drop o.start b)) (sym e)

-- another count stands behind the tag
pub settled-anew : (v : Version) (b : List ℕ) (o : Open) (n : ℕ) → IsLaid v b o → n ≡ count o.is_map o.parts → take (o.tag + 1) b ++ length_bytes v n ++ drop o.start b ≡ settled v b o
settled-anew v b o n h e =
    let p = take o.tag b in
    let x = opening_tag o.is_map in
    let rest = length_bytes v o.told ++ drop o.start b in
    let lp : length (p ++ x ∷ []) ≡ o.tag + 1 = omega (arith, length-append p (x ∷ []), length-take-le o.tag b (omega (arith, h.tag_in, h.start_in))) in
    let cut : take (o.tag + 1) b ≡ p ++ x ∷ []
    = ap (take (o.tag + 1)) (whole_from v b o h ∙ sym (append_assoc p (x ∷ []) rest)) ∙ take_at (p ++ x ∷ []) rest (o.tag + 1) lp in
    ap (λ y. y ++ length_bytes v n ++ drop o.start b) cut
    ∙ ap (λ y. y ++ drop o.start b) (append_assoc p (x ∷ []) (length_bytes v n))
    ∙ append_assoc p (x ∷ length_bytes v n) (drop o.start b)
    ∙ ap (λ y. p ++ (x ∷ length_bytes v y ++ drop o.start b)) e

-- ---- what is around
pub laid-inside : (v : Version) (b : List ℕ) (o : Open) (os : List Open) → 0 < length os → AreLaid v b o os → IsLaid v b o
laid-inside v b o [] some h = absurd (omega arith)
laid-inside v b o (p ∷ os) some h = h.0

pub some-around : (os : List Open) (n : ℕ) (x : Bool) → n ≡ length os → x ≡ (n == 0) → x ≡ false → 0 < length (reverse os)
some-around os n x l e f = omega (arith, length-reverse os, eqb-false n 0 (sym e ∙ f))

pub around-popped : (all rest : List Open) (p : Open) → all ≡ rest ++ (p ∷ []) → reverse all ≡ p ∷ reverse rest
around-popped all rest p e = ap reverse e ∙ reverse-append rest (p ∷ [])

pub closed-deep : (v : Version) (b : List ℕ) (o : Open) (os : List Open) (w : Written) → 0 < length os → 128 ≤ o.height → shown v b o os ≡ w → closed w ≡ Err reason.TooDeep
closed-deep v b o [] w some h is = absurd (omega arith)
closed-deep v b o (p ∷ os) w some h is = ap closed (sym is) ∙ rw (lt-leb (suc o.height) 128 (omega arith)) refl

around : (v : Version) (b : List ℕ) (o p : Open) (os rest : List Open) → os ≡ p ∷ rest → AreLaid v b o os → AreLaid v (take o.tag b) p rest
around v b o p os rest e h = (subst (AreLaid v b o) e h).1

pub counts_around : (v : Version) (b : List ℕ) (o p : Open) (os rest : List Open) (w : Vec ℕ Global) → os ≡ p ∷ rest → AreLaid v b o os → w.items ≡ settled v b o → p.parts < 2 ^ 64 - 1
counts_around v b o p os rest w e h is = counts_on v (take o.tag b) (spelled v (frame b o)) p rest w (around v b o p os rest e h) is (omega arith)

pub laid-around : (v : Version) (b b' : List ℕ) (o p o' : Open) (os rest : List Open) → os ≡ p ∷ rest → AreLaid v b o os → b' ≡ settled v b o → o' ≡ longer p (o.height + 1) → o.height < 128 → AreLaid v b' o' rest
laid-around v b b' o p o' os rest e h is k low =
    laid-put v (take o.tag b) b' (spelled v (frame b o)) p o' rest (o.height + 1) (around v b o p os rest e h) is k (omega arith) (omega arith)

pub closed-around : (v : Version) (b b' : List ℕ) (o p o' : Open) (os rest : List Open) (w : Written) → os ≡ p ∷ rest → AreLaid v b o os → shown v b o os ≡ w → b' ≡ settled v b o → o' ≡ longer p (o.height + 1) → o.height < 128
    → closed w ≡ Ok (shown v b' o' rest)
closed-around v b b' o p o' os rest w e h is f k low =
    let next : suc o.height ≡ o.height + 1 = omega arith in
    let there : closed (shown v b o (p ∷ rest)) ≡ Ok (shown v (settled v b o) (longer p (o.height + 1)) rest)
    = rw (le-leb (suc o.height) 128 (omega arith), next) (ap Ok (sym (shown-behind v (take o.tag b) (spelled v (frame b o)) p rest (o.height + 1) (around v b o p os rest e h)))) in
    ap closed (sym is)
    ∙ ap (λ x. closed (shown v b o x)) e
    ∙ there
    ∙ ap (λ x. Ok (shown v x (longer p (o.height + 1)) rest)) (sym f)
    ∙ ap (λ x. Ok (shown v b' x rest)) (sym k)
