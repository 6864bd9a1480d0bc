-- A count spelled anew: where the parts of the bytes go.
use Rattle.std.proofs.Common.{◌≡◌, ◌≤◌, ℕ, List, [], ◌++◌, ◌+◌, ◌-◌, ap, sym, ◌∙◌, append_assoc, length, take, drop, arith, length-append, length-drop}
use Rattle.std.proofs.lemmas.List.{append-nil, take_at, drop_at, take_all, drop_all, take-append-drop, drop-drop, drop-append-le, take-append-le, length-take-le}
use borrow.Rule.Slice.PartMut.{put_mid}

-- so many turned to the end
abbrev turned : ℕ → List ℕ → List ℕ
turned k x = drop (length x - k) x ++ take (length x - k) x

turned_at : (q n : List ℕ) (k : ℕ) → length n ≡ k → turned k (q ++ n) ≡ n ++ q
turned_at q n k l =
    let e : length q ≡ length (q ++ n) - k = omega (arith, length-append q n) in
    ap (λ x. x ++ take (length (q ++ n) - k) (q ++ n)) (drop_at q n (length (q ++ n) - k) e)
    ∙ ap (λ x. n ++ x) (take_at q n (length (q ++ n) - k) e)

-- two turns: of all, and then of all but what went to the end
pub exchanged : (b c d o q n : List ℕ) (f e : ℕ) → b ≡ o ++ (q ++ n) → length o ≡ f → length n ≡ e → c ≡ drop f b ++ take f b → d ≡ turned e (take (length c - f) c) → d ++ drop (length c - f) c ≡ n ++ (q ++ o)
exchanged b c d o q n f e is lo ln first second =
    let whole : c ≡ (q ++ n) ++ o
    = first ∙ ap (λ x. drop f x ++ take f x) is ∙ ap (λ x. x ++ take f (o ++ (q ++ n))) (drop_at o (q ++ n) f lo) ∙ ap (λ x. (q ++ n) ++ x) (take_at o (q ++ n) f lo) in
    let k : length (q ++ n) ≡ length c - f = omega (arith, ap length whole, length-append (q ++ n) o) in
    let t : take (length c - f) c ≡ q ++ n = ap (take (length c - f)) whole ∙ take_at (q ++ n) o (length c - f) k in
    let u : drop (length c - f) c ≡ o = ap (drop (length c - f)) whole ∙ drop_at (q ++ n) o (length c - f) k in
    let v : d ≡ n ++ q = second ∙ ap (turned e) t ∙ turned_at q n e ln in
    ap (λ x. x ++ drop (length c - f) c) v ∙ ap (λ x. (n ++ q) ++ x) u ∙ append_assoc n q o

put_last : (at : ℕ) (d x : List ℕ) → put_mid at (length d - at) d x ≡ take at d ++ x
put_last at d x =
    let e : drop (length d - at) (drop at d) ≡ [] = drop_all (length d - at) (drop at d) (omega (arith, length-drop at d)) in
    ap (λ y. take at d ++ (x ++ y)) e ∙ ap (λ y. take at d ++ y) (append-nil x)

-- what the exchange makes of the bytes from a place on
abbrev pub Exchanges : List ℕ → ℕ → ℕ → List ℕ → Type 0
Exchanges b front end x = (o q n : List ℕ) → b ≡ o ++ (q ++ n) → length o ≡ front → length n ≡ end → x ≡ n ++ (q ++ o)

pub respelled : (b n d x out after : List ℕ) (at start w k m : ℕ) → at ≤ start → start ≤ length b → d ≡ b ++ n → w ≡ length n
    → Exchanges (take (length d - at) (drop at d)) (start - at) w x → m ≡ length d → k ≡ length d - (start - at)
    → after ≡ take k (take m (put_mid at (length d - at) d x ++ drop (length (put_mid at (length d - at) d x)) out))
    → after ≡ take at b ++ n ++ drop start b
respelled b n d x out after at start w k m low high is lw ex lm lk e =
    let o = take (start - at) (drop at b) in
    let q = drop start b in
    let lo : length o ≡ start - at = length-take-le (start - at) (drop at b) (omega (arith, length-drop at b)) in
    let s : at + (start - at) ≡ start = omega arith in
    let rest : o ++ q ≡ drop at b
    = ap (λ y. o ++ drop y b) (sym s) ∙ ap (λ y. o ++ y) (sym (drop-drop (start - at) at b)) ∙ take-append-drop (start - at) (drop at b) in
    let parts : take (length d - at) (drop at d) ≡ o ++ (q ++ n)
    = take_all (length d - at) (drop at d) (omega (arith, length-drop at d))
    ∙ ap (drop at) is
    ∙ drop-append-le at b n (omega arith)
    ∙ ap (λ y. y ++ n) (sym rest)
    ∙ append_assoc o q n in
    let turn : x ≡ n ++ (q ++ o) = ex o q n parts lo (sym lw) in
    let front : take at d ≡ take at b = ap (take at) is ∙ take-append-le at b n (omega arith) in
    let p = take at b in
    let all : put_mid at (length d - at) d x ≡ ((p ++ n) ++ q) ++ o
    = put_last at d x
    ∙ ap (λ y. y ++ x) front
    ∙ ap (λ y. p ++ y) turn
    ∙ sym (append_assoc p n (q ++ o))
    ∙ sym (append_assoc (p ++ n) q o) in
    let lp : length p ≡ at = length-take-le at b (omega arith) in
    let kept : length ((p ++ n) ++ q) ≡ k
    = omega (arith, length-append (p ++ n) q, length-append p n, lp, lk, length-drop start b, ap length is, length-append b n) in
    let len : length (put_mid at (length d - at) d x) ≡ m
    = omega (arith, ap length all, length-append ((p ++ n) ++ q) o, kept, lo, lm, lk, ap length is, length-append b n) in
    e ∙ ap (take k) (take_at (put_mid at (length d - at) d x) (drop (length (put_mid at (length d - at) d x)) out) m len)
    ∙ ap (take k) all
    ∙ take_at ((p ++ n) ++ q) o k kept
