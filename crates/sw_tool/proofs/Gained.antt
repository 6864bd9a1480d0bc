-- Bytes that a sink gained, where it tells them.
use Rattle.std.proofs.Common.{◌≡◌, ℕ, ◌+◌, ◌≤◌, ◌<◌, min, List, [], ◌∷◌, ◌++◌, length, take, drop, inl, inr, Option, Some, None, Result, Ok, Err, refl, ap, ◌∙◌, sym, arith, append_assoc, map, flat_map, get_or, add-one}
use Rattle.std.specs.List.{concat}
use Rattle.std.specs.Io.KnownBytes.{append_known}
use Rattle.std.proofs.lemmas.List.{append-nil, take_all, take-append-le, take_min, take-append-drop}
use Rattle.std.proofs.lemmas.Grind.{flat_map-append}
use Rattle.std.proofs.Math.Seq.{take-append-add, drop-cons}
use Rattle.sw_tool.specs.Faults.{HasRisen}
use Rattle.sw_tool.specs.Change.{Change}
use Rattle.sw_tool.specs.Output.{GainsFront, Writes, Notes}
use Rattle.sw_tool.specs.declared.source.Failed.{Failed}

append_twice : (known : Option (List ℕ)) (xs ys : List ℕ) → append_known (append_known known xs) ys ≡ append_known known (xs ++ ys)
append_twice None xs ys = refl
append_twice (Some zs) xs ys = ap Some (append_assoc zs xs ys)

append_known-nil : (known : Option (List ℕ)) → append_known known [] ≡ known
append_known-nil None = refl
append_known-nil (Some xs) = ap Some (append-nil xs)

-- bytes that were gained after others
pub gained_on : (xs ys zs : List ℕ) (old mid new : Option (List ℕ)) → mid ≡ append_known old xs → new ≡ append_known mid ys → zs ≡ xs ++ ys → new ≡ append_known old zs
gained_on xs ys zs old mid new e f g = rw (f, e, g) (append_twice old xs ys)

front_of_front : (n : ℕ) (xs ys : List ℕ) → take (min n (length xs)) (xs ++ ys) ≡ take n xs
front_of_front n xs ys = take-append-le (min n (length xs)) xs ys (omega arith) ∙ take_min n xs

-- what changed between those
abbrev pub change : Option (List ℕ) → Option (List ℕ) → ℕ → ℕ → Change
change old new before after = record { old = old; new = new; before = before; after = after }

-- a front of bytes that were to be gained after others, of more
front_on : (xs ys rest zs : List ℕ) (old mid new : Option (List ℕ)) (a b c : ℕ) → mid ≡ append_known old xs → GainsFront (change mid new b c) ys → zs ≡ xs ++ (ys ++ rest) → GainsFront (change old new a c) zs
front_on xs ys rest zs old mid new a b c e f g =
    let n = min f.count (length ys) in
    let cut : take (length xs + n) zs ≡ xs ++ take f.count ys = rw g (take-append-add xs (ys ++ rest) n ∙ ap (λ r. xs ++ r) (front_of_front f.count ys rest)) in
    record { count = length xs + n; gained = gained_on xs (take f.count ys) (take (length xs + n) zs) old mid new e f.gained cut }

-- the pieces before one, it, and those behind it
pub flat_map_around : {X : Type 0} (f : X → List ℕ) (xs : List X) (i : ℕ) (d : X) → i < length xs → flat_map f xs ≡ flat_map f (take i xs) ++ (f (get_or xs i d) ++ flat_map f (drop (i + 1) xs))
flat_map_around f xs i d h =
    let cut : drop i xs ≡ get_or xs i d ∷ drop (i + 1) xs = rw add-one (drop-cons xs i d h) in
    let parts : flat_map f (take i xs ++ drop i xs) ≡ flat_map f (take i xs) ++ flat_map f (drop i xs) = flat_map-append f (take i xs) (drop i xs) in
    rw (take-append-drop i xs, cut) at parts

risen_on : (a b c : ℕ) → a ≤ b → HasRisen b c → HasRisen a c
risen_on a b c h (inl r) = inl (omega arith)
risen_on a b c h (inr r) = inr r

-- a failed writing after another, of more bytes
pub writes_cut : (u : Failed) (old mid new : Option (List ℕ)) (a b c : ℕ) (xs ys rest zs : List ℕ) → Writes (Ok tt) (change old mid a b) xs → Writes (Err u) (change mid new b c) ys → zs ≡ xs ++ (ys ++ rest) → Writes (Err u) (change old new a c) zs
writes_cut u old mid new a b c xs ys rest zs v w e =
    record { whole = tt; front = front_on xs ys rest zs old mid new a b c v.whole w.front e; fault = risen_on a b c v.counts w.fault; counts = omega (arith, v.counts, w.counts) }

-- a writing after another
pub writes_on : (answer : Result (Unit {0}) Failed) (old mid new : Option (List ℕ)) (a b c : ℕ) (xs ys : List ℕ) → Writes (Ok tt) (change old mid a b) xs → Writes answer (change mid new b c) ys → Writes answer (change old new a c) (xs ++ ys)
writes_on (Ok u) old mid new a b c xs ys v w =
    record { whole = gained_on xs ys (xs ++ ys) old mid new v.whole w.whole refl; front = tt; fault = tt; counts = omega (arith, v.counts, w.counts) }
writes_on (Err u) old mid new a b c xs ys v w = writes_cut u old mid new a b c xs ys [] (xs ++ ys) v w (rw append-nil refl)

writes_none : (known : Option (List ℕ)) (a : ℕ) → Writes (Ok tt) (change known known a a) []
writes_none known a = record { whole = sym (append_known-nil known); front = tt; fault = tt; counts = omega arith }

-- a failed writing is one of more bytes
pub writes_less : (u : Failed) (old new : Option (List ℕ)) (a b : ℕ) (xs ys : List ℕ) → Writes (Err u) (change old new a b) xs → Writes (Err u) (change old new a b) (xs ++ ys)
writes_less u old new a b xs ys w = writes_cut u old old new a a b [] xs ys (xs ++ ys) (writes_none old a) w refl

-- the pieces, however they are joined
pub joined : {X : Type 0} (f : X → List ℕ) (xs : List X) → concat (map f xs) ≡ flat_map f xs
joined f [] = refl
joined f (x ∷ xs) = ap (λ r. f x ++ r) (joined f xs)

-- what a written line says of the notes
pub noted : (answer : Result (Unit {0}) Failed) (c : Change) (bytes : List ℕ) → Writes answer c bytes → Notes c bytes
noted (Ok u) c bytes w = record { front = record { count = length bytes; gained = rw (take_all (length bytes) bytes (omega arith)) w.whole }; whole = inr w.whole }
noted (Err u) c bytes w = record { front = w.front; whole = inl w.fault }
