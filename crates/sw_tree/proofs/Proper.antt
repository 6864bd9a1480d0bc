-- Proper trees can be taken and put together.
use Rattle.std.specs.Prelude.{List, [], ◌∷◌, ◌++◌, ℕ, zero, suc, drop, ◌<◌, take, slice_range, ◌-◌, get_or}
use Rattle.std.proofs.Common.{arith, Fits, w8}
use Rattle.sw_tree.specs.Steps.{Each}
use Rattle.sw_tree.specs.Tree.{Tree, trees, entries, turns}
use Rattle.sw_tree.specs.Proper.{IsProper, AreProper, AreProperEntries}

pub proper-push : (ts : List Tree) (t : Tree) → AreProper (trees ts) → IsProper t → AreProper (trees (ts ++ t ∷ []))
proper-push [] t h p = (p, tt)
proper-push (u ∷ ts) t h p = (h.0, proper-push ts t h.1 p)

pub proper_entries-push : (es : List (Tree × Tree)) (e : Tree × Tree) → AreProperEntries (entries es) → IsProper e.0 → IsProper e.1 → AreProperEntries (entries (es ++ e ∷ []))
proper_entries-push [] e h key value = (key, value, tt)
proper_entries-push (f ∷ es) e h key value = (h.0, h.1, proper_entries-push es e h.2 key value)

pub proper-drop : (n : ℕ) (ts : List Tree) → AreProper (trees ts) → AreProper (trees (drop n ts))
proper-drop zero ts h = h
proper-drop (suc n) [] h = tt
proper-drop (suc n) (t ∷ ts) h = proper-drop n ts h.1

pub proper-turns : (ts : List Tree) → AreProper (trees ts) → AreProperEntries (entries (turns ts))
proper-turns [] h = tt
proper-turns (k ∷ []) h = tt
proper-turns (k ∷ v ∷ ts) h = (h.0, h.1.0, proper-turns ts h.1.1)

bytes-drop : (n : ℕ) (s : List ℕ) → Each (λ b. b < 256) s → Each (λ b. b < 256) (drop n s)
bytes-drop zero s h = h
bytes-drop (suc n) [] h = tt
bytes-drop (suc n) (b ∷ s) h = bytes-drop n s h.1

bytes-take : (n : ℕ) (s : List ℕ) → Each (λ b. b < 256) s → Each (λ b. b < 256) (take n s)
bytes-take zero s h = tt
bytes-take (suc n) [] h = tt
bytes-take (suc n) (b ∷ s) h = (h.0, bytes-take n s h.1)

pub bytes-part : (start end : ℕ) (s : List ℕ) → Each (λ b. b < 256) s → Each (λ b. b < 256) (slice_range s start end)
bytes-part start end s h = bytes-take (end - start) (drop start s) (bytes-drop start s h)

pub bytes-fit : (s : List ℕ) → ((i : ℕ) → Fits w8 (get_or s i 0)) → Each (λ b. b < 256) s
bytes-fit [] h = tt
bytes-fit (b ∷ s) h = let here : b < 256 = omega (arith, h 0) in (here, bytes-fit s (λ i. h (suc i)))
