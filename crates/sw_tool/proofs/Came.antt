-- Bytes that came, where they are told.
use Rattle.std.proofs.Common.{◌≡◌, ℕ, List, ◌++◌, take, drop, Option, Some, None, refl, ap, sym, append_assoc}
use Rattle.std.specs.Io.KnownBytes.{prepend_known}
use Rattle.std.proofs.lemmas.List.{take-append-drop}

-- bytes of which some stand elsewhere now
pub front_and_rest : (n : ℕ) (left front rest : List ℕ) → front ≡ take n left → rest ≡ drop n left → left ≡ front ++ rest
front_and_rest n left front rest e f = rw (e, f) (sym (take-append-drop n left))

prepend_twice : (xs ys : List ℕ) (known : Option (List ℕ)) → prepend_known xs (prepend_known ys known) ≡ prepend_known (xs ++ ys) known
prepend_twice xs ys None = refl
prepend_twice xs ys (Some zs) = ap Some (sym (append_assoc xs ys zs))

-- bytes that came after others
pub came_on : (xs ys zs : List ℕ) (old mid new : Option (List ℕ)) → old ≡ prepend_known xs mid → mid ≡ prepend_known ys new → zs ≡ xs ++ ys → old ≡ prepend_known zs new
came_on xs ys zs old mid new e f g = rw (e, f, g) (prepend_twice xs ys new)
