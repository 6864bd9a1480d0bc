-- What is appended for a node without parts is its spelling.
use Rattle.std.proofs.Common.{◌≡◌, ◌≤◌, ℕ, ℤ, pos, negsuc, List, [], ◌∷◌, ◌++◌, Bool, true, false, length, refl, ap, sym, ◌∙◌, arith}
use Rattle.std.proofs.lemmas.List.{append-nil}
use Rattle.sw_tree.specs.Tree.{truth, int, text, bytes}
use Rattle.sw_compact.specs.Lengths.{length_bytes}
use Rattle.sw_compact.specs.Numbers.{counted}
use Rattle.sw_compact.specs.Spelling.{spelling}
use Rattle.sw_compact.specs.Inner.Appended.{truth_tag, number_bytes}
use Rattle.sw_compact.specs.declared.version.Version.{Version}

pub truth-spelled : (v : Version) (b : Bool) → truth_tag b ∷ [] ≡ spelling v (truth b) []
truth-spelled v true = refl
truth-spelled v false = refl

pub number-spelled : (v : Version) (z : ℤ) → number_bytes z ≡ spelling v (int z) []
number-spelled v (pos n) = sym (append-nil (3 ∷ counted n))
number-spelled v (negsuc n) = sym (append-nil (4 ∷ counted n))

pub some_number : (z : ℤ) → 1 ≤ length (number_bytes z)
some_number (pos n) = omega arith
some_number (negsuc n) = omega arith

-- a tag, and bytes behind their length
abbrev pub content : Version → ℕ → List ℕ → List ℕ
content v tag s = tag ∷ length_bytes v (length s) ++ s

pub some_content : (v : Version) (tag : ℕ) (s : List ℕ) → 1 ≤ length (content v tag s)
some_content v tag s = omega arith

pub text-spelled : (v : Version) (s r : List ℕ) → r ≡ s → content v 5 r ≡ spelling v (text s) []
text-spelled v s r e = ap (content v 5) e ∙ sym (append-nil (content v 5 s))

pub bytes-spelled : (v : Version) (s : List ℕ) → content v 6 s ≡ spelling v (bytes s) []
bytes-spelled v s = sym (append-nil (content v 6 s))
