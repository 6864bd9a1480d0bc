-- What a head that is read says of the bytes.
use Rattle.std.proofs.Common.{◌≡◌, ◌<◌, ◌++◌, append_assoc, ℕ, List, [], ◌∷◌, length, length-append, ap, ◌∙◌, arith}
use Rattle.std.specs.Prelude.{Some}
use Rattle.std.specs.Str.{IsUtf8}
use Rattle.sw_tree.specs.Number.{IsInRange}
use Rattle.sw_tree.specs.Tree.{null, truth, int, text, bytes, list, map}
use Rattle.sw_compact.specs.Head.{Head, leaf, opens, head}
use Rattle.sw_compact.specs.Lengths.{length_bytes}
use Rattle.sw_compact.specs.Spelling.{spelling}
use Rattle.sw_compact.specs.Laws.Heads.{IsAt, tag, head_sound}
use Rattle.sw_compact.specs.Laws.Widths.{spelling_apart, width_some, length-spelling}
use Rattle.sw_compact.specs.declared.version.Version.{Version}

shorter : (v : Version) (b : List ℕ) (h : Head) (k : List ℕ) → IsAt v b h k → length k < length b
shorter v b (leaf t) k a = omega (arith, ap length a.spelled, length-spelling v t k, width_some v t)
shorter v b (opens m n) k a = omega (arith, ap length a.spelled, length-append (length_bytes v a.count) k)

pub head_shorter : (v : Version) (b : List ℕ) (h : Head) (k : List ℕ) → head v b ≡ Some (h, k) → length k < length b
head_shorter v b h k e = shorter v b h k (head_sound v b h k e)

-- The bytes up to what is left end with these.
pub record Ends (b s k : List ℕ) : Type 0 where
  pub before : List ℕ
  pub is : b ≡ before ++ (s ++ k)

abbrev pub IsFound : Head → List ℕ → List ℕ → Type 0
IsFound (leaf (int n)) b k = IsInRange n
IsFound (leaf (text s)) b k = Ends b s k × IsUtf8 s
IsFound (leaf (bytes s)) b k = Ends b s k
IsFound h b k = Unit {0}

found : (v : Version) (b : List ℕ) (h : Head) (k : List ℕ) → IsAt v b h k → IsFound h b k
found v b (leaf null) k a = tt
found v b (leaf (truth c)) k a = tt
found v b (leaf (int n)) k a = a.proper
found v b (leaf (text s)) k a = (record { before = 5 ∷ length_bytes v (length s); is = a.spelled ∙ append_assoc (5 ∷ length_bytes v (length s)) s k }, a.proper)
found v b (leaf (bytes s)) k a = record { before = 6 ∷ length_bytes v (length s); is = a.spelled ∙ append_assoc (6 ∷ length_bytes v (length s)) s k }
found v b (leaf (list ts)) k a = tt
found v b (leaf (map es)) k a = tt
found v b (opens m n) k a = tt

pub head_found : (v : Version) (b : List ℕ) (h : Head) (k : List ℕ) → head v b ≡ Some (h, k) → IsFound h b k
head_found v b h k e = found v b h k (head_sound v b h k e)

apart : (v : Version) (b : List ℕ) (h : Head) (k : List ℕ) → IsAt v b h k → (before : List ℕ) × (b ≡ before ++ k)
apart v b (leaf t) k a = (spelling v t [], a.spelled ∙ spelling_apart v t k)
apart v b (opens m n) k a = (tag m ∷ length_bytes v a.count, a.spelled)

pub head_apart : (v : Version) (b : List ℕ) (h : Head) (k : List ℕ) → head v b ≡ Some (h, k) → (before : List ℕ) × (b ≡ before ++ k)
head_apart v b h k e = apart v b h k (head_sound v b h k e)
