-- Texts of the compact wire among each other: a tree has one text in each version, no text is of both, and no text goes on as another.
use Rattle.std.proofs.Common.{◌≡◌, ◌++◌, ℕ, List, [], length, ap, sym, ◌∙◌, arith}
use Rattle.sw_tree.specs.Laws.Options.{some_is}
use Rattle.sw_tree.specs.Tree.{Tree}
use Rattle.sw_tree.specs.Proper.{IsProper}
use Rattle.sw_tree.specs.Short.{IsShort}
use Rattle.sw_compact.specs.Spelling.{spelling, text_by}
use Rattle.sw_compact.specs.Decoding.{node}
use Rattle.sw_compact.specs.Texts.{IsText}
use Rattle.sw_compact.specs.Laws.Widths.{spelling_apart}
use Rattle.sw_compact.specs.Laws.Decoding.{node_read}
use Rattle.sw_compact.specs.Laws.Grammar.{begins_low, not_both, unmarked}
use Rattle.sw_compact.specs.declared.version.Version.{Version}
use Rattle.sw_compact.specs.declared.version.Version.TheVariants.{One, Two}

-- ---- the same version

goes_on : (v : Version) (t u : Tree) (s : List ℕ) → IsProper t → IsShort t → IsProper u → IsShort u → spelling v t s ≡ spelling v u [] → (t ≡ u) × (s ≡ [])
goes_on v t u s p h q i e =
    let n = length (spelling v t s) in
    let same = some_is (sym (node_read n v t s p h (omega arith)) ∙ ap (node n v) e ∙ node_read n v u [] q i (omega (arith, ap length e))) in
    (ap (λ (x : Tree × List ℕ). x.0) same, ap (λ (x : Tree × List ℕ). x.1) same)

pub one_tree : (v : Version) (t u : Tree) → IsProper t → IsShort t → IsProper u → IsShort u → text_by v t ≡ text_by v u → t ≡ u
one_tree v t u p h q i e = (goes_on v t u [] p h q i (unmarked v (spelling v t []) (spelling v u []) e)).0

-- ---- both versions

pub no_text_of_both : (t u : Tree) → text_by One t ≡ text_by Two u → ⊥
no_text_of_both t u e = not_both (spelling One t []) (spelling Two u []) (begins_low t []) e

-- a text of version 1 goes on as no text of version 2, nor the other way
low_on : (t u : Tree) (s : List ℕ) → text_by One t ++ s ≡ text_by Two u → ⊥
low_on t u s e = not_both (spelling One t s) (spelling Two u []) (begins_low t s) (spelling_apart One t s ∙ e)

high_on : (t u : Tree) (s : List ℕ) → text_by Two t ++ s ≡ text_by One u → ⊥
high_on t u s e = not_both (spelling One u []) (spelling Two t [] ++ s) (begins_low u []) (sym e)

within : (v w : Version) (t u : Tree) (s : List ℕ) → IsProper t → IsShort t → IsProper u → IsShort u → text_by v t ++ s ≡ text_by w u → s ≡ []
within One One t u s p h q i e = (goes_on One t u s p h q i (spelling_apart One t s ∙ e)).1
within One Two t u s p h q i e = absurd (low_on t u s e)
within Two One t u s p h q i e = absurd (high_on t u s e)
within Two Two t u s p h q i e = (goes_on Two t u s p h q i (spelling_apart Two t s ∙ unmarked Two (spelling Two t [] ++ s) (spelling Two u []) e)).1

pub no_text_within : (front rest : List ℕ) → IsText front → IsText (front ++ rest) → rest ≡ []
no_text_within front rest a b =
    within a.version b.version a.tree b.tree rest a.proper a.short b.proper b.short (ap (λ x. x ++ rest) (sym a.spelled) ∙ b.spelled)
