-- An expression's blame is its own fault, else the first blame among its children that are checked.
use Rattle.std.specs.Prelude.{◌≡◌, ℕ, zero, suc, ◌<◌, ◌≤◌, max, Option, None}
use Rattle.std.proofs.Common.{refl, ap, sym, arith}
use Rattle.sw_tree.specs.declared.mode.Mode.{Mode}
use Rattle.sw_tree.specs.declared.mode.WireKind.{WireKind}
use Rattle.sw_tree.specs.declared.mode.WireKind.TheVariants.{Json, Compact}
use Rattle.sw_check.specs.declared.blame.Blame.{Blame}
use Rattle.sw_check.specs.Form.{Form, Forms, pick_first, by_wire, no_forms, form, levels, most_levels}
use Rattle.sw_check.specs.Wire.{on_wire}
use Rattle.sw_check.specs.Rules.{fault}
use Rattle.sw_check.specs.Checked.{Checked, none, one, two, each, checked}
use Rattle.sw_check.specs.Blame.{here, under, or_else, row_blame, first_blame, blame_to, blame}

-- how many levels children make
abbrev height : Checked → ℕ
height none = 0
height (one n p m) = suc (levels p)
height (two p m q n) = suc (max (levels p) (levels q))
height (each ps m) = suc (most_levels ps)

height-on_wire : (w : WireKind) (h c : Form) (m : Mode) → height (on_wire w (one 0 h m) (one 1 c m)) ≤ suc (max (levels h) (levels c))
height-on_wire Json h c m = omega arith
height-on_wire Compact h c m = omega arith

height-checked : (e : Form) (m : Mode) → height (checked e m) ≤ levels e
height-checked (pick_first p no_forms) m = omega arith
height-checked (pick_first p (form q qs)) m = omega arith
height-checked (by_wire h c) m = height-on_wire m.wire h c m
height-checked _ m = omega arith

-- two functions that give each expression of fewer levels the same blame
abbrev Agree : (Form → Mode → Option Blame) → (Form → Mode → Option Blame) → ℕ → Type 0
Agree f g n = (p : Form) (m : Mode) → levels p < n → f p m ≡ g p m

row_agree : (f g : Form → Mode → Option Blame) (n : ℕ) → Agree f g n → (ps : Forms) (k : ℕ) (m : Mode) → most_levels ps < n → row_blame f ps k m ≡ row_blame g ps k m
row_agree f g n h no_forms k m l = refl
row_agree f g n h (form p ps) k m l = λ i. or_else (under k (h p m (omega (arith, l)) i)) (row_agree f g n h ps (suc k) m (omega (arith, l)) i)

first_agree : (f g : Form → Mode → Option Blame) (n : ℕ) → Agree f g n → (c : Checked) → height c ≤ n → first_blame f c ≡ first_blame g c
first_agree f g n h none l = refl
first_agree f g n h (one k p m) l = ap (under k) (h p m l)
first_agree f g n h (two p m q k) l = λ i. or_else (under 0 (h p m (omega (arith, l)) i)) (under 1 (h q k (omega (arith, l)) i))
first_agree f g n h (each ps m) l = row_agree f g n h ps 0 m l

childless : (f : Form → Mode → Option Blame) (c : Checked) → height c ≤ 0 → first_blame f c ≡ None
childless f none l = refl
childless f (one k p m) l = absurd (omega (arith, l))
childless f (two p m q k) l = absurd (omega (arith, l))
childless f (each ps m) l = absurd (omega (arith, l))

-- so many levels as the expression has are enough
enough : (n k : ℕ) (e : Form) (m : Mode) → levels e ≤ n → levels e ≤ k → blame_to n e m ≡ blame_to k e m
enough zero zero e m a b = refl
enough zero (suc k) e m a b = ap (here (fault e m)) (sym (childless (blame_to k) (checked e m) (omega (arith, a, height-checked e m))))
enough (suc n) zero e m a b = ap (here (fault e m)) (childless (blame_to n) (checked e m) (omega (arith, b, height-checked e m)))
enough (suc n) (suc k) e m a b =
    ap (here (fault e m)) (first_agree (blame_to n) (blame_to k) (levels e) (λ p j l. enough n k p j (omega (arith, l, a)) (omega (arith, l, b))) (checked e m) (height-checked e m))

down : (n : ℕ) (e : Form) (m : Mode) → levels e ≤ n → blame_to n e m ≡ here (fault e m) (first_blame blame (checked e m))
down zero e m a = ap (here (fault e m)) (sym (childless blame (checked e m) (omega (arith, a, height-checked e m))))
down (suc n) e m a =
    ap (here (fault e m)) (first_agree (blame_to n) blame (levels e) (λ p j l. enough n (levels p) p j (omega (arith, l, a)) (omega arith)) (checked e m) (height-checked e m))

pub blame-checked : (e : Form) (m : Mode) → blame e m ≡ here (fault e m) (first_blame blame (checked e m))
blame-checked e m = down (levels e) e m (omega arith)
