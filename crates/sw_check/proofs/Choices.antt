-- The first of several options and the others, and the levels of the parts in a row.
use Rattle.std.proofs.Common.{◌≡◌, ℕ, zero, suc, ◌<◌, ◌≤◌, Bool, true, false, ◌||◌, List, [], ◌∷◌, length, get_or, refl, ap, subst, ◌∙◌, arith}
use Rattle.sw_tree.specs.declared.mode.Mode.{Mode}
use Rattle.sw_tree.specs.declared.mode.Kind.{Kind}
use Rattle.sw_tree.specs.Mode.{marked}
use Rattle.sw_check.specs.Form.{Form, forms, choice, levels, most_levels, leaf, separated, empty_none, conv}
use Rattle.sw_check.specs.Kinds.{kinds_read}
use Rattle.sw_check.specs.Inner.Options.{mode_of}
use Rattle.sw_check.specs.Checked.{one, checked}
use Rattle.sw_check.specs.Inner.Parts.{others, first_read, others_read}

pub part_levels : (ps : List Form) (k : ℕ) (d p : Form) → k < length ps → p ≡ get_or ps k d → levels p ≤ most_levels (forms ps)
part_levels [] k d p h e = absurd (omega arith)
part_levels (q ∷ ps) zero d p h e = omega (arith, ap levels e)
part_levels (q ∷ ps) (suc k) d p h e = omega (arith, part_levels ps k d p (omega arith) e)

pub others_levels : (e p : Form) (m n : Mode) → one 0 p n ≡ checked e m → most_levels (others e) < levels e
others_levels (leaf f) p m n h = absurd (cc)
others_levels (separated c s) p m n h = absurd (cc)
others_levels (empty_none c) p m n h = absurd (cc)
others_levels (conv f returns) p m n h = absurd (cc)
others_levels _ p m n h = omega arith

pub first_checked : (ps : List Form) (e d p : Form) (m : Mode) → choice ps ≡ e → 1 ≤ length ps → p ≡ get_or ps 0 d → one 0 p (mode_of ps m) ≡ checked e m
first_checked [] e d p m c h f = absurd (omega arith)
first_checked (q ∷ []) e d p m c h f = ap (λ x. one 0 x m) f ∙ ap (λ x. checked x m) c
first_checked (q ∷ r ∷ ps) e d p m c h f = ap (λ x. one 0 x (marked m)) f ∙ ap (λ x. checked x m) c

or-false : (b : Bool) → (b || false) ≡ b
or-false true = refl
or-false false = refl

pub options_read : (ps : List Form) (e : Form) (m : Mode) (k : Kind) → choice ps ≡ e → 1 ≤ length ps → (first_read (checked e m) k || others_read (checked e m) (others e) k) ≡ kinds_read e m k
options_read [] e m k c h = absurd (omega arith)
options_read (q ∷ []) e m k c h = subst (λ x. (first_read (checked x m) k || others_read (checked x m) (others x) k) ≡ kinds_read x m k) c (or-false (kinds_read q m k))
options_read (q ∷ r ∷ ps) e m k c h = subst (λ x. (first_read (checked x m) k || others_read (checked x m) (others x) k) ≡ kinds_read x m k) c refl
