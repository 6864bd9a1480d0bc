-- What soundness gives: each rule holds at the expression, and its children that are checked are sound in their modes. And the other way.
use Rattle.std.specs.Prelude.{◌≡◌, ℕ, suc, Bool, true, false, not, ◌||◌, List, [], ◌∷◌, Option, Some, None, cond, find}
use Rattle.std.proofs.Common.{refl, ap, sym, ◌∙◌}
use Rattle.sw_tree.specs.declared.mode.Mode.{Mode}
use Rattle.sw_check.specs.declared.rule.Rule.{Rule}
use Rattle.sw_check.specs.declared.rule.Rule.TheVariants.{S1, S2, S3, S4, S5, S6, S7, S8}
use Rattle.sw_check.specs.declared.blame.Blame.{Blame}
use Rattle.sw_check.specs.Form.{Form, Forms, no_forms, form}
use Rattle.sw_check.specs.Kinds.{kinds_written}
use Rattle.sw_check.specs.Rules.{holds, order, fault, is_json_key, fit_keys}
use Rattle.sw_check.specs.Checked.{Checked, none, one, two, each, checked}
use Rattle.sw_check.specs.Blame.{here, under, or_else, row_blame, first_blame, blame, IsSound}
use Rattle.sw_check.specs.Laws.Blame.{blame-checked}

-- all of these are sound in that mode
abbrev pub AllSound : Forms → Mode → Type 0
AllSound no_forms m = Unit {0}
AllSound (form p ps) m = IsSound p m × AllSound ps m

-- the children are sound, each in its mode
abbrev pub AreSound : Checked → Type 0
AreSound none = Unit {0}
AreSound (one n p m) = IsSound p m
AreSound (two p m q n) = IsSound p m × IsSound q n
AreSound (each ps m) = AllSound ps m

-- these rules hold at the expression
abbrev pub AllHold : List Rule → Form → Mode → Type 0
AllHold [] e m = Unit {0}
AllHold (r ∷ rs) e m = (holds r e m ≡ true) × AllHold rs e m

here-none : (r : Option Rule) (o : Option Blame) → here r o ≡ None → (r ≡ None) × (o ≡ None)
here-none (Some r) o p = absurd (cc)
here-none None o p = (refl, p)

under-none : (n : ℕ) (o : Option Blame) → under n o ≡ None → o ≡ None
under-none n (Some b) p = cc
under-none n None p = refl

or_else-none : (o q : Option Blame) → or_else o q ≡ None → (o ≡ None) × (q ≡ None)
or_else-none (Some b) q p = absurd (cc)
or_else-none None q p = (refl, p)

all_sound : (ps : Forms) (n : ℕ) (m : Mode) → row_blame blame ps n m ≡ None → AllSound ps m
all_sound no_forms n m s = tt
all_sound (form p ps) n m s =
    let h = or_else-none (under n (blame p m)) (row_blame blame ps (suc n) m) s in
    (under-none n (blame p m) h.0, all_sound ps (suc n) m h.1)

are_sound : (c : Checked) → first_blame blame c ≡ None → AreSound c
are_sound none s = tt
are_sound (one n p m) s = under-none n (blame p m) s
are_sound (two p m q n) s =
    let h = or_else-none (under 0 (blame p m)) (under 1 (blame q n)) s in
    (under-none 0 (blame p m) h.0, under-none 1 (blame q n) h.1)
are_sound (each ps m) s = all_sound ps 0 m s

-- nothing fails at a sound expression, nor below it
split : (e : Form) (m : Mode) → IsSound e m → (fault e m ≡ None) × (first_blame blame (checked e m) ≡ None)
split e m s = here-none (fault e m) (first_blame blame (checked e m)) (sym (blame-checked e m) ∙ s)

-- the children of a sound expression that are checked are sound
pub sound-checked : (e : Form) (m : Mode) → IsSound e m → AreSound (checked e m)
sound-checked e m s = are_sound (checked e m) ((split e m s).1)

first_holds : (b : Bool) (r : Rule) (o : Option Rule) → cond (not b) (Some r) o ≡ None → (b ≡ true) × (o ≡ None)
first_holds true r o p = (refl, p)
first_holds false r o p = absurd (cc)

all_hold : (rs : List Rule) (e : Form) (m : Mode) → find (λ r. not (holds r e m)) rs ≡ None → AllHold rs e m
all_hold [] e m p = tt
all_hold (r ∷ rs) e m p =
    let h = first_holds (holds r e m) r (find (λ s. not (holds s e m)) rs) p in
    (h.0, all_hold rs e m h.1)

each_holds : (e : Form) (m : Mode) → AllHold order e m → (r : Rule) → holds r e m ≡ true
each_holds e m a S1 = a.1.0
each_holds e m a S2 = a.0
each_holds e m a S3 = a.1.1.0
each_holds e m a S4 = a.1.1.1.0
each_holds e m a S5 = a.1.1.1.1.0
each_holds e m a S6 = a.1.1.1.1.1.0
each_holds e m a S7 = a.1.1.1.1.1.1.0
each_holds e m a S8 = a.1.1.1.1.1.1.1.0

-- nothing fails at a sound expression itself
pub sound-faultless : (e : Form) (m : Mode) → IsSound e m → fault e m ≡ None
sound-faultless e m s = (split e m s).0

-- each rule holds at a sound expression
pub sound-rule : (e : Form) (m : Mode) → IsSound e m → (r : Rule) → holds r e m ≡ true
sound-rule e m s = each_holds e m (all_hold order e m (sound-faultless e m s))

none_fails : (rs : List Rule) (e : Form) (m : Mode) → AllHold rs e m → find (λ r. not (holds r e m)) rs ≡ None
none_fails [] e m h = refl
none_fails (r ∷ rs) e m h = ap (λ b. cond (not b) (Some r) (find (λ s. not (holds s e m)) rs)) h.0 ∙ none_fails rs e m h.1

none_blamed : (ps : Forms) (n : ℕ) (m : Mode) → AllSound ps m → row_blame blame ps n m ≡ None
none_blamed no_forms n m s = refl
none_blamed (form p ps) n m s = ap (λ o. or_else (under n o) (row_blame blame ps (suc n) m)) s.0 ∙ none_blamed ps (suc n) m s.1

nothing_blamed : (c : Checked) → AreSound c → first_blame blame c ≡ None
nothing_blamed none s = refl
nothing_blamed (one n p m) s = ap (under n) s
nothing_blamed (two p m q n) s = ap (λ o. or_else (under 0 o) (under 1 (blame q n))) s.0 ∙ ap (under 1) s.1
nothing_blamed (each ps m) s = none_blamed ps 0 m s

-- an expression is sound where each rule holds at it and its children that are checked are sound
pub sound-by : (e : Form) (m : Mode) → AllHold order e m → AreSound (checked e m) → IsSound e m
sound-by e m h s = blame-checked e m ∙ ap (λ r. here r (first_blame blame (checked e m))) (none_fails order e m h) ∙ nothing_blamed (checked e m) s

no_key : (j fit : Bool) → (not j || fit) ≡ true → fit ≡ false → j ≡ false
no_key true true h p = absurd (cc)
no_key true false h p = absurd (cc)
no_key false fit h p = refl

-- what writes no kinds fit for keys is sound at no key of JSON
pub sound-no_key : (e : Form) (m : Mode) → IsSound e m → fit_keys (kinds_written e m) ≡ false → is_json_key m.wire m.place ≡ false
sound-no_key e m s p = no_key (is_json_key m.wire m.place) (fit_keys (kinds_written e m)) (sound-rule e m s S2) p
