-- A blame is the first failure in preorder, and where nothing is blamed nothing fails.
use Rattle.std.specs.Prelude.{◌≡◌, ℕ, zero, suc, ◌+◌, ◌<◌, ◌⊎◌, ◌==◌, Bool, true, false, cond, List, [], ◌∷◌, Option, Some, None, option_and_then, Result, Ok, Err, IfOk, IfErr, OnOk}
use Rattle.std.proofs.Common.{refl, ap, sym, subst, ◌∙◌, arith, inl, inr}
use Rattle.std.proofs.lemmas.Bool.{eq-eqb, eqb-true}
use Rattle.sw_tree.specs.declared.mode.Mode.{Mode}
use Rattle.sw_check.specs.declared.rule.Rule.{Rule}
use Rattle.sw_check.specs.declared.blame.Blame.{Blame}
use Rattle.sw_check.specs.Form.{Form, Forms, no_forms, form}
use Rattle.sw_check.specs.Rules.{fault}
use Rattle.sw_check.specs.Blame.{blame, row_blame, first_blame, here, under, or_else, IsSound}
use Rattle.sw_check.specs.Checked.{Checked, none, one, two, each, checked}
use Rattle.sw_check.specs.Laws.Blame.{blame-checked}
use Rattle.sw_check.specs.Laws.Sound.{AreSound, AllSound, sound-checked, sound-faultless}
use Rattle.sw_check.specs.Preorder.{child_at, followed, NothingFails, Before, IsFirst, BlamesFirst}
use Rattle.sw_check.specs.Answers.{IsBlamed}
use Rattle.sw_check.specs.Grade.{grade}
use Rattle.sw_check.specs.declared.grade.Grade.{Grade}
use Rattle.sw_check.specs.declared.blame.CheckFail.{CheckFail}
use Rattle.sw_check.specs.declared.blame.CheckFail.TheVariants as fail

abbrev a_blame : List ℕ → Rule → Blame
a_blame ks r = record { path = ks; rule = r }

chosen : (b : Bool) (x y : Form × Mode) → cond b (Some x) None ≡ Some y → (b ≡ true) × (x ≡ y)
chosen true x y p = let e : x ≡ y = cc in (refl, e)
chosen false x y p = absurd (cc)

-- a child of sound children is sound
nth_sound : (ps : Forms) (m : Mode) (k : ℕ) (x : Form × Mode) → AllSound ps m → child_at (each ps m) k ≡ Some x → IsSound x.0 x.1
nth_sound no_forms m k x s p = absurd (cc)
nth_sound (form q ps) m zero x s p = let e : (q, m) ≡ x = cc in subst (λ (y : Form × Mode). IsSound y.0 y.1) e s.0
nth_sound (form q ps) m (suc k) x s p = nth_sound ps m k x s.1 p

child_sound : (c : Checked) (k : ℕ) (x : Form × Mode) → AreSound c → child_at c k ≡ Some x → IsSound x.0 x.1
child_sound none k x s p = absurd (cc)
child_sound (one n q m) k x s p = subst (λ (y : Form × Mode). IsSound y.0 y.1) ((chosen (n == k) (q, m) x p).1) s
child_sound (two q m r n) zero x s p = let e : (q, m) ≡ x = cc in subst (λ (y : Form × Mode). IsSound y.0 y.1) e s.0
child_sound (two q m r n) (suc zero) x s p = let e : (r, n) ≡ x = cc in subst (λ (y : Form × Mode). IsSound y.0 y.1) e s.1
child_sound (two q m r n) (suc (suc k)) x s p = absurd (cc)
child_sound (each ps m) k x s p = nth_sound ps m k x s p

stepped : (f : Form × Mode → Option (Form × Mode)) (o : Option (Form × Mode)) (x : Form × Mode) → option_and_then f o ≡ Some x → (y : Form × Mode) × (o ≡ Some y) × (f y ≡ Some x)
stepped f (Some y) x p = (y, refl, p)
stepped f None x p = absurd (cc)

-- where nothing is blamed nothing fails
pub sound-nothing_fails : (e : Form) (m : Mode) → IsSound e m → NothingFails e m
sound-nothing_fails e m s [] x p = let q : (e, m) ≡ x = cc in subst (λ (y : Form × Mode). fault y.0 y.1 ≡ None) q (sound-faultless e m s)
sound-nothing_fails e m s (k ∷ ks) x p =
    let t = stepped (λ c. followed ks c.0 c.1) (child_at (checked e m) k) x p in
    sound-nothing_fails t.0.0 t.0.1 (child_sound (checked e m) k t.0 (sound-checked e m s) t.1) ks x t.2

under_some : (n : ℕ) (o : Option Blame) (b : Blame) → under n o ≡ Some b → (d : Blame) × (o ≡ Some d) × (b ≡ a_blame (n ∷ d.path) d.rule)
under_some n (Some d) b p = let e : a_blame (n ∷ d.path) d.rule ≡ b = cc in (d, refl, sym e)
under_some n None b p = absurd (cc)

under_none : (n : ℕ) (o : Option Blame) → under n o ≡ None → o ≡ None
under_none n (Some d) p = cc
under_none n None p = refl

either_some : (o q : Option Blame) (b : Blame) → or_else o q ≡ Some b → (o ≡ Some b) ⊎ ((o ≡ None) × (q ≡ Some b))
either_some (Some d) q b p = inl p
either_some None q b p = inr (refl, p)

-- what is blamed among children: in which of them, and those before it are sound
record Found (c : Checked) (b : Blame) : Type 0 where
  number : ℕ
  child : Form × Mode
  inner : Blame
  stands : child_at c number ≡ Some child
  blames : blame child.0 child.1 ≡ Some inner
  whole : b ≡ a_blame (number ∷ inner.path) inner.rule
  earlier : (j : ℕ) (y : Form × Mode) → j < number → child_at c j ≡ Some y → IsSound y.0 y.1

-- the same of a row whose numbers begin at i
record FoundFrom (ps : Forms) (i : ℕ) (m : Mode) (b : Blame) : Type 0 where
  number : ℕ
  child : Form × Mode
  inner : Blame
  stands : child_at (each ps m) number ≡ Some child
  blames : blame child.0 child.1 ≡ Some inner
  whole : b ≡ a_blame ((i + number) ∷ inner.path) inner.rule
  earlier : (j : ℕ) (y : Form × Mode) → j < number → child_at (each ps m) j ≡ Some y → IsSound y.0 y.1

later : (q : Form) (ps : Forms) (m : Mode) (k : ℕ) → IsSound q m → ((j : ℕ) (y : Form × Mode) → j < k → child_at (each ps m) j ≡ Some y → IsSound y.0 y.1) → (j : ℕ) (y : Form × Mode) → j < suc k → child_at (each (form q ps) m) j ≡ Some y → IsSound y.0 y.1
later q ps m k s h zero y l p = let e : (q, m) ≡ y = cc in subst (λ (z : Form × Mode). IsSound z.0 z.1) e s
later q ps m k s h (suc j) y l p = h j y (omega arith) p

found_from : (ps : Forms) (i : ℕ) (m : Mode) (b : Blame) → row_blame blame ps i m ≡ Some b → FoundFrom ps i m b
found_from no_forms i m b p = absurd (cc)
found_from (form q ps) i m b p =
    elim (either_some (under i (blame q m)) (row_blame blame ps (suc i) m) b p) [
      | inl h ↦
          let u = under_some i (blame q m) b h in
          let n : i ≡ i + 0 = omega arith in
          record {
            number = 0;
            child = (q, m);
            inner = u.0;
            stands = refl;
            blames = u.1;
            whole = u.2 ∙ ap (λ k. a_blame (k ∷ u.0.path) u.0.rule) n;
            earlier = λ j y l _. absurd (omega arith);
          }
      | inr h ↦
          let r = found_from ps (suc i) m b h.1 in
          let n : suc i + r.number ≡ i + suc r.number = omega arith in
          record {
            number = suc r.number;
            child = r.child;
            inner = r.inner;
            stands = r.stands;
            blames = r.blames;
            whole = r.whole ∙ ap (λ k. a_blame (k ∷ r.inner.path) r.inner.rule) n;
            earlier = later q ps m r.number (under_none i (blame q m) h.0) r.earlier;
          }
    ]

first_sound : (q : Form) (m : Mode) (r : Form) (n : Mode) → IsSound q m → (j : ℕ) (y : Form × Mode) → j < 1 → child_at (two q m r n) j ≡ Some y → IsSound y.0 y.1
first_sound q m r n s zero y l p = let e : (q, m) ≡ y = cc in subst (λ (z : Form × Mode). IsSound z.0 z.1) e s
first_sound q m r n s (suc j) y l p = absurd (omega arith)

found : (c : Checked) (b : Blame) → first_blame blame c ≡ Some b → Found c b
found none b p = absurd (cc)
found (one n q m) b p =
    let u = under_some n (blame q m) b p in
    record {
      number = n;
      child = (q, m);
      inner = u.0;
      stands = ap (λ v. cond v (Some (q, m)) None) (eq-eqb n n refl);
      blames = u.1;
      whole = u.2;
      earlier = λ j y l e. let k = eqb-true n j (chosen (n == j) (q, m) y e).0 in absurd (omega (arith, k));
    }
found (two q m r n) b p =
    elim (either_some (under 0 (blame q m)) (under 1 (blame r n)) b p) [
      | inl h ↦
          let u = under_some 0 (blame q m) b h in
          record {
            number = 0;
            child = (q, m);
            inner = u.0;
            stands = refl;
            blames = u.1;
            whole = u.2;
            earlier = λ j y l _. absurd (omega arith);
          }
      | inr h ↦
          let u = under_some 1 (blame r n) b h.1 in
          record {
            number = 1;
            child = (r, n);
            inner = u.0;
            stands = refl;
            blames = u.1;
            whole = u.2;
            earlier = first_sound q m r n (under_none 0 (blame q m) h.0);
          }
    ]
found (each ps m) b p =
    let r = found_from ps 0 m b p in
    let n : 0 + r.number ≡ r.number = omega arith in
    record {
      number = r.number;
      child = r.child;
      inner = r.inner;
      stands = r.stands;
      blames = r.blames;
      whole = r.whole ∙ ap (λ k. a_blame (k ∷ r.inner.path) r.inner.rule) n;
      earlier = r.earlier;
    }

here_some : (r : Option Rule) (o : Option Blame) (b : Blame) → here r o ≡ Some b → ((r ≡ Some b.rule) × (b.path ≡ [])) ⊎ ((r ≡ None) × (o ≡ Some b))
here_some (Some r) o b p = let e : a_blame [] r ≡ b = cc in inl (ap (λ (d : Blame). Some d.rule) e, sym (ap (λ (d : Blame). d.path) e))
here_some None o b p = inr (refl, p)

-- a blame is the expression's own failure, or it is found among the children
own_or_below : (e : Form) (m : Mode) (b : Blame) → blame e m ≡ Some b → ((fault e m ≡ Some b.rule) × (b.path ≡ [])) ⊎ ((fault e m ≡ None) × (first_blame blame (checked e m) ≡ Some b))
own_or_below e m b p = here_some (fault e m) (first_blame blame (checked e m)) b (sym (blame-checked e m) ∙ p)

fails_at : (ks : List ℕ) (r : Rule) (e : Form) (m : Mode) → blame e m ≡ Some (a_blame ks r) → (x : Form × Mode) × (followed ks e m ≡ Some x) × (fault x.0 x.1 ≡ Some r)
fails_at [] r e m h =
    elim (own_or_below e m (a_blame [] r) h) [
      | inl q ↦ ((e, m), refl, q.0)
      | inr q ↦
          let f = found (checked e m) (a_blame [] r) q.1 in
          let z : [] ≡ f.number ∷ f.inner.path = ap (λ (b : Blame). b.path) f.whole in
          absurd (cc)
    ]
fails_at (k ∷ ks) r e m h =
    elim (own_or_below e m (a_blame (k ∷ ks) r) h) [
      | inl q ↦ let z : k ∷ ks ≡ [] = q.1 in absurd (cc)
      | inr q ↦
          let f = found (checked e m) (a_blame (k ∷ ks) r) q.1 in
          let z : k ∷ ks ≡ f.number ∷ f.inner.path = ap (λ (b : Blame). b.path) f.whole in
          let same : f.number ≡ k = cc in
          let path : f.inner.path ≡ ks = cc in
          let rule : f.inner.rule ≡ r = sym (ap (λ (b : Blame). b.rule) f.whole) in
          let t = fails_at ks r f.child.0 f.child.1 (f.blames ∙ (λ i. Some (a_blame (path i) (rule i)))) in
          let there : child_at (checked e m) k ≡ Some f.child = ap (child_at (checked e m)) (sym same) ∙ f.stands in
          (t.0, ap (option_and_then (λ c. followed ks c.0 c.1)) there ∙ t.1, t.2)
    ]

sound_before : (ks ds : List ℕ) (r : Rule) (e : Form) (m : Mode) (x : Form × Mode) → blame e m ≡ Some (a_blame ds r) → followed ks e m ≡ Some x → Before ks ds → fault x.0 x.1 ≡ None
sound_before [] [] r e m x h p l = absurd l
sound_before [] (d ∷ ds) r e m x h p l =
    elim (own_or_below e m (a_blame (d ∷ ds) r) h) [
      | inl q ↦ let z : d ∷ ds ≡ [] = q.1 in absurd (cc)
      | inr q ↦ let s : (e, m) ≡ x = cc in subst (λ (y : Form × Mode). fault y.0 y.1 ≡ None) s q.0
    ]
sound_before (k ∷ ks) [] r e m x h p l = absurd l
sound_before (k ∷ ks) (d ∷ ds) r e m x h p l =
    let t = stepped (λ c. followed ks c.0 c.1) (child_at (checked e m) k) x p in
    elim (own_or_below e m (a_blame (d ∷ ds) r) h) [
      | inl q ↦ let z : d ∷ ds ≡ [] = q.1 in absurd (cc)
      | inr q ↦
          let f = found (checked e m) (a_blame (d ∷ ds) r) q.1 in
          let z : d ∷ ds ≡ f.number ∷ f.inner.path = ap (λ (b : Blame). b.path) f.whole in
          let same : d ≡ f.number = cc in
          let path : f.inner.path ≡ ds = cc in
          let rule : f.inner.rule ≡ r = sym (ap (λ (b : Blame). b.rule) f.whole) in
          elim l [
            | inl less ↦ sound-nothing_fails t.0.0 t.0.1 (f.earlier k t.0 (omega (arith, less, same)) t.1) ks x t.2
            | inr equal ↦
                let there : Some t.0 ≡ Some f.child = sym t.1 ∙ ap (child_at (checked e m)) (equal.0 ∙ same) ∙ f.stands in
                let child : f.child ≡ t.0 = cc in
                sound_before ks ds r t.0.0 t.0.1 x (sym (ap (λ (y : Form × Mode). blame y.0 y.1) child) ∙ f.blames ∙ (λ i. Some (a_blame (path i) (rule i)))) t.2 equal.1
          ]
    ]

-- a blame is the first failure in preorder
pub blame-first : (e : Form) (m : Mode) (b : Blame) → blame e m ≡ Some b → IsFirst e m b
blame-first e m b h = record { fails = fails_at b.path b.rule e m h; before = λ ks x p l. sound_before ks b.path b.rule e m x h p l }

-- and so is what a check answers
pub blames_first : (r : Result Grade CheckFail) (e : Form) (m : Mode) → IfErr r (λ f. IsBlamed f (blame e m)) → IfErr r (λ f. BlamesFirst f e m)
blames_first (Ok g) e m h = tt
blames_first (Err (fail.Blame b)) e m h = blame-first e m b h
blames_first (Err fail.Memory) e m h = tt

pub nothing_fails : (r : Result Grade CheckFail) (e : Form) (m : Mode) → IfOk r (λ g. IsSound e m × (g ≡ grade e m)) → OnOk r (NothingFails e m)
nothing_fails (Ok g) e m h = sound-nothing_fails e m h.0
nothing_fails (Err f) e m h = tt

pub ruleset preorder = (blames_first, nothing_fails)
