-- What follows of a wire's grammar: bytes are read as a tree exactly where they spell it, and refused exactly for the cause.
use Rattle.std.specs.Prelude.{List, [], ◌∷◌, ℕ, ℤ, Option, Some, None, Bool, true, false, cond, suc, nat_lt, ◌≡◌, Result, Err, Ok}
use Rattle.std.proofs.Common.{refl, ap, sym, subst, ◌∙◌, inl, inr}
use Rattle.sw_tree.specs.Tree.{Tree}
use Rattle.sw_tree.specs.Raw.{Raw, null, truth, number, text, bytes, list, map, RawItems, no_items, item, RawEntries, no_entries, entry}
use Rattle.sw_tree.specs.Faults.{number_fault, faults, items_faults, entries_faults, judged_by, first, whole}
use Rattle.sw_tree.specs.Wires.{Grammar, HasFault, IsCause, IsRefused, Spelled, SpellsTree, IsDecided, IsGrammar}
use Rattle.sw_tree.specs.declared.fail.WireError.{WireError}
use Rattle.sw_tree.specs.declared.fail.WireError.TheVariants as wire
use Rattle.sw_tree.specs.Laws.Options.{some_is}

-- ---- the faults of a raw tree are faults of nodes
abbrev IsFault : WireError → Type 0
IsFault wire.Syntax = ⊥
IsFault (wire.NotWhole at) = Unit {0}
IsFault (wire.TooDeep at) = Unit {0}
IsFault wire.Memory = ⊥

abbrev AreFaults : List WireError → Type 0
AreFaults [] = Unit {0}
AreFaults (e ∷ es) = IsFault e × AreFaults es

number_is : (at : ℕ) (n : Option ℤ) (rest : List WireError) → AreFaults rest → AreFaults (number_fault at n rest)
number_is at None rest h = (tt, h)
number_is at (Some n) rest h = h

level_is : (b : Bool) (at : ℕ) (rest : List WireError) → AreFaults rest → AreFaults (cond b rest (wire.TooDeep at ∷ rest))
level_is true at rest h = h
level_is false at rest h = (tt, h)

mutual
  faults_are : (d : ℕ) (r : Raw) (rest : List WireError) → AreFaults rest → AreFaults (faults d r rest)
  faults_are d (null at) rest h = h
  faults_are d (truth at b) rest h = h
  faults_are d (number at n) rest h = number_is at n rest h
  faults_are d (text at s) rest h = h
  faults_are d (bytes at s) rest h = level_is (nat_lt d 128) at rest h
  faults_are d (list at rs) rest h = level_is (nat_lt d 128) at (items_faults (suc d) rs rest) (items_are (suc d) rs rest h)
  faults_are d (map at es) rest h = level_is (nat_lt d 128) at (entries_faults (suc d) es rest) (entries_are (suc d) es rest h)

  items_are : (d : ℕ) (rs : RawItems) (rest : List WireError) → AreFaults rest → AreFaults (items_faults d rs rest)
  items_are d no_items rest h = h
  items_are d (item r rs) rest h = faults_are d r (items_faults d rs rest) (items_are d rs rest h)

  entries_are : (d : ℕ) (es : RawEntries) (rest : List WireError) → AreFaults rest → AreFaults (entries_faults d es rest)
  entries_are d no_entries rest h = h
  entries_are d (entry key value es) rest h = faults_are d key (faults d value (entries_faults d es rest)) (faults_are d value (entries_faults d es rest) (entries_are d es rest h))

-- ---- what is judged
err_is : {A E : Type 0} {e d : E} → ◌≡◌ {A = Result A E} (Err e) (Err d) → e ≡ d
err_is h = cc

err_ok : {A E : Type 0} {e : E} {t : A} → Err e ≡ Ok t → ⊥
err_ok h = cc

judged_tree : (fs : List WireError) (t u : Tree) → judged_by fs t ≡ Ok u → (fs ≡ []) × (u ≡ t)
judged_tree [] t u h = (refl, cc)
judged_tree (f ∷ fs) t u h = cc

pub judged_first : (fs : List WireError) (t : Tree) (e : WireError) → first fs ≡ Some e → judged_by fs t ≡ Err e
judged_first [] t e h = cc
judged_first (f ∷ fs) t e h = ap (λ x. Err x) (some_is h)

cause_of : (spells : Grammar) (b : List ℕ) (e : WireError) → IsFault e → HasFault spells b e → IsCause spells b e
cause_of spells b wire.Syntax f h = absurd f
cause_of spells b (wire.NotWhole at) f h = h
cause_of spells b (wire.TooDeep at) f h = h
cause_of spells b wire.Memory f h = absurd f

cause_by : (spells : Grammar) (b : List ℕ) (r : Raw) (fs : List WireError) (t : Tree) (e : WireError) → spells b r → faults 0 r [] ≡ fs → AreFaults fs → judged_by fs t ≡ Err e → IsCause spells b e
cause_by spells b r [] t e s z a h = absurd (err_ok (sym h))
cause_by spells b r (f ∷ fs) t e s z a h = subst (IsCause spells b) (err_is h) (cause_of spells b f a.0 (record { raw = r; spelled = s; first_is = ap first z }))

refused_of : (spells : Grammar) (b : List ℕ) (e : WireError) → IsCause spells b e → IsRefused spells b e
refused_of spells b wire.Syntax h = h
refused_of spells b (wire.NotWhole at) h = h
refused_of spells b (wire.TooDeep at) h = h
refused_of spells b wire.Memory h = tt

module _ (spells : Grammar) (spelled : Spelled) (g : IsGrammar spells spelled) where
  pub tree_found : (b : List ℕ) (t : Tree) → SpellsTree spells b t → spelled b ≡ Ok t
  tree_found b t s = g.found b s.raw s.spelled ∙ ap (λ fs. judged_by fs (whole s.raw)) s.faultless ∙ ap (λ u. Ok u) (sym s.value_is)

  fault_found : (b : List ℕ) (e : WireError) → HasFault spells b e → spelled b ≡ Err e
  fault_found b e h = g.found b h.raw h.spelled ∙ judged_first (faults 0 h.raw []) (whole h.raw) e h.first_is

  -- a cause is answered by its error
  pub cause_found : (b : List ℕ) (e : WireError) → IsCause spells b e → spelled b ≡ Err e
  cause_found b wire.Syntax h = g.none b h
  cause_found b (wire.NotWhole at) h = fault_found b (wire.NotWhole at) h
  cause_found b (wire.TooDeep at) h = fault_found b (wire.TooDeep at) h
  cause_found b wire.Memory h = absurd h

  tree_by : (b : List ℕ) (t : Tree) → IsDecided spells b → spelled b ≡ Ok t → SpellsTree spells b t
  tree_by b t (inl s) h =
      let j = judged_tree (faults 0 s.0 []) (whole s.0) t (sym (g.found b s.0 s.1) ∙ h) in
      record { raw = s.0; spelled = s.1; faultless = j.0; value_is = j.1 }
  tree_by b t (inr n) h = absurd (err_ok (sym (g.none b n) ∙ h))

  -- a tree is answered where it is spelled
  pub tree_spelled : (b : List ℕ) (t : Tree) → spelled b ≡ Ok t → SpellsTree spells b t
  tree_spelled b t h = tree_by b t (g.decided b) h

  error_by : (b : List ℕ) (e : WireError) → IsDecided spells b → spelled b ≡ Err e → IsCause spells b e
  error_by b e (inl s) h = cause_by spells b s.0 (faults 0 s.0 []) (whole s.0) e s.1 refl (faults_are 0 s.0 [] tt) (sym (g.found b s.0 s.1) ∙ h)
  error_by b e (inr n) h = subst (IsCause spells b) (err_is (sym (g.none b n) ∙ h)) n

  -- an error is answered for its cause
  pub cause_spelled : (b : List ℕ) (e : WireError) → spelled b ≡ Err e → IsCause spells b e
  cause_spelled b e h = error_by b e (g.decided b) h

  pub refused_spelled : (b : List ℕ) (e : WireError) → spelled b ≡ Err e → IsRefused spells b e
  refused_spelled b e h = refused_of spells b e (cause_spelled b e h)
