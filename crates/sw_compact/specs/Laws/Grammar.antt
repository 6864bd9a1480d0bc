-- The grammars of the compact wire, and what is printed by them.
use Rattle.std.proofs.Common.{◌≡◌, ◌≤◌, ◌<◌, ◌+◌, ◌++◌, ℕ, suc, Bool, true, false, cond, List, [], ◌∷◌, length, refl, ap, ap₂, sym, subst, ◌∙◌, arith, inl, inr, nat_lt}
use Rattle.std.proofs.lemmas.Bool.Decides.{nat_tests}
use Rattle.std.specs.Prelude.{pos, negsuc, ◌==◌, Option, Some, None, Ok, Err, ◌⊎◌}
use Rattle.sw_tree.specs.Laws.Options.{some_is, none_some}
use Rattle.sw_tree.specs.Tree.{Tree, null, truth, int, text, bytes, list, map, items, pairs, Trees, no_trees, tree, Entries, no_entries, entry, depth, trees_depth, entries_depth}
use Rattle.sw_tree.specs.Raw.{Raw}
use Rattle.sw_tree.specs.Faults.{faults, items_faults, entries_faults, level_fault, judged_by, whole, wholes, whole_entries}
use Rattle.sw_tree.specs.Faults as fault
use Rattle.sw_tree.specs.Wires.{IsGrammar, IsDecided, PrintsImages}
use Rattle.sw_tree.specs.declared.fail.WireError.{WireError}
use Rattle.sw_tree.specs.declared.fail.WireError.TheVariants as wire
use Rattle.sw_tree.specs.declared.mode.WireKind.TheVariants.{Compact}
use Rattle.sw_compact.specs.Lengths.{length_bytes}
use Rattle.sw_compact.specs.Spelling.{spelling, mark}
use Rattle.sw_compact.specs.Located.{located, items_located, entries_located, width}
use Rattle.sw_compact.specs.Decoding.{tree_of}
use Rattle.sw_compact.specs.Spelled.{SpellsBy, spells, spells1, text1, text2, judged, spelled, spelled1}
use Rattle.sw_compact.specs.Laws.Decoding.{tree_read, tree_sound}
use Rattle.sw_compact.specs.declared.version.Version.{Version}
use Rattle.sw_compact.specs.declared.version.Version.TheVariants.{One, Two}

-- ---- the tree of a located raw tree, and its faults

mutual
  pub whole-located : (v : Version) (at : ℕ) (t : Tree) → whole (located v at t) ≡ t
  whole-located v at null = refl
  whole-located v at (truth b) = refl
  whole-located v at (int n) = refl
  whole-located v at (text s) = refl
  whole-located v at (bytes s) = refl
  whole-located v at (list ts) = ap list (wholes-located v (suc at + length (length_bytes v (length (items ts)))) ts)
  whole-located v at (map es) = ap map (entries-located v (suc at + length (length_bytes v (length (pairs es)))) es)

  wholes-located : (v : Version) (at : ℕ) (ts : Trees) → wholes (items_located v at ts) ≡ ts
  wholes-located v at no_trees = refl
  wholes-located v at (tree t ts) = ap₂ tree (whole-located v at t) (wholes-located v (at + width v t) ts)

  entries-located : (v : Version) (at : ℕ) (es : Entries) → whole_entries (entries_located v at es) ≡ es
  entries-located v at no_entries = refl
  entries-located v at (entry k t es) =
      ap₂ (λ (x : Tree × Tree) (xs : Entries). entry x.0 x.1 xs) (ap₂ (λ x y. (x, y)) (whole-located v at k) (whole-located v (at + width v k) t)) (entries-located v (at + width v k + width v t) es)

below_level : (d at : ℕ) (rest : List WireError) → d < 128 → level_fault d at rest ≡ rest
below_level d at rest h = let low : nat_lt d 128 ≡ true = grind (arith, nat_tests) in rw low refl

mutual
  shallow_located : (v : Version) (d at : ℕ) (t : Tree) (rest : List WireError) → d + depth t ≤ 128 → faults d (located v at t) rest ≡ rest
  shallow_located v d at null rest h = refl
  shallow_located v d at (truth b) rest h = refl
  shallow_located v d at (int n) rest h = refl
  shallow_located v d at (text s) rest h = refl
  shallow_located v d at (bytes s) rest h = below_level d at rest (omega (arith, h))
  shallow_located v d at (list ts) rest h =
      let inner = suc at + length (length_bytes v (length (items ts))) in
      below_level d at (items_faults (suc d) (items_located v inner ts) rest) (omega (arith, h)) ∙ shallow_items v (suc d) inner ts rest (omega (arith, h))
  shallow_located v d at (map es) rest h =
      let inner = suc at + length (length_bytes v (length (pairs es))) in
      below_level d at (entries_faults (suc d) (entries_located v inner es) rest) (omega (arith, h)) ∙ shallow_entries v (suc d) inner es rest (omega (arith, h))

  shallow_items : (v : Version) (d at : ℕ) (ts : Trees) (rest : List WireError) → d + trees_depth ts ≤ 128 → items_faults d (items_located v at ts) rest ≡ rest
  shallow_items v d at no_trees rest h = refl
  shallow_items v d at (tree t ts) rest h =
      shallow_located v d at t (items_faults d (items_located v (at + width v t) ts) rest) (omega (arith, h)) ∙ shallow_items v d (at + width v t) ts rest (omega (arith, h))

  shallow_entries : (v : Version) (d at : ℕ) (es : Entries) (rest : List WireError) → d + entries_depth es ≤ 128 → entries_faults d (entries_located v at es) rest ≡ rest
  shallow_entries v d at no_entries rest h = refl
  shallow_entries v d at (entry k t es) rest h =
      let behind = at + width v k in
      shallow_located v d at k (faults d (located v behind t) (entries_faults d (entries_located v (behind + width v t) es) rest)) (omega (arith, h))
      ∙ shallow_located v d behind t (entries_faults d (entries_located v (behind + width v t) es) rest) (omega (arith, h))
      ∙ shallow_entries v d (behind + width v t) es rest (omega (arith, h))

-- a tree of at most 128 levels is judged as itself
shallow_judged : (v : Version) (t : Tree) → depth t ≤ 128 → judged v (Some t) ≡ Ok t
shallow_judged v t h =
    ap₂ (λ (fs : List WireError) (u : Tree). judged_by fs u) (shallow_located v 0 (length (mark v)) t [] (omega (arith, h))) (whole-located v (length (mark v)) t)

-- ---- one version

pub unmarked : (v : Version) (b c : List ℕ) → mark v ++ b ≡ mark v ++ c → b ≡ c
unmarked One b c e = e
unmarked Two b c e = cc

-- what is spelled behind the mark is read as that tree
pub body_read : (v : Version) (b : List ℕ) (r : Raw) (s : SpellsBy v (mark v ++ b) r) → tree_of v b ≡ Some s.tree
body_read v b r s = ap (tree_of v) (unmarked v b (spelling v s.tree []) s.spelled) ∙ tree_read v s.tree s.proper s.short

found_by : (v : Version) (b : List ℕ) (r : Raw) → SpellsBy v (mark v ++ b) r → judged v (tree_of v b) ≡ fault.judged r
found_by v b r s = ap (judged v) (body_read v b r s) ∙ ap fault.judged (sym s.raw_is)

one_by : (v : Version) (b : List ℕ) (r q : Raw) → SpellsBy v (mark v ++ b) r → SpellsBy v (mark v ++ b) q → r ≡ q
one_by v b r q s z =
    let same : s.tree ≡ z.tree = some_is (sym (body_read v b r s) ∙ body_read v b q z) in
    s.raw_is ∙ ap (located v (length (mark v))) same ∙ sym z.raw_is

spells_read : (v : Version) (b : List ℕ) (t : Tree) → tree_of v b ≡ Some t → SpellsBy v (mark v ++ b) (located v (length (mark v)) t)
spells_read v b t e =
    let n = tree_sound v b t e in
    record { tree = t; proper = n.proper; short = n.short; spelled = ap (λ x. mark v ++ x) n.spelled; raw_is = refl }

abbrev DecidedBy : Version → List ℕ → Type 0
DecidedBy v b = ((r : Raw) × SpellsBy v (mark v ++ b) r) ⊎ ((r : Raw) → SpellsBy v (mark v ++ b) r → ⊥)

decided_by : (v : Version) (b : List ℕ) (o : Option Tree) → tree_of v b ≡ o → DecidedBy v b
decided_by v b None e = inr (λ r s. none_some (sym e ∙ body_read v b r s))
decided_by v b (Some t) e = inl (located v (length (mark v)) t, spells_read v b t e)

none_by : (v : Version) (b : List ℕ) (o : Option Tree) → tree_of v b ≡ o → ((r : Raw) → SpellsBy v (mark v ++ b) r → ⊥) → judged v o ≡ Err wire.Syntax
none_by v b None e h = refl
none_by v b (Some t) e h = absurd (h (located v (length (mark v)) t) (spells_read v b t e))

pub grammar1 : IsGrammar spells1 spelled1
unfolding spelled1
grammar1 = record {
  one = one_by One;
  decided = λ b. decided_by One b (tree_of One b) refl;
  found = found_by One;
  none = λ b. none_by One b (tree_of One b) refl;
}

-- ---- either version, of which the first byte tells

-- a text of version 1 begins with a tag
abbrev BeginsLow : List ℕ → Type 0
BeginsLow [] = ⊥
BeginsLow (c ∷ cs) = c ≤ 8

pub begins_low : (t : Tree) (k : List ℕ) → BeginsLow (spelling One t k)
begins_low null k = omega arith
begins_low (truth false) k = omega arith
begins_low (truth true) k = omega arith
begins_low (int (pos n)) k = omega arith
begins_low (int (negsuc n)) k = omega arith
begins_low (text s) k = omega arith
begins_low (bytes s) k = omega arith
begins_low (list ts) k = omega arith
begins_low (map es) k = omega arith

pub not_both : (b k : List ℕ) → BeginsLow b → b ≡ 194 ∷ k → ⊥
not_both b k low e = absurd (high (subst BeginsLow e low))
  where
    high : 194 ≤ 8 → ⊥
    high h = absurd (omega (arith, h))

one_unmarked : (b bs : List ℕ) (r : Raw) → SpellsBy One b r → b ≡ 194 ∷ bs → ⊥
one_unmarked b bs r s e = not_both (spelling One s.tree []) bs (begins_low s.tree []) (sym s.spelled ∙ e)

-- the bytes begin with the mark, or they don't
abbrev IsMarked : List ℕ → Type 0
IsMarked b = ((bs : List ℕ) × (b ≡ 194 ∷ bs)) ⊎ ((bs : List ℕ) → b ≡ 194 ∷ bs → ⊥)

is_marked : (b : List ℕ) → IsMarked b
is_marked [] = inr (λ bs e. cc)
is_marked (c ∷ cs) = by (c == 194) refl
  where
    by : (t : Bool) → (c == 194) ≡ t → IsMarked (c ∷ cs)
    by true e = let same : c ≡ 194 = grind (arith, nat_tests) in inl (cs, ap (λ x. x ∷ cs) same)
    by false e = inr (λ bs h. differs (first h))
      where
        first : {bs : List ℕ} → ◌≡◌ {A = List ℕ} (c ∷ cs) (194 ∷ bs) → c ≡ 194
        first h = cc

        differs : c ≡ 194 → ⊥
        differs same = absurd (grind (arith, nat_tests))

pub spelled_two : (bs : List ℕ) → spelled (194 ∷ bs) ≡ judged Two (tree_of Two bs)
unfolding spelled
spelled_two bs = refl

pub spelled_one : (b : List ℕ) → ((bs : List ℕ) → b ≡ 194 ∷ bs → ⊥) → spelled b ≡ judged One (tree_of One b)
unfolding spelled spelled1
spelled_one [] h = refl
spelled_one (c ∷ cs) h = by (c == 194) refl
  where
    by : (t : Bool) → (c == 194) ≡ t → cond t (judged Two (tree_of Two cs)) (judged One (tree_of One (c ∷ cs))) ≡ judged One (tree_of One (c ∷ cs))
    by true e = let same : c ≡ 194 = grind (arith, nat_tests) in absurd (h cs (ap (λ x. x ∷ cs) same))
    by false e = refl

two_marked : (b : List ℕ) (r : Raw) → SpellsBy Two b r → (bs : List ℕ) × (b ≡ 194 ∷ bs)
two_marked b r s = (spelling Two s.tree [], s.spelled)

found_either : (b : List ℕ) (r : Raw) → spells b r → spelled b ≡ fault.judged r
found_either b r (inl s) = spelled_one b (λ bs e. one_unmarked b bs r s e) ∙ found_by One b r s
found_either b r (inr s) =
    let m = two_marked b r s in
    ap spelled m.1 ∙ spelled_two m.0 ∙ found_by Two m.0 r (subst (λ x. SpellsBy Two x r) m.1 s)

one_either : (b : List ℕ) (r q : Raw) → spells b r → spells b q → r ≡ q
one_either b r q (inl s) (inl z) = one_by One b r q s z
one_either b r q (inl s) (inr z) = absurd (one_unmarked b (two_marked b q z).0 r s (two_marked b q z).1)
one_either b r q (inr s) (inl z) = absurd (one_unmarked b (two_marked b r s).0 q z (two_marked b r s).1)
one_either b r q (inr s) (inr z) =
    let m = two_marked b r s in
    one_by Two m.0 r q (subst (λ x. SpellsBy Two x r) m.1 s) (subst (λ x. SpellsBy Two x q) m.1 z)

-- which version bytes can be a text of
decided_either : (b : List ℕ) → IsMarked b → IsDecided spells b
decided_either b (inl m) = by (decided_by Two m.0 (tree_of Two m.0) refl)
  where
    by : DecidedBy Two m.0 → IsDecided spells b
    by (inl x) = inl (x.0, inr (subst (λ y. SpellsBy Two y x.0) (sym m.1) x.1))
    by (inr h) = inr (λ r s. never r s)
      where
        never : (r : Raw) → spells b r → ⊥
        never r (inl s) = one_unmarked b m.0 r s m.1
        never r (inr s) = h r (subst (λ y. SpellsBy Two y r) m.1 s)
decided_either b (inr n) = by (decided_by One b (tree_of One b) refl)
  where
    by : DecidedBy One b → IsDecided spells b
    by (inl x) = inl (x.0, inl x.1)
    by (inr h) = inr (λ r s. never r s)
      where
        never : (r : Raw) → spells b r → ⊥
        never r (inl s) = h r s
        never r (inr s) = n (two_marked b r s).0 (two_marked b r s).1

none_either : (b : List ℕ) → IsMarked b → ((r : Raw) → spells b r → ⊥) → spelled b ≡ Err wire.Syntax
none_either b (inl m) h =
    ap spelled m.1 ∙ spelled_two m.0 ∙ none_by Two m.0 (tree_of Two m.0) refl (λ r s. h r (inr (subst (λ y. SpellsBy Two y r) (sym m.1) s)))
none_either b (inr n) h = spelled_one b n ∙ none_by One b (tree_of One b) refl (λ r s. h r (inl s))

pub grammar : IsGrammar spells spelled
grammar = record {
  one = one_either;
  decided = λ b. decided_either b (is_marked b);
  found = found_either;
  none = λ b. none_either b (is_marked b);
}

-- ---- what is printed

pub prints_images1 : PrintsImages Compact spelled1 text1
unfolding spelled1
prints_images1 t i n s e =
    ap (λ x. judged One (tree_of One (text1 x))) (sym (some_is e)) ∙ ap (judged One) (tree_read One t n.proper s) ∙ shallow_judged One t n.shallow ∙ ap (λ x. Ok x) (some_is e)

pub prints_images : PrintsImages Compact spelled text2
prints_images t i n s e =
    ap (λ x. spelled (text2 x)) (sym (some_is e)) ∙ spelled_two (spelling Two t []) ∙ ap (judged Two) (tree_read Two t n.proper s) ∙ shallow_judged Two t n.shallow ∙ ap (λ x. Ok x) (some_is e)
