-- What a row keeps, from what each of its readers keeps at its tree.
use Rattle.std.specs.Prelude.{◌≡◌, ◌+◌, List, [], ◌∷◌, ◌++◌, cond, is_ok, Result, Ok, Err}
use Rattle.std.proofs.Common.{refl, subst, arith}
use Rattle.sw_tree.specs.Laws.Each.{each_append, each_cond}
use Rattle.sw_tree.specs.Meaning.{Meaning}
use Rattle.sw_tree.specs.Nodes.{kinds, IsNoteIn}
use Rattle.sw_tree.specs.Laws.Nodes.{kinds-size}
use Rattle.sw_tree.specs.Placed.{Note, moved, spot_next}
use Rattle.sw_tree.specs.Proper.{IsNodeTree}
use Rattle.sw_tree.specs.Steps.{bind, Each}
use Rattle.sw_tree.specs.Tree.{Tree, by_turns, size}
use Rattle.sw_tree.specs.declared.mode.Kind.{Kind}
use Rattle.sw_tree.specs.declared.mode.Mode.{Mode}
use Rattle.sw_tree.specs.declared.fail.DeError.{DeError}
use Rattle.sw_elem.specs.Equations.{Reads, Spots, Skips, LawfulReading}
use Rattle.sw_elem.specs.Statements.{HasSpotKinds, HasNoteKinds}
use Rattle.sw_core.specs.Rows.{Reader, reader, each_by, turns_by, row_reads, row_spot, row_skips}
use Rattle.sw_tree.specs.Laws.Nodes.{all_kinds, refusal, IsStable, IsBelow, IsOfKind, behind, all_before, all_behind}

-- ---- the same of each reader and its tree

abbrev pub EachAt : {M : Type 0} → (Reader M → Tree → Type 0) → List (Reader M) → List Tree → Type 0
EachAt P [] ts = Unit {0}
EachAt P (r ∷ rs) [] = Unit {0}
EachAt P (r ∷ rs) (t ∷ ts) = P r t × EachAt P rs ts

module _ {M : Type 0} (P : Reader M → Tree → Type 0) where
  pub each_by-at : (r : Reader M) → ((t : Tree) → P r t) → (ts : List Tree) → EachAt P (each_by r ts) ts
  each_by-at r h [] = tt
  each_by-at r h (t ∷ ts) = (h t, each_by-at r h ts)

  pub turns_by-at : (r q : Reader M) → ((t : Tree) → P r t) → ((t : Tree) → P q t) → (es : List (Tree × Tree)) → EachAt P (turns_by r q es) (by_turns es)
  turns_by-at r q h k [] = tt
  turns_by-at r q h k (e ∷ es) = (h e.0, (k e.1, turns_by-at r q h k es))

-- the refused node of a tree, and what is passed over in it, are so
abbrev pub Refuses : (List Kind → Note → Type 0) → {M : Type 0} → Reader M → Tree → Type 0
Refuses Q r t = (e : DeError) → r.reads t ≡ Err e → Q (kinds t) (refusal e (r.spot t))

abbrev pub Notes : (List Kind → Note → Type 0) → {M : Type 0} → Reader M → Tree → Type 0
Notes Q r t = Each (Q (kinds t)) (r.skips t)

-- ---- an adapter in a mode

module _ {P : Meaning → Type 0} {r : Reads} {s : Spots} (k : Skips) (law : LawfulReading P r s) (m : Mode) where
  pub reader_below : (t : Tree) → Refuses IsBelow (reader r s k m) t
  reader_below t e p = omega (arith, kinds-size t, law.inside m t e p)

module _ (r : Reads) (s : Spots) (k : Skips) (m : Mode) where
  pub reader_kinds : HasSpotKinds r s m → (t : Tree) → Refuses IsOfKind (reader r s k m) t
  reader_kinds law t e p j i = law t j (subst (λ (d : DeError). r m t ≡ Err d) i p)

  pub reader_notes : HasNoteKinds k m → (t : Tree) → Notes IsNoteIn (reader r s k m) t
  reader_notes law t = law t

-- ---- where all is read

-- each tree is read so, as far as there are readers and trees
abbrev pub AreRead : {M : Type 0} → List (Reader M) → List Tree → List M → Type 0
AreRead [] ts [] = Unit {0}
AreRead [] ts (v ∷ vs) = ⊥
AreRead (r ∷ rs) [] [] = Unit {0}
AreRead (r ∷ rs) [] (v ∷ vs) = ⊥
AreRead (r ∷ rs) (t ∷ ts) [] = ⊥
AreRead (r ∷ rs) (t ∷ ts) (v ∷ vs) = (r.reads t ≡ Ok v) × AreRead rs ts vs

module _ {M : Type 0} where
  next_read : (r : Reader M) (rs : List (Reader M)) (t : Tree) (ts : List Tree) (x : Result M DeError) (y : Result (List M) DeError) → r.reads t ≡ x → (vs : List M) →
      bind x (λ v. bind y (λ us. Ok (v ∷ us))) ≡ Ok vs → ((us : List M) → y ≡ Ok us → AreRead rs ts us) → AreRead (r ∷ rs) (t ∷ ts) vs
  next_read r rs t ts (Ok v) (Ok us) i vs p later = let e : (v ∷ us) ≡ vs = cc in subst (AreRead (r ∷ rs) (t ∷ ts)) e (i, later us refl)
  next_read r rs t ts (Ok v) (Err d) i vs p later = absurd (cc)
  next_read r rs t ts (Err d) y i vs p later = absurd (cc)

  pub row-read : (rs : List (Reader M)) (ts : List Tree) (vs : List M) → row_reads rs ts ≡ Ok vs → AreRead rs ts vs
  row-read [] ts vs p = let e : [] ≡ vs = cc in subst (AreRead [] ts) e tt
  row-read (r ∷ rs) [] vs p = let e : [] ≡ vs = cc in subst (AreRead (r ∷ rs) []) e tt
  row-read (r ∷ rs) (t ∷ ts) vs p = next_read r rs t ts (r.reads t) (row_reads rs ts) refl vs p (λ us q. row-read rs ts us q)

  pub row-reads : (rs : List (Reader M)) (ts : List Tree) (vs : List M) → AreRead rs ts vs → row_reads rs ts ≡ Ok vs
  row-reads [] ts [] h = refl
  row-reads [] ts (v ∷ vs) h = absurd h
  row-reads (r ∷ rs) [] [] h = refl
  row-reads (r ∷ rs) [] (v ∷ vs) h = absurd h
  row-reads (r ∷ rs) (t ∷ ts) [] h = absurd h
  row-reads (r ∷ rs) (t ∷ ts) (v ∷ vs) h = rw (h.0, row-reads rs ts vs h.1) refl

-- what one reader gives of trees that nodes can be is all of one type
pub each-meant : (P : Meaning → Type 0) (r : Reader Meaning) → ((t : Tree) (v : Meaning) → IsNodeTree t → r.reads t ≡ Ok v → P v) → (ts : List Tree) (vs : List Meaning) →
    Each IsNodeTree ts → AreRead (each_by r ts) ts vs → Each P vs
each-meant P r one [] [] n h = tt
each-meant P r one [] (v ∷ vs) n h = absurd h
each-meant P r one (t ∷ ts) [] n h = absurd h
each-meant P r one (t ∷ ts) (v ∷ vs) n h = (one t v n.0 h.0, each-meant P r one ts vs n.1 h.1)

-- ---- where a tree is refused, and what is passed over

module _ (Q : List Kind → Note → Type 0) (s : IsStable Q) {M : Type 0} where
  next_refused : (r : Reader M) (rs : List (Reader M)) (t : Tree) (ts : List Tree) (x : Result M DeError) (y : Result (List M) DeError) → r.reads t ≡ x → (e : DeError) →
      bind x (λ v. bind y (λ vs. Ok (v ∷ vs))) ≡ Err e → Refuses Q r t → (y ≡ Err e → Q (all_kinds ts) (refusal e (row_spot rs ts))) →
      Q (kinds t ++ all_kinds ts) (refusal e (spot_next x (r.spot t) (size t + row_spot rs ts)))
  next_refused r rs t ts (Err d) y i e p here later = s.left (kinds t) (all_kinds ts) (refusal e (r.spot t)) (here e (let k : d ≡ e = cc in subst (λ (z : DeError). r.reads t ≡ Err z) k i))
  next_refused r rs t ts (Ok v) (Err d) i e p here later = behind Q s t (all_kinds ts) (refusal e (row_spot rs ts)) (later p)
  next_refused r rs t ts (Ok v) (Ok vs) i e p here later = absurd (cc)

  pub row-refused : (rs : List (Reader M)) (ts : List Tree) → EachAt (Refuses Q) rs ts → (e : DeError) → row_reads rs ts ≡ Err e → Q (all_kinds ts) (refusal e (row_spot rs ts))
  row-refused [] ts h e p = absurd (cc)
  row-refused (r ∷ rs) [] h e p = absurd (cc)
  row-refused (r ∷ rs) (t ∷ ts) h e p = next_refused r rs t ts (r.reads t) (row_reads rs ts) refl e p h.0 (row-refused rs ts h.1 e)

  pub row-noted : (rs : List (Reader M)) (ts : List Tree) → EachAt (Notes Q) rs ts → Each (Q (all_kinds ts)) (row_skips rs ts)
  row-noted [] ts h = tt
  row-noted (r ∷ rs) [] h = tt
  row-noted (r ∷ rs) (t ∷ ts) h =
      let ks = kinds t ++ all_kinds ts in
      let rest = moved (size t) (row_skips rs ts) in
      each_append (Q ks) (r.skips t) (cond (is_ok (r.reads t)) rest []) (all_before Q s (kinds t) (all_kinds ts) (r.skips t) h.0)
      (each_cond (Q ks) (is_ok (r.reads t)) rest (all_behind Q s t (all_kinds ts) (row_skips rs ts) (row-noted rs ts h.1)))
