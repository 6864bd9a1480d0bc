-- The laws of an optional pair as the entries of a map, from those of a list of pairs.
use Rattle.std.specs.Prelude.{◌≡◌, zero, suc, ℕ, List, [], ◌∷◌, length, true, Result, Ok, Err}
use Rattle.std.proofs.Common.{refl, ap, subst}
use Rattle.sw_tree.specs.Kinds.{is_kind}
use Rattle.sw_tree.specs.Laws.Nodes.{IsBelow, IsOfKind}
use Rattle.sw_tree.specs.Laws.Steps.{bind_ok}
use Rattle.sw_tree.specs.Meaning.{Meaning, nothing, case, list, meaning, no_meanings, meanings}
use Rattle.sw_tree.specs.Meant.{pair, IsListOf, IsOptionOf, IsPairOf}
use Rattle.sw_tree.specs.Mode.{at_key, at_value}
use Rattle.sw_tree.specs.Nodes.{IsNoteIn}
use Rattle.sw_tree.specs.Proper.{IsNodeTree}
use Rattle.sw_tree.specs.Steps.{bind, Each}
use Rattle.sw_tree.specs.Tree.{Tree, pairs, by_turns, kind_of}
use Rattle.sw_tree.specs.Tree as node
use Rattle.sw_tree.specs.declared.mode.Kind.{Kind}
use Rattle.sw_tree.specs.declared.mode.Kind.TheVariants as kind
use Rattle.sw_tree.specs.declared.mode.Mode.{Mode}
use Rattle.sw_tree.specs.declared.fail.DeError.{DeError}
use Rattle.sw_tree.specs.declared.fail.DeError.TheVariants as fail
use Rattle.sw_check.specs.Blame.{IsSound}
use Rattle.sw_check.specs.Form.{Form, map}
use Rattle.sw_check.specs.Grade.{grade}
use Rattle.sw_check.specs.declared.grade.Grade.TheVariants.{Exact}
use Rattle.sw_elem.specs.Equations.{Writes, Reads, Spots, Skips, LawfulReading}
use Rattle.sw_elem.specs.Statements.{Norm, IsExact, ReadsBack, NormsWithin}
use Rattle.sw_elem.specs.Lawful.{Lawful}
use Rattle.sw_core.specs.Entries.{entries_writes, entries_reads, entries_spot, entries_skips, entries_norm, pair_norm, twos}
use Rattle.sw_core.specs.OptionalPair.{listed, first_alone, pair_made, optional_pair_writes, optional_pair_plan, optional_pair_reads, optional_pair_spot, optional_pair_skips, optional_pair_norm}
use Rattle.sw_core.specs.Plans.{children}
use Rattle.sw_core.specs.Rows.{Reader, reader, turns_by, row_reads}
use Rattle.sw_core.specs.Laws.Entries.{entries_keeps}
use Rattle.sw_core.specs.Laws.Plans.{RefusesItself, plan_lawful, plan_spot_kinds, plan_note_kinds}
use Rattle.sw_core.specs.Laws.Rows.{EachAt, Refuses, Notes, reader_below, reader_kinds, reader_notes, AreRead, row-read}

-- ---- reading

-- what is said of each reader and its tree is said of the first entry's
first-at : (R : Reader Meaning → Tree → Type 0) (r q : Reader Meaning) → ((t : Tree) → R r t) → ((t : Tree) → R q t) → (es : List (Tree × Tree)) → EachAt R (turns_by r q (first_alone es)) (by_turns es)
first-at R r q h i [] = tt
first-at R r q h i (e ∷ es) = (h e.0, (i e.1, tt))

-- only the count is refused
never_kind : (n : ℕ) (vs : List Meaning) (e : DeError) → pair_made n vs ≡ Err e → (k : Kind) → e ≡ fail.InvalidType k → ⊥
never_kind zero vs e p k i = cc
never_kind (suc zero) [] e p k i = cc
never_kind (suc zero) (a ∷ []) e p k i = cc
never_kind (suc zero) (a ∷ b ∷ []) e p k i = cc
never_kind (suc zero) (a ∷ b ∷ c ∷ vs) e p k i = cc
never_kind (suc (suc n)) vs e p k i = cc

module _ (P Q : Meaning → Type 0) (r q : Reader Meaning) (keys : (t : Tree) (v : Meaning) → IsNodeTree t → r.reads t ≡ Ok v → P v) (values : (t : Tree) (v : Meaning) → IsNodeTree t → q.reads t ≡ Ok v → Q v) where
  made-meant : (es : List (Tree × Tree)) (vs : List Meaning) (v : Meaning) → Each IsNodeTree (by_turns es) → AreRead (turns_by r q (first_alone es)) (by_turns es) vs → pair_made (length es) vs ≡ Ok v → IsOptionOf (IsPairOf P Q) v
  made-meant [] vs v n h p = let e : case 0 nothing ≡ v = cc in subst (IsOptionOf (IsPairOf P Q)) e tt
  made-meant (e ∷ []) [] v n h p = absurd h
  made-meant (e ∷ []) (a ∷ []) v n h p = absurd h.1
  made-meant (e ∷ []) (a ∷ b ∷ []) v n h p =
      let i : case 1 (pair a b) ≡ v = cc in
      subst (IsOptionOf (IsPairOf P Q)) i (keys e.0 a n.0 h.0, values e.1 b n.1.0 h.1.0)
  made-meant (e ∷ []) (a ∷ b ∷ c ∷ vs) v n h p = absurd h.1.1
  made-meant (e ∷ f ∷ es) vs v n h p = absurd (cc)

module _ (r : Reads) (s : Spots) (k : Skips) (q : Reads) (z : Spots) (l : Skips) where
  at_entry : (R : Reader Meaning → Tree → Type 0) (m : Mode) → ((t : Tree) → R (reader r s k (at_key m)) t) → ((t : Tree) → R (reader q z l (at_value m)) t) →
      (t : Tree) → EachAt R (optional_pair_plan r s k q z l m t).readers (children t)
  at_entry R m h i (node.map es) = first-at R (reader r s k (at_key m)) (reader q z l (at_value m)) h i (pairs es)
  at_entry R m h i _ = tt

  itself : RefusesItself (optional_pair_plan r s k q z l)
  itself m (node.map es) vs e p = λ j i. absurd (never_kind (length (pairs es)) vs e p j i)
  itself m _ vs e p = λ j i. cc

  meant : (P Q : Meaning → Type 0) → LawfulReading P r s → LawfulReading Q q z → (m : Mode) (t : Tree) (vs : List Meaning) (v : Meaning) → Each IsNodeTree (children t) →
      AreRead (optional_pair_plan r s k q z l m t).readers (children t) vs → (optional_pair_plan r s k q z l m t).makes vs ≡ Ok v → IsOptionOf (IsPairOf P Q) v
  meant P Q keys values m (node.map es) vs v n h p = made-meant P Q (reader r s k (at_key m)) (reader q z l (at_value m)) (keys.meanings (at_key m)) (values.meanings (at_value m)) (pairs es) vs v n h p
  meant P Q keys values m _ vs v n h p = absurd (cc)

  read_kind : (m : Mode) (t : Tree) (v : Meaning) → optional_pair_reads r s k q z l m t ≡ Ok v → is_kind kind.Map (kind_of t) ≡ true
  read_kind m (node.map es) v p = refl
  read_kind m _ v p = absurd (cc)

module _ {P Q : Meaning → Type 0} {r q : Reads} {s z : Spots} (k : Skips) (keys : LawfulReading P r s) (l : Skips) (values : LawfulReading Q q z) where
  pub optional_pair_lawful : LawfulReading (IsOptionOf (IsPairOf P Q)) (optional_pair_reads r s k q z l) (optional_pair_spot r s k q z l)
  optional_pair_lawful = plan_lawful (optional_pair_plan r s k q z l) (itself r s k q z l) (IsOptionOf (IsPairOf P Q)) (meant r s k q z l P Q keys values)
      (λ m. at_entry r s k q z l (Refuses IsBelow) m (reader_below k keys (at_key m)) (reader_below l values (at_value m)))

-- ---- where a list of none or one is read, so is the option

module _ (r q : Reader Meaning) where
  abbrev read_first : List (Tree × Tree) → Result Meaning DeError
  read_first es = bind (row_reads (turns_by r q (first_alone es)) (by_turns es)) (pair_made (length es))

  none_made : (es : List (Tree × Tree)) (vs : List Meaning) → AreRead (turns_by r q es) (by_turns es) vs → list (meanings (twos vs)) ≡ list no_meanings → read_first es ≡ Ok (case 0 nothing)
  none_made [] vs h p = refl
  none_made (e ∷ es) [] h p = absurd h
  none_made (e ∷ es) (a ∷ []) h p = absurd h.1
  none_made (e ∷ es) (a ∷ b ∷ vs) h p = absurd (cc)

  one_made : (es : List (Tree × Tree)) (vs : List Meaning) (u : Meaning) → AreRead (turns_by r q es) (by_turns es) vs → list (meanings (twos vs)) ≡ list (meaning u no_meanings) → read_first es ≡ Ok (case 1 u)
  one_made [] [] u h p = absurd (cc)
  one_made [] (v ∷ vs) u h p = absurd h
  one_made (e ∷ es) [] u h p = absurd h
  one_made (e ∷ es) (a ∷ []) u h p = absurd h.1
  one_made (e ∷ []) (a ∷ b ∷ []) u h p = let same : pair a b ≡ u = cc in rw (h.0, h.1.0) (ap (λ (w : Meaning). Ok (case 1 w)) same)
  one_made (e ∷ []) (a ∷ b ∷ c ∷ vs) u h p = absurd h.1.1
  one_made (e ∷ f ∷ es) (a ∷ b ∷ []) u h p = absurd h.1.1
  one_made (e ∷ f ∷ es) (a ∷ b ∷ c ∷ []) u h p = absurd h.1.1.1
  one_made (e ∷ f ∷ es) (a ∷ b ∷ c ∷ d ∷ vs) u h p = absurd (cc)

module _ (r : Reads) (s : Spots) (k : Skips) (q : Reads) (z : Spots) (l : Skips) (m : Mode) where
  none_read : (t : Tree) → entries_reads r s k q z l m t ≡ Ok (list no_meanings) → optional_pair_reads r s k q z l m t ≡ Ok (case 0 nothing)
  none_read (node.map es) p =
      let key = reader r s k (at_key m) in
      let value = reader q z l (at_value m) in
      let rs = turns_by key value (pairs es) in
      let b = bind_ok (row_reads rs (by_turns (pairs es))) (λ vs. Ok (list (meanings (twos vs)))) (list no_meanings) p in
      none_made key value (pairs es) b.0 (row-read rs (by_turns (pairs es)) b.0 b.1) (cc b.2)
  none_read _ p = absurd (cc)

  one_read : (t : Tree) (u : Meaning) → entries_reads r s k q z l m t ≡ Ok (list (meaning u no_meanings)) → optional_pair_reads r s k q z l m t ≡ Ok (case 1 u)
  one_read (node.map es) u p =
      let key = reader r s k (at_key m) in
      let value = reader q z l (at_value m) in
      let rs = turns_by key value (pairs es) in
      let b = bind_ok (row_reads rs (by_turns (pairs es))) (λ vs. Ok (list (meanings (twos vs)))) (list (meaning u no_meanings)) p in
      one_made key value (pairs es) b.0 u (row-read rs (by_turns (pairs es)) b.0 b.1) (cc b.2)
  one_read _ u p = absurd (cc)

-- ---- all of them

listed-is : (P : Meaning → Type 0) (v : Meaning) → IsOptionOf P v → IsListOf P (listed v)
listed-is P (case zero nothing) h = tt
listed-is P (case (suc zero) v) h = (h, tt)
listed-is P _ h = absurd h

module _ {P Q : Meaning → Type 0} {w x : Writes} {r q : Reads} {s z : Spots} {k l : Skips} {e f : Form} {n o : Norm} {a b : Type 0} (keys : Lawful P w r s k e n a) (values : Lawful Q x q z l f o b) where
  abbrev IsPair : Meaning → Type 0
  IsPair = IsPairOf P Q

  whole : Lawful (IsListOf IsPair) (entries_writes w x) (entries_reads r s k q z l) (entries_spot r s k q z l) (entries_skips r s k q z l) (map e f) (entries_norm n o) (a × b)
  whole = entries_keeps keys values

  back : a × b → (m : Mode) → IsSound (map e f) m → ReadsBack (IsOptionOf IsPair) (optional_pair_writes w x) (optional_pair_reads r s k q z l) (optional_pair_norm n o) m
  back y m g (case zero nothing) t i h p j = none_read r s k q z l m i (whole.back y m g (listed (case zero nothing)) t i tt p j)
  back y m g (case (suc zero) v) t i h p j =
      one_read r s k q z l m i (pair_norm (n (at_key m)) (o (at_value m)) v) (whole.back y m g (listed (case (suc zero) v)) t i (h, tt) p j)
  back y m g _ t i h p j = absurd h

  exact : (m : Mode) → grade (map e f) m ≡ Exact → IsExact (IsOptionOf IsPair) (optional_pair_norm n o) m
  exact m g (case zero nothing) h = refl
  exact m g (case (suc zero) v) h =
      let same = whole.exact m g (listed (case (suc zero) v)) (h, tt) in
      let one : pair_norm (n (at_key m)) (o (at_value m)) v ≡ v = cc same in
      ap (λ (u : Meaning). case 1 u) one
  exact m g _ h = absurd h

  norms : NormsWithin (IsOptionOf IsPair) (optional_pair_norm n o)
  norms m (case zero nothing) h = tt
  norms m (case (suc zero) v) h = (whole.norms m (listed (case (suc zero) v)) (h, tt)).0
  norms m _ h = absurd h

  pub optional_pair_keeps : Lawful (IsOptionOf IsPair) (optional_pair_writes w x) (optional_pair_reads r s k q z l) (optional_pair_spot r s k q z l) (optional_pair_skips r s k q z l) (map e f) (optional_pair_norm n o) (a × b)
  optional_pair_keeps = record {
    images = λ m g v t h p. whole.images m g (listed v) t (listed-is IsPair v h) p;
    back = back;
    never_key = λ m g v h p. whole.never_key m g (listed v) (listed-is IsPair v h) p;
    written_kinds = λ m v t h p. whole.written_kinds m (listed v) t (listed-is IsPair v h) p;
    read_kinds = read_kind r s k q z l;
    unmarked = λ m v. whole.unmarked m (listed v);
    exact = exact;
    spot_kinds = λ m.
        plan_spot_kinds (optional_pair_plan r s k q z l) (itself r s k q z l) m
        (at_entry r s k q z l (Refuses IsOfKind) m (reader_kinds r s k (at_key m) (keys.spot_kinds (at_key m))) (reader_kinds q z l (at_value m) (values.spot_kinds (at_value m))));
    note_kinds = λ m.
        plan_note_kinds (optional_pair_plan r s k q z l) m
        (at_entry r s k q z l (Notes IsNoteIn) m (reader_notes r s k (at_key m) (keys.note_kinds (at_key m))) (reader_notes q z l (at_value m) (values.note_kinds (at_value m))));
    nodes = λ m v t h p. whole.nodes m (listed v) t (listed-is IsPair v h) p;
    norms = norms;
  }
