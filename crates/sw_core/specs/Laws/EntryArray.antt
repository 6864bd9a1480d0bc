-- The laws of an array of pairs as the entries of a map, from those of a list of pairs.
use Rattle.std.specs.Prelude.{◌≡◌, ℕ, zero, suc, List, [], ◌∷◌, length, take, map as list_map, ◌==◌, true, Ok}
use Rattle.std.proofs.Common.{refl, ap, sym, subst, ◌∙◌, eq-eqb, eqb-true}
use Rattle.std.proofs.Math.Seq.{take-length}
use Rattle.std.proofs.lemmas.List.{length-map}
use Rattle.sw_tree.specs.Kinds.{is_kind}
use Rattle.sw_tree.specs.Laws.Meaning.{parts-meanings}
use Rattle.sw_tree.specs.Laws.Nodes.{IsBelow, IsOfKind}
use Rattle.sw_tree.specs.Laws.Steps.{bind_ok}
use Rattle.sw_tree.specs.Meaning.{Meaning, Meanings, list, meanings, parts}
use Rattle.sw_tree.specs.Meant.{IsArrayOf, IsListOf, IsPairOf}
use Rattle.sw_tree.specs.Mode.{at_key, at_value}
use Rattle.sw_tree.specs.Nodes.{IsNoteIn}
use Rattle.sw_tree.specs.Proper.{IsNodeTree}
use Rattle.sw_tree.specs.Steps.{Each}
use Rattle.sw_tree.specs.Tree.{Tree, pairs, by_turns, kind_of}
use Rattle.sw_tree.specs.Tree as node
use Rattle.sw_tree.specs.declared.mode.Kind.TheVariants as kind
use Rattle.sw_tree.specs.declared.mode.Mode.{Mode}
use Rattle.sw_check.specs.Blame.{IsSound}
use Rattle.sw_check.specs.Form.{Form, map}
use Rattle.sw_elem.specs.Equations.{Writes, Reads, Spots, Skips, LawfulReading}
use Rattle.sw_elem.specs.Lawful.{Lawful}
use Rattle.sw_elem.specs.Statements.{Norm, ReadsBack, NormsWithin}
use Rattle.sw_core.specs.Entries.{entries_writes, entries_reads, entries_spot, entries_skips, entries_norm, pair_norm, twos}
use Rattle.sw_core.specs.EntryArray.{entry_array_plan, entry_array_reads, entry_array_spot, entry_array_skips}
use Rattle.sw_core.specs.Plans.{children}
use Rattle.sw_core.specs.Rows.{Reader, reader, turns_by, row_reads}
use Rattle.sw_core.specs.Laws.Array.{list-of}
use Rattle.sw_core.specs.Laws.Entries.{each_pair, entries_keeps}
use Rattle.sw_core.specs.Laws.Plans.{RefusesItself, plan_lawful, plan_spot_kinds, plan_note_kinds}
use Rattle.sw_core.specs.Laws.Rows.{EachAt, Refuses, Notes, reader_below, reader_kinds, reader_notes, AreRead, row-read}
use Rattle.sw_core.specs.Laws.Tuple.{was_made, own_length}

-- ---- reading

-- what is said of each reader and its tree is said of the first entries'
firsts-at : (R : Reader Meaning → Tree → Type 0) (r q : Reader Meaning) → ((t : Tree) → R r t) → ((t : Tree) → R q t) → (n : ℕ) (es : List (Tree × Tree)) → EachAt R (turns_by r q (take n es)) (by_turns es)
firsts-at R r q h i zero es = tt
firsts-at R r q h i (suc n) [] = tt
firsts-at R r q h i (suc n) (e ∷ es) = (h e.0, (i e.1, firsts-at R r q h i n es))

-- there is a pair for each entry
twos-count : (r q : Reader Meaning) (es : List (Tree × Tree)) (vs : List Meaning) → AreRead (turns_by r q es) (by_turns es) vs → length (twos vs) ≡ length es
twos-count r q [] [] h = refl
twos-count r q [] (v ∷ vs) h = absurd h
twos-count r q (e ∷ es) [] h = absurd h
twos-count r q (e ∷ es) (a ∷ []) h = absurd h.1
twos-count r q (e ∷ es) (a ∷ b ∷ vs) h = ap (λ (n : ℕ). suc n) (twos-count r q es vs h.1.1)

-- of so many there are so many first ones
take-all : {A : Type 0} (n : ℕ) (xs : List A) → length xs ≡ n → take n xs ≡ xs
take-all n xs e = subst (λ (k : ℕ). take k xs ≡ xs) e (take-length xs)

module _ (n : ℕ) (r : Reads) (s : Spots) (k : Skips) (q : Reads) (z : Spots) (l : Skips) where
  at_entries : (R : Reader Meaning → Tree → Type 0) (m : Mode) → ((t : Tree) → R (reader r s k (at_key m)) t) → ((t : Tree) → R (reader q z l (at_value m)) t) →
      (t : Tree) → EachAt R (entry_array_plan n r s k q z l m t).readers (children t)
  at_entries R m h i (node.map es) = firsts-at R (reader r s k (at_key m)) (reader q z l (at_value m)) h i n (pairs es)
  at_entries R m h i _ = tt

  itself : RefusesItself (entry_array_plan n r s k q z l)
  itself m (node.map es) vs e p = own_length (length (pairs es) == n) (length (pairs es)) (twos vs) (node.map es) e p
  itself m _ vs e p = λ j i. cc

  meant : (P Q : Meaning → Type 0) → LawfulReading P r s → LawfulReading Q q z → (m : Mode) (t : Tree) (vs : List Meaning) (v : Meaning) → Each IsNodeTree (children t) →
      AreRead (entry_array_plan n r s k q z l m t).readers (children t) vs → (entry_array_plan n r s k q z l m t).makes vs ≡ Ok v → IsArrayOf (IsPairOf P Q) n v
  meant P Q keys values m (node.map es) vs v t h p =
      let key = reader r s k (at_key m) in
      let value = reader q z l (at_value m) in
      let c = was_made (length (pairs es) == n) (length (pairs es)) (twos vs) v p in
      let count = eqb-true (length (pairs es)) n c.0 in
      let all = subst (λ (xs : List (Tree × Tree)). AreRead (turns_by key value xs) (by_turns (pairs es)) vs) (take-all n (pairs es) count) h in
      subst (IsArrayOf (IsPairOf P Q) n) c.1 (rw (parts-meanings (twos vs)) (each_pair P Q key value (keys.meanings (at_key m)) (values.meanings (at_value m)) (pairs es) vs t all, twos-count key value (pairs es) vs all ∙ count))
  meant P Q keys values m _ vs v t h p = absurd (cc)

  read_kind : (m : Mode) (t : Tree) (v : Meaning) → entry_array_reads n r s k q z l m t ≡ Ok v → is_kind kind.Map (kind_of t) ≡ true
  read_kind m (node.map es) v p = refl
  read_kind m _ v p = absurd (cc)

module _ (n : ℕ) {P Q : Meaning → Type 0} {r q : Reads} {s z : Spots} (k : Skips) (keys : LawfulReading P r s) (l : Skips) (values : LawfulReading Q q z) where
  pub entry_array_lawful : LawfulReading (IsArrayOf (IsPairOf P Q) n) (entry_array_reads n r s k q z l) (entry_array_spot n r s k q z l)
  entry_array_lawful = plan_lawful (entry_array_plan n r s k q z l) (itself n r s k q z l) (IsArrayOf (IsPairOf P Q) n) (meant n r s k q z l P Q keys values)
      (λ m. at_entries n r s k q z l (Refuses IsBelow) m (reader_below k keys (at_key m)) (reader_below l values (at_value m)))

-- ---- where a list of so many is read, so is the array

module _ (n : ℕ) (r : Reads) (s : Spots) (k : Skips) (q : Reads) (z : Spots) (l : Skips) (m : Mode) where
  array_read : (t : Tree) (us : List Meaning) → length us ≡ n → entries_reads r s k q z l m t ≡ Ok (list (meanings us)) → entry_array_reads n r s k q z l m t ≡ Ok (list (meanings us))
  array_read (node.map es) us c p =
      let key = reader r s k (at_key m) in
      let value = reader q z l (at_value m) in
      let rs = turns_by key value (pairs es) in
      let b = bind_ok (row_reads rs (by_turns (pairs es))) (λ vs. Ok (list (meanings (twos vs)))) (list (meanings us)) p in
      let same : meanings (twos b.0) ≡ meanings us = cc b.2 in
      let count : length (pairs es) ≡ n =
      sym (twos-count key value (pairs es) b.0 (row-read rs (by_turns (pairs es)) b.0 b.1)) ∙ ap (λ (vs : List Meaning). length vs) (sym (parts-meanings (twos b.0)) ∙ ap parts same ∙ parts-meanings us) ∙ c in
      rw (take-all n (pairs es) count, b.1, eq-eqb (length (pairs es)) n count) (ap (λ (vs : Meanings). Ok (list vs)) same)
  array_read _ us c p = absurd (cc)

-- ---- all of them

module _ (n : ℕ) {P Q : Meaning → Type 0} {w x : Writes} {r q : Reads} {s z : Spots} {k l : Skips} {e f : Form} {i o : Norm} {a b : Type 0} (keys : Lawful P w r s k e i a) (values : Lawful Q x q z l f o b) where
  abbrev IsPairs : Meaning → Type 0
  IsPairs = IsArrayOf (IsPairOf P Q) n

  whole : Lawful (IsListOf (IsPairOf P Q)) (entries_writes w x) (entries_reads r s k q z l) (entries_spot r s k q z l) (entries_skips r s k q z l) (map e f) (entries_norm i o) (a × b)
  whole = entries_keeps keys values

  count-normed : (m : Mode) (vs : Meanings) → length (parts vs) ≡ n → length (list_map (pair_norm (i (at_key m)) (o (at_value m))) (parts vs)) ≡ n
  count-normed m vs c = length-map (parts vs) (pair_norm (i (at_key m)) (o (at_value m))) ∙ c

  back : a × b → (m : Mode) → IsSound (map e f) m → ReadsBack IsPairs (entries_writes w x) (entry_array_reads n r s k q z l) (entries_norm i o) m
  back y m g (list vs) t u h p j =
      array_read n r s k q z l m u (list_map (pair_norm (i (at_key m)) (o (at_value m))) (parts vs)) (count-normed m vs h.1) (whole.back y m g (list vs) t u h.0 p j)
  back y m g _ t u h p j = absurd h

  norms : NormsWithin IsPairs (entries_norm i o)
  norms m (list vs) h =
      (whole.norms m (list vs) h.0, ap (λ (l : List Meaning). length l) (parts-meanings (list_map (pair_norm (i (at_key m)) (o (at_value m))) (parts vs))) ∙ count-normed m vs h.1)
  norms m _ h = absurd h

  pub entry_array_keeps : Lawful IsPairs (entries_writes w x) (entry_array_reads n r s k q z l) (entry_array_spot n r s k q z l) (entry_array_skips n r s k q z l) (map e f) (entries_norm i o) (a × b)
  entry_array_keeps = record {
    images = λ m g v t h p. whole.images m g v t (list-of (IsPairOf P Q) n v h) p;
    back = back;
    never_key = λ m g v h p. whole.never_key m g v (list-of (IsPairOf P Q) n v h) p;
    written_kinds = λ m v t h p. whole.written_kinds m v t (list-of (IsPairOf P Q) n v h) p;
    read_kinds = read_kind n r s k q z l;
    unmarked = whole.unmarked;
    exact = λ m g v h. whole.exact m g v (list-of (IsPairOf P Q) n v h);
    spot_kinds = λ m.
        plan_spot_kinds (entry_array_plan n r s k q z l) (itself n r s k q z l) m
        (at_entries n r s k q z l (Refuses IsOfKind) m (reader_kinds r s k (at_key m) (keys.spot_kinds (at_key m))) (reader_kinds q z l (at_value m) (values.spot_kinds (at_value m))));
    note_kinds = λ m.
        plan_note_kinds (entry_array_plan n r s k q z l) m
        (at_entries n r s k q z l (Notes IsNoteIn) m (reader_notes r s k (at_key m) (keys.note_kinds (at_key m))) (reader_notes q z l (at_value m) (values.note_kinds (at_value m))));
    nodes = λ m v t h p. whole.nodes m v t (list-of (IsPairOf P Q) n v h) p;
    norms = norms;
  }
