-- The laws of one part or a list of parts, from the part's and the list's.
use Rattle.std.specs.Prelude.{◌≡◌, Bool, true, false, ◌||◌, [], Option, Some, None, option_map, Result, Ok, Err}
use Rattle.std.proofs.Common.{refl, ap, sym, ◌∙◌}
use Rattle.sw_tree.specs.Image.{image, trees_image}
use Rattle.sw_tree.specs.Kinds.{is_kind}
use Rattle.sw_tree.specs.Meaning.{Meaning, list, no_meanings, meaning}
use Rattle.sw_tree.specs.Meant.{IsListOf}
use Rattle.sw_tree.specs.Mode.{at_value, marked}
use Rattle.sw_tree.specs.Proper.{IsNodeTree}
use Rattle.sw_tree.specs.Steps.{bind}
use Rattle.sw_tree.specs.Laws.Steps.{bind_ok}
use Rattle.sw_tree.specs.Tree.{Tree, Trees, kind_of}
use Rattle.sw_tree.specs.Tree as node
use Rattle.sw_tree.specs.declared.mode.Mode.{Mode}
use Rattle.sw_tree.specs.declared.mode.Kind.TheVariants as kind
use Rattle.sw_tree.specs.declared.mode.Place.TheVariants.{Value}
use Rattle.sw_tree.specs.declared.mode.WireKind.{WireKind}
use Rattle.sw_tree.specs.declared.mode.WireKind.TheVariants.{Json, Compact}
use Rattle.sw_tree.specs.declared.fail.SerError.{SerError}
use Rattle.sw_tree.specs.declared.fail.SerError.TheVariants as ser
use Rattle.sw_tree.specs.declared.fail.DeError.{DeError}
use Rattle.sw_check.specs.Form.{Form, vec, one_or_many}
use Rattle.sw_check.specs.Kinds.{kinds_written, kinds_read}
use Rattle.sw_check.specs.Blame.{IsSound}
use Rattle.sw_check.specs.Laws.SoundForms.{sound-one_or_many, one_or_many-vec}
use Rattle.sw_elem.specs.Equations.{Writes, Reads, Spots, Skips, LawfulReading, own_spot}
use Rattle.sw_elem.specs.Statements.{Norm, HasImages, ReadsBack, NeverKey, IsUnmarked, WritesNodes}
use Rattle.sw_elem.specs.Lawful.{Lawful}
use Rattle.sw_core.specs.Vec.{list_writes, list_reads, list_spot, list_skips, list_norm}
use Rattle.sw_core.specs.Laws.Images.{image-elsewhere}
use Rattle.sw_core.specs.Laws.Vec.{list_lawful, list_keeps}
use Rattle.sw_policy.specs.Options.{or_later}
use Rattle.sw_policy.specs.PickFirst.{or_no_variant}
use Rattle.sw_policy.specs.OneOrMany.{one_or_many_writes, alone_reads, alone_spot, both_forms, one_or_many_reads, one_or_many_skips, one_or_many_norm}
use Rattle.sw_policy.specs.Laws.PickFirst.{or_no_variant-ok, or_left, or_right, pick_lawful, pick_spot_kinds, pick_note_kinds}

-- ---- reading

alone_refused : (r : Result Meaning DeError) (e : DeError) → bind r (λ v. Ok (list (meaning v no_meanings))) ≡ Err e → r ≡ Err e
alone_refused (Ok v) e p = absurd (cc)
alone_refused (Err d) e p = cc

module _ {P : Meaning → Type 0} {r : Reads} {s : Spots} (law : LawfulReading P r s) where
  alone_meanings : (m : Mode) (t : Tree) (v : Meaning) → IsNodeTree t → alone_reads r m t ≡ Ok v → IsListOf P v
  alone_meanings m t v n p =
      let q = bind_ok (r (at_value m) t) (λ x. Ok (list (meaning x no_meanings))) v p in
      let e : list (meaning q.0 no_meanings) ≡ v = cc in
      rw (← e) (law.meanings (at_value m) t q.0 n q.1, tt)

  pub alone_lawful : LawfulReading (IsListOf P) (alone_reads r) (alone_spot s)
  alone_lawful = record {
    meanings = alone_meanings;
    inside = λ m t e p. law.inside (at_value m) t e (alone_refused (r (at_value m) t) e p);
  }

module _ {P : Meaning → Type 0} {r : Reads} {s : Spots} (k : Skips) (law : LawfulReading P r s) where
  pub one_or_many_lawful : LawfulReading (IsListOf P) (one_or_many_reads r s k) own_spot
  one_or_many_lawful = pick_lawful (IsListOf P) (both_forms r s k) (alone_meanings law, ((list_lawful k law).meanings, tt))

-- ---- how a list of values is written

by_form : (w : Writes) (b : Bool) (m : Mode) (Q : Meaning → Type 0) (o : Result Tree SerError) → ((x : Meaning) → w (at_value m) x ≡ o → Q (list (meaning x no_meanings))) →
    ((v : Meaning) → list_writes w m v ≡ o → Q v) → (v : Meaning) → one_or_many_writes b w m v ≡ o → Q v
by_form w false m Q o alone many v p = many v p
by_form w true m Q o alone many (list (meaning x no_meanings)) p = alone x p
by_form w true m Q o alone many (list no_meanings) p = many (list no_meanings) p
by_form w true m Q o alone many (list (meaning x (meaning y vs))) p = many (list (meaning x (meaning y vs))) p
by_form w true m Q o alone many v p = many v p

one_or_many_unmarked : (w : Writes) (b : Bool) → IsUnmarked w → IsUnmarked (list_writes w) → IsUnmarked (one_or_many_writes b w)
one_or_many_unmarked w false part many m v = many m v
one_or_many_unmarked w true part many m (list (meaning x no_meanings)) = part (at_value m) x
one_or_many_unmarked w true part many m (list no_meanings) = many m (list no_meanings)
one_or_many_unmarked w true part many m (list (meaning x (meaning y vs))) = many m (list (meaning x (meaning y vs)))
one_or_many_unmarked w true part many m v = many m v

-- ---- the image of a list is a list

mapped_list : (o : Option Trees) (i : Tree) → option_map node.list o ≡ Some i → kind_of i ≡ kind.List
mapped_list None i p = absurd (cc)
mapped_list (Some ts) i p = let e : node.list ts ≡ i = cc in rw (← e) refl

list_stays : (w : WireKind) (t i : Tree) → is_kind kind.List (kind_of t) ≡ true → image w Value t ≡ Some i → kind_of i ≡ kind.List
list_stays Compact (node.list ts) i h p = let e : node.list ts ≡ i = cc in rw (← e) refl
list_stays Json (node.list ts) i h p = mapped_list (trees_image ts) i p
list_stays w _ i h p = absurd (cc)

-- ---- which form is read

alone_found : (a : Result Meaning DeError) (q : Result Meaning DeError) (v : Meaning) → a ≡ Ok v →
    or_no_variant (or_later (bind a (λ x. Ok (list (meaning x no_meanings)))) (or_later q (Err []))) ≡ Ok (list (meaning v no_meanings))
alone_found (Ok x) q v p = let e : x ≡ v = cc in ap (λ (y : Meaning). Ok (list (meaning y no_meanings))) e
alone_found (Err e) q v p = absurd (cc)

list_found : (a q : Result Meaning DeError) (v : Meaning) → ((x : Meaning) → a ≡ Ok x → ⊥) → q ≡ Ok v →
    or_no_variant (or_later (bind a (λ x. Ok (list (meaning x no_meanings)))) (or_later q (Err []))) ≡ Ok v
list_found (Ok x) q v h p = absurd (h x refl)
list_found (Err e) (Ok y) v h p = let k : y ≡ v = cc in ap Ok k
list_found (Err e) (Err d) v h p = absurd (cc)

either_read : (a q : Result Meaning DeError) (v : Meaning) (Q : Type 0) → ((x : Meaning) → a ≡ Ok x → Q) → (q ≡ Ok v → Q) → or_later (bind a (λ x. Ok (list (meaning x no_meanings)))) (or_later q (Err [])) ≡ Ok v → Q
either_read (Ok x) q v Q alone many p = alone x refl
either_read (Err e) (Ok y) v Q alone many p = many (let k : y ≡ v = cc in ap Ok k)
either_read (Err e) (Err d) v Q alone many p = absurd (cc)

-- a part that reads no list refuses the image of one
not_both : (b : Bool) → b ≡ false → b ≡ true → ⊥
not_both true p q = absurd (cc)
not_both false p q = absurd (cc)

-- ---- all laws

module _ {P : Meaning → Type 0} {w : Writes} {r : Reads} {s : Spots} {k : Skips} {e : Form} {n : Norm} {a : Type 0} (part : Lawful P w r s k e n a) (b : Bool) where
  many : Lawful (IsListOf P) (list_writes w) (list_reads r s k) (list_spot r s k) (list_skips r s k) (vec e) (list_norm n) a
  many = list_keeps part

  imaged : (m : Mode) → IsSound (one_or_many e) m → HasImages (IsListOf P) (one_or_many_writes b w) m
  imaged m c v t h p =
      let d = sound-one_or_many e m c in
      by_form w b m (λ x. IsListOf P x → (i : Tree) × (image m.wire m.place t ≡ Some i)) (Ok t)
      (λ x q j. let i = part.images (marked (at_value m)) d.2 x t j.0 (part.unmarked (at_value m) x ∙ q) in (i.0, image-elsewhere m.wire m.place t d.0 ∙ i.1))
      (λ x q j. many.images (marked m) (one_or_many-vec e m c) x t j (many.unmarked m x ∙ q)) v p h

  read_back : a → (m : Mode) → IsSound (one_or_many e) m → ReadsBack (IsListOf P) (one_or_many_writes b w) (one_or_many_reads r s k) (one_or_many_norm n) m
  read_back own m c v t i h p j =
      let d = sound-one_or_many e m c in
      let first = r (marked (at_value m)) i in
      let second = list_reads r s k (marked m) i in
      let same : image m.wire Value t ≡ Some i = sym (image-elsewhere m.wire m.place t d.0) ∙ j in
      by_form w b m (λ x. IsListOf P x → one_or_many_reads r s k m i ≡ Ok (one_or_many_norm n m x)) (Ok t)
      (λ x q y. alone_found first second (n (marked (at_value m)) x) (part.back own (marked (at_value m)) d.2 x t i y.0 (part.unmarked (at_value m) x ∙ q) same))
      (λ x q y.
      let written = many.unmarked m x ∙ q in
      let is_list = list_stays m.wire t i (many.written_kinds (marked m) x t y written) same in
      let unread : (u : Meaning) → first ≡ Ok u → ⊥ =
      λ u f. not_both (kinds_read e (marked (at_value m)) kind.List) d.1 (ap (kinds_read e (marked (at_value m))) (sym is_list) ∙ part.read_kinds (marked (at_value m)) i u f) in
      list_found first second (one_or_many_norm n m x) unread (many.back own (marked m) (one_or_many-vec e m c) x t i y written j)) v p h

  never_key : (m : Mode) → IsSound (one_or_many e) m → NeverKey (IsListOf P) (one_or_many_writes b w) m
  never_key m c v h p =
      by_form w b m (λ x. IsListOf P x → ⊥) (Err ser.Key)
      (λ x q y. part.never_key (marked (at_value m)) ((sound-one_or_many e m c).2) x y.0 (part.unmarked (at_value m) x ∙ q))
      (λ x q y. many.never_key (marked m) (one_or_many-vec e m c) x y (many.unmarked m x ∙ q)) v p h

  written_kinds : (m : Mode) (v : Meaning) (t : Tree) → IsListOf P v → one_or_many_writes b w m v ≡ Ok t → kinds_written (one_or_many e) m (kind_of t) ≡ true
  written_kinds m v t h p =
      let own = kinds_written e (marked (at_value m)) (kind_of t) in
      let listed = is_kind kind.List (kind_of t) in
      by_form w b m (λ x. IsListOf P x → (own || listed) ≡ true) (Ok t)
      (λ x q y. or_left own listed (part.written_kinds (marked (at_value m)) x t y.0 (part.unmarked (at_value m) x ∙ q)))
      (λ x q y. or_right own listed (many.written_kinds m x t y q)) v p h

  read_kinds : (m : Mode) (t : Tree) (v : Meaning) → one_or_many_reads r s k m t ≡ Ok v → kinds_read (one_or_many e) m (kind_of t) ≡ true
  read_kinds m t v p =
      let own = kinds_read e (marked (at_value m)) (kind_of t) in
      let listed = is_kind kind.List (kind_of t) in
      let first = r (marked (at_value m)) t in
      let second = list_reads r s k (marked m) t in
      either_read first second v ((own || listed) ≡ true) (λ x q. or_left own listed (part.read_kinds (marked (at_value m)) t x q))
      (λ q. or_right own listed (many.read_kinds (marked m) t v q))
      (or_no_variant-ok (or_later (alone_reads r (marked m) t) (or_later second (Err []))) v p)

  nodes : WritesNodes (IsListOf P) (one_or_many_writes b w)
  nodes m v t h p =
      by_form w b m (λ x. IsListOf P x → IsNodeTree t) (Ok t)
      (λ x q y. part.nodes (at_value m) x t y.0 q)
      (λ x q y. many.nodes m x t y q) v p h

  pub one_or_many_keeps : Lawful (IsListOf P) (one_or_many_writes b w) (one_or_many_reads r s k) own_spot (one_or_many_skips r s k) (one_or_many e) (one_or_many_norm n) a
  one_or_many_keeps =
      record {
        images = imaged;
        back = read_back;
        never_key = never_key;
        written_kinds = written_kinds;
        read_kinds = read_kinds;
        unmarked = one_or_many_unmarked w b part.unmarked many.unmarked;
        exact = λ m g. many.exact (marked m) g;
        spot_kinds = λ m. pick_spot_kinds m (both_forms r s k);
        note_kinds = λ m. pick_note_kinds m (both_forms r s k) (part.note_kinds (marked (at_value m)), (many.note_kinds (marked m), tt));
        nodes = nodes;
        norms = λ m. many.norms (marked m);
      }
