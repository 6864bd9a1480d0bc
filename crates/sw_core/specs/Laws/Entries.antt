-- The laws of a list of pairs as the entries of a map, from its keys' and its values'.
use Rattle.std.specs.Prelude.{◌≡◌, ◌≤◌, List, [], ◌∷◌, map as list_map, true, false, Option, Some, None, option_map, Result, Ok, Err}
use Rattle.std.proofs.Common.{refl, ap, sym, subst, ◌∙◌}
use Rattle.sw_tree.specs.Building.{within}
use Rattle.sw_tree.specs.Image.{image}
use Rattle.sw_tree.specs.Kinds.{is_kind}
use Rattle.sw_tree.specs.Meaning.{Meaning, list, meaning, no_meanings, meanings, parts}
use Rattle.sw_tree.specs.Laws.Meaning.{parts-meanings, meanings-parts}
use Rattle.sw_tree.specs.Meant.{pair, IsListOf, IsPairOf}
use Rattle.sw_tree.specs.Mode.{at_key, at_value, marked}
use Rattle.sw_tree.specs.Laws.NodeTrees.{AreNodeTrees, map-is_node}
use Rattle.sw_tree.specs.Nodes.{IsNoteIn}
use Rattle.sw_tree.specs.Proper.{IsNodeTree}
use Rattle.sw_tree.specs.Steps.{bind, traverse, Each}
use Rattle.sw_tree.specs.Laws.Steps.{option_traverse}
use Rattle.sw_tree.specs.Tree.{Tree, entries, pairs, by_turns, depth, kind_of}
use Rattle.sw_tree.specs.Laws.Tree.{pairs-entries}
use Rattle.sw_tree.specs.Tree as node
use Rattle.sw_tree.specs.declared.mode.Kind.TheVariants as kind
use Rattle.sw_tree.specs.declared.mode.Mode.{Mode}
use Rattle.sw_tree.specs.declared.mode.WireKind.{WireKind}
use Rattle.sw_tree.specs.declared.mode.Place.TheVariants.{Value, Key}
use Rattle.sw_tree.specs.declared.fail.SerError.{SerError}
use Rattle.sw_tree.specs.declared.fail.SerError.TheVariants as ser
use Rattle.sw_check.specs.Form.{Form, map}
use Rattle.sw_check.specs.Grade.{grade, is_exact}
use Rattle.sw_check.specs.Rules.{is_json_key}
use Rattle.sw_check.specs.Laws.SoundForms.{sound-map, exact_is, exact-worst}
use Rattle.sw_elem.specs.Equations.{Writes, Reads, Spots, Skips, LawfulReading}
use Rattle.sw_elem.specs.Statements.{Norm, HasImages, ReadsBack, NeverKey, IsUnmarked, IsExact, WritesNodes, NormsWithin}
use Rattle.sw_elem.specs.Lawful.{Lawful}
use Rattle.sw_core.specs.Plans.{children}
use Rattle.sw_core.specs.Rows.{Reader, reader, turns_by}
use Rattle.sw_core.specs.Entries.{pair_writes, entries_writes, twos, entries_plan, entries_reads, entries_spot, entries_skips, pair_norm, entries_norm}
use Rattle.sw_core.specs.Laws.Each.{Beside, each_made, each_imaged, each_back, each_never, each_kept, each_same, each_normed}
use Rattle.sw_core.specs.Laws.Images.{both_images, entry_image, map-image, mapped_some}
use Rattle.sw_tree.specs.Laws.Nodes.{IsBelow, IsOfKind}
use Rattle.sw_core.specs.Laws.Plans.{RefusesItself, plan_lawful, plan_spot_kinds, plan_note_kinds}
use Rattle.sw_core.specs.Laws.Rows.{EachAt, Refuses, Notes, turns_by-at, reader_below, reader_kinds, reader_notes, AreRead, row-reads}
use Rattle.sw_core.specs.Laws.Within.{within_ok, within_shallow, within_key}

-- ---- reading

pub each_pair : (P Q : Meaning → Type 0) (r q : Reader Meaning) → ((t : Tree) (v : Meaning) → IsNodeTree t → r.reads t ≡ Ok v → P v) → ((t : Tree) (v : Meaning) → IsNodeTree t → q.reads t ≡ Ok v → Q v) →
    (es : List (Tree × Tree)) (vs : List Meaning) → Each IsNodeTree (by_turns es) → AreRead (turns_by r q es) (by_turns es) vs → Each (IsPairOf P Q) (twos vs)
each_pair P Q r q keys values [] [] n h = tt
each_pair P Q r q keys values [] (v ∷ vs) n h = absurd h
each_pair P Q r q keys values (e ∷ es) [] n h = absurd h
each_pair P Q r q keys values (e ∷ es) (a ∷ []) n h = absurd h.1
each_pair P Q r q keys values (e ∷ es) (a ∷ b ∷ vs) n h = ((keys e.0 a n.0 h.0, values e.1 b n.1.0 h.1.0), each_pair P Q r q keys values es vs n.1.1 h.1.1)

module _ (r : Reads) (s : Spots) (k : Skips) (q : Reads) (z : Spots) (l : Skips) where
  at_entries : (R : Reader Meaning → Tree → Type 0) (m : Mode) → ((t : Tree) → R (reader r s k (at_key m)) t) → ((t : Tree) → R (reader q z l (at_value m)) t) →
      (t : Tree) → EachAt R (entries_plan r s k q z l m t).readers (children t)
  at_entries R m h i (node.map es) = turns_by-at R (reader r s k (at_key m)) (reader q z l (at_value m)) h i (pairs es)
  at_entries R m h i _ = tt

  itself : RefusesItself (entries_plan r s k q z l)
  itself m (node.map es) vs e p = absurd (cc)
  itself m _ vs e p = λ j i. cc

  meant : (P Q : Meaning → Type 0) → LawfulReading P r s → LawfulReading Q q z → (m : Mode) (t : Tree) (vs : List Meaning) (v : Meaning) → Each IsNodeTree (children t) →
      AreRead (entries_plan r s k q z l m t).readers (children t) vs → (entries_plan r s k q z l m t).makes vs ≡ Ok v → IsListOf (IsPairOf P Q) v
  meant P Q keys values m (node.map es) vs v n h p =
      let each = each_pair P Q (reader r s k (at_key m)) (reader q z l (at_value m)) (keys.meanings (at_key m)) (values.meanings (at_value m)) (pairs es) vs n h in
      let e : list (meanings (twos vs)) ≡ v = cc in
      subst (IsListOf (IsPairOf P Q)) e (rw (parts-meanings (twos vs)) each)
  meant P Q keys values m _ vs v n h p = absurd (cc)

module _ {P Q : Meaning → Type 0} {r q : Reads} {s z : Spots} (k : Skips) (keys : LawfulReading P r s) (l : Skips) (values : LawfulReading Q q z) where
  pub entries_lawful : LawfulReading (IsListOf (IsPairOf P Q)) (entries_reads r s k q z l) (entries_spot r s k q z l)
  entries_lawful = plan_lawful (entries_plan r s k q z l) (itself r s k q z l) (IsListOf (IsPairOf P Q)) (meant r s k q z l P Q keys values)
      (λ m. at_entries r s k q z l (Refuses IsBelow) m (reader_below k keys (at_key m)) (reader_below l values (at_value m)))

-- a key and its value are read so, and make that pair
abbrev IsEntry : Reader Meaning → Reader Meaning → Tree × Tree → Meaning → Type 0
IsEntry r q e v = (a : Meaning) × (b : Meaning) × (r.reads e.0 ≡ Ok a) × (q.reads e.1 ≡ Ok b) × (pair a b ≡ v)

-- each image is read as the norm beside it
are_read : (r q : Reader Meaning) (es : List (Tree × Tree)) (vs : List Meaning) → Beside (IsEntry r q) es vs → (us : List Meaning) × AreRead (turns_by r q es) (by_turns es) us × (twos us ≡ vs)
are_read r q [] [] h = ([], tt, refl)
are_read r q [] (v ∷ vs) h = absurd h
are_read r q (e ∷ es) [] h = absurd h
are_read r q (e ∷ es) (v ∷ vs) h =
    let c = h.0 in
    let t = are_read r q es vs h.1 in
    (c.0 ∷ c.1 ∷ t.0, (c.2, (c.3, t.1)), (λ i. c.4 i ∷ t.2 i))

read_map : (r : Reads) (s : Spots) (k : Skips) (q : Reads) (z : Spots) (l : Skips) (m : Mode) (i : Tree) (is : List (Tree × Tree)) (vs us : List Meaning) → i ≡ node.map (entries is) →
    AreRead (turns_by (reader r s k (at_key m)) (reader q z l (at_value m)) is) (by_turns is) us → twos us ≡ vs → entries_reads r s k q z l m i ≡ Ok (list (meanings vs))
read_map r s k q z l m i is vs us e p h =
    let rs = turns_by (reader r s k (at_key m)) (reader q z l (at_value m)) is in
    rw (e, pairs-entries is, row-reads rs (by_turns is) us p) (ap (λ (ws : List Meaning). Ok (list (meanings ws))) h)

read_kind : (r : Reads) (s : Spots) (k : Skips) (q : Reads) (z : Spots) (l : Skips) (m : Mode) (t : Tree) (v : Meaning) → entries_reads r s k q z l m t ≡ Ok v → is_kind kind.Map (kind_of t) ≡ true
read_kind r s k q z l m (node.map es) v p = refl
read_kind r s k q z l m _ v p = absurd (cc)

-- ---- a pair

pair_written : (x y : Result Tree SerError) (e : Tree × Tree) → bind x (λ s. bind y (λ t. Ok (s, t))) ≡ Ok e → (x ≡ Ok e.0) × (y ≡ Ok e.1)
pair_written (Ok s) (Ok t) e p = let i : (s, t) ≡ e = cc in (ap (λ (z : Tree × Tree). Ok z.0) i, ap (λ (z : Tree × Tree). Ok z.1) i)
pair_written (Ok s) (Err d) e p = absurd (cc)
pair_written (Err d) y e p = absurd (cc)

pair_refused : (x y : Result Tree SerError) → (x ≡ Err ser.Key → ⊥) → (y ≡ Err ser.Key → ⊥) → bind {B = Tree × Tree} x (λ s. bind y (λ t. Ok (s, t))) ≡ Err ser.Key → ⊥
pair_refused (Ok s) (Ok t) a b p = cc
pair_refused (Ok s) (Err e) a b p = b (cc)
pair_refused (Err e) y a b p = a (cc)

pair_same : {x y u v : Result Tree SerError} → x ≡ u → y ≡ v → bind {B = Tree × Tree} x (λ s. bind y (λ t. Ok (s, t))) ≡ bind u (λ s. bind v (λ t. Ok (s, t)))
pair_same p q = λ i. bind (p i) (λ s. bind (q i) (λ t. Ok (s, t)))

both_some : (o q : Option Tree) (s t : Tree) → o ≡ Some s → q ≡ Some t → both_images o q ≡ Some (s, t)
both_some o q s t a b = rw (a, b) refl

both_of : (o q : Option Tree) (z : Tree × Tree) → both_images o q ≡ Some z → (o ≡ Some z.0) × (q ≡ Some z.1)
both_of (Some s) (Some t) z p = let e : (s, t) ≡ z = cc in (ap (λ (x : Tree × Tree). Some x.0) e, ap (λ (x : Tree × Tree). Some x.1) e)
both_of (Some s) None z p = absurd (cc)
both_of None q z p = absurd (cc)

module _ (P Q : Meaning → Type 0) (f g : Meaning → Result Tree SerError) where
  pair_imaged : (w : WireKind) → ((x : Meaning) (y : Tree) → P x → f x ≡ Ok y → (z : Tree) × (image w Key y ≡ Some z)) → ((x : Meaning) (y : Tree) → Q x → g x ≡ Ok y → (z : Tree) × (image w Value y ≡ Some z)) →
      (x : Meaning) (y : Tree × Tree) → IsPairOf P Q x → pair_writes f g x ≡ Ok y → (z : Tree × Tree) × (entry_image w y ≡ Some z)
  pair_imaged w keys values (list (meaning a (meaning b no_meanings))) y h p =
      let c = pair_written (f a) (g b) y p in
      let s = keys a y.0 h.0 c.0 in
      let t = values b y.1 h.1 c.1 in
      ((s.0, t.0), both_some (image w Key y.0) (image w Value y.1) s.0 t.0 s.1 t.1)
  pair_imaged w keys values _ y h p = absurd h

  pair_back : (w : WireKind) (r q : Reader Meaning) (n l : Meaning → Meaning) → ((x : Meaning) (y z : Tree) → P x → f x ≡ Ok y → image w Key y ≡ Some z → r.reads z ≡ Ok (n x)) →
      ((x : Meaning) (y z : Tree) → Q x → g x ≡ Ok y → image w Value y ≡ Some z → q.reads z ≡ Ok (l x)) →
      (x : Meaning) (y z : Tree × Tree) → IsPairOf P Q x → pair_writes f g x ≡ Ok y → entry_image w y ≡ Some z → IsEntry r q z (pair_norm n l x)
  pair_back w r q n l keys values (list (meaning a (meaning b no_meanings))) y z h p i =
      let c = pair_written (f a) (g b) y p in
      let d = both_of (image w Key y.0) (image w Value y.1) z i in
      (n a, l b, keys a y.0 z.0 h.0 c.0 d.0, values b y.1 z.1 h.1 c.1 d.1, refl)
  pair_back w r q n l keys values _ y z h p i = absurd h

  pair_never_key : ((x : Meaning) → P x → f x ≡ Err ser.Key → ⊥) → ((x : Meaning) → Q x → g x ≡ Err ser.Key → ⊥) → (x : Meaning) → IsPairOf P Q x → pair_writes f g x ≡ Err ser.Key → ⊥
  pair_never_key keys values (list (meaning a (meaning b no_meanings))) h p = pair_refused (f a) (g b) (keys a h.0) (values b h.1) p
  pair_never_key keys values _ h p = h

  pair_nodes : ((v : Meaning) (t : Tree) → P v → f v ≡ Ok t → IsNodeTree t) → ((v : Meaning) (t : Tree) → Q v → g v ≡ Ok t → IsNodeTree t) →
      (x : Meaning) (y : Tree × Tree) → IsPairOf P Q x → pair_writes f g x ≡ Ok y → AreNodeTrees y
  pair_nodes keys values (list (meaning a (meaning b no_meanings))) y h p = let c = pair_written (f a) (g b) y p in (keys a y.0 h.0 c.0, values b y.1 h.1 c.1)
  pair_nodes keys values _ y h p = absurd h

module _ (P Q : Meaning → Type 0) (n l : Meaning → Meaning) where
  pair_exact : ((x : Meaning) → P x → n x ≡ x) → ((x : Meaning) → Q x → l x ≡ x) → (x : Meaning) → IsPairOf P Q x → pair_norm n l x ≡ x
  pair_exact keys values (list (meaning a (meaning b no_meanings))) h = λ i. pair (keys a h.0 i) (values b h.1 i)
  pair_exact keys values _ h = absurd h

  pair_normed : ((v : Meaning) → P v → P (n v)) → ((v : Meaning) → Q v → Q (l v)) → (x : Meaning) → IsPairOf P Q x → IsPairOf P Q (pair_norm n l x)
  pair_normed keys values (list (meaning a (meaning b no_meanings))) h = (keys a h.0, values b h.1)
  pair_normed keys values _ h = absurd h

-- ---- writing

abbrev make : List (Tree × Tree) → Tree
make es = node.map (entries es)

module _ (P Q : Meaning → Type 0) (k w : Writes) where
  imaged : (m : Mode) → HasImages P k (at_key m) → HasImages Q w (at_value m) → is_json_key m.wire m.place ≡ false → HasImages (IsListOf (IsPairOf P Q)) (entries_writes k w) m
  imaged m keys values away (list vs) t h p =
      let f = pair_writes (k (at_key m)) (w (at_value m)) in
      let c = within_ok make (traverse f (parts vs)) t p in
      let z = each_imaged f (entry_image m.wire) (IsPairOf P Q) (pair_imaged P Q (k (at_key m)) (w (at_value m)) m.wire keys values) (parts vs) c.0 h c.1 in
      (make z.0, map-image m.wire m.place t c.0 away c.2 ∙ ap (option_map make) z.1)
  imaged m keys values away _ t h p = absurd h

  back : (r : Reads) (s : Spots) (j : Skips) (q : Reads) (z : Spots) (i : Skips) (n l : Norm) (m : Mode) → ReadsBack P k r n (at_key m) → ReadsBack Q w q l (at_value m) → is_json_key m.wire m.place ≡ false →
      ReadsBack (IsListOf (IsPairOf P Q)) (entries_writes k w) (entries_reads r s j q z i) (entries_norm n l) m
  back r s j q z i n l m keys values away (list vs) t u h p e =
      let f = pair_writes (k (at_key m)) (w (at_value m)) in
      let norm = pair_norm (n (at_key m)) (l (at_value m)) in
      let key = reader r s j (at_key m) in
      let value = reader q z i (at_value m) in
      let c = within_ok make (traverse f (parts vs)) t p in
      let d = mapped_some make (option_traverse (entry_image m.wire) c.0) u (sym (map-image m.wire m.place t c.0 away c.2) ∙ e) in
      let b = each_back f (entry_image m.wire) (IsPairOf P Q) (IsEntry key value) norm
      (pair_back P Q (k (at_key m)) (w (at_value m)) m.wire key value (n (at_key m)) (l (at_value m)) keys values) (parts vs) c.0 d.0 h c.1 d.1 in
      let g = are_read key value d.0 (list_map norm (parts vs)) b in
      read_map r s j q z i m u d.0 (list_map norm (parts vs)) g.0 d.2 g.1 g.2
  back r s j q z i n l m keys values away _ t u h p e = absurd h

  never_key : (m : Mode) → NeverKey P k (at_key m) → NeverKey Q w (at_value m) → NeverKey (IsListOf (IsPairOf P Q)) (entries_writes k w) m
  never_key m keys values (list vs) h p =
      let f = pair_writes (k (at_key m)) (w (at_value m)) in
      each_never f (IsPairOf P Q) ser.Key (pair_never_key P Q (k (at_key m)) (w (at_value m)) keys values) (parts vs) h (within_key make (traverse f (parts vs)) p)
  never_key m keys values _ h p = h

  written_kind : (m : Mode) (v : Meaning) (t : Tree) → IsListOf (IsPairOf P Q) v → entries_writes k w m v ≡ Ok t → is_kind kind.Map (kind_of t) ≡ true
  written_kind m (list vs) t h p = ap (λ (u : Tree). is_kind kind.Map (kind_of u)) ((within_ok make (traverse (pair_writes (k (at_key m)) (w (at_value m))) (parts vs)) t p).2)
  written_kind m _ t h p = absurd h

  nodes : WritesNodes P k → WritesNodes Q w → WritesNodes (IsListOf (IsPairOf P Q)) (entries_writes k w)
  nodes keys values m (list vs) t h p =
      let f = pair_writes (k (at_key m)) (w (at_value m)) in
      let c = within_ok make (traverse f (parts vs)) t p in
      let shallow = within_shallow make (traverse f (parts vs)) t p in
      let each = each_made f (IsPairOf P Q) AreNodeTrees (pair_nodes P Q (k (at_key m)) (w (at_value m)) (keys (at_key m)) (values (at_value m))) (parts vs) c.0 h c.1 in
      rw c.2 (map-is_node c.0 each (subst (λ u. depth u ≤ 128) c.2 shallow))
  nodes keys values m _ t h p = absurd h

module _ (k w : Writes) (keys : IsUnmarked k) (values : IsUnmarked w) where
  pair_unmarked : (m : Mode) (x : Meaning) → pair_writes (k (at_key (marked m))) (w (at_value (marked m))) x ≡ pair_writes (k (at_key m)) (w (at_value m)) x
  pair_unmarked m (list (meaning a (meaning b no_meanings))) = pair_same (keys (at_key m) a) (values (at_value m) b)
  pair_unmarked m _ = refl

  unmarked : IsUnmarked (entries_writes k w)
  unmarked m (list vs) =
      ap (λ r. bind r (λ es. within (make es))) (each_same (pair_writes (k (at_key (marked m))) (w (at_value (marked m)))) (pair_writes (k (at_key m)) (w (at_value m))) (pair_unmarked m) (parts vs))
  unmarked m _ = refl

module _ (P Q : Meaning → Type 0) (n l : Norm) where
  norms : NormsWithin P n → NormsWithin Q l → NormsWithin (IsListOf (IsPairOf P Q)) (entries_norm n l)
  norms keys values m (list vs) h =
      let f = pair_norm (n (at_key m)) (l (at_value m)) in
      rw (parts-meanings (list_map f (parts vs))) (each_normed (IsPairOf P Q) f (pair_normed P Q (n (at_key m)) (l (at_value m)) (keys (at_key m)) (values (at_value m))) (parts vs) h)
  norms keys values m _ h = absurd h

  exact : (m : Mode) → IsExact P n (at_key m) → IsExact Q l (at_value m) → IsExact (IsListOf (IsPairOf P Q)) (entries_norm n l) m
  exact m keys values (list vs) h =
      ap (λ xs. list (meanings xs)) (each_kept (pair_norm (n (at_key m)) (l (at_value m))) (IsPairOf P Q) (pair_exact P Q (n (at_key m)) (l (at_value m)) keys values) (parts vs) h) ∙ ap list (meanings-parts vs)
  exact m keys values _ h = absurd h

-- ---- all of them

module _ {P Q : Meaning → Type 0} {w x : Writes} {r q : Reads} {s z : Spots} {k l : Skips} {e f : Form} {n o : Norm} {a b : Type 0} (keys : Lawful P w r s k e n a) (values : Lawful Q x q z l f o b) where
  pub entries_keeps : Lawful (IsListOf (IsPairOf P Q)) (entries_writes w x) (entries_reads r s k q z l) (entries_spot r s k q z l) (entries_skips r s k q z l) (map e f) (entries_norm n o) (a × b)
  entries_keeps =
      record {
        images = λ m h. let c = sound-map e f m h in imaged P Q w x m (keys.images (at_key m) c.1) (values.images (at_value m) c.2) c.0;
        back = λ y m h. let c = sound-map e f m h in back P Q w x r s k q z l n o m (keys.back y.0 (at_key m) c.1) (values.back y.1 (at_value m) c.2) c.0;
        never_key = λ m h. let c = sound-map e f m h in never_key P Q w x m (keys.never_key (at_key m) c.1) (values.never_key (at_value m) c.2);
        written_kinds = written_kind P Q w x;
        read_kinds = read_kind r s k q z l;
        unmarked = unmarked w x keys.unmarked values.unmarked;
        exact = λ m g.
            let c = exact-worst (grade e (at_key m)) (grade f (at_value m)) (ap is_exact g) in
            exact P Q n o m (keys.exact (at_key m) (exact_is (grade e (at_key m)) c.0)) (values.exact (at_value m) (exact_is (grade f (at_value m)) c.1));
        spot_kinds = λ m.
            plan_spot_kinds (entries_plan r s k q z l) (itself r s k q z l) m
            (at_entries r s k q z l (Refuses IsOfKind) m (reader_kinds r s k (at_key m) (keys.spot_kinds (at_key m))) (reader_kinds q z l (at_value m) (values.spot_kinds (at_value m))));
        note_kinds = λ m.
            plan_note_kinds (entries_plan r s k q z l) m
            (at_entries r s k q z l (Notes IsNoteIn) m (reader_notes r s k (at_key m) (keys.note_kinds (at_key m))) (reader_notes q z l (at_value m) (values.note_kinds (at_value m))));
        nodes = nodes P Q w x keys.nodes values.nodes;
        norms = norms P Q n o keys.norms values.norms;
      }
