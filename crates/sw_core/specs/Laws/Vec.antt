-- The laws of a list of values, from its parts'.
use Rattle.std.specs.Prelude.{◌≡◌, List, [], ◌∷◌, map as list_map, ◌≤◌, true, false, option_map, Ok}
use Rattle.std.proofs.Common.{refl, ap, sym, subst, ◌∙◌}
use Rattle.sw_tree.specs.Building.{within}
use Rattle.sw_tree.specs.Image.{image}
use Rattle.sw_tree.specs.Kinds.{is_kind}
use Rattle.sw_tree.specs.Meaning.{Meaning, list, meanings, parts}
use Rattle.sw_tree.specs.Laws.Meaning.{parts-meanings, meanings-parts}
use Rattle.sw_tree.specs.Meant.{IsListOf}
use Rattle.sw_tree.specs.Mode.{at_value, marked}
use Rattle.sw_tree.specs.Laws.NodeTrees.{list-is_node}
use Rattle.sw_tree.specs.Nodes.{IsNoteIn}
use Rattle.sw_tree.specs.Proper.{IsNodeTree}
use Rattle.sw_tree.specs.Steps.{bind, traverse, Each}
use Rattle.sw_tree.specs.Laws.Steps.{option_traverse}
use Rattle.sw_tree.specs.Tree.{Tree, trees, items, depth, kind_of}
use Rattle.sw_tree.specs.Laws.Tree.{items-trees}
use Rattle.sw_tree.specs.Tree as node
use Rattle.sw_tree.specs.declared.mode.Kind.TheVariants as kind
use Rattle.sw_tree.specs.declared.mode.Mode.{Mode}
use Rattle.sw_tree.specs.declared.mode.Place.TheVariants.{Value}
use Rattle.sw_tree.specs.declared.fail.SerError.TheVariants as ser
use Rattle.sw_check.specs.Form.{Form, vec}
use Rattle.sw_check.specs.Rules.{is_json_key}
use Rattle.sw_check.specs.Laws.SoundForms.{sound-vec}
use Rattle.sw_elem.specs.Equations.{Writes, Reads, Spots, Skips, LawfulReading}
use Rattle.sw_elem.specs.Statements.{Norm, HasImages, ReadsBack, NeverKey, IsUnmarked, IsExact, WritesNodes, NormsWithin}
use Rattle.sw_elem.specs.Lawful.{Lawful}
use Rattle.sw_core.specs.Plans.{children}
use Rattle.sw_core.specs.Rows.{Reader, reader, each_by}
use Rattle.sw_core.specs.Vec.{list_writes, list_plan, list_reads, list_spot, list_skips, list_norm}
use Rattle.sw_core.specs.Laws.Each.{Beside, each_made, each_imaged, each_back, each_never, each_kept, each_same, each_normed}
use Rattle.sw_core.specs.Laws.Images.{list-image, mapped_some}
use Rattle.sw_tree.specs.Laws.Nodes.{IsBelow, IsOfKind}
use Rattle.sw_core.specs.Laws.Plans.{RefusesItself, plan_lawful, plan_spot_kinds, plan_note_kinds}
use Rattle.sw_core.specs.Laws.Rows.{EachAt, Refuses, Notes, each_by-at, reader_below, reader_kinds, reader_notes, AreRead, row-reads, each-meant}
use Rattle.sw_core.specs.Laws.Within.{within_ok, within_shallow, within_key}

-- ---- reading

module _ (r : Reads) (s : Spots) (k : Skips) where
  at_items : (R : Reader Meaning → Tree → Type 0) (m : Mode) → ((t : Tree) → R (reader r s k (at_value m)) t) → (t : Tree) → EachAt R (list_plan r s k m t).readers (children t)
  at_items R m h (node.list ts) = each_by-at R (reader r s k (at_value m)) h (items ts)
  at_items R m h _ = tt

  itself : RefusesItself (list_plan r s k)
  itself m (node.list ts) vs e p = absurd (cc)
  itself m _ vs e p = λ j i. cc

  meant : (P : Meaning → Type 0) → LawfulReading P r s → (m : Mode) (t : Tree) (vs : List Meaning) (v : Meaning) → Each IsNodeTree (children t) → AreRead (list_plan r s k m t).readers (children t) vs →
      (list_plan r s k m t).makes vs ≡ Ok v → IsListOf P v
  meant P law m (node.list ts) vs v n h p =
      let each = each-meant P (reader r s k (at_value m)) (law.meanings (at_value m)) (items ts) vs n h in
      let e : list (meanings vs) ≡ v = cc in
      subst (IsListOf P) e (rw (parts-meanings vs) each)
  meant P law m _ vs v n h p = absurd (cc)

module _ {P : Meaning → Type 0} {r : Reads} {s : Spots} (k : Skips) (law : LawfulReading P r s) where
  pub list_lawful : LawfulReading (IsListOf P) (list_reads r s k) (list_spot r s k)
  list_lawful = plan_lawful (list_plan r s k) (itself r s k) (IsListOf P) (meant r s k P law) (λ m. at_items r s k (Refuses IsBelow) m (reader_below k law (at_value m)))

-- each image is read as the norm beside it
are_read : (r : Reader Meaning) (ts : List Tree) (vs : List Meaning) → Beside (λ t v. r.reads t ≡ Ok v) ts vs → AreRead (each_by r ts) ts vs
are_read r [] [] h = tt
are_read r [] (v ∷ vs) h = absurd h
are_read r (t ∷ ts) [] h = absurd h
are_read r (t ∷ ts) (v ∷ vs) h = (h.0, are_read r ts vs h.1)

read_list : (r : Reads) (s : Spots) (k : Skips) (m : Mode) (i : Tree) (is : List Tree) (us : List Meaning) → i ≡ node.list (trees is) → Beside (λ t v. r (at_value m) t ≡ Ok v) is us → list_reads r s k m i ≡ Ok (list (meanings us))
read_list r s k m i is us e h =
    let x = reader r s k (at_value m) in
    rw (e, items-trees is, row-reads (each_by x is) is us (are_read x is us h)) refl

read_kind : (r : Reads) (s : Spots) (k : Skips) (m : Mode) (t : Tree) (v : Meaning) → list_reads r s k m t ≡ Ok v → is_kind kind.List (kind_of t) ≡ true
read_kind r s k m (node.list ts) v p = refl
read_kind r s k m _ v p = absurd (cc)

-- ---- writing

abbrev make : List Tree → Tree
make ts = node.list (trees ts)

module _ (P : Meaning → Type 0) (w : Writes) where
  imaged : (m : Mode) → HasImages P w (at_value m) → is_json_key m.wire m.place ≡ false → HasImages (IsListOf P) (list_writes w) m
  imaged m part away (list vs) t h p =
      let f = w (at_value m) in
      let c = within_ok make (traverse f (parts vs)) t p in
      let z = each_imaged f (image m.wire Value) P part (parts vs) c.0 h c.1 in
      (make z.0, list-image m.wire m.place t c.0 away c.2 ∙ ap (option_map make) z.1)
  imaged m part away _ t h p = absurd h

  back : (r : Reads) (s : Spots) (k : Skips) (n : Norm) (m : Mode) → ReadsBack P w r n (at_value m) → is_json_key m.wire m.place ≡ false → ReadsBack (IsListOf P) (list_writes w) (list_reads r s k) (list_norm n) m
  back r s k n m part away (list vs) t i h p e =
      let f = w (at_value m) in
      let c = within_ok make (traverse f (parts vs)) t p in
      let d = mapped_some make (option_traverse (image m.wire Value) c.0) i (sym (list-image m.wire m.place t c.0 away c.2) ∙ e) in
      read_list r s k m i d.0 (list_map (n (at_value m)) (parts vs)) d.2
      (each_back f (image m.wire Value) P (λ t v. r (at_value m) t ≡ Ok v) (n (at_value m)) part (parts vs) c.0 d.0 h c.1 d.1)
  back r s k n m part away _ t i h p e = absurd h

  never_key : (m : Mode) → NeverKey P w (at_value m) → NeverKey (IsListOf P) (list_writes w) m
  never_key m part (list vs) h p = each_never (w (at_value m)) P ser.Key part (parts vs) h (within_key make (traverse (w (at_value m)) (parts vs)) p)
  never_key m part _ h p = h

  written_kind : (m : Mode) (v : Meaning) (t : Tree) → IsListOf P v → list_writes w m v ≡ Ok t → is_kind kind.List (kind_of t) ≡ true
  written_kind m (list vs) t h p = ap (λ (u : Tree). is_kind kind.List (kind_of u)) ((within_ok make (traverse (w (at_value m)) (parts vs)) t p).2)
  written_kind m _ t h p = absurd h

  nodes : WritesNodes P w → WritesNodes (IsListOf P) (list_writes w)
  nodes part m (list vs) t h p =
      let f = w (at_value m) in
      let c = within_ok make (traverse f (parts vs)) t p in
      let shallow = within_shallow make (traverse f (parts vs)) t p in
      rw c.2 (list-is_node c.0 (each_made f P IsNodeTree (part (at_value m)) (parts vs) c.0 h c.1) (subst (λ u. depth u ≤ 128) c.2 shallow))
  nodes part m _ t h p = absurd h

  unmarked : IsUnmarked w → IsUnmarked (list_writes w)
  unmarked part m (list vs) = ap (λ r. bind r (λ ts. within (make ts))) (each_same (w (at_value (marked m))) (w (at_value m)) (part (at_value m)) (parts vs))
  unmarked part m _ = refl

module _ (P : Meaning → Type 0) (n : Norm) where
  norms : NormsWithin P n → NormsWithin (IsListOf P) (list_norm n)
  norms part m (list vs) h = rw (parts-meanings (list_map (n (at_value m)) (parts vs))) (each_normed P (n (at_value m)) (part (at_value m)) (parts vs) h)
  norms part m _ h = absurd h

  exact : (m : Mode) → IsExact P n (at_value m) → IsExact (IsListOf P) (list_norm n) m
  exact m part (list vs) h = ap (λ xs. list (meanings xs)) (each_kept (n (at_value m)) P part (parts vs) h) ∙ ap list (meanings-parts vs)
  exact m part _ h = absurd h

-- ---- all of them

module _ {P : Meaning → Type 0} {w : Writes} {r : Reads} {s : Spots} {k : Skips} {e : Form} {n : Norm} {a : Type 0} (part : Lawful P w r s k e n a) where
  pub list_keeps : Lawful (IsListOf P) (list_writes w) (list_reads r s k) (list_spot r s k) (list_skips r s k) (vec e) (list_norm n) a
  list_keeps =
      record {
        images = λ m h. let c = sound-vec e m h in imaged P w m (part.images (at_value m) c.1) c.0;
        back = λ x m h. let c = sound-vec e m h in back P w r s k n m (part.back x (at_value m) c.1) c.0;
        never_key = λ m h. never_key P w m (part.never_key (at_value m) ((sound-vec e m h).1));
        written_kinds = written_kind P w;
        read_kinds = read_kind r s k;
        unmarked = unmarked P w part.unmarked;
        exact = λ m g. exact P n m (part.exact (at_value m) g);
        spot_kinds = λ m. plan_spot_kinds (list_plan r s k) (itself r s k) m (at_items r s k (Refuses IsOfKind) m (reader_kinds r s k (at_value m) (part.spot_kinds (at_value m))));
        note_kinds = λ m. plan_note_kinds (list_plan r s k) m (at_items r s k (Notes IsNoteIn) m (reader_notes r s k (at_value m) (part.note_kinds (at_value m))));
        nodes = nodes P w part.nodes;
        norms = norms P n part.norms;
      }
