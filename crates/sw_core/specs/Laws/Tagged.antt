-- The laws of a value of one of two variants, or of a third without a value, from those of the values.
use Rattle.std.specs.Prelude.{◌≡◌, ◌≤◌, ℕ, zero, suc, List, [], ◌∷◌, Bool, true, false, ◌||◌, ◌&&◌, cond, is_some, Option, Some, None, option_map, Ok, Err, codes}
use Rattle.std.specs.Str.{bytes_eq, IsUtf8}
use Rattle.std.proofs.Common.{refl, ap, sym, subst, ◌∙◌, arith}
use Rattle.sw_tree.specs.Image.{image, next_entry}
use Rattle.sw_tree.specs.Kinds.{is_kind}
use Rattle.sw_tree.specs.Meaning.{Meaning, nothing, case}
use Rattle.sw_tree.specs.Meant.{IsNothing, IsResultOf, IsBoundOf}
use Rattle.sw_tree.specs.Mode.{at_value}
use Rattle.sw_tree.specs.Nodes.{IsNoteIn}
use Rattle.sw_tree.specs.Placed.{Note}
use Rattle.sw_tree.specs.Proper.{IsNodeTree}
use Rattle.sw_tree.specs.Steps.{Each}
use Rattle.sw_tree.specs.Laws.NodeTrees.{map-is_node}
use Rattle.sw_tree.specs.Laws.Nodes.{IsOwn, IsStable, IsBelow, IsOfKind, below-stable, kind-stable}
use Rattle.sw_tree.specs.Tree.{Tree, Entries, no_entries, entry, depth, kind_of}
use Rattle.sw_tree.specs.Tree as node
use Rattle.sw_tree.specs.declared.mode.Kind.{Kind}
use Rattle.sw_tree.specs.declared.mode.Kind.TheVariants as kind
use Rattle.sw_tree.specs.declared.mode.Mode.{Mode}
use Rattle.sw_tree.specs.declared.mode.Place.TheVariants.{Value}
use Rattle.sw_tree.specs.declared.mode.WireKind.{WireKind}
use Rattle.sw_tree.specs.declared.mode.WireKind.TheVariants.{Json, Compact}
use Rattle.sw_tree.specs.declared.fail.DeError.{DeError}
use Rattle.sw_tree.specs.declared.fail.DeError.TheVariants as fail
use Rattle.sw_check.specs.Blame.{IsSound}
use Rattle.sw_check.specs.Form.{Form, Forms, no_forms, form, tagged}
use Rattle.sw_check.specs.Grade.{grade, worst, is_exact}
use Rattle.sw_check.specs.Rules.{is_json_key}
use Rattle.sw_check.specs.Laws.Sound.{AllSound, sound-checked, sound-no_key}
use Rattle.sw_check.specs.Laws.SoundForms.{exact_is, exact-worst}
use Rattle.sw_check.specs.declared.grade.Grade.TheVariants.{Exact}
use Rattle.sw_elem.specs.Equations.{Writes, Reads, Spots, Skips, LawfulReading, own_spot, no_skips}
use Rattle.sw_elem.specs.Lawful.{Lawful}
use Rattle.sw_elem.specs.Statements.{Norm, HasImages, ReadsBack, NeverKey, IsUnmarked, IsExact, WritesNodes, NormsWithin}
use Rattle.sw_elem.specs.Strings.{nothing_reads}
use Rattle.sw_elem.specs.Laws.Text.{nothing_lawful}
use Rattle.sw_elem.specs.Laws.TextLeaf.{nothing_keeps}
use Rattle.sw_core.specs.Parts.{Reading, reading, in_mode}
use Rattle.sw_core.specs.Plans.{children}
use Rattle.sw_core.specs.Rows.{Reader}
use Rattle.sw_core.specs.Tagged.{Names, variant_of, alone_of, tag, no_tag, untagged, case_makes, variant_plan, key_plan, text_makes, tagged_plan, tagged_reads, tagged_spot, tagged_skips, entry_of, case_writes, alone_writes, tagged_writes, tagged_norm, result_names, bound_names}
use Rattle.sw_core.specs.declared.tagged.Variant.{Variant}
use Rattle.sw_core.specs.declared.tagged.Variant.TheVariants.{First, Second, Alone, Unknown}
use Rattle.sw_core.specs.Laws.Parts.{same_reading, same_keeps, IsReading, reading_below, reading_kinds, reading_notes}
use Rattle.sw_core.specs.Laws.Plans.{RefusesItself, plan_lawful, plan_spot_kinds, plan_note_kinds}
use Rattle.sw_core.specs.Laws.Fields.{first_name}
use Rattle.sw_core.specs.Laws.Images.{image-elsewhere}
use Rattle.sw_core.specs.Laws.Rows.{AreRead, EachAt, Refuses, Notes}
use Rattle.sw_core.specs.Laws.Within.{within_ok, within_shallow, within_key}

-- such a case; the third one is there where it has a name
abbrev pub IsAlone : Option (List ℕ) → Meaning → Type 0
IsAlone (Some s) nothing = Unit {0}
IsAlone _ _ = ⊥

abbrev pub IsTagged : Names → (Meaning → Type 0) → (Meaning → Type 0) → Meaning → Type 0
IsTagged n P Q (case zero v) = P v
IsTagged n P Q (case (suc zero) v) = Q v
IsTagged n P Q (case (suc (suc zero)) v) = IsAlone n.alone v
IsTagged n P Q _ = ⊥

-- each name tells its variant, and is a text
pub record AreNames (n : Names) : Type 0 where
  pub one : variant_of n n.first ≡ First
  pub two : variant_of n n.second ≡ Second
  pub texts : IsUtf8 n.first × IsUtf8 n.second
  pub three : (s : List ℕ) → n.alone ≡ Some s → (variant_of n s ≡ Alone) × IsUtf8 s

-- ---- reading

abbrev null_reading : Reading
null_reading = reading nothing_reads own_spot no_skips

module _ (R : Reader Meaning → Tree → Type 0) (tags : (t : Tree) → R tag t) (refuses : (t : Tree) (e : DeError) → IsOwn t e → R (no_tag e) t) (x y : Reading) (m : Mode)
    (one : (t : Tree) → R (in_mode (at_value m) x) t) (two : (t : Tree) → R (in_mode (at_value m) y) t) (null : (t : Tree) → R (in_mode (at_value m) null_reading) t) where
  variant_at : (v : Variant) (k t : Tree) → EachAt R (variant_plan x y m v).readers (k ∷ t ∷ [])
  variant_at First k t = (tags k, (one t, tt))
  variant_at Second k t = (tags k, (two t, tt))
  variant_at Alone k t = (tags k, (null t, tt))
  variant_at Unknown k t = (refuses k fail.UnknownVariant (λ j i. absurd (cc)), tt)

  own_at : (n : Names) (k t : Tree) → (j : Kind) → kind_of k ≡ j → EachAt R (untagged (fail.InvalidType j)).readers (k ∷ t ∷ [])
  own_at n k t j e = (refuses k (fail.InvalidType j) (λ i p. let q : j ≡ i = cc in e ∙ q), tt)

  key_at : (n : Names) (k t : Tree) → EachAt R (key_plan n x y m k).readers (k ∷ t ∷ [])
  key_at n (node.text s) t = variant_at (variant_of n s) (node.text s) t
  key_at n node.null t = own_at n node.null t kind.Null refl
  key_at n (node.truth b) t = own_at n (node.truth b) t kind.Bool refl
  key_at n (node.int z) t = own_at n (node.int z) t kind.Int refl
  key_at n (node.bytes s) t = own_at n (node.bytes s) t kind.Bytes refl
  key_at n (node.list ts) t = own_at n (node.list ts) t kind.List refl
  key_at n (node.map es) t = own_at n (node.map es) t kind.Map refl

  tagged_at : (n : Names) (t : Tree) → EachAt R (tagged_plan n x y m t).readers (children t)
  tagged_at n (node.map (entry k t no_entries)) = key_at n k t
  tagged_at n (node.map no_entries) = tt
  tagged_at n (node.map (entry k t (entry l u es))) = tt
  tagged_at n (node.text s) = tt
  tagged_at n node.null = tt
  tagged_at n (node.truth b) = tt
  tagged_at n (node.int z) = tt
  tagged_at n (node.bytes s) = tt
  tagged_at n (node.list ts) = tt

case_own : (i : ℕ) (vs : List Meaning) (t : Tree) (e : DeError) → case_makes i vs ≡ Err e → IsOwn t e
case_own i (k ∷ v ∷ []) t e p = absurd (cc)
case_own i [] t e p = λ j q. absurd (cc)
case_own i (k ∷ []) t e p = λ j q. absurd (cc)
case_own i (k ∷ v ∷ w ∷ vs) t e p = λ j q. absurd (cc)

variant_own : (x y : Reading) (m : Mode) (v : Variant) (vs : List Meaning) (t : Tree) (e : DeError) → (variant_plan x y m v).makes vs ≡ Err e → IsOwn t e
variant_own x y m First vs t e p = case_own 0 vs t e p
variant_own x y m Second vs t e p = case_own 1 vs t e p
variant_own x y m Alone vs t e p = case_own 2 vs t e p
variant_own x y m Unknown vs t e p = λ j q. absurd (cc)

text_own : (v : Variant) (s : List ℕ) (e : DeError) → text_makes v ≡ Err e → IsOwn (node.text s) e
text_own First s e p = λ j q. cc
text_own Second s e p = λ j q. cc
text_own Alone s e p = absurd (cc)
text_own Unknown s e p = λ j q. absurd (cc)

chosen : (b c : Bool) (o : Variant) → cond b First (cond c Second o) ≡ Alone → o ≡ Alone
chosen true c o e = absurd (cc)
chosen false true o e = absurd (cc)
chosen false false o e = e

module _ (n : Names) (x y : Reading) where
  key_own : (m : Mode) (k t : Tree) (vs : List Meaning) (e : DeError) → (key_plan n x y m k).makes vs ≡ Err e → IsOwn t e
  key_own m (node.text s) t vs e p = variant_own x y m (variant_of n s) vs t e p
  key_own m node.null t vs e p = λ j q. absurd (cc)
  key_own m (node.truth b) t vs e p = λ j q. absurd (cc)
  key_own m (node.int z) t vs e p = λ j q. absurd (cc)
  key_own m (node.bytes s) t vs e p = λ j q. absurd (cc)
  key_own m (node.list ts) t vs e p = λ j q. absurd (cc)
  key_own m (node.map es) t vs e p = λ j q. absurd (cc)

  itself : RefusesItself (tagged_plan n x y)
  itself m (node.map (entry k t no_entries)) vs e p = key_own m k (node.map (entry k t no_entries)) vs e p
  itself m (node.map no_entries) vs e p = λ j i. absurd (cc)
  itself m (node.map (entry k t (entry l u es))) vs e p = λ j i. absurd (cc)
  itself m (node.text s) vs e p = text_own (variant_of n s) s e p
  itself m node.null vs e p = λ j i. cc
  itself m (node.truth b) vs e p = λ j i. cc
  itself m (node.int z) vs e p = λ j i. cc
  itself m (node.bytes s) vs e p = λ j i. cc
  itself m (node.list ts) vs e p = λ j i. cc

  module _ (P Q : Meaning → Type 0) (one : IsReading P x) (two : IsReading Q y) where
    abbrev Is : Meaning → Type 0
    Is = IsTagged n P Q

    case_is : (S : Meaning → Type 0) (i : ℕ) (r : Reader Meaning) (k t : Tree) (vs : List Meaning) (v : Meaning) → ((u : Meaning) → r.reads t ≡ Ok u → S (case i u)) → AreRead (tag ∷ r ∷ []) (k ∷ t ∷ []) vs → case_makes i vs ≡ Ok v → S v
    case_is S i r k t (a ∷ u ∷ []) v h g p = let e : case i u ≡ v = cc in subst S e (h u g.1.0)
    case_is S i r k t [] v h g p = absurd g
    case_is S i r k t (a ∷ []) v h g p = absurd g.1
    case_is S i r k t (a ∷ u ∷ w ∷ vs) v h g p = absurd g.1.1

    alone_named : (o : Option (List ℕ)) (s : List ℕ) → alone_of o s ≡ Alone → (u : Meaning) → IsNothing u → IsAlone o u
    alone_named (Some a) s e nothing h = tt
    alone_named (Some a) s e _ h = absurd h
    alone_named None s e u h = absurd (cc)

    alone_is : (s : List ℕ) → variant_of n s ≡ Alone → (u : Meaning) → IsNothing u → Is (case 2 u)
    alone_is s e u h = alone_named n.alone s (chosen (bytes_eq s n.first) (bytes_eq s n.second) (alone_of n.alone s) e) u h

    variant_is : (m : Mode) (s : List ℕ) (w : Variant) (k t : Tree) (vs : List Meaning) (v : Meaning) → variant_of n s ≡ w → IsNodeTree t → AreRead (variant_plan x y m w).readers (k ∷ t ∷ []) vs → (variant_plan x y m w).makes vs ≡ Ok v → Is v
    variant_is m s First k t vs v e g h p = case_is Is 0 (in_mode (at_value m) x) k t vs v (λ u q. one.meanings (at_value m) t u g q) h p
    variant_is m s Second k t vs v e g h p = case_is Is 1 (in_mode (at_value m) y) k t vs v (λ u q. two.meanings (at_value m) t u g q) h p
    variant_is m s Alone k t vs v e g h p = case_is Is 2 (in_mode (at_value m) null_reading) k t vs v (λ u q. alone_is s e u (nothing_lawful.meanings (at_value m) t u g q)) h p
    variant_is m s Unknown k t vs v e g h p = absurd (cc)

    text_is : (s : List ℕ) (w : Variant) (v : Meaning) → variant_of n s ≡ w → text_makes w ≡ Ok v → Is v
    text_is s First v e p = absurd (cc)
    text_is s Second v e p = absurd (cc)
    text_is s Alone v e p = let q : case 2 nothing ≡ v = cc in subst Is q (alone_is s e nothing tt)
    text_is s Unknown v e p = absurd (cc)

    key_is : (m : Mode) (k t : Tree) (vs : List Meaning) (v : Meaning) → IsNodeTree t → AreRead (key_plan n x y m k).readers (k ∷ t ∷ []) vs → (key_plan n x y m k).makes vs ≡ Ok v → Is v
    key_is m (node.text s) t vs v g h p = variant_is m s (variant_of n s) (node.text s) t vs v refl g h p
    key_is m node.null t vs v g h p = absurd (cc)
    key_is m (node.truth b) t vs v g h p = absurd (cc)
    key_is m (node.int z) t vs v g h p = absurd (cc)
    key_is m (node.bytes s) t vs v g h p = absurd (cc)
    key_is m (node.list ts) t vs v g h p = absurd (cc)
    key_is m (node.map es) t vs v g h p = absurd (cc)

    meant : (m : Mode) (t : Tree) (vs : List Meaning) (v : Meaning) → Each IsNodeTree (children t) → AreRead (tagged_plan n x y m t).readers (children t) vs → (tagged_plan n x y m t).makes vs ≡ Ok v → Is v
    meant m (node.map (entry k t no_entries)) vs v g h p = key_is m k t vs v g.1.0 h p
    meant m (node.map no_entries) vs v g h p = absurd (cc)
    meant m (node.map (entry k t (entry l u es))) vs v g h p = absurd (cc)
    meant m (node.text s) vs v g h p = text_is s (variant_of n s) v refl p
    meant m node.null vs v g h p = absurd (cc)
    meant m (node.truth b) vs v g h p = absurd (cc)
    meant m (node.int z) vs v g h p = absurd (cc)
    meant m (node.bytes s) vs v g h p = absurd (cc)
    meant m (node.list ts) vs v g h p = absurd (cc)

  module _ (Q : List Kind → Note → Type 0) (s : IsStable Q) where
    tag_refuses : (t : Tree) → Refuses Q tag t
    tag_refuses t e p = absurd (cc)

    no_tag_refuses : (t : Tree) (e : DeError) → IsOwn t e → Refuses Q (no_tag e) t
    no_tag_refuses t e own d p = s.root t d (λ k i. own k (cc))

    refuses : (m : Mode) → ((t : Tree) → Refuses Q (in_mode (at_value m) x) t) → ((t : Tree) → Refuses Q (in_mode (at_value m) y) t) → ((t : Tree) → Refuses Q (in_mode (at_value m) null_reading) t) → (t : Tree) → EachAt (Refuses Q) (tagged_plan n x y m t).readers (children t)
    refuses m one two null t = tagged_at (Refuses Q) tag_refuses no_tag_refuses x y m one two null n t

  pub tagged_lawful : {P Q : Meaning → Type 0} → IsReading P x → IsReading Q y → LawfulReading (IsTagged n P Q) (tagged_reads n x y) (tagged_spot n x y)
  tagged_lawful {P} {Q} one two =
      plan_lawful (tagged_plan n x y) itself (IsTagged n P Q) (meant P Q one two)
      (λ m. refuses IsBelow below-stable m (reading_below (at_value m) P x one) (reading_below (at_value m) Q y two) (reading_below (at_value m) IsNothing null_reading nothing_lawful))

-- ---- writing

-- the image of the one entry has the image of its value
entry_image : (w : WireKind) (s : List ℕ) (t i : Tree) → image w Value t ≡ Some i → image w Value (entry_of s t) ≡ Some (entry_of s i)
entry_image Compact s t i e = ap (option_map (entry_of s)) e
entry_image Json s t i e = ap (λ (o : Option Tree). option_map node.map (next_entry (Some (node.text s)) o (Some no_entries))) e

text_image : (w : WireKind) (s : List ℕ) → image w Value (node.text s) ≡ Some (node.text s)
text_image Compact s = refl
text_image Json s = refl

text_node : (s : List ℕ) → IsUtf8 s → IsNodeTree (node.text s)
text_node s h = record { proper = h; shallow = omega arith }

entry_node : (s : List ℕ) (t : Tree) → IsUtf8 s → IsNodeTree t → depth (entry_of s t) ≤ 128 → IsNodeTree (entry_of s t)
entry_node s t h n d = map-is_node ((node.text s, t) ∷ []) ((text_node s h, n), tt) d

-- soundness of the values, and that there is no key of JSON
sound-tagged : (ps : Forms) (u : Bool) (m : Mode) → IsSound (tagged ps u) m → (is_json_key m.wire m.place ≡ false) × AllSound ps (at_value m)
sound-tagged ps true m s = (sound-no_key (tagged ps true) m s refl, sound-checked (tagged ps true) m s)
sound-tagged ps false m s = (sound-no_key (tagged ps false) m s refl, sound-checked (tagged ps false) m s)

-- the kinds of the forms
is_map : (u : Bool) (k : Kind) → k ≡ kind.Map → (is_kind kind.Map k || (u && is_kind kind.Text k)) ≡ true
is_map u k e = ap (λ (j : Kind). is_kind kind.Map j || (u && is_kind kind.Text j)) e

is_text : (o : Option (List ℕ)) (s : List ℕ) (k : Kind) → o ≡ Some s → k ≡ kind.Text → (is_kind kind.Map k || (is_some o && is_kind kind.Text k)) ≡ true
is_text (Some a) s k e i = ap (λ (j : Kind). is_kind kind.Map j || (true && is_kind kind.Text j)) i
is_text None s k e i = absurd (cc)

-- what a variant without a value is written as
alone_text : (o : Option (List ℕ)) (v : Meaning) → IsAlone o v → (s : List ℕ) × (o ≡ Some s) × (alone_writes o ≡ Ok (node.text s)) × (v ≡ nothing)
alone_text (Some s) nothing h = (s, refl, refl, refl)
alone_text (Some s) _ h = absurd h
alone_text None v h = absurd h

module _ (m : Mode) (away : is_json_key m.wire m.place ≡ false) where
  imaged_entry : (s : List ℕ) (t i u : Tree) → t ≡ entry_of s u → image m.wire Value u ≡ Some i → image m.wire m.place t ≡ Some (entry_of s i)
  imaged_entry s t i u e h = ap (image m.wire m.place) e ∙ image-elsewhere m.wire m.place (entry_of s u) away ∙ entry_image m.wire s u i h

  imaged_text : (s : List ℕ) (t : Tree) → node.text s ≡ t → image m.wire m.place t ≡ Some (node.text s)
  imaged_text s t e = ap (image m.wire m.place) (sym e) ∙ image-elsewhere m.wire m.place (node.text s) away ∙ text_image m.wire s

module _ (n : Names) (names : AreNames n) where
  module _ (m : Mode) (x y : Reading) where
    first_read : (j : Tree) (u : Meaning) → x.reads (at_value m) j ≡ Ok u → tagged_reads n x y m (entry_of n.first j) ≡ Ok (case 0 u)
    first_read j u e = rw (names.one, e) refl

    second_read : (j : Tree) (u : Meaning) → y.reads (at_value m) j ≡ Ok u → tagged_reads n x y m (entry_of n.second j) ≡ Ok (case 1 u)
    second_read j u e = rw (names.two, e) refl

    text_read : (s : List ℕ) → n.alone ≡ Some s → tagged_reads n x y m (node.text s) ≡ Ok (case 2 nothing)
    text_read s e = rw ((names.three s e).0) refl

  module _ (P Q : Meaning → Type 0) (w z : Writes) where
    abbrev Of : Meaning → Type 0
    Of = IsTagged n P Q

    abbrev writes : Writes
    writes = tagged_writes n w z

    module _ (m : Mode) (away : is_json_key m.wire m.place ≡ false) where
      imaged : HasImages P w (at_value m) → HasImages Q z (at_value m) → HasImages Of writes m
      imaged one two (case zero v) t h p =
          let c = within_ok (entry_of n.first) (w (at_value m) v) t p in
          let i = one v c.0 h c.1 in
          (entry_of n.first i.0, imaged_entry m away n.first t i.0 c.0 c.2 i.1)
      imaged one two (case (suc zero) v) t h p =
          let c = within_ok (entry_of n.second) (z (at_value m) v) t p in
          let i = two v c.0 h c.1 in
          (entry_of n.second i.0, imaged_entry m away n.second t i.0 c.0 c.2 i.1)
      imaged one two (case (suc (suc zero)) v) t h p =
          let c = alone_text n.alone v h in
          let e : node.text c.0 ≡ t = cc (c.2, p) in
          (node.text c.0, imaged_text m away c.0 t e)
      imaged one two _ t h p = absurd h

      module _ (x y : Reading) where
        back : (l k : Norm) → HasImages P w (at_value m) → HasImages Q z (at_value m) → ReadsBack P w x.reads l (at_value m) → ReadsBack Q z y.reads k (at_value m) → ReadsBack Of writes (tagged_reads n x y) (tagged_norm l k) m
        back l k a b one two (case zero v) t i h p g =
            let c = within_ok (entry_of n.first) (w (at_value m) v) t p in
            let j = a v c.0 h c.1 in
            let e : entry_of n.first j.0 ≡ i = cc (imaged_entry m away n.first t j.0 c.0 c.2 j.1, g) in
            ap (tagged_reads n x y m) (sym e) ∙ first_read m x y j.0 (l (at_value m) v) (one v c.0 j.0 h c.1 j.1)
        back l k a b one two (case (suc zero) v) t i h p g =
            let c = within_ok (entry_of n.second) (z (at_value m) v) t p in
            let j = b v c.0 h c.1 in
            let e : entry_of n.second j.0 ≡ i = cc (imaged_entry m away n.second t j.0 c.0 c.2 j.1, g) in
            ap (tagged_reads n x y m) (sym e) ∙ second_read m x y j.0 (k (at_value m) v) (two v c.0 j.0 h c.1 j.1)
        back l k a b one two (case (suc (suc zero)) v) t i h p g =
            let c = alone_text n.alone v h in
            let e : node.text c.0 ≡ t = cc (c.2, p) in
            let f : node.text c.0 ≡ i = cc (imaged_text m away c.0 t e, g) in
            ap (tagged_reads n x y m) (sym f) ∙ text_read m x y c.0 c.1 ∙ ap (λ (u : Meaning). Ok (case 2 u)) (sym c.3)
        back l k a b one two _ t i h p g = absurd h

    never_key : (m : Mode) → NeverKey P w (at_value m) → NeverKey Q z (at_value m) → NeverKey Of writes m
    never_key m one two (case zero v) h p = one v h (within_key (entry_of n.first) (w (at_value m) v) p)
    never_key m one two (case (suc zero) v) h p = two v h (within_key (entry_of n.second) (z (at_value m) v) p)
    never_key m one two (case (suc (suc zero)) v) h p = let c = alone_text n.alone v h in absurd (cc (c.2, p))
    never_key m one two _ h p = h

    written_kind : (m : Mode) (v : Meaning) (t : Tree) → Of v → writes m v ≡ Ok t → (is_kind kind.Map (kind_of t) || (is_some n.alone && is_kind kind.Text (kind_of t))) ≡ true
    written_kind m (case zero v) t h p = is_map (is_some n.alone) (kind_of t) (ap kind_of ((within_ok (entry_of n.first) (w (at_value m) v) t p).2))
    written_kind m (case (suc zero) v) t h p = is_map (is_some n.alone) (kind_of t) (ap kind_of ((within_ok (entry_of n.second) (z (at_value m) v) t p).2))
    written_kind m (case (suc (suc zero)) v) t h p =
        let c = alone_text n.alone v h in
        let e : node.text c.0 ≡ t = cc (c.2, p) in
        is_text n.alone c.0 (kind_of t) c.1 (ap kind_of (sym e))
    written_kind m _ t h p = absurd h

    unmarked : IsUnmarked w → IsUnmarked z → IsUnmarked writes
    unmarked one two m (case zero v) = ap (case_writes n.first) (one (at_value m) v)
    unmarked one two m (case (suc zero) v) = ap (case_writes n.second) (two (at_value m) v)
    unmarked one two m _ = refl

    nodes : WritesNodes P w → WritesNodes Q z → WritesNodes Of writes
    nodes one two m (case zero v) t h p =
        let r = w (at_value m) v in
        let c = within_ok (entry_of n.first) r t p in
        rw c.2 (entry_node n.first c.0 names.texts.0 (one (at_value m) v c.0 h c.1) (subst (λ u. depth u ≤ 128) c.2 (within_shallow (entry_of n.first) r t p)))
    nodes one two m (case (suc zero) v) t h p =
        let r = z (at_value m) v in
        let c = within_ok (entry_of n.second) r t p in
        rw c.2 (entry_node n.second c.0 names.texts.1 (two (at_value m) v c.0 h c.1) (subst (λ u. depth u ≤ 128) c.2 (within_shallow (entry_of n.second) r t p)))
    nodes one two m (case (suc (suc zero)) v) t h p =
        let c = alone_text n.alone v h in
        let e : node.text c.0 ≡ t = cc (c.2, p) in
        subst IsNodeTree e (text_node c.0 ((names.three c.0 c.1).1))
    nodes one two m _ t h p = absurd h

  module _ (P Q : Meaning → Type 0) (l k : Norm) where
    norms : NormsWithin P l → NormsWithin Q k → NormsWithin (IsTagged n P Q) (tagged_norm l k)
    norms one two m (case zero v) h = one (at_value m) v h
    norms one two m (case (suc zero) v) h = two (at_value m) v h
    norms one two m (case (suc (suc zero)) v) h = h
    norms one two m _ h = absurd h

    exact : (m : Mode) → IsExact P l (at_value m) → IsExact Q k (at_value m) → IsExact (IsTagged n P Q) (tagged_norm l k) m
    exact m one two (case zero v) h = ap (case 0) (one v h)
    exact m one two (case (suc zero) v) h = ap (case 1) (two v h)
    exact m one two (case (suc (suc zero)) v) h = refl
    exact m one two _ h = absurd h

  -- a tree that is read is a map, or the text of the variant without a value
  read_kind : (x y : Reading) (m : Mode) (t : Tree) (v : Meaning) → tagged_reads n x y m t ≡ Ok v → (is_kind kind.Map (kind_of t) || (is_some n.alone && is_kind kind.Text (kind_of t))) ≡ true
  read_kind x y m (node.map es) v p = refl
  read_kind x y m (node.text s) v p = named (variant_of n s) refl p
    where
      named : (u : Variant) → variant_of n s ≡ u → text_makes u ≡ Ok v → (false || (is_some n.alone && true)) ≡ true
      named First e p = absurd (cc)
      named Second e p = absurd (cc)
      named Alone e p = there n.alone (chosen (bytes_eq s n.first) (bytes_eq s n.second) (alone_of n.alone s) e)
        where
          there : (o : Option (List ℕ)) → alone_of o s ≡ Alone → (false || (is_some o && true)) ≡ true
          there (Some a) e = refl
          there None e = absurd (cc)
      named Unknown e p = absurd (cc)
  read_kind x y m node.null v p = absurd (cc)
  read_kind x y m (node.truth b) v p = absurd (cc)
  read_kind x y m (node.int i) v p = absurd (cc)
  read_kind x y m (node.bytes s) v p = absurd (cc)
  read_kind x y m (node.list ts) v p = absurd (cc)

  module _ {P Q : Meaning → Type 0} {w z : Writes} {r q : Reads} {s d : Spots} {j i : Skips} {e f : Form} {l k : Norm} {a b : Type 0} (one : Lawful P w r s j e l a) (two : Lawful Q z q d i f k b) where
    abbrev x : Reading
    x = reading r s j

    abbrev y : Reading
    y = reading q d i

    pub tagged_keeps : Lawful (IsTagged n P Q) (tagged_writes n w z) (tagged_reads n x y) (tagged_spot n x y) (tagged_skips n x y) (tagged (form e (form f no_forms)) (is_some n.alone)) (tagged_norm l k) (a × b)
    tagged_keeps =
        record {
          images = λ m h. let c = sound-tagged (form e (form f no_forms)) (is_some n.alone) m h in imaged P Q w z m c.0 (one.images (at_value m) c.1.0) (two.images (at_value m) c.1.1.0);
          back = λ h m g.
              let c = sound-tagged (form e (form f no_forms)) (is_some n.alone) m g in
              back P Q w z m c.0 x y l k (one.images (at_value m) c.1.0) (two.images (at_value m) c.1.1.0) (one.back h.0 (at_value m) c.1.0) (two.back h.1 (at_value m) c.1.1.0);
          never_key = λ m h. let c = sound-tagged (form e (form f no_forms)) (is_some n.alone) m h in never_key P Q w z m (one.never_key (at_value m) c.1.0) (two.never_key (at_value m) c.1.1.0);
          written_kinds = written_kind P Q w z;
          read_kinds = read_kind x y;
          unmarked = unmarked P Q w z one.unmarked two.unmarked;
          exact = λ m g.
              let c = exact-worst (grade e (at_value m)) (worst (grade f (at_value m)) Exact) (ap is_exact g) in
              let o = exact-worst (grade f (at_value m)) Exact c.1 in
              exact P Q l k m (one.exact (at_value m) (exact_is (grade e (at_value m)) c.0)) (two.exact (at_value m) (exact_is (grade f (at_value m)) o.0));
          spot_kinds = λ m. plan_spot_kinds (tagged_plan n x y) (itself n x y) m
              (refuses n x y IsOfKind kind-stable m (reading_kinds (at_value m) x (one.spot_kinds (at_value m))) (reading_kinds (at_value m) y (two.spot_kinds (at_value m))) (reading_kinds (at_value m) null_reading (nothing_keeps.spot_kinds (at_value m))));
          note_kinds = λ m. plan_note_kinds (tagged_plan n x y) m
              (λ t. tagged_at (Notes IsNoteIn) (λ u. tt) (λ u d o. tt) x y m (reading_notes (at_value m) x (one.note_kinds (at_value m))) (reading_notes (at_value m) y (two.note_kinds (at_value m))) (λ u. tt) n t);
          nodes = nodes P Q w z one.nodes two.nodes;
          norms = norms P Q l k one.norms two.norms;
        }

-- ---- results, and the ends of ranges

pub result-names : AreNames result_names
result-names = record { one = refl; two = refl; texts = ((first_name (codes "Ok") [] refl).0, (first_name (codes "Err") [] refl).0); three = λ s e. absurd (cc) }

abbrev is_bound : List ℕ → Type 0
is_bound s = (variant_of bound_names s ≡ Alone) × IsUtf8 s

pub bound-names : AreNames bound_names
bound-names = record { one = refl; two = refl; texts = ((first_name (codes "Included") [] refl).0, (first_name (codes "Excluded") [] refl).0); three = λ s e. let own : is_bound (codes "Unbounded") = (refl, (first_name (codes "Unbounded") [] refl).0) in let same : codes "Unbounded" ≡ s = cc in subst is_bound same own }

module _ (P Q : Meaning → Type 0) where
  tagged-result : (v : Meaning) → IsTagged result_names P Q v → IsResultOf P Q v
  tagged-result (case zero v) h = h
  tagged-result (case (suc zero) v) h = h
  tagged-result (case (suc (suc zero)) v) h = absurd h
  tagged-result (case (suc (suc (suc i))) v) h = absurd h
  tagged-result _ h = absurd h

  pub result-tagged : (v : Meaning) → IsResultOf P Q v → IsTagged result_names P Q v
  result-tagged (case zero v) h = h
  result-tagged (case (suc zero) v) h = h
  result-tagged (case (suc (suc i)) v) h = absurd h
  result-tagged _ h = absurd h

module _ (P : Meaning → Type 0) where
  tagged-bound : (v : Meaning) → IsTagged bound_names P P v → IsBoundOf P v
  tagged-bound (case zero v) h = h
  tagged-bound (case (suc zero) v) h = h
  tagged-bound (case (suc (suc zero)) nothing) h = h
  tagged-bound (case (suc (suc zero)) v) h = absurd h
  tagged-bound (case (suc (suc (suc i))) v) h = absurd h
  tagged-bound _ h = absurd h

  pub bound-tagged : (v : Meaning) → IsBoundOf P v → IsTagged bound_names P P v
  bound-tagged (case zero v) h = h
  bound-tagged (case (suc zero) v) h = h
  bound-tagged (case (suc (suc zero)) nothing) h = h
  bound-tagged (case (suc (suc zero)) v) h = absurd h
  bound-tagged (case (suc (suc (suc i))) v) h = absurd h
  bound-tagged _ h = absurd h

module _ {P Q : Meaning → Type 0} {r q : Reads} {s d : Spots} (j : Skips) (one : LawfulReading P r s) (i : Skips) (two : LawfulReading Q q d) where
  pub result_lawful : LawfulReading (IsResultOf P Q) (tagged_reads result_names (reading r s j) (reading q d i)) (tagged_spot result_names (reading r s j) (reading q d i))
  result_lawful = same_reading (IsTagged result_names P Q) (IsResultOf P Q) (tagged-result P Q) (tagged_lawful result_names (reading r s j) (reading q d i) one two)

module _ {P : Meaning → Type 0} {r : Reads} {s : Spots} (j : Skips) (one : LawfulReading P r s) where
  pub bound_lawful : LawfulReading (IsBoundOf P) (tagged_reads bound_names (reading r s j) (reading r s j)) (tagged_spot bound_names (reading r s j) (reading r s j))
  bound_lawful = same_reading (IsTagged bound_names P P) (IsBoundOf P) (tagged-bound P) (tagged_lawful bound_names (reading r s j) (reading r s j) one one)

module _ {P Q : Meaning → Type 0} {w z : Writes} {r q : Reads} {s d : Spots} {j i : Skips} {e f : Form} {l k : Norm} {a b : Type 0} (one : Lawful P w r s j e l a) (two : Lawful Q z q d i f k b) where
  pub result_keeps : Lawful (IsResultOf P Q) (tagged_writes result_names w z) (tagged_reads result_names (reading r s j) (reading q d i)) (tagged_spot result_names (reading r s j) (reading q d i))
      (tagged_skips result_names (reading r s j) (reading q d i)) (tagged (form e (form f no_forms)) false) (tagged_norm l k) (a × b)
  result_keeps = same_keeps (IsTagged result_names P Q) (IsResultOf P Q) (tagged-result P Q) (result-tagged P Q) (tagged_keeps result_names result-names one two)

module _ {P : Meaning → Type 0} {w : Writes} {r : Reads} {s : Spots} {j : Skips} {e : Form} {l : Norm} {a : Type 0} (one : Lawful P w r s j e l a) where
  pub bound_keeps : Lawful (IsBoundOf P) (tagged_writes bound_names w w) (tagged_reads bound_names (reading r s j) (reading r s j)) (tagged_spot bound_names (reading r s j) (reading r s j))
      (tagged_skips bound_names (reading r s j) (reading r s j)) (tagged (form e (form e no_forms)) true) (tagged_norm l l) (a × a)
  bound_keeps = same_keeps (IsTagged bound_names P P) (IsBoundOf P) (tagged-bound P) (bound-tagged P) (tagged_keeps bound_names bound-names one one)
