-- The laws of an optional value, from its part's.
use Rattle.std.specs.Prelude.{◌≡◌, zero, suc, Bool, true, false, ◌||◌, Some, Result, Ok, Err, ◌⊎◌}
use Rattle.std.proofs.Common.{arith, refl, ap, sym, subst, ◌∙◌, inl, inr, ⊎_elim}
use Rattle.sw_tree.specs.Image.{image, trees_image, entries_image}
use Rattle.sw_tree.specs.Kinds.{is_kind}
use Rattle.sw_tree.specs.Meaning.{Meaning, nothing, case}
use Rattle.sw_tree.specs.Meant.{IsOptionOf}
use Rattle.sw_tree.specs.Nodes.{kinds, IsNoteIn, HasKind}
use Rattle.sw_tree.specs.Proper.{IsNodeTree}
use Rattle.sw_tree.specs.Steps.{bind, Each}
use Rattle.sw_tree.specs.Laws.Steps.{bind_ok}
use Rattle.sw_tree.specs.Tree.{Tree, null, truth, int, text, bytes, list, map, kind_of}
use Rattle.sw_tree.specs.declared.mode.Kind.TheVariants as kind
use Rattle.sw_tree.specs.declared.mode.Mode.{Mode}
use Rattle.sw_tree.specs.declared.mode.Place.TheVariants.{Value}
use Rattle.sw_tree.specs.declared.mode.WireKind.{WireKind}
use Rattle.sw_tree.specs.declared.mode.WireKind.TheVariants.{Json, Compact}
use Rattle.sw_tree.specs.declared.fail.DeError.{DeError}
use Rattle.sw_tree.specs.declared.fail.DeError.TheVariants as fail
use Rattle.sw_check.specs.Form.{Form, option}
use Rattle.sw_check.specs.Kinds.{kinds_written, kinds_read}
use Rattle.sw_check.specs.Rules.{is_json_key}
use Rattle.sw_check.specs.Laws.SoundForms.{sound-option}
use Rattle.sw_elem.specs.Equations.{Writes, Reads, Spots, Skips, LawfulReading}
use Rattle.sw_elem.specs.Statements.{Norm, HasImages, ReadsBack, NeverKey, IsUnmarked, IsExact, HasSpotKinds, HasNoteKinds, WritesNodes, NormsWithin}
use Rattle.sw_elem.specs.Lawful.{Lawful}
use Rattle.sw_core.specs.Option.{option_writes, option_reads, option_spot, option_skips, option_norm}
use Rattle.sw_core.specs.Laws.Images.{image-elsewhere, mapped_some}

-- ---- a tree is null, or read by the part

pub record IsPresent (t : Tree) : Type 0 where
  pub reads : (r : Reads) (m : Mode) → option_reads r m t ≡ bind (r m t) (λ v. Ok (case 1 v))
  pub spot : (s : Spots) (m : Mode) → option_spot s m t ≡ s m t
  pub skips : (k : Skips) (m : Mode) → option_skips k m t ≡ k m t

pub present : (t : Tree) → (t ≡ null) ⊎ IsPresent t
present null = inl refl
present (truth b) = inr (record { reads = λ r m. refl; spot = λ s m. refl; skips = λ k m. refl })
present (int n) = inr (record { reads = λ r m. refl; spot = λ s m. refl; skips = λ k m. refl })
present (text s) = inr (record { reads = λ r m. refl; spot = λ s m. refl; skips = λ k m. refl })
present (bytes s) = inr (record { reads = λ r m. refl; spot = λ s m. refl; skips = λ k m. refl })
present (list ts) = inr (record { reads = λ r m. refl; spot = λ s m. refl; skips = λ k m. refl })
present (map es) = inr (record { reads = λ r m. refl; spot = λ s m. refl; skips = λ k m. refl })

wrapped_err : (x : Result Meaning DeError) (e : DeError) → bind x (λ v. Ok (case 1 v)) ≡ Err e → x ≡ Err e
wrapped_err (Ok v) e p = absurd (cc)
wrapped_err (Err d) e p = let q : d ≡ e = cc in ap (λ (z : DeError). Err z) q

module _ (r : Reads) (m : Mode) where
  null_read : (t : Tree) (v : Meaning) → t ≡ null → option_reads r m t ≡ Ok v → case 0 nothing ≡ v
  null_read t v e p = let q : Ok (case 0 nothing) ≡ Ok v = ap (option_reads r m) (sym e) ∙ p in cc q

  null_kept : (t : Tree) (d : DeError) → t ≡ null → option_reads r m t ≡ Err d → ⊥
  null_kept t d e p = let q : Ok (case 0 nothing) ≡ Err d = ap (option_reads r m) (sym e) ∙ p in cc q

module _ {P : Meaning → Type 0} {r : Reads} {s : Spots} (law : LawfulReading P r s) where
  pub option_lawful : LawfulReading (IsOptionOf P) (option_reads r) (option_spot s)
  option_lawful = record {
    meanings = λ m t v n p.
        ⊎_elim
        (λ e. subst (IsOptionOf P) (null_read r m t v e p) tt)
        (λ h.
        let b = bind_ok (r m t) (λ u. Ok (case 1 u)) v (sym (h.reads r m) ∙ p) in
        let e : case 1 b.0 ≡ v = cc b.2 in
        subst (IsOptionOf P) e (law.meanings m t b.0 n b.1))
        (present t);
    inside = λ m t e p.
        ⊎_elim
        (λ i. absurd (null_kept r m t e i p))
        (λ h. rw (h.spot s m) (law.inside m t e (wrapped_err (r m t) e (sym (h.reads r m) ∙ p))))
        (present t);
  }

-- ---- images

null_image : (w : WireKind) → image w Value null ≡ Some null
null_image Json = refl
null_image Compact = refl

only_null : (w : WireKind) (t : Tree) → image w Value t ≡ Some null → t ≡ null
only_null Compact t e = cc
only_null Json null e = refl
only_null Json (truth b) e = absurd (cc)
only_null Json (int n) e = absurd (cc)
only_null Json (text s) e = absurd (cc)
only_null Json (bytes s) e = absurd (cc)
only_null Json (list ts) e = let c = mapped_some list (trees_image ts) null e in let n : null ≡ list c.0 = c.2 in absurd (cc)
only_null Json (map es) e = let c = mapped_some map (entries_image es) null e in let n : null ≡ map c.0 = c.2 in absurd (cc)

either_right : (b : Bool) → (b || true) ≡ true
either_right true = refl
either_right false = refl

either_left : (b c : Bool) → b ≡ true → (b || c) ≡ true
either_left true c h = refl
either_left false c h = absurd (cc)

module _ {P : Meaning → Type 0} {w : Writes} {r : Reads} {s : Spots} {k : Skips} {e : Form} {n : Norm} {a : Type 0} (part : Lawful P w r s k e n a) where
  imaged : (m : Mode) → HasImages P w m → is_json_key m.wire m.place ≡ false → HasImages (IsOptionOf P) (option_writes w) m
  imaged m one away (case zero nothing) t h p =
      let q : null ≡ t = cc in
      (null, ap (image m.wire m.place) (sym q) ∙ image-elsewhere m.wire m.place null away ∙ null_image m.wire)
  imaged m one away (case (suc zero) v) t h p = one v t h p
  imaged m one away _ t h p = absurd h

  -- a part that writes no null has no null for an image
  never_null : (m : Mode) → kinds_written e m kind.Null ≡ false → is_json_key m.wire m.place ≡ false → (v : Meaning) (t : Tree) → P v → w m v ≡ Ok t → image m.wire m.place t ≡ Some null → ⊥
  never_null m none away v t h p i =
      let n = only_null m.wire t (sym (image-elsewhere m.wire m.place t away) ∙ i) in
      let c : kinds_written e m kind.Null ≡ true = ap (λ u. kinds_written e m (kind_of u)) (sym n) ∙ part.written_kinds m v t h p in
      cc

  back : (m : Mode) → ReadsBack P w r n m → kinds_written e m kind.Null ≡ false → is_json_key m.wire m.place ≡ false → ReadsBack (IsOptionOf P) (option_writes w) (option_reads r) (option_norm n) m
  back m one none away (case zero nothing) t i h p g =
      let q : null ≡ t = cc in
      let c : Some null ≡ Some i = sym (ap (image m.wire m.place) (sym q) ∙ image-elsewhere m.wire m.place null away ∙ null_image m.wire) ∙ g in
      let b : null ≡ i = cc c in
      ap (option_reads r m) (sym b)
  back m one none away (case (suc zero) v) t i h p g =
      ⊎_elim
      (λ b. absurd (never_null m none away v t h p (g ∙ ap (λ (u : Tree). Some u) b)))
      (λ c. c.reads r m ∙ ap (λ (x : Result Meaning DeError). bind x (λ u. Ok (case 1 u))) (one v t i h p g))
      (present i)
  back m one none away _ t i h p g = absurd h

  never_key : (m : Mode) → NeverKey P w m → NeverKey (IsOptionOf P) (option_writes w) m
  never_key m one (case zero nothing) h p = cc
  never_key m one (case (suc zero) v) h p = one v h p
  never_key m one _ h p = h

  written_kind : (m : Mode) (v : Meaning) (t : Tree) → IsOptionOf P v → option_writes w m v ≡ Ok t → kinds_written (option e) m (kind_of t) ≡ true
  written_kind m (case zero nothing) t h p =
      let q : null ≡ t = cc in
      subst (λ (u : Tree). kinds_written (option e) m (kind_of u) ≡ true) q (either_right (kinds_written e m kind.Null))
  written_kind m (case (suc zero) v) t h p = either_left (kinds_written e m (kind_of t)) (is_kind kind.Null (kind_of t)) (part.written_kinds m v t h p)
  written_kind m _ t h p = absurd h

  read_kind : (m : Mode) (t : Tree) (v : Meaning) → option_reads r m t ≡ Ok v → kinds_read (option e) m (kind_of t) ≡ true
  read_kind m t v p =
      ⊎_elim
      (λ q. subst (λ (u : Tree). kinds_read (option e) m (kind_of u) ≡ true) (sym q) (either_right (kinds_read e m kind.Null)))
      (λ h.
      let b = bind_ok (r m t) (λ u. Ok (case 1 u)) v (sym (h.reads r m) ∙ p) in
      either_left (kinds_read e m (kind_of t)) (is_kind kind.Null (kind_of t)) (part.read_kinds m t b.0 b.1))
      (present t)

  unmarked : IsUnmarked (option_writes w)
  unmarked m (case (suc zero) v) = part.unmarked m v
  unmarked m _ = refl

  exact : (m : Mode) → IsExact P n m → IsExact (IsOptionOf P) (option_norm n) m
  exact m one (case zero nothing) h = refl
  exact m one (case (suc zero) v) h = ap (case 1) (one v h)
  exact m one _ h = absurd h

  spot_kind : (m : Mode) → HasSpotKinds (option_reads r) (option_spot s) m
  spot_kind m t c p =
      ⊎_elim
      (λ q. absurd (null_kept r m t (fail.InvalidType c) q p))
      (λ h. subst (λ i. HasKind (kinds t) i c) (sym (h.spot s m)) (part.spot_kinds m t c (wrapped_err (r m t) (fail.InvalidType c) (sym (h.reads r m) ∙ p))))
      (present t)

  note_kind : (m : Mode) → HasNoteKinds (option_skips k) m
  note_kind m t =
      ⊎_elim
      (λ q. subst (λ (u : Tree). Each (IsNoteIn (kinds u)) (option_skips k m u)) (sym q) tt)
      (λ h. subst (Each (IsNoteIn (kinds t))) (sym (h.skips k m)) (part.note_kinds m t))
      (present t)

  nodes : WritesNodes (IsOptionOf P) (option_writes w)
  nodes m (case zero nothing) t h p = let q : null ≡ t = cc in subst IsNodeTree q (record { proper = tt; shallow = omega arith })
  nodes m (case (suc zero) v) t h p = part.nodes m v t h p
  nodes m _ t h p = absurd h

  norms : NormsWithin (IsOptionOf P) (option_norm n)
  norms m (case zero nothing) h = tt
  norms m (case (suc zero) v) h = part.norms m v h
  norms m _ h = absurd h

  pub option_keeps : Lawful (IsOptionOf P) (option_writes w) (option_reads r) (option_spot s) (option_skips k) (option e) (option_norm n) a
  option_keeps = record {
    images = λ m h. let c = sound-option e m h in imaged m (part.images m c.2) c.0;
    back = λ y m h. let c = sound-option e m h in back m (part.back y m c.2) c.1 c.0;
    never_key = λ m h. never_key m (part.never_key m ((sound-option e m h).2));
    written_kinds = written_kind;
    read_kinds = read_kind;
    unmarked = unmarked;
    exact = λ m g. exact m (part.exact m g);
    spot_kinds = spot_kind;
    note_kinds = note_kind;
    nodes = nodes;
    norms = norms;
  }
