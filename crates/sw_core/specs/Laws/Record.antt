-- The laws of a record, from its fields'.
use Rattle.std.specs.Prelude.{◌≡◌, ◌≤◌, ℕ, zero, suc, List, [], ◌∷◌, length, ◌||◌, ◌&&◌, Bool, true, false, cond, Option, Some, None, option_map, Result, Ok, Err}
use Rattle.std.proofs.Common.{refl, ap, sym, ◌∙◌, subst, arith}
use Rattle.std.specs.Option.{option_or, ok_or}
use Rattle.std.specs.Str.{bytes_eq}
use Rattle.sw_tree.specs.Building.{puts, within, IsBuilt, IsPut, BuildsMaps}
use Rattle.sw_tree.specs.Image.{image}
use Rattle.sw_tree.specs.Kinds.{is_kind}
use Rattle.sw_tree.specs.Meaning.{Meaning, list, meanings, parts}
use Rattle.sw_tree.specs.Laws.Meaning.{parts-meanings, meanings-parts}
use Rattle.sw_tree.specs.Meant.{row, AreOf, IsRowOf}
use Rattle.sw_tree.specs.Mode.{at_value, marked}
use Rattle.sw_tree.specs.Laws.Nodes.{IsOwn, IsStable, IsBelow, IsOfKind, below-stable, kind-stable}
use Rattle.sw_tree.specs.Laws.NodeTrees.{AreNodeTrees, map-is_node}
use Rattle.sw_tree.specs.Nodes.{IsNoteIn}
use Rattle.sw_tree.specs.Placed.{Note}
use Rattle.sw_tree.specs.Proper.{IsNodeTree}
use Rattle.sw_tree.specs.Steps.{bind, Each}
use Rattle.sw_tree.specs.Laws.Steps.{bind_ok, option_cons, option_traverse}
use Rattle.sw_tree.specs.Tree.{Tree, entries, pairs, by_turns, depth, kind_of}
use Rattle.sw_tree.specs.Laws.Tree.{pairs-entries}
use Rattle.sw_tree.specs.Tree as node
use Rattle.sw_tree.specs.declared.mode.Kind.{Kind}
use Rattle.sw_tree.specs.declared.mode.Kind.TheVariants as kind
use Rattle.sw_tree.specs.declared.mode.Mode.{Mode}
use Rattle.sw_tree.specs.declared.mode.WireKind.{WireKind}
use Rattle.sw_tree.specs.declared.mode.WireKind.TheVariants.{Json, Compact}
use Rattle.sw_tree.specs.declared.mode.Place.TheVariants.{Value}
use Rattle.sw_tree.specs.declared.fail.DeError.{DeError}
use Rattle.sw_tree.specs.declared.fail.DeError.TheVariants as fail
use Rattle.sw_tree.specs.declared.fail.SerError.{SerError}
use Rattle.sw_tree.specs.declared.fail.SerFail.{SerFail}
use Rattle.sw_check.specs.Blame.{IsSound}
use Rattle.sw_check.specs.Form.{Forms, fields}
use Rattle.sw_check.specs.Grade.{is_exact, worst_of}
use Rattle.sw_check.specs.Laws.Sound.{AllSound, sound-checked, sound-no_key}
use Rattle.sw_check.specs.Laws.SoundForms.{exact-worst}
use Rattle.sw_check.specs.Rules.{is_json_key}
use Rattle.sw_check.specs.declared.grade.Grade.{Grade}
use Rattle.sw_elem.specs.Equations.{Writes, LawfulReading}
use Rattle.sw_elem.specs.Lawful.{Lawful}
use Rattle.sw_elem.specs.Statements.{HasImages, ReadsBack, NeverKey, IsUnmarked, IsExact, HasSpotKinds, HasNoteKinds, WritesNodes, NormsWithin}
use Rattle.sw_core.specs.Fields.{Field, fields_by, Slots, no_slots, collect, IsFieldPut}
use Rattle.sw_core.specs.Laws.Fields.{names_of, is_new, are_names, first_name, new_behind, same_name}
use Rattle.sw_core.specs.Laws.Images.{entry_image, map-image}
use Rattle.sw_core.specs.Laws.Parts.{HasKinds, HasNotes, AreReadings, Read, meanings_of, readings_of, are_lawful, reading_kinds, reading_notes, all_inside, all_in-count, Part, IsPart, EachPart, Kept, parts_of, are_kept, are_of, writes_of, bys_of, exprs_of, norms_of, All, parts_sound, parts_keep, parts_read, parts_back, parts_exact, row_nodes, row_normed, IsImaged, IsReadBack, IsNeverKey, IsKept, row_imaged, row_back, row_count, row_never, row_exact, row_same}
use Rattle.sw_core.specs.Laws.Plans.{RefusesItself, plan_lawful, plan_spot_kinds, plan_note_kinds}
use Rattle.sw_core.specs.Laws.Rows.{EachAt, Refuses, Notes, AreRead}
use Rattle.sw_core.specs.Laws.Within.{within_ok, within_shallow, within_key}
use Rattle.sw_core.specs.Parts.{Reading, in_mode, all_in, row_writes, row_norm}
use Rattle.sw_core.specs.Plans.{children}
use Rattle.sw_core.specs.Record.{Given, gives_none, refuses_key, gives_field, FieldKey, nameless, unknown, repeated, wanted, next_key, name_of, key_of, key_by, value_by, mark_at, mark, filled, keyed_by, keys_of, put_at, fill, record_plan, record_reads, record_spot, record_skips, named, record_writes, record_norm}
use Rattle.sw_core.specs.Rows.{Reader, row_reads}

-- ---- what holds of each field holds of the one that a key names

-- of each with its number
abbrev Numbered : (ℕ → Reading → Type 0) → List Reading → Type 0
Numbered K [] = Unit {0}
Numbered K (x ∷ xs) = K 0 x × Numbered (λ i. K (suc i)) xs

abbrev IsWanted : (ℕ → Reading → Type 0) → FieldKey → Type 0
IsWanted K (wanted i x) = K i x
IsWanted K (nameless k) = Unit {0}
IsWanted K unknown = Unit {0}
IsWanted K repeated = Unit {0}

wanted_next : (K : ℕ → Reading → Type 0) (n : FieldKey) → IsWanted (λ i. K (suc i)) n → IsWanted K (next_key n)
wanted_next K (wanted i x) h = h
wanted_next K (nameless k) h = tt
wanted_next K unknown h = tt
wanted_next K repeated h = tt

wanted_here : (K : ℕ → Reading → Type 0) (same b : Bool) (x : Reading) (n : FieldKey) → K 0 x → IsWanted K n → IsWanted K (cond same (cond b repeated (wanted 0 x)) n)
wanted_here K true true x n h k = tt
wanted_here K true false x n h k = h
wanted_here K false b x n h k = k

name_wanted : (K : ℕ → Reading → Type 0) (fs : List Field) (bs : List Bool) (s : List ℕ) → Numbered K (fields_by fs) → IsWanted K (name_of fs bs s)
name_wanted K [] bs s h = tt
name_wanted K (f ∷ fs) [] s h = tt
name_wanted K (f ∷ fs) (b ∷ bs) s h = wanted_here K (bytes_eq s f.name) b f.by (next_key (name_of fs bs s)) h.0 (wanted_next K (name_of fs bs s) (name_wanted (λ i. K (suc i)) fs bs s h.1))

key_wanted : (K : ℕ → Reading → Type 0) (fs : List Field) (bs : List Bool) (k : Tree) → Numbered K (fields_by fs) → IsWanted K (key_of fs bs k)
key_wanted K fs bs (node.text s) h = name_wanted K fs bs s h
key_wanted K fs bs _ h = tt

-- a text is never no text
has_name : (fs : List Field) (bs : List Bool) (s : List ℕ) (k : Kind) → name_of fs bs s ≡ nameless k → ⊥
has_name [] bs s k p = cc
has_name (f ∷ fs) [] s k p = cc
has_name (f ∷ fs) (b ∷ bs) s k p = here (bytes_eq s f.name) b f.by (name_of fs bs s) k p (has_name fs bs s) where
  here : (same b : Bool) (x : Reading) (n : FieldKey) (k : Kind) → cond same (cond b repeated (wanted 0 x)) (next_key n) ≡ nameless k → ((j : Kind) → n ≡ nameless j → ⊥) → ⊥
  here true true x n k p h = cc
  here true false x n k p h = cc
  here false b x (nameless j) k p h = h j refl
  here false b x unknown k p h = cc
  here false b x repeated k p h = cc
  here false b x (wanted i y) k p h = cc

key_kind : (fs : List Field) (bs : List Bool) (t : Tree) (k : Kind) → key_of fs bs t ≡ nameless k → kind_of t ≡ k
key_kind fs bs (node.text s) k p = absurd (has_name fs bs s k p)
key_kind fs bs _ k p = cc

-- ---- what holds of every field's reader, of those that give nothing and of those that refuse a key, holds of the record's

module _ (R : Reader Given → Tree → Type 0) (none : (t : Tree) → R gives_none t) (refuses : (t : Tree) (e : DeError) → IsOwn t e → R (refuses_key e) t) where
  abbrev IsAt : Mode → ℕ → Reading → Type 0
  IsAt m i x = (t : Tree) → R (gives_field m i x) t

  at_key_of : (strict : Bool) (n : FieldKey) (t : Tree) → ((k : Kind) → n ≡ nameless k → kind_of t ≡ k) → R (key_by strict n) t
  at_key_of strict (nameless k) t h = refuses t (fail.InvalidType k) (λ j e. let is = h k refl in cc)
  at_key_of true unknown t h = refuses t fail.UnknownField (λ j e. absurd (cc))
  at_key_of false unknown t h = none t
  at_key_of strict repeated t h = refuses t fail.DuplicateField (λ j e. absurd (cc))
  at_key_of strict (wanted i x) t h = none t

  at_value_of : (m : Mode) (n : FieldKey) (t : Tree) → IsWanted (IsAt m) n → R (value_by m n) t
  at_value_of m (wanted i x) t h = h t
  at_value_of m (nameless k) t h = none t
  at_value_of m unknown t h = none t
  at_value_of m repeated t h = none t

  at_entries : (strict : Bool) (fs : List Field) (m : Mode) (bs : List Bool) → Numbered (IsAt m) (fields_by fs) → (es : List (Tree × Tree)) → EachAt R (keyed_by strict fs m bs (keys_of es)) (by_turns es)
  at_entries strict fs m bs h [] = tt
  at_entries strict fs m bs h (e ∷ es) = (
    at_key_of strict (key_of fs bs e.0) e.0 (key_kind fs bs e.0),
    (at_value_of m (key_of fs bs e.0) e.1 (key_wanted (IsAt m) fs bs e.0 h), at_entries strict fs m (mark (key_of fs bs e.0) bs) h es),
  )

  at_record : (strict : Bool) (fs : List Field) (m : Mode) → Numbered (IsAt (at_value m)) (fields_by fs) → (t : Tree) → EachAt R (record_plan strict fs m t).readers (children t)
  at_record strict fs m h (node.map es) = at_entries strict fs (at_value m) (filled (no_slots fs)) h (pairs es)
  at_record strict fs m h _ = tt

numbered : (K : ℕ → Reading → Type 0) (H : Reading → Type 0) → ((i : ℕ) (x : Reading) → H x → K i x) → (xs : List Reading) → Each H xs → Numbered K xs
numbered K H one [] h = tt
numbered K H one (x ∷ xs) h = (one 0 x h.0, numbered (λ i. K (suc i)) H (λ i y k. one (suc i) y k) xs h.1)

renumbered : (K L : ℕ → Reading → Type 0) (xs : List Reading) → ((i : ℕ) (x : Reading) → K i x → L i x) → Numbered K xs → Numbered L xs
renumbered K L [] one h = tt
renumbered K L (x ∷ xs) one h = (one 0 x h.0, renumbered (λ i. K (suc i)) (λ i. L (suc i)) xs (λ i. one (suc i)) h.1)

each_of : (H K : Reading → Type 0) → ((x : Reading) → H x → K x) → (xs : List Reading) → Each H xs → Each K xs
each_of H K one [] h = tt
each_of H K one (x ∷ xs) h = (one x h.0, each_of H K one xs h.1)

-- ---- refusals and notes

given_err : (i : ℕ) (r : Result Meaning DeError) (e : DeError) → bind {B = Given} r (λ v. Ok (Some (i, v))) ≡ Err e → r ≡ Err e
given_err i (Ok v) e p = absurd (cc)
given_err i (Err d) e p = cc

given_ok : (i : ℕ) (r : Result Meaning DeError) (g : Given) → bind r (λ v. Ok (Some (i, v))) ≡ Ok g → (v : Meaning) × (r ≡ Ok v) × (Some (i, v) ≡ g)
given_ok i (Ok v) g p = (v, refl, cc)
given_ok i (Err e) g p = absurd (cc)

module _ (Q : List Kind → Note → Type 0) (s : IsStable Q) where
  abbrev Refusing : Mode → Reading → Type 0
  Refusing m x = (t : Tree) → Refuses Q (in_mode m x) t

  record_refuses : (strict : Bool) (fs : List Field) (m : Mode) → Each (Refusing (at_value m)) (fields_by fs) → (t : Tree) → EachAt (Refuses Q) (record_plan strict fs m t).readers (children t)
  record_refuses strict fs m h =
      let none : (t : Tree) → Refuses Q gives_none t = λ t e p. absurd (cc) in
      let refuses : (t : Tree) (e : DeError) → IsOwn t e → Refuses Q (refuses_key e) t = λ t e own d p. s.root t d (λ k i. own k (cc)) in
      at_record (Refuses Q) none refuses strict fs m
      (numbered (IsAt (Refuses Q) none refuses (at_value m)) (Refusing (at_value m)) (λ i x k t e p. k t e (given_err i (x.reads (at_value m) t) e p)) (fields_by fs) h)

record_notes : (Q : List Kind → Note → Type 0) (strict : Bool) (fs : List Field) (m : Mode) → Each (λ x. (t : Tree) → Notes Q (in_mode (at_value m) x) t) (fields_by fs) → (t : Tree) → EachAt (Notes Q) (record_plan strict fs m t).readers (children t)
record_notes Q strict fs m h =
    at_record (Notes Q) (λ t. tt) (λ t e own. tt) strict fs m
    (numbered (IsAt (Notes Q) (λ t. tt) (λ t e own. tt) (at_value m)) (λ x. (t : Tree) → Notes Q (in_mode (at_value m) x) t) (λ i x k. k) (fields_by fs) h)

-- ---- meanings

abbrev ByNumber : List (Meaning → Type 0) → ℕ → Meaning → Type 0
ByNumber [] i v = ⊥
ByNumber (P ∷ Ps) zero v = P v
ByNumber (P ∷ Ps) (suc i) v = ByNumber Ps i v

abbrev IsGiven : List (Meaning → Type 0) → Given → Type 0
IsGiven Ps None = Unit {0}
IsGiven Ps (Some p) = ByNumber Ps p.0 p.1

abbrev pub IfMeant : (Meaning → Type 0) → Option Meaning → Type 0
IfMeant P None = Unit {0}
IfMeant P (Some v) = P v

abbrev AreSlots : List (Meaning → Type 0) → Slots → Type 0
AreSlots [] os = Unit {0}
AreSlots (P ∷ Ps) [] = Unit {0}
AreSlots (P ∷ Ps) (o ∷ os) = IfMeant P o × AreSlots Ps os

-- what an absence means is one of the field's meanings
abbrev pub AreAbsent : List (Meaning → Type 0) → List Field → Type 0
AreAbsent [] fs = Unit {0}
AreAbsent (P ∷ Ps) [] = Unit {0}
AreAbsent (P ∷ Ps) (f ∷ fs) = IfMeant P f.absent × AreAbsent Ps fs

put_is : (Ps : List (Meaning → Type 0)) (i : ℕ) (v : Meaning) (os : Slots) → ByNumber Ps i v → AreSlots Ps os → AreSlots Ps (put_at i v os)
put_is [] i v os h k = absurd h
put_is (P ∷ Ps) i v [] h k = tt
put_is (P ∷ Ps) zero v (o ∷ os) h k = (h, k.1)
put_is (P ∷ Ps) (suc i) v (o ∷ os) h k = (k.0, put_is Ps i v os h k.1)

fill_is : (Ps : List (Meaning → Type 0)) (os : Slots) (gs : List Given) → Each (IsGiven Ps) gs → AreSlots Ps os → AreSlots Ps (fill os gs)
fill_is Ps os [] h k = k
fill_is Ps os (None ∷ gs) h k = fill_is Ps os gs h.1 k
fill_is Ps os (Some p ∷ gs) h k = fill_is Ps (put_at p.0 p.1 os) gs h.1 (put_is Ps p.0 p.1 os h.0 k)

no_slots_are : (Ps : List (Meaning → Type 0)) (fs : List Field) → AreSlots Ps (no_slots fs)
no_slots_are [] fs = tt
no_slots_are (P ∷ Ps) [] = tt
no_slots_are (P ∷ Ps) (f ∷ fs) = (tt, no_slots_are Ps fs)

chosen_is : (P : Meaning → Type 0) (o a : Option Meaning) (e : DeError) (v : Meaning) → IfMeant P o → IfMeant P a → ok_or (option_or o a) e ≡ Ok v → P v
chosen_is P (Some w) a e v h k p = let i : w ≡ v = cc in subst P i h
chosen_is P None (Some w) e v h k p = let i : w ≡ v = cc in subst P i k
chosen_is P None None e v h k p = absurd (cc)

collected : {E : Type 0} (x : Result Meaning E) (y : Result (List Meaning) E) (P : Meaning → Type 0) (Ps : List (Meaning → Type 0)) (vs : List Meaning) → ((v : Meaning) → x ≡ Ok v → P v) →
    ((us : List Meaning) → y ≡ Ok us → AreOf Ps (meanings us)) → bind x (λ v. bind y (λ us. Ok (v ∷ us))) ≡ Ok vs → AreOf (P ∷ Ps) (meanings vs)
collected (Ok v) (Ok us) P Ps vs h k p = let e : (v ∷ us) ≡ vs = cc in subst (λ (l : List Meaning). AreOf (P ∷ Ps) (meanings l)) e (h v refl, k us refl)
collected (Ok v) (Err e) P Ps vs h k p = absurd (cc)
collected (Err e) y P Ps vs h k p = absurd (cc)

collect_is : (Ps : List (Meaning → Type 0)) (n : ℕ) (fs : List Field) (os : Slots) (vs : List Meaning) → AreReadings Ps (fields_by fs) → AreAbsent Ps fs → AreSlots Ps os → collect n fs os ≡ Ok vs → AreOf Ps (meanings vs)
collect_is [] n [] os vs a b d p = let e : [] ≡ vs = cc in subst (λ (l : List Meaning). AreOf [] (meanings l)) e tt
collect_is (P ∷ Ps) n [] os vs a b d p = absurd a
collect_is [] n (f ∷ fs) os vs a b d p = absurd a
collect_is (P ∷ Ps) n (f ∷ fs) [] vs a b d p =
    collected (ok_or f.absent (fail.MissingField n)) (collect (suc n) fs []) P Ps vs (λ v q. chosen_is P None f.absent (fail.MissingField n) v tt b.0 q) (λ us q. collect_is Ps (suc n) fs [] us a.1 b.1 (none Ps) q) p where
      none : (Ps : List (Meaning → Type 0)) → AreSlots Ps []
      none [] = tt
      none (P ∷ Ps) = tt
collect_is (P ∷ Ps) n (f ∷ fs) (o ∷ os) vs a b d p =
    collected (ok_or (option_or o f.absent) (fail.MissingField n)) (collect (suc n) fs os) P Ps vs (λ v q. chosen_is P o f.absent (fail.MissingField n) v d.0 b.0 q) (λ us q. collect_is Ps (suc n) fs os us a.1 b.1 d.1 q) p

-- what each of a row's readers gives of a tree that a node can be is so
all_given : {M : Type 0} (P : M → Type 0) (rs : List (Reader M)) (ts : List Tree) (vs : List M) → EachAt (λ r t. (v : M) → IsNodeTree t → r.reads t ≡ Ok v → P v) rs ts → Each IsNodeTree ts → AreRead rs ts vs → Each P vs
all_given P [] ts [] h n k = tt
all_given P [] ts (v ∷ vs) h n k = absurd k
all_given P (r ∷ rs) [] [] h n k = tt
all_given P (r ∷ rs) [] (v ∷ vs) h n k = absurd k
all_given P (r ∷ rs) (t ∷ ts) [] h n k = absurd k
all_given P (r ∷ rs) (t ∷ ts) (v ∷ vs) h n k = (h.0 v n.0 k.0, all_given P rs ts vs h.1 n.1 k.1)

-- what a reading gives is its field's
abbrev Gives : Mode → List (Meaning → Type 0) → ℕ → Reading → Type 0
Gives m Ps i x = (t : Tree) (v : Meaning) → IsNodeTree t → x.reads m t ≡ Ok v → ByNumber Ps i v

each_gives : (m : Mode) (Ps : List (Meaning → Type 0)) (xs : List Reading) → AreReadings Ps xs → Numbered (Gives m Ps) xs
each_gives m [] [] h = tt
each_gives m [] (x ∷ xs) h = absurd h
each_gives m (P ∷ Ps) [] h = absurd h
each_gives m (P ∷ Ps) (x ∷ xs) h = (λ t v n p. h.0.meanings m t v n p, each_gives m Ps xs h.1)

-- a missing field is a refusal of the record's own node
missing : (o : Option Meaning) (n : ℕ) (y : Result (List Meaning) DeError) (e : DeError) → bind (ok_or o (fail.MissingField n)) (λ v. bind y (λ us. Ok (v ∷ us))) ≡ Err e → (k : Kind) → e ≡ fail.InvalidType k →
    ((d : DeError) → y ≡ Err d → (k : Kind) → d ≡ fail.InvalidType k → ⊥) → ⊥
missing (Some v) n (Ok us) e p k i h = cc
missing (Some v) n (Err d) e p k i h = h d refl k (cc)
missing None n y e p k i h = cc

collect_err : (n : ℕ) (fs : List Field) (os : Slots) (e : DeError) → collect n fs os ≡ Err e → (k : Kind) → e ≡ fail.InvalidType k → ⊥
collect_err n [] os e p k i = cc
collect_err n (f ∷ fs) [] e p k i = missing f.absent n (collect (suc n) fs []) e p k i (collect_err (suc n) fs [])
collect_err n (f ∷ fs) (o ∷ os) e p k i = missing (option_or o f.absent) n (collect (suc n) fs os) e p k i (collect_err (suc n) fs os)

row_err : (x : Result (List Meaning) DeError) (e : DeError) → bind {B = Meaning} x (λ vs. Ok (row vs)) ≡ Err e → x ≡ Err e
row_err (Ok vs) e p = absurd (cc)
row_err (Err d) e p = cc

module _ (strict : Bool) (fs : List Field) where
  itself : RefusesItself (record_plan strict fs)
  itself m (node.map es) gs e p = λ k i. absurd (collect_err 0 fs (fill (no_slots fs) gs) e (row_err (collect 0 fs (fill (no_slots fs) gs)) e p) k i)
  itself m _ gs e p = λ j i. cc

  module _ (Ps : List (Meaning → Type 0)) (h : AreReadings Ps (fields_by fs)) (a : AreAbsent Ps fs) where
    gives : (m : Mode) (t : Tree) → EachAt (λ r u. (g : Given) → IsNodeTree u → r.reads u ≡ Ok g → IsGiven Ps g) (record_plan strict fs m t).readers (children t)
    gives m =
        let R = λ (r : Reader Given) (u : Tree). (g : Given) → IsNodeTree u → r.reads u ≡ Ok g → IsGiven Ps g in
        let none : (t : Tree) → R gives_none t = λ t g n p. let e : None ≡ g = cc in subst (IsGiven Ps) e tt in
        let refuses : (t : Tree) (e : DeError) → IsOwn t e → R (refuses_key e) t = λ t e own g n p. absurd (cc) in
        at_record R none refuses strict fs m
        (renumbered (Gives (at_value m) Ps) (IsAt R none refuses (at_value m)) (fields_by fs)
        (λ i x k t g n p. let q = given_ok i (x.reads (at_value m) t) g p in subst (IsGiven Ps) q.2 (k t q.0 n q.1)) (each_gives (at_value m) Ps (fields_by fs) h))

    meant : (m : Mode) (t : Tree) (gs : List Given) (v : Meaning) → Each IsNodeTree (children t) → AreRead (record_plan strict fs m t).readers (children t) gs → (record_plan strict fs m t).makes gs ≡ Ok v → IsRowOf Ps v
    meant m (node.map es) gs v n r q =
        let rs = (record_plan strict fs m (node.map es)).readers in
        let k = fill_is Ps (no_slots fs) gs (all_given (IsGiven Ps) rs (by_turns (pairs es)) gs (gives m (node.map es)) n r) (no_slots_are Ps fs) in
        let c = bind_ok (collect 0 fs (fill (no_slots fs) gs)) (λ vs. Ok (row vs)) v q in
        let e : row c.0 ≡ v = cc in
        subst (IsRowOf Ps) e (collect_is Ps 0 fs (fill (no_slots fs) gs) c.0 h a k c.1)
    meant m _ gs v n r q = absurd (cc)

    row_lawful : LawfulReading (IsRowOf Ps) (record_reads strict fs) (record_spot strict fs)
    row_lawful = plan_lawful (record_plan strict fs) itself (IsRowOf Ps) meant (λ m. record_refuses IsBelow below-stable strict fs m (all_inside (at_value m) Ps (fields_by fs) h))

  -- what is read is a row of the fields' meanings, and a refused node is one of the tree's
  pub record_lawful : (xs : List Read) → fields_by fs ≡ readings_of xs → AreAbsent (meanings_of xs) fs → LawfulReading (IsRowOf (meanings_of xs)) (record_reads strict fs) (record_spot strict fs)
  record_lawful xs same a = row_lawful (meanings_of xs) (subst (AreReadings (meanings_of xs)) (sym same) (are_lawful xs)) a

  spot_kinds : (m : Mode) → Each (HasKinds (at_value m)) (fields_by fs) → HasSpotKinds (record_reads strict fs) (record_spot strict fs) m
  spot_kinds m h = plan_spot_kinds (record_plan strict fs) itself m (record_refuses IsOfKind kind-stable strict fs m (each_of (HasKinds (at_value m)) (Refusing IsOfKind kind-stable (at_value m)) (reading_kinds (at_value m)) (fields_by fs) h))

  note_kinds : (m : Mode) → Each (HasNotes (at_value m)) (fields_by fs) → HasNoteKinds (record_skips strict fs) m
  note_kinds m h = plan_note_kinds (record_plan strict fs) m (record_notes IsNoteIn strict fs m (each_of (HasNotes (at_value m)) (λ x. (t : Tree) → Notes IsNoteIn (in_mode (at_value m) x) t) (reading_notes (at_value m)) (fields_by fs) h))

-- ---- images

next_pair : (w : WireKind) (s : List ℕ) (t i : Tree) (es js : List (Tree × Tree)) → image w Value t ≡ Some i → option_traverse (entry_image w) es ≡ Some js → option_traverse (entry_image w) ((node.text s, t) ∷ es) ≡ Some ((node.text s, i) ∷ js)
next_pair Json s t i es js h k = rw (h, k) refl
next_pair Compact s t i es js h k = let e : t ≡ i = cc in rw (k, e) refl

consed : (o : Option Tree) (r : Option (List Tree)) (is : List Tree) → option_cons o r ≡ Some is → (i : Tree) × (js : List Tree) × (o ≡ Some i) × (r ≡ Some js) × (i ∷ js ≡ is)
consed (Some i) (Some js) is p = (i, js, refl, refl, (cc))
consed (Some i) None is p = absurd (cc)
consed None r is p = absurd (cc)

named_image : (w : WireKind) (ss : List (List ℕ)) (ts is : List Tree) → option_traverse (image w Value) ts ≡ Some is → option_traverse (entry_image w) (named ss ts) ≡ Some (named ss is)
named_image w [] ts is h = refl
named_image w (s ∷ ss) [] is h = let e : [] ≡ is = cc in ap (λ (l : List Tree). Some (named (s ∷ ss) l)) e
named_image w (s ∷ ss) (t ∷ ts) is h =
    let c = consed (image w Value t) (option_traverse (image w Value) ts) is h in
    next_pair w s t c.0 (named ss ts) (named ss c.1) c.2 (named_image w ss ts c.1 c.3) ∙ ap (λ (l : List Tree). Some (named (s ∷ ss) l)) c.4

-- ---- the entries that were written are read field by field

-- the fields from the one of that number on are those, and have no values yet; the names of those before are others
abbrev Stands : List Field → List Bool → ℕ → List Field → Type 0
Stands fs bs zero gs = (fs ≡ gs) × (bs ≡ filled (no_slots gs))
Stands [] bs (suc n) gs = ⊥
Stands (f ∷ fs) [] (suc n) gs = ⊥
Stands (f ∷ fs) (b ∷ bs) (suc n) gs = (is_new f.name (names_of gs) ≡ true) × Stands fs bs n gs

name_stands : (fs : List Field) (bs : List Bool) (n : ℕ) (g : Field) (gs : List Field) → Stands fs bs n (g ∷ gs) → name_of fs bs g.name ≡ wanted n g.by
name_stands fs bs zero g gs h = rw (h.0, h.1, same_name g.name) refl
name_stands [] bs (suc n) g gs h = absurd h
name_stands (f ∷ fs) [] (suc n) g gs h = absurd h
name_stands (f ∷ fs) (b ∷ bs) (suc n) g gs h = rw ((new_behind f.name g.name (names_of gs) h.0).0, name_stands fs bs n g gs h.1) refl

mark_stands : (fs : List Field) (bs : List Bool) (n : ℕ) (g : Field) (gs : List Field) → Stands fs bs n (g ∷ gs) → is_new g.name (names_of gs) ≡ true → Stands fs (mark_at n bs) (suc n) gs
mark_stands fs bs zero g gs h d = rw (h.0, h.1) (d, (refl, refl))
mark_stands [] bs (suc n) g gs h d = absurd h
mark_stands (f ∷ fs) [] (suc n) g gs h d = absurd h
mark_stands (f ∷ fs) (b ∷ bs) (suc n) g gs h d = ((new_behind f.name g.name (names_of gs) h.0).1, mark_stands fs bs n g gs h.1 d)

abbrev givens : ℕ → List Meaning → List Given
givens n [] = []
givens n (v ∷ vs) = None ∷ Some (n, v) ∷ givens (suc n) vs

entries_read : (strict : Bool) (m : Mode) (fs : List Field) (bs : List Bool) (n : ℕ) (gs : List Field) → Stands fs bs n gs → are_names (names_of gs) ≡ true → (is : List Tree) (us : List Meaning) → AreRead (all_in m (fields_by gs)) is us →
    row_reads (keyed_by strict fs m bs (keys_of (named (names_of gs) is))) (by_turns (named (names_of gs) is)) ≡ Ok (givens n us)
entries_read strict m fs bs n [] h d is [] a = refl
entries_read strict m fs bs n [] h d is (u ∷ us) a = absurd a
entries_read strict m fs bs n (g ∷ gs) h d [] [] a = refl
entries_read strict m fs bs n (g ∷ gs) h d [] (u ∷ us) a = absurd a
entries_read strict m fs bs n (g ∷ gs) h d (i ∷ is) [] a = absurd a
entries_read strict m fs bs n (g ∷ gs) h d (i ∷ is) (u ∷ us) a =
    let c = first_name g.name (names_of gs) d in
    rw (name_stands fs bs n g gs h, a.0, entries_read strict m fs (mark_at n bs) (suc n) gs (mark_stands fs bs n g gs h c.1) c.2 is us a.1) refl

-- ---- and make the record again

abbrev somes : List Meaning → Slots
somes [] = []
somes (v ∷ vs) = Some v ∷ somes vs

fill_behind : (o : Option Meaning) (os : Slots) (n : ℕ) (us : List Meaning) → fill (o ∷ os) (givens (suc n) us) ≡ o ∷ fill os (givens n us)
fill_behind o os n [] = refl
fill_behind o os n (u ∷ us) = fill_behind o (put_at n u os) (suc n) us

fill_all : (fs : List Field) (us : List Meaning) → length us ≡ length (fields_by fs) → fill (no_slots fs) (givens 0 us) ≡ somes us
fill_all [] [] e = refl
fill_all [] (u ∷ us) e = absurd (omega arith)
fill_all (f ∷ fs) [] e = absurd (omega arith)
fill_all (f ∷ fs) (u ∷ us) e = fill_behind (Some u) (no_slots fs) 0 us ∙ ap (λ (os : Slots). Some u ∷ os) (fill_all fs us (omega arith))

collect_all : (n : ℕ) (fs : List Field) (us : List Meaning) → length us ≡ length (fields_by fs) → collect n fs (somes us) ≡ Ok us
collect_all n [] [] e = refl
collect_all n [] (u ∷ us) e = absurd (omega arith)
collect_all n (f ∷ fs) [] e = absurd (omega arith)
collect_all n (f ∷ fs) (u ∷ us) e = rw (collect_all (suc n) fs us (omega arith)) refl

read_or : (b c : Bool) → b ≡ true → (b || c) ≡ true
read_or true c h = refl
read_or false c h = absurd (cc)

abbrev make : List (List ℕ) → List Tree → Tree
make ss ts = node.map (entries (named ss ts))

named_nodes : (ss : List (List ℕ)) (ts : List Tree) → are_names ss ≡ true → Each IsNodeTree ts → Each AreNodeTrees (named ss ts)
named_nodes [] ts d h = tt
named_nodes (s ∷ ss) [] d h = tt
named_nodes (s ∷ ss) (t ∷ ts) d h =
    let c = first_name s ss d in
    let name : IsNodeTree (node.text s) = record { proper = c.0; shallow = omega arith } in
    ((name, h.0), named_nodes ss ts c.2 h.1)

-- ---- a record that is written field by field

-- the fields are put in one after another
abbrev pub ArePut : {S : Type 0} → (Tree → S → S) → Mode → List (List ℕ) → List Writes → List Meaning → S → S → Type 0
ArePut put m [] [] [] s now = s ≡ now
ArePut {S} put m (n ∷ ns) (w ∷ ws) (v ∷ vs) s now = (next : S) × IsFieldPut put n (Ok tt) (w m v) s next × ArePut put m ns ws vs next now
ArePut put m _ _ _ s now = ⊥

all_put : {S : Type 0} (put : Tree → S → S) (m : Mode) (ns : List (List ℕ)) (ws : List Writes) (vs : List Meaning) (s now : S) → ArePut put m ns ws vs s now →
    (ts : List Tree) × (row_writes ws m vs ≡ Ok ts) × (now ≡ puts put (by_turns (named ns ts)) s)
all_put put m [] [] [] s now h = ([], refl, sym h)
all_put put m (n ∷ ns) (w ∷ ws) (v ∷ vs) s now h =
    let c = all_put put m ns ws vs h.0 now h.2 in
    let t : Tree = h.1.0 in
    (t ∷ c.0, rw (h.1.1, c.1) refl, c.2 ∙ ap (puts put (by_turns (named ns c.0))) h.1.2)
all_put put m [] [] (v ∷ vs) s now h = absurd h
all_put put m [] (w ∷ ws) vs s now h = absurd h
all_put put m (n ∷ ns) [] vs s now h = absurd h
all_put put m (n ∷ ns) (w ∷ ws) [] s now h = absurd h

-- once the map is closed, the record is put in
pub record_put : {S : Type 0} (put : Tree → S → S) (opened : Bool → S → S) (closed : S → Result S SerError) → BuildsMaps put opened closed → (ns : List (List ℕ)) (ws : List Writes) (m : Mode) (vs : List Meaning) (old s now new : S)
    (x : Result (Unit {0}) SerFail) → ◌≡◌ {A = Result S SerError} (Ok (opened true old)) (Ok s) → ArePut put (at_value m) ns ws vs s now → IsBuilt x (closed now) new → IsPut put x (record_writes ns ws m (row vs)) old new
record_put {S} put opened closed maps ns ws m vs old s now new x i h k =
    let same : opened true old ≡ s = cc in
    let c = all_put put (at_value m) ns ws vs s now h in
    rw (parts-meanings vs, c.1) (subst (λ (r : Result S SerError). IsBuilt x r new) (ap closed (c.2 ∙ ap (puts put (by_turns (named ns c.0))) (sym same)) ∙ maps old (named ns c.0)) k)

-- ---- all of them

sound-fields : (ps : Forms) (listed : Bool) (own : Grade) (m : Mode) → IsSound (fields ps listed own) m → (is_json_key m.wire m.place ≡ false) × AllSound ps (at_value m)
sound-fields ps listed own m s = (sound-no_key (fields ps listed own) m s refl, sound-checked (fields ps listed own) m s)

module _ (strict : Bool) (fs : List Field) (names : are_names (names_of fs) ≡ true) where
  read_again : (m : Mode) (i : Tree) (is : List Tree) (us : List Meaning) → i ≡ make (names_of fs) is → AreRead (all_in (at_value m) (fields_by fs)) is us → length is ≡ length (fields_by fs) → record_reads strict fs m i ≡ Ok (row us)
  read_again m i is us e a n =
      let k = all_in-count (at_value m) (fields_by fs) is us a n in
      rw (e, pairs-entries (named (names_of fs) is), entries_read strict (at_value m) fs (filled (no_slots fs)) 0 fs (refl, refl) names is us a, fill_all fs us k, collect_all 0 fs us k) refl

  module _ (ps : List Part) (same : fields_by fs ≡ bys_of ps) where
    abbrev Is : Meaning → Type 0
    Is = IsRowOf (are_of ps)

    abbrev writes : Writes
    writes = record_writes (names_of fs) (writes_of ps)

    module _ (m : Mode) where
      image_is : (t : Tree) (ts is : List Tree) → is_json_key m.wire m.place ≡ false → t ≡ make (names_of fs) ts → option_traverse (image m.wire Value) ts ≡ Some is → image m.wire m.place t ≡ Some (make (names_of fs) is)
      image_is t ts is away e h = map-image m.wire m.place t (named (names_of fs) ts) away e ∙ ap (option_map (λ js. node.map (entries js))) (named_image m.wire (names_of fs) ts is h)

      imaged : EachPart (IsImaged (at_value m)) ps → is_json_key m.wire m.place ≡ false → HasImages Is writes m
      imaged h away (list vs) t a p =
          let b = subst (AreOf (are_of ps)) (sym (meanings-parts vs)) a in
          let c = within_ok (make (names_of fs)) (row_writes (writes_of ps) (at_value m) (parts vs)) t p in
          let z = row_imaged (at_value m) ps h (parts vs) c.0 b c.1 in
          (make (names_of fs) z.0, image_is t c.0 z.0 away c.2 z.1)
      imaged h away _ t a p = absurd a

      back : EachPart (IsImaged (at_value m)) ps → EachPart (IsReadBack (at_value m)) ps → is_json_key m.wire m.place ≡ false → ReadsBack Is writes (record_reads strict fs) (record_norm (norms_of ps)) m
      back g h away (list vs) t i a p e =
          let b = subst (AreOf (are_of ps)) (sym (meanings-parts vs)) a in
          let c = within_ok (make (names_of fs)) (row_writes (writes_of ps) (at_value m) (parts vs)) t p in
          let z = row_imaged (at_value m) ps g (parts vs) c.0 b c.1 in
          let is : make (names_of fs) z.0 ≡ i = cc (image_is t c.0 z.0 away c.2 z.1, e) in
          let us = row_norm (norms_of ps) (at_value m) (parts vs) in
          let read = row_back (at_value m) ps h (parts vs) c.0 z.0 b c.1 z.1 in
          read_again m i z.0 us (sym is) (subst (λ (xs : List Reading). AreRead (all_in (at_value m) xs) z.0 us) (sym same) read)
          (row_count (at_value m) ps (parts vs) c.0 z.0 b c.1 z.1 ∙ ap (λ (xs : List Reading). length xs) (sym same))
      back g h away _ t i a p e = absurd a

      never_key : EachPart (IsNeverKey (at_value m)) ps → NeverKey Is writes m
      never_key h (list vs) a p =
          row_never (at_value m) ps h (parts vs) (subst (AreOf (are_of ps)) (sym (meanings-parts vs)) a) (within_key (make (names_of fs)) (row_writes (writes_of ps) (at_value m) (parts vs)) p)
      never_key h _ a p = a

      written_kind : (v : Meaning) (t : Tree) → Is v → writes m v ≡ Ok t → is_kind kind.Map (kind_of t) ≡ true
      written_kind (list vs) t a p = ap (λ (u : Tree). is_kind kind.Map (kind_of u)) ((within_ok (make (names_of fs)) (row_writes (writes_of ps) (at_value m) (parts vs)) t p).2)
      written_kind _ t a p = absurd a

      read_kind : (t : Tree) (v : Meaning) → record_reads strict fs m t ≡ Ok v → is_kind kind.Map (kind_of t) ≡ true
      read_kind (node.map es) v p = refl
      read_kind _ v p = absurd (cc)

      exact : EachPart (IsKept (at_value m)) ps → IsExact Is (record_norm (norms_of ps)) m
      exact h (list vs) a = ap row (row_exact (at_value m) ps h (parts vs) (subst (AreOf (are_of ps)) (sym (meanings-parts vs)) a)) ∙ ap list (meanings-parts vs)
      exact h _ a = absurd a

    unmarked : EachPart (λ p. IsUnmarked p.writes) ps → IsUnmarked writes
    unmarked h m (list vs) = ap (λ r. bind r (λ ts. within (make (names_of fs) ts)))
        (row_same (at_value (marked m)) (at_value m) ps (parts_keep (λ p. IsUnmarked p.writes) (λ p. (v : Meaning) → p.writes (at_value (marked m)) v ≡ p.writes (at_value m) v) (λ p u v. u (at_value m) v) ps h) (parts vs))
    unmarked h m _ = refl

    nodes : EachPart (λ p. WritesNodes p.is p.writes) ps → WritesNodes Is writes
    nodes h m (list vs) t a p =
        let b = subst (AreOf (are_of ps)) (sym (meanings-parts vs)) a in
        let r = row_writes (writes_of ps) (at_value m) (parts vs) in
        let c = within_ok (make (names_of fs)) r t p in
        let shallow = within_shallow (make (names_of fs)) r t p in
        rw c.2 (map-is_node (named (names_of fs) c.0) (named_nodes (names_of fs) c.0 names (row_nodes (at_value m) ps h (parts vs) c.0 b c.1)) (subst (λ u. depth u ≤ 128) c.2 shallow))
    nodes h m _ t a p = absurd a

    norms : EachPart (λ p. NormsWithin p.is p.norm) ps → NormsWithin Is (record_norm (norms_of ps))
    norms h m (list vs) a = row_normed (at_value m) ps h (parts vs) (subst (AreOf (are_of ps)) (sym (meanings-parts vs)) a)
    norms h m _ a = absurd a

    row_keeps : (listed : Bool) (own : Grade) → EachPart IsPart ps →
        Lawful Is writes (record_reads strict fs) (record_spot strict fs) (record_skips strict fs) (fields (exprs_of ps) listed own) (record_norm (norms_of ps)) (All ps)
    row_keeps listed own h =
        record {
          images = λ m s. let c = sound-fields (exprs_of ps) listed own m s in imaged m (parts_sound (at_value m) (IsImaged (at_value m)) (λ p k i. k.images (at_value m) i) ps h c.1) c.0;
          back = λ a m s.
              let c = sound-fields (exprs_of ps) listed own m s in
              back m (parts_sound (at_value m) (IsImaged (at_value m)) (λ p k i. k.images (at_value m) i) ps h c.1) (parts_back (at_value m) ps h a c.1) c.0;
          never_key = λ m s. let c = sound-fields (exprs_of ps) listed own m s in never_key m (parts_sound (at_value m) (IsNeverKey (at_value m)) (λ p k i. k.never_key (at_value m) i) ps h c.1);
          written_kinds = written_kind;
          read_kinds = λ m t v p. read_or (is_kind kind.Map (kind_of t)) (listed && is_kind kind.List (kind_of t)) (read_kind m t v p);
          unmarked = unmarked (parts_keep IsPart (λ p. IsUnmarked p.writes) (λ p k. k.unmarked) ps h);
          exact = λ m g. exact m (parts_exact (at_value m) ps h (exact-worst own (worst_of (exprs_of ps) (at_value m)) (ap is_exact g)).1);
          spot_kinds = λ m. spot_kinds strict fs m (subst (Each (HasKinds (at_value m))) (sym same) (parts_read IsPart (HasKinds (at_value m)) (λ p k. k.spot_kinds (at_value m)) ps h));
          note_kinds = λ m. note_kinds strict fs m (subst (Each (HasNotes (at_value m))) (sym same) (parts_read IsPart (HasNotes (at_value m)) (λ p k. k.note_kinds (at_value m)) ps h));
          nodes = nodes (parts_keep IsPart (λ p. WritesNodes p.is p.writes) (λ p k. k.nodes) ps h);
          norms = norms (parts_keep IsPart (λ p. NormsWithin p.is p.norm) (λ p k. k.norms) ps h);
        }

  module _ (xs : List Kept) (same : fields_by fs ≡ bys_of (parts_of xs)) where
    abbrev ps : List Part
    ps = parts_of xs

    -- `listed` and `own` are the record's: whether a list is read too, and its own grade
    pub record_keeps : (listed : Bool) (own : Grade) →
        Lawful (IsRowOf (are_of ps)) (record_writes (names_of fs) (writes_of ps)) (record_reads strict fs) (record_spot strict fs) (record_skips strict fs) (fields (exprs_of ps) listed own) (record_norm (norms_of ps)) (All ps)
    record_keeps listed own = row_keeps (parts_of xs) same listed own (are_kept xs)
