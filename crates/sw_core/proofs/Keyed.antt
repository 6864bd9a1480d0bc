-- A record's entries that are read one after another are read by the record's plan.
use Rattle.std.proofs.Common.{◌≡◌, ℕ, zero, suc, Bool, true, false, List, [], ◌∷◌, ◌++◌, cond, is_ok, is_some, Option, Some, None, Result, Ok, Err, refl, ap, sym, ◌∙◌, subst}
use Rattle.std.specs.Str.{bytes_eq}
use Rattle.sw_tree.specs.Logged.{HasGained, IsCut}
use Rattle.sw_tree.specs.Laws.Logs.{cut_within}
use Rattle.sw_tree.specs.Meaning.{Meaning}
use Rattle.sw_tree.specs.Mode.{at_value}
use Rattle.sw_tree.specs.Placed.{placed, placed_at, placed_notes}
use Rattle.sw_tree.specs.Seen.{Seen, place_at, behind, entry_row, entries_seen}
use Rattle.sw_tree.specs.Steps.{bind}
use Rattle.sw_tree.specs.Tree.{Tree, pairs, kind_of}
use Rattle.sw_tree.specs.Tree as node
use Rattle.sw_tree.specs.declared.mode.Mode.{Mode}
use Rattle.sw_tree.specs.declared.fail.DeError.{DeError}
use Rattle.sw_tree.specs.declared.fail.DeError.TheVariants as fail
use Rattle.sw_tree.specs.declared.fail.DeFail.{DeFail}
use Rattle.sw_tree.specs.declared.fail.Refusal.{Refusal}
use Rattle.sw_elem.specs.Answers.{IsRead, IsLogged}
use Rattle.sw_core.proofs.Places.{plan-placed, plan-logged, turns-row}
use Rattle.sw_core.specs.Fields.{Field, Slots, no_slots, slot_reads, slot_logs, other_reads, fields_reads, fields_logs, fields_make}
use Rattle.sw_core.specs.Inner.Record.{entry_reads, entry_logs, all_reads, all_made, later_logs, all_logs}
use Rattle.sw_core.specs.Inner.Rows.{seen_reads, seen_logs, seen_turns}
use Rattle.sw_core.specs.Parts.{Reading}
use Rattle.sw_core.specs.Rows.{Reader}
use Rattle.sw_core.specs.Record.{Given, FieldKey, nameless, unknown, repeated, wanted, next_key, name_of, key_of, key_by, value_by, mark_at, mark, filled, keyed_by, keys_of, put_at, fill, record_plan, record_reads, record_spot, record_skips}

-- ---- what the fields mean behind an entry, by what its key is

abbrev key_reads : Bool → Mode → FieldKey → Slots → Seen × Seen → Result Slots Refusal
key_reads strict m (nameless k) os e = placed_at e.0 0 (Err (fail.InvalidType k))
key_reads strict m unknown os e = other_reads strict os e
key_reads strict m repeated os e = placed_at e.0 0 (Err fail.DuplicateField)
key_reads strict m (wanted i x) os e = bind (placed (x.reads m) (x.spot m) e.1) (λ v. Ok (put_at i v os))

abbrev key_logs : Mode → FieldKey → Seen × Seen → List Refusal
key_logs m (nameless k) e = []
key_logs m unknown e = []
key_logs m repeated e = []
key_logs m (wanted i x) e = placed_notes e.1 (x.skips m e.1.tree)

-- the key isn't the first field's
later_key : (strict : Bool) (m : Mode) (n : FieldKey) (o : Option Meaning) (os : Slots) (e : Seen × Seen) → bind (key_reads strict m n os e) (λ ps. Ok (o ∷ ps)) ≡ key_reads strict m (next_key n) (o ∷ os) e
later_key strict m (nameless k) o os e = refl
later_key true m unknown o os e = refl
later_key false m unknown o os e = refl
later_key strict m repeated o os e = refl
later_key strict m (wanted i x) o os e = value (placed (x.reads m) (x.spot m) e.1) where
  value : (r : Result Meaning Refusal) → bind (bind r (λ v. Ok (put_at i v os))) (λ ps. Ok (o ∷ ps)) ≡ bind r (λ v. Ok (o ∷ put_at i v os))
  value (Ok v) = refl
  value (Err d) = refl

-- or it is
first_key : (strict : Bool) (m : Mode) (x : Reading) (o : Option Meaning) (os : Slots) (e : Seen × Seen) → bind (slot_reads x m o e) (λ p. Ok (p ∷ os)) ≡ key_reads strict m (cond (is_some o) repeated (wanted 0 x)) (o ∷ os) e
first_key strict m x (Some w) os e = refl
first_key strict m x None os e = value (placed (x.reads m) (x.spot m) e.1) where
  value : (r : Result Meaning Refusal) → bind (bind r (λ v. Ok (Some v))) (λ p. Ok (p ∷ os)) ≡ bind r (λ v. Ok (Some v ∷ os))
  value (Ok v) = refl
  value (Err d) = refl

chosen_key : (strict : Bool) (m : Mode) (x : Reading) (n : FieldKey) (o : Option Meaning) (os : Slots) (e : Seen × Seen) (same : Bool) (y : Result Slots Refusal) → y ≡ key_reads strict m n os e →
    cond same (bind (slot_reads x m o e) (λ p. Ok (p ∷ os))) (bind y (λ ps. Ok (o ∷ ps))) ≡ key_reads strict m (cond same (cond (is_some o) repeated (wanted 0 x)) (next_key n)) (o ∷ os) e
chosen_key strict m x n o os e true y h = first_key strict m x o os e
chosen_key strict m x n o os e false y h = ap (λ (z : Result Slots Refusal). bind z (λ ps. Ok (o ∷ ps))) h ∙ later_key strict m n o os e

fields-key : (strict : Bool) (fs : List Field) (m : Mode) (os : Slots) (s : List ℕ) (e : Seen × Seen) → fields_reads strict fs m os s e ≡ key_reads strict m (name_of fs (filled os) s) os e
fields-key strict [] m os s e = refl
fields-key strict (f ∷ fs) m [] s e = refl
fields-key strict (f ∷ fs) m (o ∷ os) s e = chosen_key strict m f.by (name_of fs (filled os) s) o os e (bytes_eq s f.name) (fields_reads strict fs m os s e) (fields-key strict fs m os s e)

later_key_logs : (m : Mode) (n : FieldKey) (e : Seen × Seen) → key_logs m n e ≡ key_logs m (next_key n) e
later_key_logs m (nameless k) e = refl
later_key_logs m unknown e = refl
later_key_logs m repeated e = refl
later_key_logs m (wanted i x) e = refl

chosen_key_logs : (m : Mode) (x : Reading) (n : FieldKey) (o : Option Meaning) (e : Seen × Seen) (same : Bool) (y : List Refusal) → y ≡ key_logs m n e →
    cond same (slot_logs x m o e) y ≡ key_logs m (cond same (cond (is_some o) repeated (wanted 0 x)) (next_key n)) e
chosen_key_logs m x n (Some w) e true y h = refl
chosen_key_logs m x n None e true y h = refl
chosen_key_logs m x n o e false y h = h ∙ later_key_logs m n e

fields-key_logs : (fs : List Field) (m : Mode) (os : Slots) (s : List ℕ) (e : Seen × Seen) → fields_logs fs m os s e ≡ key_logs m (name_of fs (filled os) s) e
fields-key_logs [] m os s e = refl
fields-key_logs (f ∷ fs) m [] s e = refl
fields-key_logs (f ∷ fs) m (o ∷ os) s e = chosen_key_logs m f.by (name_of fs (filled os) s) o e (bytes_eq s f.name) (fields_logs fs m os s e) (fields-key_logs fs m os s e)

abbrev view_of : Tree → ℕ → Bool → Seen
view_of t p c = record { tree = t; place = p; counts = c }

entry-key : (strict : Bool) (fs : List Field) (m : Mode) (os : Slots) (t : Tree) (p : ℕ) (c : Bool) (v : Seen) → entry_reads strict fs m os (view_of t p c, v) ≡ key_reads strict m (key_of fs (filled os) t) os (view_of t p c, v)
entry-key strict fs m os (node.text s) p c v = fields-key strict fs m os s (view_of (node.text s) p c, v)
entry-key strict fs m os _ p c v = refl

entry-key_logs : (fs : List Field) (m : Mode) (os : Slots) (t : Tree) (p : ℕ) (c : Bool) (v : Seen) → entry_logs fs m os (view_of t p c, v) ≡ key_logs m (key_of fs (filled os) t) (view_of t p c, v)
entry-key_logs fs m os (node.text s) p c v = fields-key_logs fs m os s (view_of (node.text s) p c, v)
entry-key_logs fs m os _ p c v = refl

-- ---- what the readers of an entry, and of those behind it, answer

filled-put : (i : ℕ) (v : Meaning) (os : Slots) → filled (put_at i v os) ≡ mark_at i (filled os)
filled-put i v [] = refl
filled-put zero v (o ∷ os) = refl
filled-put (suc i) v (o ∷ os) = ap (λ (bs : List Bool). is_some o ∷ bs) (filled-put i v os)

two_given : {E M : Type 0} (g h : Given) (y : Result (List Given) E) (F : List Given → Result M E) → bind {B = M} (bind {B = List Given} (bind {B = List Given} y (λ ws. Ok (h ∷ ws))) (λ vs. Ok (g ∷ vs))) F ≡ bind y (λ gs. F (g ∷ h ∷ gs))
two_given g h (Ok gs) F = refl
two_given g h (Err e) F = refl

value_given : (i k : ℕ) (s : Seen) (os : Slots) (y : Result (List Given) Refusal) (z : Slots → Result (List Given) Refusal) (F : Slots → Result Meaning Refusal) (r : Result Meaning DeError) → ((v : Meaning) → y ≡ z (put_at i v os)) →
    bind {B = Meaning} (bind {B = List Given} (bind {B = List Given} (placed_at {M = Given} s k (bind r (λ v. Ok (Some (i, v))))) (λ g. bind {B = List Given} y (λ ws. Ok (g ∷ ws)))) (λ vs. Ok (None ∷ vs))) (λ gs. F (fill os gs))
    ≡ bind {B = Meaning} (bind {B = Slots} (placed_at s k r) (λ v. Ok (put_at i v os))) (λ ps. bind (z ps) (λ gs. F (fill ps gs)))
value_given i k s os y z F (Err d) h = refl
value_given i k s os y z F (Ok v) h = two_given None (Some (i, v)) y (λ gs. F (fill os gs)) ∙ ap (λ (w : Result (List Given) Refusal). bind w (λ gs. F (fill (put_at i v os) gs))) (h v)

value_logs : (i k : ℕ) (s : Seen) (os : Slots) (w : List Refusal) (z : Slots → List Refusal) (r : Result Meaning DeError) → ((v : Meaning) → w ≡ z (put_at i v os)) →
    cond (is_ok (placed_at {M = Given} s k (bind r (λ v. Ok (Some (i, v)))))) w [] ≡ later_logs (bind {B = Slots} (placed_at s k r) (λ v. Ok (put_at i v os))) z
value_logs i k s os w z (Err d) h = refl
value_logs i k s os w z (Ok v) h = h v

-- the readers of a key, of its value and of the entries behind, by what the key is
abbrev all_by : Bool → List Field → Mode → List Tree → Slots → FieldKey → List (Reader Given)
all_by strict fs m ks os n = key_by strict n ∷ value_by m n ∷ keyed_by strict fs m (mark n (filled os)) ks

step_reads : (strict : Bool) (fs : List Field) (m : Mode) (ks : List Tree) (ss : List Seen) (os : Slots) (e : Seen × Seen) (F : Slots → Result Meaning Refusal) (n : FieldKey) →
    bind (seen_reads (all_by strict fs m ks os n) (e.0 ∷ e.1 ∷ ss)) (λ gs. F (fill os gs)) ≡ bind (key_reads strict m n os e) (λ ps. bind (seen_reads (keyed_by strict fs m (filled ps) ks) ss) (λ gs. F (fill ps gs)))
step_reads strict fs m ks ss os e F (nameless k) = refl
step_reads true fs m ks ss os e F unknown = refl
step_reads false fs m ks ss os e F unknown = two_given None None (seen_reads (keyed_by false fs m (filled os) ks) ss) (λ gs. F (fill os gs))
step_reads strict fs m ks ss os e F repeated = refl
step_reads strict fs m ks ss os e F (wanted i x) =
    value_given i (x.spot m e.1.tree) e.1 os (seen_reads (keyed_by strict fs m (mark_at i (filled os)) ks) ss) (λ ps. seen_reads (keyed_by strict fs m (filled ps) ks) ss) F (x.reads m e.1.tree)
    (λ v. ap (λ (bs : List Bool). seen_reads (keyed_by strict fs m bs ks) ss) (sym (filled-put i v os)))

step_logs : (strict : Bool) (fs : List Field) (m : Mode) (ks : List Tree) (ss : List Seen) (os : Slots) (e : Seen × Seen) (n : FieldKey) →
    seen_logs (all_by strict fs m ks os n) (e.0 ∷ e.1 ∷ ss) ≡ key_logs m n e ++ later_logs (key_reads strict m n os e) (λ ps. seen_logs (keyed_by strict fs m (filled ps) ks) ss)
step_logs strict fs m ks ss os e (nameless k) = refl
step_logs true fs m ks ss os e unknown = refl
step_logs false fs m ks ss os e unknown = refl
step_logs strict fs m ks ss os e repeated = refl
step_logs strict fs m ks ss os e (wanted i x) =
    ap (λ (l : List Refusal). placed_notes e.1 (x.skips m e.1.tree) ++ l)
    (value_logs i (x.spot m e.1.tree) e.1 os (seen_logs (keyed_by strict fs m (mark_at i (filled os)) ks) ss) (λ ps. seen_logs (keyed_by strict fs m (filled ps) ks) ss) (x.reads m e.1.tree)
    (λ v. ap (λ (bs : List Bool). seen_logs (keyed_by strict fs m bs ks) ss) (sym (filled-put i v os))))

-- ---- all entries

abbrev keys_seen : List (Seen × Seen) → List Tree
keys_seen [] = []
keys_seen (e ∷ es) = e.0.tree ∷ keys_seen es

keys-row : (c : Bool) (p : ℕ) (es : List (Tree × Tree)) → keys_seen (entry_row c p es) ≡ keys_of es
keys-row c p [] = refl
keys-row c p (e ∷ es) = ap (λ (ks : List Tree). e.0 ∷ ks) (keys-row c (behind c (behind c p e.0) e.1) es)

then_all : (r : Result Slots Refusal) (G : Slots → Result Meaning Refusal) (H : Slots → Result Slots Refusal) (F : Slots → Result Meaning Refusal) → ((ps : Slots) → G ps ≡ bind (H ps) F) → bind r G ≡ bind (bind r H) F
then_all (Ok ps) G H F h = h ps
then_all (Err d) G H F h = refl

then_logs : (r : Result Slots Refusal) (G H : Slots → List Refusal) → ((ps : Slots) → G ps ≡ H ps) → later_logs r G ≡ later_logs r H
then_logs (Ok ps) G H h = h ps
then_logs (Err d) G H h = refl

module _ (strict : Bool) (fs : List Field) (m : Mode) where
  all-read : (F : Slots → Result Meaning Refusal) (es : List (Seen × Seen)) (os : Slots) →
      bind (seen_reads (keyed_by strict fs m (filled os) (keys_seen es)) (seen_turns es)) (λ gs. F (fill os gs)) ≡ bind (all_reads strict fs m os es) F
  all-read F [] os = refl
  all-read F (e ∷ es) os =
      let n = key_of fs (filled os) e.0.tree in
      step_reads strict fs m (keys_seen es) (seen_turns es) os e F n
      ∙ then_all (key_reads strict m n os e) (λ ps. bind (seen_reads (keyed_by strict fs m (filled ps) (keys_seen es)) (seen_turns es)) (λ gs. F (fill ps gs))) (λ ps. all_reads strict fs m ps es) F (λ ps. all-read F es ps)
      ∙ ap (λ (r : Result Slots Refusal). bind (bind r (λ ps. all_reads strict fs m ps es)) F) (sym (entry-key strict fs m os e.0.tree e.0.place e.0.counts e.1))

  all-logged : (es : List (Seen × Seen)) (os : Slots) → seen_logs (keyed_by strict fs m (filled os) (keys_seen es)) (seen_turns es) ≡ all_logs strict fs m os es
  all-logged [] os = refl
  all-logged (e ∷ es) os =
      let n = key_of fs (filled os) e.0.tree in
      step_logs strict fs m (keys_seen es) (seen_turns es) os e n
      ∙ ap (λ (l : List Refusal). key_logs m n e ++ l) (then_logs (key_reads strict m n os e) (λ ps. seen_logs (keyed_by strict fs m (filled ps) (keys_seen es)) (seen_turns es)) (λ ps. all_logs strict fs m ps es) (λ ps. all-logged es ps))
      ∙ ap (λ (r : Result Slots Refusal). key_logs m n e ++ later_logs r (λ ps. all_logs strict fs m ps es)) (sym (entry-key strict fs m os e.0.tree e.0.place e.0.counts e.1))
      ∙ ap (λ (l : List Refusal). l ++ later_logs (entry_reads strict fs m os e) (λ ps. all_logs strict fs m ps es)) (sym (entry-key_logs fs m os e.0.tree e.0.place e.0.counts e.1))

-- ---- the record

module _ (strict : Bool) (fs : List Field) (m : Mode) where
  -- what its entries answer, and what they log, is what the record does
  abbrev IsRecord : List (Seen × Seen) → Seen → Type 0
  IsRecord es s =
      (all_made s strict fs (at_value m) (no_slots fs) es ≡ placed (record_reads strict fs m) (record_spot strict fs m) s)
      × (all_logs strict fs (at_value m) (no_slots fs) es ≡ placed_notes s (record_skips strict fs m s.tree))

  entries_record : (t : Tree) (p : ℕ) (c : Bool) (es : List (Seen × Seen)) → Some es ≡ entries_seen (view_of t p c) → IsRecord es (view_of t p c)
  entries_record (node.map us) p c es e =
      let v = view_of (node.map us) p c in
      let is : es ≡ entry_row c (place_at v 1) (pairs us) = cc in
      let rs = keyed_by strict fs (at_value m) (filled (no_slots fs)) in
      let all = entry_row c (place_at v 1) (pairs us) in
      let F = λ (os : Slots). placed_at v 0 (fields_make fs os) in
      let reads = sym (all-read strict fs (at_value m) F all (no_slots fs)) in
      let logs = sym (all-logged strict fs (at_value m) all (no_slots fs)) in
      rw is (
        rw (keys-row c (place_at v 1) (pairs us), turns-row c (place_at v 1) (pairs us)) at reads ∙ plan-placed (record_plan strict fs) m v,
        rw (keys-row c (place_at v 1) (pairs us), turns-row c (place_at v 1) (pairs us)) at logs ∙ plan-logged (record_plan strict fs) m v,
      )
  entries_record node.null p c es e = absurd (cc)
  entries_record (node.truth b) p c es e = absurd (cc)
  entries_record (node.int n) p c es e = absurd (cc)
  entries_record (node.text s) p c es e = absurd (cc)
  entries_record (node.bytes b) p c es e = absurd (cc)
  entries_record (node.list ts) p c es e = absurd (cc)

  module _ (s : Seen) (es : List (Seen × Seen)) (e : Some es ≡ entries_seen s) where
    pub record_read : {T : Type 0} (f : T → Meaning) (x : Result T DeFail) → IsRead f x (all_made s strict fs (at_value m) (no_slots fs) es) → IsRead f x (placed (record_reads strict fs m) (record_spot strict fs m) s)
    record_read f x h = subst (IsRead f x) ((entries_record s.tree s.place s.counts es e).0) h

    pub record_logged : {T : Type 0} (x : Result T DeFail) (old new : List Refusal) → IsLogged x old (all_logs strict fs (at_value m) (no_slots fs) es) new → IsLogged x old (placed_notes s (record_skips strict fs m s.tree)) new
    record_logged x old new h = subst (λ ls. IsLogged x old ls new) ((entries_record s.tree s.place s.counts es e).1) h

-- want of memory in an entry
pub entry_cut : (strict : Bool) (fs : List Field) (m : Mode) (os : Slots) (xs : List (Seen × Seen)) (e : Seen × Seen) (es : List (Seen × Seen)) → xs ≡ e ∷ es → (old now new gains : List Refusal) →
    HasGained old now gains (all_logs strict fs m os xs) → IsCut now new (entry_logs fs m os e) → IsCut old new gains
entry_cut strict fs m os xs e es first old now new gains h c =
    cut_within old now new gains (entry_logs fs m os e) (later_logs (entry_reads strict fs m os e) (λ ps. all_logs strict fs m ps es))
    (subst (λ (l : List (Seen × Seen)). HasGained old now gains (all_logs strict fs m os l)) first h) c
