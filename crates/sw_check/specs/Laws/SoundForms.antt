-- What soundness gives, form by form; and when lists and maps are sound.
use Rattle.std.specs.Prelude.{◌≡◌, Bool, true, false, not, ◌||◌, ◌&&◌, List, [], ◌∷◌}
use Rattle.std.proofs.Common.{refl, ap}
use Rattle.sw_tree.specs.declared.mode.Mode.{Mode}
use Rattle.sw_tree.specs.declared.mode.Kind.{Kind}
use Rattle.sw_tree.specs.declared.mode.Kind.TheVariants as kind
use Rattle.sw_tree.specs.Mode.{at_value, at_key, marked}
use Rattle.sw_tree.specs.declared.mode.WireKind.{WireKind}
use Rattle.sw_tree.specs.declared.mode.WireKind.TheVariants.{Json, Compact}
use Rattle.sw_tree.specs.declared.mode.Place.TheVariants.{Value}
use Rattle.sw_check.specs.declared.rule.Rule.{Rule}
use Rattle.sw_check.specs.declared.rule.Rule.TheVariants.{S1, S3, S4, S5, S6, S7, S8}
use Rattle.sw_check.specs.declared.grade.Grade.{Grade}
use Rattle.sw_check.specs.declared.grade.Grade.TheVariants.{Exact, Rounded}
use Rattle.sw_check.specs.Form.{Form, Forms, no_forms, form, vec, map, map_set, one_or_many, one_or_many_set, option, set, key_map, pairs, tuple, fields, tagged}
use Rattle.sw_check.specs.Kinds.{kinds_written, kinds_read}
use Rattle.sw_check.specs.Grade.{grade, is_exact, worst}
use Rattle.sw_check.specs.Rules.{order, is_json_key, fit_keys}
use Rattle.sw_check.specs.Blame.{IsSound}
use Rattle.sw_check.specs.Laws.Sound.{AllSound, AllHold, sound-checked, sound-rule, sound-by, sound-no_key}

not-true : (b : Bool) → not b ≡ true → b ≡ false
not-true true h = cc
not-true false h = refl

or-true : (b : Bool) → (b || true) ≡ true
or-true true = refl
or-true false = refl

list_unfit : (n b l m : Bool) → l ≡ true → not (n || b || l || m) ≡ false
list_unfit true b l m h = refl
list_unfit false true l m h = refl
list_unfit false false true m h = refl
list_unfit false false false m h = absurd (cc)

-- a list is no key of JSON
unfit-list : (written : Kind → Bool) → written kind.List ≡ true → fit_keys written ≡ false
unfit-list w h = list_unfit (w kind.Null) (w kind.Bytes) (w kind.List) (w kind.Map) h

null_unfit : (n b l m : Bool) → n ≡ true → not (n || b || l || m) ≡ false
null_unfit true b l m h = refl
null_unfit false b l m h = absurd (cc)

-- nor is a null
unfit-null : (written : Kind → Bool) → written kind.Null ≡ true → fit_keys written ≡ false
unfit-null w h = null_unfit (w kind.Null) (w kind.Bytes) (w kind.List) (w kind.Map) h

pub sound-vec : (p : Form) (m : Mode) → IsSound (vec p) m → (is_json_key m.wire m.place ≡ false) × IsSound p (at_value m)
sound-vec p m s = (sound-no_key (vec p) m s refl, sound-checked (vec p) m s)

pub sound-map : (k v : Form) (m : Mode) → IsSound (map k v) m → (is_json_key m.wire m.place ≡ false) × IsSound k (at_key m) × IsSound v (at_value m)
sound-map k v m s = let c = sound-checked (map k v) m s in (sound-no_key (map k v) m s refl, c.0, c.1)

-- the part, buffered, is sound and reads no list
pub sound-one_or_many : (p : Form) (m : Mode) → IsSound (one_or_many p) m → (is_json_key m.wire m.place ≡ false) × (kinds_read p (marked (at_value m)) kind.List ≡ false) × IsSound p (marked (at_value m))
sound-one_or_many p m s = (
  sound-no_key (one_or_many p) m s (unfit-list (kinds_written (one_or_many p) m) (or-true (kinds_written p (marked (at_value m)) kind.List))),
  not-true (kinds_read p (marked (at_value m)) kind.List) (sound-rule (one_or_many p) m s S3),
  sound-checked (one_or_many p) m s,
)

-- the part is sound and writes no null
pub sound-option : (p : Form) (m : Mode) → IsSound (option p) m → (is_json_key m.wire m.place ≡ false) × (kinds_written p m kind.Null ≡ false) × IsSound p m
sound-option p m s = (
  sound-no_key (option p) m s (unfit-null (kinds_written (option p) m) (or-true (kinds_written p m kind.Null))),
  not-true (kinds_written p m kind.Null) (sound-rule (option p) m s S4),
  sound-checked (option p) m s,
)

-- the items are sound and exact
pub sound-set : (p : Form) (m : Mode) → IsSound (set p) m → (is_json_key m.wire m.place ≡ false) × (is_exact (grade p (at_value m)) ≡ true) × IsSound p (at_value m)
sound-set p m s = (sound-no_key (set p) m s refl, sound-rule (set p) m s S5, sound-checked (set p) m s)

-- keys and values are sound, and keys exact
pub sound-key_map : (k v : Form) (m : Mode) → IsSound (key_map k v) m → (is_json_key m.wire m.place ≡ false) × (is_exact (grade k (at_key m)) ≡ true) × IsSound k (at_key m) × IsSound v (at_value m)
sound-key_map k v m s =
    let c = sound-checked (key_map k v) m s in
    (sound-no_key (key_map k v) m s refl, sound-rule (key_map k v) m s S5, c.0, c.1)

pub sound-tuple : (ps : Forms) (m : Mode) → IsSound (tuple ps) m → (is_json_key m.wire m.place ≡ false) × AllSound ps (at_value m)
sound-tuple ps m s = (sound-no_key (tuple ps) m s refl, sound-checked (tuple ps) m s)

pub sound-fields : (ps : Forms) (listed : Bool) (own : Grade) (m : Mode) → IsSound (fields ps listed own) m → (is_json_key m.wire m.place ≡ false) × AllSound ps (at_value m)
sound-fields ps listed own m s = (sound-no_key (fields ps listed own) m s refl, sound-checked (fields ps listed own) m s)

pub sound-tagged : (ps : Forms) (unit : Bool) (m : Mode) → IsSound (tagged ps unit) m → (is_json_key m.wire m.place ≡ false) × AllSound ps (at_value m)
sound-tagged ps true m s = (sound-no_key (tagged ps true) m s refl, sound-checked (tagged ps true) m s)
sound-tagged ps false m s = (sound-no_key (tagged ps false) m s refl, sound-checked (tagged ps false) m s)

-- keys and values are sound as parts of a list, and keys exact
pub sound-pairs : (k v : Form) (m : Mode) → IsSound (pairs k v) m → (is_json_key m.wire m.place ≡ false) × (is_exact (grade k (at_value m)) ≡ true) × IsSound k (at_value m) × IsSound v (at_value m)
sound-pairs k v m s =
    let c = sound-checked (pairs k v) m s in
    (sound-no_key (pairs k v) m s refl, sound-rule (pairs k v) m s S5, c.0, c.1)

both-true : (a b : Bool) → (a && b) ≡ true → (a ≡ true) × (b ≡ true)
both-true true b h = (refl, h)
both-true false b h = absurd (cc)

-- keys and values are sound, and exact
pub sound-map_set : (k v : Form) (m : Mode) → IsSound (map_set k v) m → (is_json_key m.wire m.place ≡ false) × ((is_exact (grade k (at_key m)) ≡ true) × (is_exact (grade v (at_value m)) ≡ true)) × IsSound k (at_key m) × IsSound v (at_value m)
sound-map_set k v m s =
    let c = sound-checked (map_set k v) m s in
    (sound-no_key (map_set k v) m s refl, both-true (is_exact (grade k (at_key m))) (is_exact (grade v (at_value m))) (sound-rule (map_set k v) m s S5), c.0, c.1)

-- the part, buffered, is sound and exact, and reads no list
pub sound-one_or_many_set : (p : Form) (m : Mode) → IsSound (one_or_many_set p) m → (is_json_key m.wire m.place ≡ false) × (kinds_read p (marked (at_value m)) kind.List ≡ false) × (is_exact (grade p (marked (at_value m))) ≡ true) × IsSound p (marked (at_value m))
sound-one_or_many_set p m s = (
  sound-no_key (one_or_many_set p) m s (unfit-list (kinds_written (one_or_many_set p) m) (or-true (kinds_written p (marked (at_value m)) kind.List))),
  not-true (kinds_read p (marked (at_value m)) kind.List) (sound-rule (one_or_many_set p) m s S3),
  sound-rule (one_or_many_set p) m s S5,
  sound-checked (one_or_many_set p) m s,
)

-- the rules that are tried after that of keys
abbrev others : List Rule
others = S1 ∷ S3 ∷ S4 ∷ S5 ∷ S6 ∷ S7 ∷ S8 ∷ []

-- away from keys of JSON each rule holds, where the others do
away : (e : Form) (m : Mode) → is_json_key m.wire m.place ≡ false → AllHold others e m → AllHold order e m
away e m h a = (ap (λ j. not j || fit_keys (kinds_written e m)) h, a)

-- a list is sound at no key of JSON, where its items are
pub vec-sound : (p : Form) (m : Mode) → is_json_key m.wire m.place ≡ false → IsSound p (at_value m) → IsSound (vec p) m
vec-sound p m h s = sound-by (vec p) m (away (vec p) m h (refl, (refl, (refl, (refl, (refl, (refl, (refl, tt)))))))) s

-- a map is sound at no key of JSON, where its keys and values are
pub map-sound : (k v : Form) (m : Mode) → is_json_key m.wire m.place ≡ false → IsSound k (at_key m) → IsSound v (at_value m) → IsSound (map k v) m
map-sound k v m h s t = sound-by (map k v) m (away (map k v) m h (refl, (refl, (refl, (refl, (refl, (refl, (refl, tt)))))))) (s, t)

-- a tuple is sound at no key of JSON, where its parts are
pub tuple-sound : (ps : Forms) (m : Mode) → is_json_key m.wire m.place ≡ false → AllSound ps (at_value m) → IsSound (tuple ps) m
tuple-sound ps m h s = sound-by (tuple ps) m (away (tuple ps) m h (refl, (refl, (refl, (refl, (refl, (refl, (refl, tt)))))))) s

-- one or many are sound at no key of JSON, where the part, buffered, is and reads no list
pub one_or_many-sound : (p : Form) (m : Mode) → is_json_key m.wire m.place ≡ false → kinds_read p (marked (at_value m)) kind.List ≡ false → IsSound p (marked (at_value m)) → IsSound (one_or_many p) m
one_or_many-sound p m h l s = sound-by (one_or_many p) m (away (one_or_many p) m h (refl, (ap not l, (refl, (refl, (refl, (refl, (refl, tt)))))))) s

-- where one or many are sound, so is the buffered list of them
pub one_or_many-vec : (p : Form) (m : Mode) → IsSound (one_or_many p) m → IsSound (vec p) (marked m)
one_or_many-vec p m s = let h = sound-one_or_many p m s in vec-sound p (marked m) h.0 h.2

-- where a set is sound, so is the list
pub set-vec : (p : Form) (m : Mode) → IsSound (set p) m → IsSound (vec p) m
set-vec p m s = let h = sound-set p m s in vec-sound p m h.0 h.2

-- where a map with keys told apart is sound, so is the map of its pairs
pub key_map-map : (k v : Form) (m : Mode) → IsSound (key_map k v) m → IsSound (map k v) m
key_map-map k v m s = let h = sound-key_map k v m s in map-sound k v m h.0 h.2 h.3

-- where a map whose entries are told apart is sound, so is the map of its pairs
pub map_set-map : (k v : Form) (m : Mode) → IsSound (map_set k v) m → IsSound (map k v) m
map_set-map k v m s = let h = sound-map_set k v m s in map-sound k v m h.0 h.2 h.3

-- where one or many items that are told apart are sound, so are one or many items
pub one_or_many_set-list : (p : Form) (m : Mode) → IsSound (one_or_many_set p) m → IsSound (one_or_many p) m
one_or_many_set-list p m s = let h = sound-one_or_many_set p m s in one_or_many-sound p m h.0 h.1 h.3

-- a value is no key
pub value-no_key : (w : WireKind) → is_json_key w Value ≡ false
value-no_key Json = refl
value-no_key Compact = refl

-- where entries as a list of pairs are sound, so is the list of tuples
pub pairs-vec : (k v : Form) (m : Mode) → IsSound (pairs k v) m → IsSound (vec (tuple (form k (form v no_forms)))) m
pairs-vec k v m s =
    let h = sound-pairs k v m s in
    vec-sound (tuple (form k (form v no_forms))) m h.0 (tuple-sound (form k (form v no_forms)) (at_value m) (value-no_key m.wire) (h.2, (h.3, tt)))

pub exact_is : (g : Grade) → is_exact g ≡ true → g ≡ Exact
exact_is Exact h = refl
exact_is Rounded h = absurd (cc)

-- of two grades the worst is exact where both are
pub exact-worst : (g h : Grade) → is_exact (worst g h) ≡ true → (is_exact g ≡ true) × (is_exact h ≡ true)
exact-worst Exact h p = (refl, p)
exact-worst Rounded h p = absurd (cc)
