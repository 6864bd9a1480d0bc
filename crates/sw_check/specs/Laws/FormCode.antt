-- How the logic stores an expression.
use Rattle.std.specs.Prelude.{◌≡◌, ℕ, zero, suc}
use Rattle.std.proofs.Common.{refl, ap, sym, ◌∙◌}
use base.Stored.{Gv, gnil, gnum, gcons, num, Coded}
use Rattle.sw_tree.specs.Inner.KindsCode.{first, rest, truth_code, truth_at, truth_back, kinds_code, kinds_at, kinds_back}
use Rattle.sw_check.specs.declared.facts.Claims.{Claims}
use Rattle.sw_check.specs.declared.facts.Facts.{Facts}
use Rattle.sw_check.specs.declared.class.TextClass.{TextClass}
use Rattle.sw_check.specs.declared.grade.Grade.{Grade}
use Rattle.sw_check.specs.declared.grade.Grade.TheVariants.{Exact, Rounded}
use Rattle.sw_check.specs.Form.{Form, Forms, leaf, vec, map, map_set, pick_first, one_or_many, one_or_many_set, option, set, key_map, pairs, tuple, fields, tagged, separated, empty_none, skip, map_skip, default, default_null, by_wire, conv, json_text, no_forms, form}

abbrev grade_code : Grade → Gv
grade_code Exact = gnum 0
grade_code Rounded = gnum 1

abbrev grade_at : Gv → Grade
grade_at gnil = Exact
grade_at (gnum zero) = Exact
grade_at (gnum (suc n)) = Rounded
grade_at (gcons a b) = Exact

grade_back : (g : Grade) → grade_at (grade_code g) ≡ g
grade_back Exact = refl
grade_back Rounded = refl

abbrev claims_code : Claims → Gv
claims_code c = gcons (truth_code c.value) (gcons (truth_code c.buffered_value) (gcons (truth_code c.key) (gcons (truth_code c.buffered_key) (truth_code c.compact))))

abbrev claims_at : Gv → Claims
claims_at g = record {
  value = truth_at (first g);
  buffered_value = truth_at (first (rest g));
  key = truth_at (first (rest (rest g)));
  buffered_key = truth_at (first (rest (rest (rest g))));
  compact = truth_at (rest (rest (rest (rest g))));
}

claims_back : (c : Claims) → claims_at (claims_code c) ≡ c
claims_back c = λ i. record {
  value = truth_back c.value i;
  buffered_value = truth_back c.buffered_value i;
  key = truth_back c.key i;
  buffered_key = truth_back c.buffered_key i;
  compact = truth_back c.compact i;
}

abbrev facts_code : Facts → Gv
facts_code f = gcons (claims_code f.claims) (gcons (kinds_code f.written) (gcons (kinds_code f.read_value) (gcons (kinds_code f.read_key) (gcons (kinds_code f.read_buffered_key) (grade_code f.grade)))))

abbrev facts_at : Gv → Facts
facts_at g = record {
  claims = claims_at (first g);
  written = kinds_at (first (rest g));
  read_value = kinds_at (first (rest (rest g)));
  read_key = kinds_at (first (rest (rest (rest g))));
  read_buffered_key = kinds_at (first (rest (rest (rest (rest g)))));
  grade = grade_at (rest (rest (rest (rest (rest g)))));
}

facts_back : (f : Facts) → facts_at (facts_code f) ≡ f
facts_back f = λ i. record {
  claims = claims_back f.claims i;
  written = kinds_back f.written i;
  read_value = kinds_back f.read_value i;
  read_key = kinds_back f.read_key i;
  read_buffered_key = kinds_back f.read_buffered_key i;
  grade = grade_back f.grade i;
}

abbrev class_code : TextClass → Gv
class_code c = gcons (truth_code c.never_empty) (gcons (gnum c.ascii) (truth_code c.other))

abbrev class_at : Gv → TextClass
class_at g = record {
  never_empty = truth_at (first g);
  ascii = num (first (rest g));
  other = truth_at (rest (rest g));
}

class_back : (c : TextClass) → class_at (class_code c) ≡ c
class_back c = λ i. record { never_empty = truth_back c.never_empty i; ascii = c.ascii; other = truth_back c.other i }

-- forms of one part, of two, and of a row of parts, by their numbers
abbrev one_part : ℕ → Form → Form
one_part zero = vec
one_part (suc zero) = one_or_many
one_part (suc (suc zero)) = one_or_many_set
one_part (suc (suc (suc zero))) = option
one_part (suc (suc (suc (suc zero)))) = set
one_part (suc (suc (suc (suc (suc zero))))) = skip
one_part (suc (suc (suc (suc (suc (suc zero)))))) = default
one_part (suc (suc (suc (suc (suc (suc (suc zero))))))) = default_null
one_part (suc (suc (suc (suc (suc (suc (suc (suc n)))))))) = json_text

abbrev two_parts : ℕ → Form → Form → Form
two_parts zero = map
two_parts (suc zero) = map_set
two_parts (suc (suc zero)) = key_map
two_parts (suc (suc (suc zero))) = pairs
two_parts (suc (suc (suc (suc zero)))) = map_skip
two_parts (suc (suc (suc (suc (suc n))))) = by_wire

abbrev one : ℕ → Gv → Gv
one n p = gcons (gnum 1) (gcons (gnum n) p)

abbrev two : ℕ → Gv → Gv → Gv
two n p q = gcons (gnum 2) (gcons (gnum n) (gcons p q))

abbrev mutual
  pub form_code : Form → Gv
  form_code (leaf f) = gcons (gnum 0) (facts_code f)
  form_code (vec p) = one 0 (form_code p)
  form_code (map k v) = two 0 (form_code k) (form_code v)
  form_code (map_set k v) = two 1 (form_code k) (form_code v)
  form_code (pick_first p ps) = gcons (gnum 3) (gcons (form_code p) (forms_code ps))
  form_code (one_or_many p) = one 1 (form_code p)
  form_code (one_or_many_set p) = one 2 (form_code p)
  form_code (option p) = one 3 (form_code p)
  form_code (set p) = one 4 (form_code p)
  form_code (key_map k v) = two 2 (form_code k) (form_code v)
  form_code (pairs k v) = two 3 (form_code k) (form_code v)
  form_code (tuple ps) = gcons (gnum 4) (forms_code ps)
  form_code (fields ps listed g) = gcons (gnum 5) (gcons (forms_code ps) (gcons (truth_code listed) (grade_code g)))
  form_code (tagged ps unit) = gcons (gnum 6) (gcons (forms_code ps) (truth_code unit))
  form_code (separated c s) = gcons (gnum 7) (gcons (class_code c) (class_code s))
  form_code (empty_none c) = gcons (gnum 8) (class_code c)
  form_code (skip p) = one 5 (form_code p)
  form_code (map_skip k v) = two 4 (form_code k) (form_code v)
  form_code (default p) = one 6 (form_code p)
  form_code (default_null p) = one 7 (form_code p)
  form_code (by_wire h c) = two 5 (form_code h) (form_code c)
  form_code (conv f returns) = gcons (gnum 9) (gcons (facts_code f) (truth_code returns))
  form_code (json_text p) = one 8 (form_code p)

  pub forms_code : Forms → Gv
  forms_code no_forms = gnil
  forms_code (form p ps) = gcons (form_code p) (forms_code ps)

abbrev nothing : Form
nothing = tuple no_forms

abbrev mutual
  form_at : Gv → Form
  form_at gnil = nothing
  form_at (gnum n) = nothing
  form_at (gcons gnil b) = nothing
  form_at (gcons (gcons a c) b) = nothing
  form_at (gcons (gnum zero) b) = leaf (facts_at b)
  form_at (gcons (gnum (suc zero)) gnil) = nothing
  form_at (gcons (gnum (suc zero)) (gnum n)) = nothing
  form_at (gcons (gnum (suc zero)) (gcons a p)) = one_part (num a) (form_at p)
  form_at (gcons (gnum (suc (suc zero))) gnil) = nothing
  form_at (gcons (gnum (suc (suc zero))) (gnum n)) = nothing
  form_at (gcons (gnum (suc (suc zero))) (gcons a gnil)) = nothing
  form_at (gcons (gnum (suc (suc zero))) (gcons a (gnum n))) = nothing
  form_at (gcons (gnum (suc (suc zero))) (gcons a (gcons p q))) = two_parts (num a) (form_at p) (form_at q)
  form_at (gcons (gnum (suc (suc (suc zero)))) gnil) = nothing
  form_at (gcons (gnum (suc (suc (suc zero)))) (gnum n)) = nothing
  form_at (gcons (gnum (suc (suc (suc zero)))) (gcons p ps)) = pick_first (form_at p) (forms_at ps)
  form_at (gcons (gnum (suc (suc (suc (suc zero))))) b) = tuple (forms_at b)
  form_at (gcons (gnum (suc (suc (suc (suc (suc zero)))))) gnil) = nothing
  form_at (gcons (gnum (suc (suc (suc (suc (suc zero)))))) (gnum n)) = nothing
  form_at (gcons (gnum (suc (suc (suc (suc (suc zero)))))) (gcons ps b)) = fields (forms_at ps) (truth_at (first b)) (grade_at (rest b))
  form_at (gcons (gnum (suc (suc (suc (suc (suc (suc zero))))))) gnil) = nothing
  form_at (gcons (gnum (suc (suc (suc (suc (suc (suc zero))))))) (gnum n)) = nothing
  form_at (gcons (gnum (suc (suc (suc (suc (suc (suc zero))))))) (gcons ps b)) = tagged (forms_at ps) (truth_at b)
  form_at (gcons (gnum (suc (suc (suc (suc (suc (suc (suc zero)))))))) b) = separated (class_at (first b)) (class_at (rest b))
  form_at (gcons (gnum (suc (suc (suc (suc (suc (suc (suc (suc zero))))))))) b) = empty_none (class_at b)
  form_at (gcons (gnum (suc (suc (suc (suc (suc (suc (suc (suc (suc n)))))))))) b) = conv (facts_at (first b)) (truth_at (rest b))

  forms_at : Gv → Forms
  forms_at gnil = no_forms
  forms_at (gnum n) = no_forms
  forms_at (gcons a b) = form (form_at a) (forms_at b)

mutual
  form_back : (e : Form) → form_at (form_code e) ≡ e
  form_back (leaf f) = ap leaf (facts_back f)
  form_back (vec p) = ap vec (form_back p)
  form_back (map k v) = λ i. map (form_back k i) (form_back v i)
  form_back (map_set k v) = λ i. map_set (form_back k i) (form_back v i)
  form_back (pick_first p ps) = λ i. pick_first (form_back p i) (forms_back ps i)
  form_back (one_or_many p) = ap one_or_many (form_back p)
  form_back (one_or_many_set p) = ap one_or_many_set (form_back p)
  form_back (option p) = ap option (form_back p)
  form_back (set p) = ap set (form_back p)
  form_back (key_map k v) = λ i. key_map (form_back k i) (form_back v i)
  form_back (pairs k v) = λ i. pairs (form_back k i) (form_back v i)
  form_back (tuple ps) = ap tuple (forms_back ps)
  form_back (fields ps listed g) = λ i. fields (forms_back ps i) (truth_back listed i) (grade_back g i)
  form_back (tagged ps unit) = λ i. tagged (forms_back ps i) (truth_back unit i)
  form_back (separated c s) = λ i. separated (class_back c i) (class_back s i)
  form_back (empty_none c) = ap empty_none (class_back c)
  form_back (skip p) = ap skip (form_back p)
  form_back (map_skip k v) = λ i. map_skip (form_back k i) (form_back v i)
  form_back (default p) = ap default (form_back p)
  form_back (default_null p) = ap default_null (form_back p)
  form_back (by_wire h c) = λ i. by_wire (form_back h i) (form_back c i)
  form_back (conv f returns) = λ i. conv (facts_back f i) (truth_back returns i)
  form_back (json_text p) = ap json_text (form_back p)

  forms_back : (ps : Forms) → forms_at (forms_code ps) ≡ ps
  forms_back no_forms = refl
  forms_back (form p ps) = λ i. form (form_back p i) (forms_back ps i)

pub form_inj : (d e : Form) → form_code d ≡ form_code e → d ≡ e
form_inj d e p = sym (form_back d) ∙ ap form_at p ∙ form_back e

abbrev pub coded_form : Coded Form
coded_form = record { code = form_code; inj = form_inj }
