-- How the logic stores a schema.
use Rattle.std.specs.Prelude.{◌≡◌, ℕ, zero, suc, ℤ, pos, negsuc, List, [], ◌∷◌, Option, Some, None, Bool}
use Rattle.std.proofs.Common.{refl, ap, sym, ◌∙◌}
use Rattle.std.specs.Coded.{coded×, coded_list, coded_ℕ, coded_bool, code_by}
use base.Stored.{Gv, gnil, gnum, gcons, num, Coded}
use Rattle.sw_tree.specs.Inner.KindsCode.{first, rest, truth_code, truth_at, truth_back}
use Rattle.sw_schema.specs.declared.pattern.Pattern.{Pattern}
use Rattle.sw_schema.specs.declared.pattern.Pattern.TheVariants as pattern
use Rattle.sw_schema.specs.Field.{Field}
use Rattle.sw_schema.specs.Schema.{Schema, Schemas, Fields, any, null, boolean, integer, number, text, constant, array, tuple, object, fields, any_of, one_of, write_only, no_schemas, schema, no_fields, field}

abbrev text_code : List ℕ → Gv
text_code [] = gnil
text_code (b ∷ bs) = gcons (gnum b) (text_code bs)

abbrev text_at : Gv → List ℕ
text_at gnil = []
text_at (gnum n) = []
text_at (gcons a b) = num a ∷ text_at b

text_back : (s : List ℕ) → text_at (text_code s) ≡ s
text_back [] = refl
text_back (b ∷ bs) = ap (λ r. b ∷ r) (text_back bs)

abbrev bound_code : Option ℤ → Gv
bound_code None = gnil
bound_code (Some (pos n)) = gcons (gnum 0) (gnum n)
bound_code (Some (negsuc n)) = gcons (gnum 1) (gnum n)

abbrev signed_at : ℕ → ℕ → ℤ
signed_at zero n = pos n
signed_at (suc k) n = negsuc n

abbrev bound_at : Gv → Option ℤ
bound_at gnil = None
bound_at (gnum n) = None
bound_at (gcons a b) = Some (signed_at (num a) (num b))

bound_back : (o : Option ℤ) → bound_at (bound_code o) ≡ o
bound_back None = refl
bound_back (Some (pos n)) = refl
bound_back (Some (negsuc n)) = refl

abbrev length_code : Option ℕ → Gv
length_code None = gnil
length_code (Some n) = gnum n

abbrev length_at : Gv → Option ℕ
length_at gnil = None
length_at (gnum n) = Some n
length_at (gcons a b) = None

length_back : (o : Option ℕ) → length_at (length_code o) ≡ o
length_back None = refl
length_back (Some n) = refl

abbrev pattern_code : Option Pattern → Gv
pattern_code None = gnil
pattern_code (Some pattern.Hex) = gnum 0
pattern_code (Some pattern.Time) = gnum 1
pattern_code (Some pattern.SignedTime) = gnum 2

abbrev pattern_at : Gv → Option Pattern
pattern_at gnil = None
pattern_at (gnum zero) = Some pattern.Hex
pattern_at (gnum (suc zero)) = Some pattern.Time
pattern_at (gnum (suc (suc n))) = Some pattern.SignedTime
pattern_at (gcons a b) = None

pattern_back : (o : Option Pattern) → pattern_at (pattern_code o) ≡ o
pattern_back None = refl
pattern_back (Some pattern.Hex) = refl
pattern_back (Some pattern.Time) = refl
pattern_back (Some pattern.SignedTime) = refl

-- a schema is stored as its form's number and what is no part of it, before its parts
abbrev head : ℕ → Gv → Gv
head n d = gcons (gnum n) d

abbrev mutual
  pub schema_code : Schema → Gv
  schema_code any = gcons (head 0 gnil) gnil
  schema_code null = gcons (head 1 gnil) gnil
  schema_code boolean = gcons (head 2 gnil) gnil
  schema_code (integer low high) = gcons (head 3 (gcons (bound_code low) (bound_code high))) gnil
  schema_code (number low w) = gcons (head 4 (gcons (bound_code low) (truth_code w))) gnil
  schema_code (text p b w) = gcons (head 5 (gcons (pattern_code p) (gcons (truth_code b) (truth_code w)))) gnil
  schema_code (constant s) = gcons (head 6 (text_code s)) gnil
  schema_code (array s least most u) = gcons (head 7 (gcons (length_code least) (gcons (length_code most) (truth_code u)))) (schema_code s)
  schema_code (tuple ss) = gcons (head 8 gnil) (schemas_code ss)
  schema_code (object s) = gcons (head 9 gnil) (schema_code s)
  schema_code (fields fs) = gcons (head 10 gnil) (fields_code fs)
  schema_code (any_of ss) = gcons (head 11 gnil) (schemas_code ss)
  schema_code (one_of ss) = gcons (head 12 gnil) (schemas_code ss)
  schema_code (write_only s) = gcons (head 13 gnil) (schema_code s)

  pub schemas_code : Schemas → Gv
  schemas_code no_schemas = gnil
  schemas_code (schema s ss) = gcons (schema_code s) (schemas_code ss)

  pub fields_code : Fields → Gv
  fields_code no_fields = gnil
  fields_code (field n s r fs) = gcons (gcons (gcons (text_code n) (truth_code r)) (schema_code s)) (fields_code fs)

-- the form of that number
abbrev built : ℕ → Gv → Schema → Schemas → Fields → Schema
built zero d s ss fs = any
built (suc zero) d s ss fs = null
built (suc (suc zero)) d s ss fs = boolean
built (suc (suc (suc zero))) d s ss fs = integer (bound_at (first d)) (bound_at (rest d))
built (suc (suc (suc (suc zero)))) d s ss fs = number (bound_at (first d)) (truth_at (rest d))
built (suc (suc (suc (suc (suc zero))))) d s ss fs = text (pattern_at (first d)) (truth_at (first (rest d))) (truth_at (rest (rest d)))
built (suc (suc (suc (suc (suc (suc zero)))))) d s ss fs = constant (text_at d)
built (suc (suc (suc (suc (suc (suc (suc zero))))))) d s ss fs = array s (length_at (first d)) (length_at (first (rest d))) (truth_at (rest (rest d)))
built (suc (suc (suc (suc (suc (suc (suc (suc zero)))))))) d s ss fs = tuple ss
built (suc (suc (suc (suc (suc (suc (suc (suc (suc zero))))))))) d s ss fs = object s
built (suc (suc (suc (suc (suc (suc (suc (suc (suc (suc zero)))))))))) d s ss fs = fields fs
built (suc (suc (suc (suc (suc (suc (suc (suc (suc (suc (suc zero))))))))))) d s ss fs = any_of ss
built (suc (suc (suc (suc (suc (suc (suc (suc (suc (suc (suc (suc zero)))))))))))) d s ss fs = one_of ss
built (suc (suc (suc (suc (suc (suc (suc (suc (suc (suc (suc (suc (suc n))))))))))))) d s ss fs = write_only s

abbrev mutual
  schema_at : Gv → Schema
  schema_at gnil = any
  schema_at (gnum n) = any
  schema_at (gcons h b) = built (num (first h)) (rest h) (schema_at b) (schemas_at b) (fields_at b)

  schemas_at : Gv → Schemas
  schemas_at gnil = no_schemas
  schemas_at (gnum n) = no_schemas
  schemas_at (gcons a b) = schema (schema_at a) (schemas_at b)

  fields_at : Gv → Fields
  fields_at gnil = no_fields
  fields_at (gnum n) = no_fields
  fields_at (gcons gnil b) = no_fields
  fields_at (gcons (gnum n) b) = no_fields
  fields_at (gcons (gcons h c) b) = field (text_at (first h)) (schema_at c) (truth_at (rest h)) (fields_at b)

mutual
  schema_back : (s : Schema) → schema_at (schema_code s) ≡ s
  schema_back any = refl
  schema_back null = refl
  schema_back boolean = refl
  schema_back (integer low high) = λ i. integer (bound_back low i) (bound_back high i)
  schema_back (number low w) = λ i. number (bound_back low i) (truth_back w i)
  schema_back (text p b w) = λ i. text (pattern_back p i) (truth_back b i) (truth_back w i)
  schema_back (constant s) = ap constant (text_back s)
  schema_back (array s least most u) = λ i. array (schema_back s i) (length_back least i) (length_back most i) (truth_back u i)
  schema_back (tuple ss) = ap tuple (schemas_back ss)
  schema_back (object s) = ap object (schema_back s)
  schema_back (fields fs) = ap fields (fields_back fs)
  schema_back (any_of ss) = ap any_of (schemas_back ss)
  schema_back (one_of ss) = ap one_of (schemas_back ss)
  schema_back (write_only s) = ap write_only (schema_back s)

  schemas_back : (ss : Schemas) → schemas_at (schemas_code ss) ≡ ss
  schemas_back no_schemas = refl
  schemas_back (schema s ss) = λ i. schema (schema_back s i) (schemas_back ss i)

  fields_back : (fs : Fields) → fields_at (fields_code fs) ≡ fs
  fields_back no_fields = refl
  fields_back (field n s r fs) = λ i. field (text_back n i) (schema_back s i) (truth_back r i) (fields_back fs i)

pub schema_inj : (r s : Schema) → schema_code r ≡ schema_code s → r ≡ s
schema_inj r s p = sym (schema_back r) ∙ ap schema_at p ∙ schema_back s

abbrev pub coded_schema : Coded Schema
coded_schema = record { code = schema_code; inj = schema_inj }

abbrev pub coded_field : Coded Field
coded_field = code_by (List ℕ × (Schema × Bool)) (coded× (coded_list coded_ℕ) (coded× coded_schema coded_bool)) (λ f. (f.name, (f.schema, f.required))) (λ p. record { name = p.0; schema = p.1.0; required = p.1.1 }) (λ _. refl)
