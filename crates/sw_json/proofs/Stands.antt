-- The reader's loop: what is kept of the bytes so far, and what is left of them.
use Rattle.std.proofs.Common.{◌≡◌, ◌≤◌, ◌<◌, ◌^◌, ℕ, zero, suc, ◌+◌, ◌-◌, sub-one, List, [], ◌∷◌, ◌++◌, append_assoc, length, length-append, take, drop, take_at, drop_at, Option, Some, None, true, false, eqb, refl, ap, sym, subst, ◌∙◌, arith}
use Rattle.std.specs.Prelude.{slice_range, Result, Ok, Err, is_some, option_map, codes}
use Rattle.std.specs.Option.{option_or}
use Rattle.std.proofs.lemmas.Bool.Decides.{nat_tests}
use Rattle.std.proofs.lemmas.List.{nil_from_length}
use Rattle.sw_tree.specs.Laws.Wires.{judged_first}
use Rattle.sw_tree.specs.Laws.Options.{some_is, map_some}
use Rattle.sw_tree.specs.Tree.{Tree}
use Rattle.sw_tree.specs.Builder.{Built}
use Rattle.sw_tree.specs.Wires.{IsFound}
use Rattle.sw_tree.specs.declared.fail.WireError.{WireError}
use Rattle.sw_tree.specs.declared.fail.WireError.TheVariants as wire
use Rattle.sw_json.specs.Token.{Token}
use Rattle.sw_json.specs.Raw.{Raw}
use Rattle.sw_json.specs.Bytes.{front, is_blank}
use Rattle.sw_json.specs.Grammar.{skip, Front}
use Rattle.sw_json.specs.Lexing.{is_empty, lexeme, next_token}
use Rattle.sw_json.specs.Machine.{State, value, step, root}
use Rattle.sw_json.specs.Inner.Place.{place_step, place_end, Leads}
use Rattle.sw_tree.specs.Faults.{first, judged_by}
use Rattle.sw_json.specs.Inner.Building.{effect, fault_of, Fits, CanBuild, Builds}
use Rattle.sw_json.specs.Spelled.{HasEscaped, completed, raw_of, judged, spelled}
use Rattle.sw_json.specs.declared.place.Place.{Place}
use Rattle.sw_json.specs.declared.place.Place.TheVariants.{Value}
use Rattle.sw_json.specs.declared.place.Open.{Open}
use Rattle.sw_json.specs.Laws.Fronts.{split}
use Rattle.sw_json.specs.Laws.Lexemes.{taken}
use Rattle.sw_json.proofs.Completion as incompletion
use Rattle.sw_json.specs.Laws.Completion as completion
use Rattle.sw_json.proofs.Standing.{is_none, shape, shape_is, no_end, is_end, depth_of, depth_is, built, levels, input_is, root_side, no_root, list_can_close, map_can_close, root_built, built_step, faults, whole, IsFirst, first_step, root_first}

-- The state that the bytes so far lead to, of which the code keeps the place, what is open, the first fault, and as long as there is none what is built.
-- All bytes spell what the state is completed to by what is left.
pub record Stands (bytes : List ℕ) (place : Place) (opens : List Open) (fault : Option WireError) (b : Built) (rest : List ℕ) : Type 0 where
  pub state : State
  pub shape_at : shape state ≡ (place, opens)
  pub leads : IsFirst state fault
  pub built_is : fault ≡ None → b ≡ built bytes state
  pub read : List ℕ
  pub parts : bytes ≡ read ++ rest
  pub fuel : ℕ
  pub enough : length rest ≤ fuel
  pub spells : raw_of 0 bytes ≡ completed fuel (0 + length bytes) state rest

pub at_start : (bytes : List ℕ) → Stands bytes Value [] None (record { input = bytes; side_len = 0; frames = []; root = None }) bytes
at_start bytes = record {
  state = value [];
  shape_at = refl;
  leads = record { leads = λ k. refl };
  built_is = λ e. refl;
  read = [];
  parts = refl;
  fuel = length bytes;
  enough = omega arith;
  spells = incompletion.at_start bytes;
}

-- ---- what the code sees

-- the token that was found there
pub token_next : {A : Type 0} (end : ℕ) (rest ahead : List ℕ) (o : Option A) (g : ℕ → A → Token × List ℕ) (x : A) → ahead ≡ skip rest → ((at : ℕ) → option_map (g at) o ≡ lexeme at ahead) → o ≡ Some x
    → next_token end rest ≡ Some (g (end - length (skip rest)) x)
token_next end rest ahead o g x e h is =
    sym (ap (option_map (g (end - length (skip rest)))) (sym is) ∙ h (end - length (skip rest)) ∙ ap (lexeme (end - length (skip rest))) e)

pub none_next : {A : Type 0} (end : ℕ) (rest ahead : List ℕ) (o : Option A) (g : ℕ → A → Token × List ℕ) → ahead ≡ skip rest → ((at : ℕ) → option_map (g at) o ≡ lexeme at ahead) → o ≡ None → next_token end rest ≡ None
none_next end rest ahead o g e h is =
    sym (ap (option_map (g (end - length (skip rest)))) (sym is) ∙ h (end - length (skip rest)) ∙ ap (lexeme (end - length (skip rest))) e)

pub leads_none : (x : Option (Place × List Open)) (os : List Open) (o : Option Place) → Leads x os o → o ≡ None → x ≡ None
leads_none x os None h e = h
leads_none x os (Some p) h e = cc

pub leads_some : (x : Option (Place × List Open)) (os : List Open) (o : Option Place) (p : Place) → Leads x os o → o ≡ Some p → x ≡ Some (p, os)
leads_some x os None p h e = cc
leads_some x os (Some q) p h e = h ∙ ap (λ y. Some (y, os)) (some_is e)

is_zero : (n : ℕ) → true ≡ eqb n 0 → n ≡ 0
is_zero n h = grind (arith, nat_tests)

pub nothing_left : (rest ahead : List ℕ) → ahead ≡ skip rest → true ≡ eqb (length ahead) 0 → skip rest ≡ []
nothing_left rest ahead e h = sym e ∙ nil_from_length ahead (is_zero (length ahead) h)

isnt_nil : (xs : List ℕ) → false ≡ eqb (length xs) 0 → is_empty xs ≡ false
isnt_nil [] h = cc
isnt_nil (x ∷ xs) h = refl

pub some_left : (rest ahead : List ℕ) → ahead ≡ skip rest → false ≡ eqb (length ahead) 0 → is_empty (skip rest) ≡ false
some_left rest ahead e h = sym (ap is_empty e) ∙ isnt_nil ahead h

-- ---- where a token stands

front_read : (off : ℕ) (bytes : List ℕ) (t : Token) (rest : List ℕ) → Front off bytes t rest → (s : List ℕ) × (bytes ≡ s ++ rest)
front_read off bytes (Token.null at) rest h = (codes "null", h.1)
front_read off bytes (Token.truth at true) rest h = (codes "true", h.1)
front_read off bytes (Token.truth at false) rest h = (codes "false", h.1)
front_read off bytes (Token.number at s) rest h = (s, h.3)
front_read off bytes (Token.text q) rest h = (34 ∷ q.spelling ++ 34 ∷ [], h.2 ∙ ap (λ x. 34 ∷ x) (sym (append_assoc q.spelling (34 ∷ []) rest)))
front_read off bytes (Token.open_list at) rest h = (codes "[", h.1)
front_read off bytes Token.close_list rest h = (codes "]", h)
front_read off bytes (Token.open_map at) rest h = (codes "{", h.1)
front_read off bytes Token.close_map rest h = (codes "}", h)
front_read off bytes Token.comma rest h = (codes ",", h)
front_read off bytes Token.colon rest h = (codes ":", h)

between : (before s behind : List ℕ) (q at : ℕ) → at ≡ length before → slice_range (before ++ (q ∷ s ++ behind)) (at + 1) (at + 1 + length s) ≡ s
between before s behind q at e =
    let k : length (before ++ q ∷ []) ≡ at + 1 = omega (arith, length-append before (q ∷ []), e) in
    let n : at + 1 + length s - (at + 1) ≡ length s = omega arith in
    rw n (ap (λ (x : List ℕ). take (length s) (drop (at + 1) x)) (sym (append_assoc before (q ∷ []) (s ++ behind)))
    ∙ ap (take (length s)) (drop_at (before ++ q ∷ []) (s ++ behind) (at + 1) k)
    ∙ take_at s behind (length s) refl)

quoted : (bytes before ahead s rest : List ℕ) (at : ℕ) (b : Built) → b.input ≡ bytes → bytes ≡ before ++ ahead → ahead ≡ 34 ∷ s ++ 34 ∷ rest → at ≡ length before → length bytes < 2 ^ 64
    → slice_range b.input (at + 1) (at + 1 + length s) ≡ s
quoted bytes before ahead s rest at b i e h a n =
    ap (λ (x : List ℕ). slice_range x (at + 1) (at + 1 + length s)) (i ∙ e ∙ ap (λ (x : List ℕ). before ++ x) h) ∙ between before s (34 ∷ rest) 34 at a

quoted_fits : (bytes before ahead s rest : List ℕ) (at : ℕ) → bytes ≡ before ++ ahead → ahead ≡ 34 ∷ s ++ 34 ∷ rest → at ≡ length before → at + 1 + length s ≤ length bytes
quoted_fits bytes before ahead s rest at e h a =
    omega (arith, ap length e, length-append before ahead, ap length h, length-append s (34 ∷ rest), a)

fits_at : (bytes before ahead rest : List ℕ) (off : ℕ) (s next : State) (t : Token) → bytes ≡ before ++ ahead → off ≡ length before → length bytes < 2 ^ 64
    → Front off ahead t rest → step s t ≡ Some next → Fits t (built bytes s)
fits_at bytes before ahead rest off s next (Token.text q) e o n f h =
    let inside = quoted_fits bytes before ahead q.spelling rest q.at e f.2 (f.0 ∙ o) in
    record {
      room = omega arith;
      inside = rw (input_is bytes s) inside;
      part = quoted bytes before ahead q.spelling rest q.at (built bytes s) (input_is bytes s) e f.2 (f.0 ∙ o) n;
      utf8 = f.1.is_text;
    }
fits_at bytes before ahead rest off s next Token.close_list e o n f h = list_can_close bytes s next h
fits_at bytes before ahead rest off s next Token.close_map e o n f h = map_can_close bytes s next h
fits_at bytes before ahead rest off s next t e o n f h = tt

-- ---- one turn

one_more : (n end : ℕ) (s next : State) (bytes : List ℕ) (y : Token × List ℕ) → length bytes ≤ n → next_token end bytes ≡ Some y → step s y.0 ≡ Some next → completed n end s bytes ≡ completed (n - 1) end next y.1
one_more zero end s next bytes y k h e = absurd (omega (arith, completion.shorter end bytes y h))
one_more (suc n) end s next bytes y k h e = rw sub-one (incompletion.one_more n end s next bytes y h e)

refused : (n end : ℕ) (s : State) (bytes : List ℕ) (y : Token × List ℕ) → length bytes ≤ n → next_token end bytes ≡ Some y → step s y.0 ≡ None → completed n end s bytes ≡ None
refused zero end s bytes y k h e = absurd (omega (arith, completion.shorter end bytes y h))
refused (suc n) end s bytes y k h e = incompletion.refused n end s bytes y h e

pub none_judged : (bytes : List ℕ) → raw_of 0 bytes ≡ None → spelled bytes ≡ Err wire.Syntax
unfolding spelled
none_judged bytes h = ap judged h

some_judged : (bytes : List ℕ) (r : Raw) → raw_of 0 bytes ≡ Some r → spelled bytes ≡ judged_by (faults 0 r []) (whole r)
unfolding spelled
some_judged bytes r h = ap judged h

judged_good : (fs : List WireError) (t : Tree) → first fs ≡ None → judged_by fs t ≡ Ok t
judged_good [] t h = refl
judged_good (g ∷ fs) t h = cc

no_fault : (a b : Option WireError) → option_or a b ≡ None → a ≡ None
no_fault None b h = refl
no_fault (Some f) b h = cc

module _ (bytes : List ℕ) (place : Place) (opens : List Open) (fault : Option WireError) (b : Built) (rest : List ℕ) (was : Stands bytes place opens fault b rest) where
  same_step : (t : Token) → place_step (shape was.state).0 (shape was.state).1 t ≡ place_step place opens t
  same_step t = ap (λ (x : Place × List Open). place_step x.0 x.1 t) was.shape_at

  same_end : place_end (shape was.state).0 (shape was.state).1 ≡ place_end place opens
  same_end = ap (λ (x : Place × List Open). place_end x.0 x.1) was.shape_at

  depth_at : depth_of was.state ≡ length opens
  depth_at = sym (depth_is was.state) ∙ ap (λ (x : Place × List Open). length x.1) was.shape_at

  stepped : (t : Token) (next : Place) (later : List Open) → place_step place opens t ≡ Some (next, later) → (n : State) × (step was.state t ≡ Some n) × (shape n ≡ (next, later))
  stepped t next later e = map_some shape (step was.state t) (next, later) (shape_is was.state t ∙ same_step t ∙ e)

  -- the bytes up to the token
  before : List ℕ
  before = was.read ++ front is_blank rest

  before_ahead : bytes ≡ before ++ skip rest
  unfolding before
  before_ahead = was.parts ∙ ap (λ (x : List ℕ). was.read ++ x) (split is_blank rest) ∙ sym (append_assoc was.read (front is_blank rest) (skip rest))

  offset : 0 + length bytes - length (skip rest) ≡ length before
  offset = omega (arith, ap length before_ahead, length-append before (skip rest))

  -- what is left begins inside
  pub ahead_inside : length (skip rest) ≤ length bytes
  ahead_inside = omega (arith, ap length before_ahead, length-append before (skip rest))

  pub can_build : (t : Token) (behind : List ℕ) (next : Place) (later : List Open) → next_token (0 + length bytes) rest ≡ Some (t, behind) → place_step place opens t ≡ Some (next, later) → length bytes < 2 ^ 64 → fault ≡ None
      → CanBuild (length opens) t b
  can_build t behind next later h e n z =
      let s = stepped t next later e in
      let f = taken (0 + length bytes - length (skip rest)) (skip rest) (t, behind) h in
      subst (λ (x : Built). CanBuild (length opens) t x) (sym (was.built_is z)) (record {
        no_root = no_root bytes was.state t s.0 s.1;
        levels = levels bytes was.state ∙ depth_at;
        fits = fits_at bytes before (skip rest) behind (0 + length bytes - length (skip rest)) was.state s.0 t before_ahead offset n f s.1;
      })

  pub turn : (t : Token) (behind : List ℕ) (next : Place) (later : List Open) (found : Option WireError) (c : Built) → next_token (0 + length bytes) rest ≡ Some (t, behind) → place_step place opens t ≡ Some (next, later)
      → Builds fault found (length opens) t b c → Stands bytes next later found c behind
  turn t behind next later found c h e k =
      let s = stepped t next later e in
      let f = front_read (0 + length bytes - length (skip rest)) (skip rest) t behind (taken (0 + length bytes - length (skip rest)) (skip rest) (t, behind) h) in
      let less = completion.shorter (0 + length bytes) rest (t, behind) h in
      record {
        state = s.0;
        shape_at = s.2;
        leads = subst (λ (x : Option WireError). IsFirst s.0 x) (sym k.fault) (first_step was.state t s.0 (length opens) fault s.1 depth_at was.leads);
        built_is = λ z. k.built z ∙ ap (effect t) (was.built_is (no_fault fault (fault_of (length opens) t) (sym k.fault ∙ z))) ∙ sym (built_step bytes was.state t s.0 s.1);
        read = before ++ f.0;
        parts = before_ahead ∙ ap (λ (x : List ℕ). before ++ x) f.1 ∙ sym (append_assoc before f.0 behind);
        fuel = was.fuel - 1;
        enough = omega (arith, less, was.enough);
        spells = was.spells ∙ one_more was.fuel (0 + length bytes) was.state s.0 rest (t, behind) was.enough h s.1;
      }

  pub cant_come : (t : Token) (behind : List ℕ) → next_token (0 + length bytes) rest ≡ Some (t, behind) → place_step place opens t ≡ None → raw_of 0 bytes ≡ None
  cant_come t behind h e = was.spells ∙ refused was.fuel (0 + length bytes) was.state rest (t, behind) was.enough h (is_none shape (step was.state t) (shape_is was.state t ∙ same_step t ∙ e))

  pub no_lexeme : next_token (0 + length bytes) rest ≡ None → is_empty (skip rest) ≡ false → raw_of 0 bytes ≡ None
  no_lexeme h e = was.spells ∙ incompletion.stuck was.fuel (0 + length bytes) was.state rest h e

  pub not_end : skip rest ≡ [] → place_end place opens ≡ false → raw_of 0 bytes ≡ None
  not_end h e = was.spells ∙ incompletion.ended was.fuel (0 + length bytes) was.state rest h ∙ no_end was.state (same_end ∙ e)

  finished : skip rest ≡ [] → place_end place opens ≡ true → (r : Raw) × (raw_of 0 bytes ≡ Some r) × (root was.state ≡ Some r)
  finished h e = let n = is_end was.state (same_end ∙ e) in (n.0, was.spells ∙ incompletion.ended was.fuel (0 + length bytes) was.state rest h ∙ n.1, n.1)

  pub faulty : (f : WireError) → skip rest ≡ [] → place_end place opens ≡ true → fault ≡ Some f → spelled bytes ≡ Err f
  faulty f h e z =
      let n = finished h e in
      some_judged bytes n.0 n.1 ∙ judged_first (faults 0 n.0 []) (whole n.0) f (root_first was.state n.0 fault n.2 was.leads ∙ z)

  pub good : skip rest ≡ [] → place_end place opens ≡ true → fault ≡ None → (t : Tree) × (spelled bytes ≡ Ok t) × (b.root ≡ Some t) × HasEscaped bytes b.side_len
  good h e z =
      let n = finished h e in (
        whole n.0,
        some_judged bytes n.0 n.1 ∙ judged_good (faults 0 n.0 []) (whole n.0) (root_first was.state n.0 fault n.2 was.leads ∙ z),
        ap (λ (x : Built). x.root) (was.built_is z) ∙ root_built bytes was.state n.0 n.2,
        record {
          raw = n.0;
          spelled = completion.raw_spelled 0 bytes n.0 n.1;
          length_is = ap (λ (x : Built). x.side_len) (was.built_is z) ∙ root_side bytes was.state n.0 n.2;
        },
      )

pub root_some : (o : Option Tree) (t : Tree) → o ≡ Some t → is_some o ≡ true
root_some o t e = rw e refl

pub found_err : (e : WireError) (r : Result Tree WireError) → r ≡ Err e → IsFound (Err e) r
found_err wire.Syntax r h = h
found_err (wire.NotWhole at) r h = h
found_err (wire.TooDeep at) r h = h
found_err wire.Memory r h = tt
