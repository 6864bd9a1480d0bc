-- What a tree is printed as spells it.
use Rattle.std.specs.Prelude.{Ok}
use Rattle.std.specs.Fmt.{signed_decimal}
use Rattle.std.specs.List.{list_all}
use Rattle.std.proofs.Common.{ℕ, ◌-◌, List, [], ◌∷◌, length, ◌++◌, true, false, codes, ◌≡◌, refl, ap, ◌∙◌, ◌<◌, ltb, arith, suc, ◌+◌, ◌≤◌, sym, subst, IsUtf8}
use Rattle.std.proofs.lemmas.Bool.Decides.{nat_tests}
use Rattle.sw_tree.specs.Tree.{text, Tree, null, truth, int, bytes, list, map, Trees, no_trees, tree, Entries, no_entries, entry, depth, trees_depth, entries_depth}
use Rattle.sw_tree.specs.Faults.{int_of, whole, wholes, whole_entries, level_fault, number_fault, faults, items_faults, entries_faults}
use Rattle.sw_tree.specs.Wires.{SpellsTree}
use Rattle.sw_tree.specs.declared.fail.WireError.{WireError}
use Rattle.sw_tree.specs.Laws.Number.{key_number-signed_decimal}
use Rattle.sw_json.specs.Token.{Quote, Token}
use Rattle.sw_json.specs.Raw.{Raw, RawItems, no_items, item, RawEntries, tokens, items_tokens, more_tokens, entries_tokens, more_entries as more_entries_tokens}
use Rattle.sw_json.specs.Raw as raw
use Rattle.sw_json.specs.Bytes.{is_blank, is_digit, is_number_byte, Stops}
use Rattle.sw_json.specs.Grammar.{skip, IsNumber, Front, Lexes}
use Rattle.sw_json.specs.Shape.{shape_of, items_shape, entries_shape}
use Rattle.sw_json.specs.Text.{escaped, text_of, items_text, more_items, entries_text, more_entries}
use Rattle.sw_json.specs.Images.{IsKey, IsImage, AreImages, AreImageEntries}
use Rattle.sw_json.specs.Spelled.{spells, spelled}
use Rattle.sw_json.specs.Laws.Numbers.{number_bytes, number_length}
use Rattle.sw_json.specs.Laws.Fronts.{and_left}
use Rattle.sw_json.specs.Laws.Completion.{tree_found}
use Rattle.sw_json.specs.Laws.PrintedTexts.{escaped-append, escaped_quoted}
use Rattle.sw_json.specs.Laws.PrintedNumbers.{decimal_number}

-- ---- the raw tree that a text spells, where what follows is given and the bytes end at this offset
abbrev quote : ℕ → List ℕ → List ℕ → Quote
quote end s k = record { at = end - length (34 ∷ escaped s (34 ∷ k)); spelling = escaped s []; text = s }

-- a key, which is a text
abbrev name : ℕ → Tree → List ℕ → Quote
name end (text s) k = quote end s k
name end t k = quote end [] k

abbrev mutual
  located : ℕ → Tree → List ℕ → Raw
  located end null k = raw.null (end - length (codes "null" ++ k))
  located end (truth true) k = raw.truth (end - length (codes "true" ++ k)) true
  located end (truth false) k = raw.truth (end - length (codes "false" ++ k)) false
  located end (int n) k = raw.number (end - length (signed_decimal n ++ k)) (signed_decimal n)
  located end (text s) k = raw.text (quote end s k)
  located end (bytes s) k = raw.null end
  located end (list ts) k = raw.list (end - length (91 ∷ items_text ts k)) (located_items end ts k)
  located end (map es) k = raw.map (end - length (123 ∷ entries_text es k)) (located_entries end es k)

  located_items : ℕ → Trees → List ℕ → RawItems
  located_items end no_trees k = no_items
  located_items end (tree t ts) k = item (located end t (more_items ts k)) (located_items end ts k)

  located_entries : ℕ → Entries → List ℕ → RawEntries
  located_entries end no_entries k = raw.no_entries
  located_entries end (entry key value es) k = raw.entry (name end key (58 ∷ text_of value (more_entries es k))) (located end value (more_entries es k)) (located_entries end es k)

-- ---- it means the tree
name_text : (end : ℕ) (key : Tree) (k : List ℕ) → IsKey key → text (name end key k).text ≡ key
name_text end null k h = absurd h
name_text end (truth b) k h = absurd h
name_text end (int n) k h = absurd h
name_text end (text s) k h = refl
name_text end (bytes s) k h = absurd h
name_text end (list ts) k h = absurd h
name_text end (map es) k h = absurd h

mutual
  whole_located : (end : ℕ) (t : Tree) (k : List ℕ) → IsImage t → whole (shape_of (located end t k)) ≡ t
  whole_located end null k h = refl
  whole_located end (truth true) k h = refl
  whole_located end (truth false) k h = refl
  whole_located end (int n) k h = ap (λ o. int (int_of o)) (key_number-signed_decimal n h)
  whole_located end (text s) k h = refl
  whole_located end (bytes s) k h = absurd h
  whole_located end (list ts) k h = ap list (wholes_located end ts k h)
  whole_located end (map es) k h = ap map (entries_located end es k h)

  wholes_located : (end : ℕ) (ts : Trees) (k : List ℕ) → AreImages ts → wholes (items_shape (located_items end ts k)) ≡ ts
  wholes_located end no_trees k h = refl
  wholes_located end (tree t ts) k h =
      ap (λ x. tree x (wholes (items_shape (located_items end ts k)))) (whole_located end t (more_items ts k) h.0) ∙ ap (tree t) (wholes_located end ts k h.1)

  entries_located : (end : ℕ) (es : Entries) (k : List ℕ) → AreImageEntries es → whole_entries (entries_shape (located_entries end es k)) ≡ es
  entries_located end no_entries k h = refl
  entries_located end (entry key value es) k h =
      let rest = whole_entries (entries_shape (located_entries end es k)) in
      ap (λ x. entry x (whole (shape_of (located end value (more_entries es k)))) rest) (name_text end key (58 ∷ text_of value (more_entries es k)) h.0)
      ∙ ap (λ x. entry key x rest) (whole_located end value (more_entries es k) h.1) ∙ ap (entry key value) (entries_located end es k h.2)

-- ---- it has no faults
open_is : (d at : ℕ) (fs : List WireError) → d < 128 → level_fault d at fs ≡ fs
open_is d at fs h = let e : ltb d 128 ≡ true = grind (arith, nat_tests, h) in rw e refl

mutual
  faultless : (d end : ℕ) (t : Tree) (k : List ℕ) (fs : List WireError) → IsImage t → d + depth t ≤ 128 → faults d (shape_of (located end t k)) fs ≡ fs
  faultless d end null k fs h l = refl
  faultless d end (truth true) k fs h l = refl
  faultless d end (truth false) k fs h l = refl
  faultless d end (int n) k fs h l = ap (λ o. number_fault (end - length (signed_decimal n ++ k)) o fs) (key_number-signed_decimal n h)
  faultless d end (text s) k fs h l = refl
  faultless d end (bytes s) k fs h l = absurd h
  faultless d end (list ts) k fs h l =
      open_is d (end - length (91 ∷ items_text ts k)) (items_faults (suc d) (items_shape (located_items end ts k)) fs) (omega (arith, l))
      ∙ items_faultless (suc d) end ts k fs h (omega (arith, l))
  faultless d end (map es) k fs h l =
      open_is d (end - length (123 ∷ entries_text es k)) (entries_faults (suc d) (entries_shape (located_entries end es k)) fs) (omega (arith, l))
      ∙ entries_faultless (suc d) end es k fs h (omega (arith, l))

  items_faultless : (d end : ℕ) (ts : Trees) (k : List ℕ) (fs : List WireError) → AreImages ts → d + trees_depth ts ≤ 128 → items_faults d (items_shape (located_items end ts k)) fs ≡ fs
  items_faultless d end no_trees k fs h l = refl
  items_faultless d end (tree t ts) k fs h l =
      faultless d end t (more_items ts k) (items_faults d (items_shape (located_items end ts k)) fs) h.0 (omega (arith, l)) ∙ items_faultless d end ts k fs h.1 (omega (arith, l))

  entries_faultless : (d end : ℕ) (es : Entries) (k : List ℕ) (fs : List WireError) → AreImageEntries es → d + entries_depth es ≤ 128 → entries_faults d (entries_shape (located_entries end es k)) fs ≡ fs
  entries_faultless d end no_entries k fs h l = refl
  entries_faultless d end (entry key value es) k fs h l =
      faultless d end value (more_entries es k) (entries_faults d (entries_shape (located_entries end es k)) fs) h.1 (omega (arith, l)) ∙ entries_faultless d end es k fs h.2 (omega (arith, l))

-- ---- what begins no blank
not_blank : (b : ℕ) → is_number_byte b ≡ true → is_blank b ≡ false
unfolding is_number_byte is_digit is_blank
not_blank b h = grind (arith, nat_tests)

unblank : (b : ℕ) (bs : List ℕ) → is_blank b ≡ false → skip (b ∷ bs) ≡ b ∷ bs
unblank b bs h = rw h refl

number_skip : (s k : List ℕ) → IsNumber s → skip (s ++ k) ≡ s ++ k
number_skip [] k h = absurd (omega (arith, number_length [] h))
number_skip (b ∷ bs) k h = unblank b (bs ++ k) (not_blank b (and_left (is_number_byte b) (list_all is_number_byte bs) (number_bytes (b ∷ bs) h)))

-- one token in front of the rest
one : (end : ℕ) (front : List ℕ) (t : Token) (rest : List ℕ) (ts : List Token) → skip front ≡ front → Front (end - length front) front t rest → Lexes end rest ts → Lexes end front (t ∷ ts)
one end front t rest ts s f l = (rest, subst (λ x. Front (end - length x) x t rest) (sym s) f, l)

prints_quote : (end : ℕ) (s k : List ℕ) (ts : List Token) → IsUtf8 s → Lexes end k ts → Lexes end (34 ∷ escaped s (34 ∷ k)) (Token.text (quote end s k) ∷ ts)
unfolding is_blank
prints_quote end s k ts u l = one end (34 ∷ escaped s (34 ∷ k)) (Token.text (quote end s k)) k ts refl (refl, escaped_quoted s u, ap (λ x. 34 ∷ x) (escaped-append s [] (34 ∷ k))) l

prints_name : (end : ℕ) (key : Tree) (k : List ℕ) (ts : List Token) → IsKey key → Lexes end k ts → Lexes end (text_of key k) (Token.text (name end key k) ∷ ts)
prints_name end null k ts h l = absurd h
prints_name end (truth b) k ts h l = absurd h
prints_name end (int n) k ts h l = absurd h
prints_name end (text s) k ts h l = prints_quote end s k ts h l
prints_name end (bytes s) k ts h l = absurd h
prints_name end (list us) k ts h l = absurd h
prints_name end (map es) k ts h l = absurd h

-- no number goes on where it ends
items_stop : (ts : Trees) (k : List ℕ) → Stops is_number_byte (more_items ts k)
unfolding is_number_byte is_digit
items_stop no_trees k = refl
items_stop (tree t ts) k = refl

entries_stop : (es : Entries) (k : List ℕ) → Stops is_number_byte (more_entries es k)
unfolding is_number_byte is_digit
entries_stop no_entries k = refl
entries_stop (entry key value es) k = refl

-- one byte in front of the rest
byte : (end b : ℕ) (t : Token) (rest : List ℕ) (ts : List Token) → is_blank b ≡ false → Front (end - length (b ∷ rest)) (b ∷ rest) t rest → Lexes end rest ts → Lexes end (b ∷ rest) (t ∷ ts)
byte end b t rest ts h f l = one end (b ∷ rest) t rest ts (unblank b rest h) f l

-- a name and its colon
prints_named : (end : ℕ) (key : Tree) (rest : List ℕ) (ts : List Token) → IsKey key → Lexes end rest ts → Lexes end (text_of key (58 ∷ rest)) (Token.text (name end key (58 ∷ rest)) ∷ Token.colon ∷ ts)
unfolding is_blank
prints_named end key rest ts h l = prints_name end key (58 ∷ rest) (Token.colon ∷ ts) h (byte end 58 Token.colon rest ts refl refl l)

mutual
  unfolding is_blank

  prints : (end : ℕ) (t : Tree) (k : List ℕ) (ts : List Token) → IsImage t → Stops is_number_byte k → Lexes end k ts → Lexes end (text_of t k) (tokens (located end t k) ts)
  prints end null k ts h e l = one end (codes "null" ++ k) (Token.null (end - length (codes "null" ++ k))) k ts refl (refl, refl) l
  prints end (truth true) k ts h e l = one end (codes "true" ++ k) (Token.truth (end - length (codes "true" ++ k)) true) k ts refl (refl, refl) l
  prints end (truth false) k ts h e l = one end (codes "false" ++ k) (Token.truth (end - length (codes "false" ++ k)) false) k ts refl (refl, refl) l
  prints end (int n) k ts h e l =
      let s = signed_decimal n in
      let number = decimal_number n h in
      one end (s ++ k) (Token.number (end - length (s ++ k)) s) k ts (number_skip s k number) (refl, number, e, refl) l
  prints end (text s) k ts h e l = prints_quote end s k ts h l
  prints end (bytes s) k ts h e l = absurd h
  prints end (list us) k ts h e l =
      byte end 91 (Token.open_list (end - length (91 ∷ items_text us k))) (items_text us k) (items_tokens (located_items end us k) ts) refl (refl, refl) (prints_items end us k ts h l)
  prints end (map es) k ts h e l =
      byte end 123 (Token.open_map (end - length (123 ∷ entries_text es k))) (entries_text es k) (entries_tokens (located_entries end es k) ts) refl (refl, refl) (prints_entries end es k ts h l)

  prints_items : (end : ℕ) (us : Trees) (k : List ℕ) (ts : List Token) → AreImages us → Lexes end k ts → Lexes end (items_text us k) (items_tokens (located_items end us k) ts)
  prints_items end no_trees k ts h l = byte end 93 Token.close_list k ts refl refl l
  prints_items end (tree t us) k ts h l = prints end t (more_items us k) (more_tokens (located_items end us k) ts) h.0 (items_stop us k) (prints_more_items end us k ts h.1 l)

  prints_more_items : (end : ℕ) (us : Trees) (k : List ℕ) (ts : List Token) → AreImages us → Lexes end k ts → Lexes end (more_items us k) (more_tokens (located_items end us k) ts)
  prints_more_items end no_trees k ts h l = byte end 93 Token.close_list k ts refl refl l
  prints_more_items end (tree t us) k ts h l =
      byte end 44 Token.comma (text_of t (more_items us k)) (tokens (located end t (more_items us k)) (more_tokens (located_items end us k) ts)) refl refl
      (prints end t (more_items us k) (more_tokens (located_items end us k) ts) h.0 (items_stop us k) (prints_more_items end us k ts h.1 l))

  prints_entries : (end : ℕ) (es : Entries) (k : List ℕ) (ts : List Token) → AreImageEntries es → Lexes end k ts → Lexes end (entries_text es k) (entries_tokens (located_entries end es k) ts)
  prints_entries end no_entries k ts h l = byte end 125 Token.close_map k ts refl refl l
  prints_entries end (entry key value es) k ts h l =
      let rest = more_entries es k in
      let after = more_entries_tokens (located_entries end es k) ts in
      prints_named end key (text_of value rest) (tokens (located end value rest) after) h.0 (prints end value rest after h.1 (entries_stop es k) (prints_more_entries end es k ts h.2 l))

  prints_more_entries : (end : ℕ) (es : Entries) (k : List ℕ) (ts : List Token) → AreImageEntries es → Lexes end k ts → Lexes end (more_entries es k) (more_entries_tokens (located_entries end es k) ts)
  prints_more_entries end no_entries k ts h l = byte end 125 Token.close_map k ts refl refl l
  prints_more_entries end (entry key value es) k ts h l =
      let rest = more_entries es k in
      let after = more_entries_tokens (located_entries end es k) ts in
      byte end 44 Token.comma (text_of key (58 ∷ text_of value rest)) (Token.text (name end key (58 ∷ text_of value rest)) ∷ Token.colon ∷ tokens (located end value rest) after) refl refl
      (prints_named end key (text_of value rest) (tokens (located end value rest) after) h.0 (prints end value rest after h.1 (entries_stop es k) (prints_more_entries end es k ts h.2 l)))

-- the bytes that an image is printed as spell it without faults
pub printed_spells : (t : Tree) → IsImage t → depth t ≤ 128 → SpellsTree spells (text_of t []) t
printed_spells t h l =
    let end = 0 + length (text_of t []) in
    record {
      raw = shape_of (located end t []);
      spelled = record { raw = located end t []; spelled = prints end t [] [] h tt refl; shape_is = refl };
      faultless = faultless 0 end t [] [] h (omega (arith, l));
      value_is = sym (whole_located end t [] h);
    }

pub printed_spelled : (t : Tree) → IsImage t → depth t ≤ 128 → spelled (text_of t []) ≡ Ok t
printed_spelled t h l = tree_found (text_of t []) t (printed_spells t h l)
