-- The one compact JSON text of a tree, by RFC 8259, with no whitespace.
--
-- Each definition takes what follows the text as its last argument.
use Rattle.std.specs.Prelude.{ℕ, ◌/◌, ◌%◌, List, [], ◌∷◌, ◌++◌, ◌==◌, nat_lt, if◌then◌else◌, codes, true, false, Option}
use Rattle.std.specs.Char.{digit_char}
use Rattle.std.specs.Fmt.{signed_decimal}
use Rattle.sw_tree.specs.Tree.{Tree, null, truth, int, text, bytes, list, map, Trees, no_trees, tree, Entries, no_entries, entry}
use Rattle.sw_tree.specs.Wires.{Texts, printed}
use Rattle.sw_tree.specs.declared.mode.WireKind.TheVariants.{Json}

-- section 7: a byte of a text, as it stands between the quotes
unfoldable pub escape_of : ℕ → List ℕ
escape_of b =
    if b == 34 then codes "\\\"" else
    (if b == 92 then codes "\\\\" else
    (if b == 8 then codes "\\b" else
    (if b == 12 then codes "\\f" else
    (if b == 10 then codes "\\n" else
    (if b == 13 then codes "\\r" else
    (if b == 9 then codes "\\t" else
    (if nat_lt b 32 then codes "\\u00" ++ digit_char (b / 16) ∷ digit_char (b % 16) ∷ [] else
    b ∷ [])))))))

-- section 7: the bytes of a text, as they stand between the quotes
abbrev pub escaped : List ℕ → List ℕ → List ℕ
escaped [] k = k
escaped (b ∷ bs) k = escape_of b ++ escaped bs k

abbrev mutual
  -- sections 3 and 6: a value. No image is a byte string
  pub text_of : Tree → List ℕ → List ℕ
  text_of null k = codes "null" ++ k
  text_of (truth true) k = codes "true" ++ k
  text_of (truth false) k = codes "false" ++ k
  text_of (int n) k = signed_decimal n ++ k
  text_of (text s) k = 34 ∷ escaped s (34 ∷ k)
  text_of (bytes s) k = k
  text_of (list ts) k = 91 ∷ items_text ts k
  text_of (map es) k = 123 ∷ entries_text es k

  -- section 5: the items of a list, up to its bracket
  pub items_text : Trees → List ℕ → List ℕ
  items_text no_trees k = 93 ∷ k
  items_text (tree t ts) k = text_of t (more_items ts k)

  pub more_items : Trees → List ℕ → List ℕ
  more_items no_trees k = 93 ∷ k
  more_items (tree t ts) k = 44 ∷ text_of t (more_items ts k)

  -- section 4: the entries of a map, up to its brace
  pub entries_text : Entries → List ℕ → List ℕ
  entries_text no_entries k = 125 ∷ k
  entries_text (entry key value es) k = text_of key (58 ∷ text_of value (more_entries es k))

  pub more_entries : Entries → List ℕ → List ℕ
  more_entries no_entries k = 125 ∷ k
  more_entries (entry key value es) k = 44 ∷ text_of key (58 ∷ text_of value (more_entries es k))

-- the one text of an image
abbrev pub image_text : Texts
image_text i = text_of i []

-- what a tree prints as: the text of its image, where it has one
abbrev pub json_text : Tree → Option (List ℕ)
json_text t = printed Json image_text t
