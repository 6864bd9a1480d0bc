-- A tree has no such node exactly where its keys are all texts and it has no byte string.
use Rattle.std.specs.Prelude.{◌≡◌, ℕ, Option, Some, None, is_none, ◌&&◌, true}
use Rattle.std.specs.Option.{option_or}
use Rattle.std.proofs.Common.{refl, sym, ◌∙◌, ap}
use Rattle.sw_tree.specs.Tree.{Tree, null, truth, int, text, bytes, list, map, Trees, no_trees, tree, Entries, no_entries, entry, size}
use Rattle.sw_tree.specs.Foreign.{Foreign, further, is_text, foreign_key, is_plain, are_plain, are_plain_keyed, foreign, foreign_items, foreign_entries}

none_further : (k : ℕ) (o : Option Foreign) → is_none (further k o) ≡ is_none o
none_further k None = refl
none_further k (Some f) = refl

none_or : (a b : Option Foreign) → is_none (option_or a b) ≡ (is_none a && is_none b)
none_or None b = refl
none_or (Some f) b = refl

text_key : (k : Tree) → is_text k ≡ is_none (foreign_key k)
text_key (text s) = refl
text_key null = refl
text_key (truth b) = refl
text_key (int n) = refl
text_key (bytes s) = refl
text_key (list ts) = refl
text_key (map es) = refl

mutual
  pub plain_foreign : (t : Tree) → is_plain t ≡ is_none (foreign t)
  plain_foreign null = refl
  plain_foreign (truth b) = refl
  plain_foreign (int n) = refl
  plain_foreign (text s) = refl
  plain_foreign (bytes s) = refl
  plain_foreign (list ts) = plain_foreign_items ts ∙ sym (none_further 1 (foreign_items ts))
  plain_foreign (map es) = plain_foreign_entries es ∙ sym (none_further 1 (foreign_entries es))

  plain_foreign_items : (ts : Trees) → are_plain ts ≡ is_none (foreign_items ts)
  plain_foreign_items no_trees = refl
  plain_foreign_items (tree t ts) =
      let behind = further (size t) (foreign_items ts) in
      (λ j. plain_foreign t j && (plain_foreign_items ts ∙ sym (none_further (size t) (foreign_items ts))) j) ∙ sym (none_or (foreign t) behind)

  plain_foreign_entries : (es : Entries) → are_plain_keyed es ≡ is_none (foreign_entries es)
  plain_foreign_entries no_entries = refl
  plain_foreign_entries (entry k v es) =
      let behind = further (size v) (foreign_entries es) in
      let values : (is_plain v && are_plain_keyed es) ≡ is_none (further (size k) (option_or (foreign v) behind)) =
      (λ j. plain_foreign v j && (plain_foreign_entries es ∙ sym (none_further (size v) (foreign_entries es))) j)
      ∙ sym (none_or (foreign v) behind)
      ∙ sym (none_further (size k) (option_or (foreign v) behind)) in
      (λ j. text_key k j && values j) ∙ sym (none_or (foreign_key k) (further (size k) (option_or (foreign v) behind)))

pub none_foreign : (t : Tree) → foreign t ≡ None → is_plain t ≡ true
none_foreign t p = plain_foreign t ∙ ap is_none p
