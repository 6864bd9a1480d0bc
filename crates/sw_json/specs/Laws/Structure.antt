-- The machine makes a tree of exactly its tokens.
use Rattle.std.proofs.Common.{◌≡◌, refl, ap, ℕ, List, ◌∷◌, ◌∙◌, [], Some, sym}
use Rattle.sw_tree.specs.Laws.Options.{some_is, none_some, bind_some}
use Rattle.sw_json.specs.Token.{Quote, Token}
use Rattle.sw_json.specs.Raw.{RawItems, no_items, item, Raw, RawEntries, no_entries, entry, tokens, items_tokens, more_tokens, entries_tokens, more_entries}
use Rattle.sw_json.specs.Raw as raw
use Rattle.sw_json.specs.Machine.{push, enter, Level, in_list, value, fresh_list, run, in_map, fresh_map, after, colon, State, name, step_value, step_fresh_list, step_name, step_fresh_map, step_colon, step_after, step, root}

abbrev append : RawItems → RawItems → RawItems
append no_items rs = rs
append (item q qs) rs = item q (append qs rs)

append-push : (a : RawItems) (r : Raw) (c : RawItems) → append (push a r) c ≡ append a (item r c)
append-push no_items r c = refl
append-push (item q qs) r c = ap (item q) (append-push qs r c)

push-append : (a : RawItems) (r : Raw) → push a r ≡ append a (item r no_items)
push-append no_items r = refl
push-append (item q qs) r = ap (item q) (push-append qs r)

abbrev join : RawEntries → RawEntries → RawEntries
join no_entries es = es
join (entry j q qs) es = entry j q (join qs es)

join-enter : (a : RawEntries) (j : Quote) (r : Raw) (c : RawEntries) → join (enter a j r) c ≡ join a (entry j r c)
join-enter no_entries j r c = refl
join-enter (entry i q qs) j r c = ap (entry i q) (join-enter qs j r c)

enter-join : (a : RawEntries) (j : Quote) (r : Raw) → enter a j r ≡ join a (entry j r no_entries)
enter-join no_entries j r = refl
enter-join (entry i q qs) j r = ap (entry i q) (enter-join qs j r)

-- a value begins alike where it may come first in a list
begins : (r : Raw) (at : ℕ) (ls : List Level) (k : List Token) → run (fresh_list at ls) (tokens r k) ≡ run (value (in_list at no_items ∷ ls)) (tokens r k)
begins (raw.null n) at ls k = refl
begins (raw.truth n b) at ls k = refl
begins (raw.number n s) at ls k = refl
begins (raw.text q) at ls k = refl
begins (raw.list n rs) at ls k = refl
begins (raw.map n es) at ls k = refl

mutual
  -- where a value comes, the tokens of r are read as r
  pub reads : (r : Raw) (ls : List Level) (k : List Token) → run (value ls) (tokens r k) ≡ run (after r ls) k
  reads (raw.null at) ls k = refl
  reads (raw.truth at b) ls k = refl
  reads (raw.number at s) ls k = refl
  reads (raw.text q) ls k = refl
  reads (raw.list at rs) ls k = reads_items rs at ls k
  reads (raw.map at es) ls k = reads_entries es at ls k

  reads_items : (rs : RawItems) (at : ℕ) (ls : List Level) (k : List Token) → run (fresh_list at ls) (items_tokens rs k) ≡ run (after (raw.list at rs) ls) k
  reads_items no_items at ls k = refl
  reads_items (item r rs) at ls k =
      begins r at ls (more_tokens rs k)
      ∙ reads r (in_list at no_items ∷ ls) (more_tokens rs k)
      ∙ reads_more rs r at no_items ls k

  reads_more : (rs : RawItems) (r : Raw) (at : ℕ) (qs : RawItems) (ls : List Level) (k : List Token)
      → run (after r (in_list at qs ∷ ls)) (more_tokens rs k) ≡ run (after (raw.list at (append qs (item r rs))) ls) k
  reads_more no_items r at qs ls k = ap (λ x. run (after (raw.list at x) ls) k) (push-append qs r)
  reads_more (item q rs) r at qs ls k =
      reads q (in_list at (push qs r) ∷ ls) (more_tokens rs k)
      ∙ reads_more rs q at (push qs r) ls k
      ∙ ap (λ x. run (after (raw.list at x) ls) k) (append-push qs r (item q rs))

  reads_entries : (es : RawEntries) (at : ℕ) (ls : List Level) (k : List Token) → run (fresh_map at ls) (entries_tokens es k) ≡ run (after (raw.map at es) ls) k
  reads_entries no_entries at ls k = refl
  reads_entries (entry j r es) at ls k =
      reads r (in_map at no_entries j ∷ ls) (more_entries es k)
      ∙ reads_more_entries es r at no_entries j ls k

  reads_more_entries : (es : RawEntries) (r : Raw) (at : ℕ) (ds : RawEntries) (j : Quote) (ls : List Level) (k : List Token)
      → run (after r (in_map at ds j ∷ ls)) (more_entries es k) ≡ run (after (raw.map at (join ds (entry j r es))) ls) k
  reads_more_entries no_entries r at ds j ls k = ap (λ x. run (after (raw.map at x) ls) k) (enter-join ds j r)
  reads_more_entries (entry i q es) r at ds j ls k =
      reads q (in_map at (enter ds j r) i ∷ ls) (more_entries es k)
      ∙ reads_more_entries es q at (enter ds j r) i ls k
      ∙ ap (λ x. run (after (raw.map at x) ls) k) (join-enter ds j r (entry i q es))

-- What has been read, and then the rest: of an open list or map its items or entries, each with the comma after it.
abbrev with_commas : RawItems → List Token → List Token
with_commas no_items k = k
with_commas (item r rs) k = tokens r (Token.comma ∷ with_commas rs k)

abbrev entries_with_commas : RawEntries → List Token → List Token
entries_with_commas no_entries k = k
entries_with_commas (entry j r es) k = Token.text j ∷ Token.colon ∷ tokens r (Token.comma ∷ entries_with_commas es k)

abbrev open_levels : List Level → List Token → List Token
open_levels [] k = k
open_levels (in_list at rs ∷ ls) k = open_levels ls (Token.open_list at ∷ with_commas rs k)
open_levels (in_map at es j ∷ ls) k = open_levels ls (Token.open_map at ∷ entries_with_commas es (Token.text j ∷ Token.colon ∷ k))

abbrev seen : State → List Token → List Token
seen (value ls) k = open_levels ls k
seen (fresh_list at ls) k = open_levels ls (Token.open_list at ∷ k)
seen (fresh_map at ls) k = open_levels ls (Token.open_map at ∷ k)
seen (name at es ls) k = open_levels ls (Token.open_map at ∷ entries_with_commas es k)
seen (colon at es j ls) k = open_levels ls (Token.open_map at ∷ entries_with_commas es (Token.text j ∷ k))
seen (after r ls) k = open_levels ls (tokens r k)

with_commas-push : (rs : RawItems) (r : Raw) (k : List Token) → with_commas (push rs r) k ≡ with_commas rs (tokens r (Token.comma ∷ k))
with_commas-push no_items r k = refl
with_commas-push (item q qs) r k = ap (λ x. tokens q (Token.comma ∷ x)) (with_commas-push qs r k)

more-push : (rs : RawItems) (r : Raw) (k : List Token) → more_tokens (push rs r) k ≡ Token.comma ∷ with_commas rs (tokens r (Token.close_list ∷ k))
more-push no_items r k = refl
more-push (item q qs) r k = ap (λ x. Token.comma ∷ tokens q x) (more-push qs r k)

items-push : (rs : RawItems) (r : Raw) (k : List Token) → items_tokens (push rs r) k ≡ with_commas rs (tokens r (Token.close_list ∷ k))
items-push no_items r k = refl
items-push (item q qs) r k = ap (tokens q) (more-push qs r k)

commas-enter : (es : RawEntries) (j : Quote) (r : Raw) (k : List Token) → entries_with_commas (enter es j r) k ≡ entries_with_commas es (Token.text j ∷ Token.colon ∷ tokens r (Token.comma ∷ k))
commas-enter no_entries j r k = refl
commas-enter (entry i q es) j r k = ap (λ x. Token.text i ∷ Token.colon ∷ tokens q (Token.comma ∷ x)) (commas-enter es j r k)

more-enter : (es : RawEntries) (j : Quote) (r : Raw) (k : List Token) → more_entries (enter es j r) k ≡ Token.comma ∷ entries_with_commas es (Token.text j ∷ Token.colon ∷ tokens r (Token.close_map ∷ k))
more-enter no_entries j r k = refl
more-enter (entry i q es) j r k = ap (λ x. Token.comma ∷ Token.text i ∷ Token.colon ∷ tokens q x) (more-enter es j r k)

entries-enter : (es : RawEntries) (j : Quote) (r : Raw) (k : List Token) → entries_tokens (enter es j r) k ≡ entries_with_commas es (Token.text j ∷ Token.colon ∷ tokens r (Token.close_map ∷ k))
entries-enter no_entries j r k = refl
entries-enter (entry i q es) j r k = ap (λ x. Token.text i ∷ Token.colon ∷ tokens q x) (more-enter es j r k)

seen_value : (ls : List Level) (t : Token) (k : List Token) (next : State) → step_value ls t ≡ Some next → open_levels ls (t ∷ k) ≡ seen next k
seen_value ls (Token.null at) k next h = ap (λ s. seen s k) (some_is h)
seen_value ls (Token.truth at b) k next h = ap (λ s. seen s k) (some_is h)
seen_value ls (Token.number at x) k next h = ap (λ s. seen s k) (some_is h)
seen_value ls (Token.text q) k next h = ap (λ s. seen s k) (some_is h)
seen_value ls (Token.open_list at) k next h = ap (λ s. seen s k) (some_is h)
seen_value ls (Token.open_map at) k next h = ap (λ s. seen s k) (some_is h)
seen_value ls t k next h = absurd (none_some h)

seen_fresh_list : (at : ℕ) (ls : List Level) (t : Token) (k : List Token) (next : State) → step_fresh_list at ls t ≡ Some next → open_levels ls (Token.open_list at ∷ t ∷ k) ≡ seen next k
seen_fresh_list at ls Token.close_list k next h = ap (λ s. seen s k) (some_is h)
seen_fresh_list at ls t k next h = seen_value (in_list at no_items ∷ ls) t k next h

seen_name : (at : ℕ) (es : RawEntries) (ls : List Level) (t : Token) (k : List Token) (next : State) → step_name at es ls t ≡ Some next → open_levels ls (Token.open_map at ∷ entries_with_commas es (t ∷ k)) ≡ seen next k
seen_name at es ls (Token.text q) k next h = ap (λ s. seen s k) (some_is h)
seen_name at es ls t k next h = absurd (none_some h)

seen_fresh_map : (at : ℕ) (ls : List Level) (t : Token) (k : List Token) (next : State) → step_fresh_map at ls t ≡ Some next → open_levels ls (Token.open_map at ∷ t ∷ k) ≡ seen next k
seen_fresh_map at ls Token.close_map k next h = ap (λ s. seen s k) (some_is h)
seen_fresh_map at ls t k next h = seen_name at no_entries ls t k next h

seen_colon : (at : ℕ) (es : RawEntries) (j : Quote) (ls : List Level) (t : Token) (k : List Token) (next : State) → step_colon at es j ls t ≡ Some next
    → open_levels ls (Token.open_map at ∷ entries_with_commas es (Token.text j ∷ t ∷ k)) ≡ seen next k
seen_colon at es j ls Token.colon k next h = ap (λ s. seen s k) (some_is h)
seen_colon at es j ls t k next h = absurd (none_some h)

seen_after : (r : Raw) (l : Level) (ls : List Level) (t : Token) (k : List Token) (next : State) → step_after r l ls t ≡ Some next → open_levels (l ∷ ls) (tokens r (t ∷ k)) ≡ seen next k
seen_after r (in_list at rs) ls Token.close_list k next h = ap (λ x. open_levels ls (Token.open_list at ∷ x)) (sym (items-push rs r k)) ∙ ap (λ s. seen s k) (some_is h)
seen_after r (in_list at rs) ls Token.comma k next h = ap (λ x. open_levels ls (Token.open_list at ∷ x)) (sym (with_commas-push rs r k)) ∙ ap (λ s. seen s k) (some_is h)
seen_after r (in_map at es j) ls Token.close_map k next h = ap (λ x. open_levels ls (Token.open_map at ∷ x)) (sym (entries-enter es j r k)) ∙ ap (λ s. seen s k) (some_is h)
seen_after r (in_map at es j) ls Token.comma k next h = ap (λ x. open_levels ls (Token.open_map at ∷ x)) (sym (commas-enter es j r k)) ∙ ap (λ s. seen s k) (some_is h)
seen_after r l ls t k next h = absurd (none_some h)

seen_step : (s : State) (t : Token) (k : List Token) (next : State) → step s t ≡ Some next → seen s (t ∷ k) ≡ seen next k
seen_step (value ls) t k next h = seen_value ls t k next h
seen_step (fresh_list at ls) t k next h = seen_fresh_list at ls t k next h
seen_step (fresh_map at ls) t k next h = seen_fresh_map at ls t k next h
seen_step (name at es ls) t k next h = seen_name at es ls t k next h
seen_step (colon at es j ls) t k next h = seen_colon at es j ls t k next h
seen_step (after r []) t k next h = absurd (none_some h)
seen_step (after r (l ∷ ls)) t k next h = seen_after r l ls t k next h

seen_root : (s : State) (r : Raw) → root s ≡ Some r → seen s [] ≡ tokens r []
seen_root (after q []) r h = ap (λ x. tokens x []) (some_is h)
seen_root s r h = absurd (none_some h)

-- what is read is made of these tokens
pub made : (ts : List Token) (s : State) (r : Raw) → run s ts ≡ Some r → seen s ts ≡ tokens r []
made [] s r h = seen_root s r h
made (t ∷ ts) s r h =
    let b = bind_some (λ next. run next ts) (step s t) r h in
    seen_step s t ts b.0 b.1 ∙ made ts b.0 r b.2

-- the machine reads exactly the tokens of a tree
pub reads_tree : (r : Raw) → run (value []) (tokens r []) ≡ Some r
reads_tree r = reads r [] []

pub tree_read : (ts : List Token) (r : Raw) → run (value []) ts ≡ Some r → ts ≡ tokens r []
tree_read ts r h = made ts (value []) r h
