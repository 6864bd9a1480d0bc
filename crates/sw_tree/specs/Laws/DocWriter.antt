-- To open a list or map in a document, put its parts in and close it is to put it in.
use Rattle.std.specs.Prelude.{ℕ, List, Option, ◌≡◌, max, [], ◌∷◌, None, refl, Bool, cond, Some, ◌≤◌, ◌+◌, nat_le, true, false, ◌<◌, suc, ◌++◌, length, Ok, Err, ◌%◌}
use Rattle.std.proofs.Common.{arith, ap, ◌∙◌, sym, eq-eqb}
use Rattle.std.proofs.lemmas.List.{append-nil}
use Rattle.std.proofs.lemmas.Bool.{le-leb, lt-leb, leb-true, leb-false}
use Rattle.sw_tree.specs.Tree.{Tree, trees, depth, trees_depth, trees_content_len, content_len, list, by_turns, entries, entries_depth, entries_content_len, map}
use Rattle.sw_tree.specs.Builder.{Built, Frame, added, longer}
use Rattle.sw_tree.specs.Builder as builder
use Rattle.sw_tree.specs.Building.{puts, with_put, within}
use Rattle.sw_tree.specs.declared.fail.SerError.TheVariants as reason
use Rattle.sw_tree.specs.Inner.Builder.{is_complete}
use Rattle.sw_tree.specs.Inner.DocWriter.{Draft, put_doc, put, close_doc, open_doc, opened, closed}
use Rattle.sw_tree.specs.Laws.NodeBuilder.{regroup, turns-by_turns}

-- ---- the laws
abbrev at : ℕ → List ℕ → Option Built → Draft
at n ns k = record { top = n; outer = ns; doc = k }

max_none : (n : ℕ) → n ≡ max n 0
max_none n = omega arith

max_more : (n a b : ℕ) → max (max n a) b ≡ max n (max a b)
max_more n a b = omega arith

max_from : (n : ℕ) → max 0 n ≡ n
max_from n = omega arith

puts-at : (n : ℕ) (ns : List ℕ) (k : Option Built) (ts : List Tree) → puts put ts (at n ns k) ≡ at (max n (trees_depth (trees ts))) ns (puts put_doc ts k)
puts-at n ns k [] = ap (λ m. at m ns k) (max_none n)
puts-at n ns k (t ∷ ts) = puts-at (max n (depth t)) ns (put_doc t k) ts ∙ ap (λ m. at m ns (puts put_doc ts (put_doc t k))) (max_more n (depth t) (trees_depth (trees ts)))

puts-lost : (ts : List Tree) → puts put_doc ts None ≡ None
puts-lost [] = refl
puts-lost (t ∷ ts) = puts-lost ts

-- a builder with something open that has gained these children
abbrev gained : List ℕ → ℕ → Bool → List Tree → List Frame → Built
gained i s m cs o = record { input = i; side_len = s; frames = record { is_map = m; children = cs } ∷ o; root = None }

abbrev doc_if : Bool → Built → Option Built
doc_if b x = cond b (Some x) None

same : (i : List ℕ) (a s : ℕ) (m : Bool) (cs ds : List Tree) (o : List Frame) → a ≡ s → cs ≡ ds → gained i a m cs o ≡ gained i s m ds o
same i a s m cs ds o e f = rw (e, f) refl

room_at : (r : Bool) (n a b : ℕ) → n + a ≤ 128 → nat_le (n + b) 128 ≡ r → r ≡ nat_le (n + max a b) 128
room_at true n a b h e = sym (le-leb (n + max a b) 128 (omega (arith, leb-true (n + b) 128 e)))
room_at false n a b h e = sym (lt-leb (n + max a b) 128 (omega (arith, leb-false (n + b) 128 e)))

more_room : (n a b : ℕ) → n + a ≤ 128 → nat_le (n + b) 128 ≡ nat_le (n + max a b) 128
more_room n a b h = room_at (nat_le (n + b) 128) n a b h refl

less_room : (n a b : ℕ) → 128 < n + a → nat_le (n + max a b) 128 ≡ false
less_room n a b h = lt-leb (n + max a b) 128 (omega arith)

-- the builder with these children gained, where they have no more levels than it takes
abbrev filled : List ℕ → ℕ → Bool → List Tree → List Tree → List Frame → Option Built
filled i s m cs ts o = doc_if (nat_le (suc (length o) + trees_depth (trees ts)) 128) (gained i (s + trees_content_len (trees ts)) m (cs ++ ts) o)

fill-more : (b : Bool) (i : List ℕ) (s : ℕ) (m : Bool) (cs : List Tree) (t : Tree) (ts : List Tree) (o : List Frame) → nat_le (suc (length o) + depth t) 128 ≡ b →
    puts put_doc ts (Some (gained i (s + content_len t) m (cs ++ t ∷ []) o)) ≡ filled i (s + content_len t) m (cs ++ t ∷ []) ts o → puts put_doc ts (doc_if b (gained i (s + content_len t) m (cs ++ t ∷ []) o)) ≡ filled i s m cs (t ∷ ts) o
fill-more true i s m cs t ts o e h =
    let a = more_room (suc (length o)) (depth t) (trees_depth (trees ts)) (leb-true _ _ e) in
    let b = same i (s + content_len t + trees_content_len (trees ts)) (s + (content_len t + trees_content_len (trees ts))) m ((cs ++ t ∷ []) ++ ts) (cs ++ t ∷ ts) o (omega arith) (regroup cs t ts) in
    h ∙ ap (λ r. doc_if r (gained i (s + content_len t + trees_content_len (trees ts)) m ((cs ++ t ∷ []) ++ ts) o)) a ∙ ap (doc_if (nat_le (suc (length o) + max (depth t) (trees_depth (trees ts))) 128)) b
fill-more false i s m cs t ts o e h =
    let a = less_room (suc (length o)) (depth t) (trees_depth (trees ts)) (leb-false _ _ e) in
    puts-lost ts ∙ sym (ap (λ r. doc_if r (gained i (s + (content_len t + trees_content_len (trees ts))) m (cs ++ t ∷ ts) o)) a)

fill : (i : List ℕ) (s : ℕ) (m : Bool) (cs ts : List Tree) (o : List Frame) → suc (length o) ≤ 128 → puts put_doc ts (Some (gained i s m cs o)) ≡ filled i s m cs ts o
fill i s m cs [] o h =
    let a : nat_le (suc (length o) + 0) 128 ≡ true = le-leb (suc (length o) + 0) 128 (omega arith) in
    ap Some (same i s (s + 0) m cs (cs ++ []) o (omega arith) (sym (append-nil cs))) ∙ sym (ap (λ r. doc_if r (gained i (s + 0) m (cs ++ []) o)) a)
fill i s m cs (t ∷ ts) o h = fill-more (nat_le (suc (length o) + depth t) 128) i s m cs t ts o refl (fill i (s + content_len t) m (cs ++ t ∷ []) ts o h)

-- what was opened and gained all its children is closed
close-gained : (i : List ℕ) (s : ℕ) (m : Bool) (ts : List Tree) (f : List Frame) (t : Tree) → builder.built_tree m ts ≡ t → is_complete m ts ≡ true → (b : Bool) →
    close_doc (doc_if b (gained i s m ts f)) ≡ doc_if b (builder.added_to (record { input = i; side_len = s; frames = f; root = None }) f t)
close-gained i s m ts f t is full false = refl
close-gained i s m ts [] t is full true = rw (full, is) refl
close-gained i s m ts (g ∷ gs) t is full true = rw (full, is) refl

-- a tree with these children
record Parts (m : Bool) (ts : List Tree) (t : Tree) : Type 0 where
  is : builder.built_tree m ts ≡ t
  full : is_complete m ts ≡ true
  levels : depth t ≡ suc (trees_depth (trees ts))
  long : content_len t ≡ trees_content_len (trees ts)

close-room : (b : Bool) (i : List ℕ) (s : ℕ) (f : List Frame) (m : Bool) (ts : List Tree) (t : Tree) → Parts m ts t → nat_le (length f + 1) 128 ≡ b →
    close_doc (puts put_doc ts (doc_if b (gained i s m [] f))) ≡ put_doc t (Some (record { input = i; side_len = s; frames = f; root = None }))
close-room true i s f m ts t p e =
    let room : suc (length f) ≤ 128 = omega (arith, leb-true _ _ e) in
    let sum : suc (length f) + trees_depth (trees ts) ≡ length f + depth t = omega (arith, p.levels) in
    ap close_doc (fill i s m [] ts f room)
    ∙ close-gained i (s + trees_content_len (trees ts)) m ts f t p.is p.full (nat_le (suc (length f) + trees_depth (trees ts)) 128)
    ∙ ap (λ n. doc_if (nat_le n 128) (builder.added_to (record { input = i; side_len = s + trees_content_len (trees ts); frames = f; root = None }) f t)) sum
    ∙ ap (λ n. doc_if (nat_le (length f + depth t) 128) (builder.added_to (record { input = i; side_len = s + n; frames = f; root = None }) f t)) (sym p.long)
close-room false i s f m ts t p e =
    let none : nat_le (length f + depth t) 128 ≡ false = lt-leb (length f + depth t) 128 (omega (arith, p.levels, leb-false _ _ e)) in
    ap close_doc (puts-lost ts) ∙ sym (ap (λ r. doc_if r (added (longer (record { input = i; side_len = s; frames = f; root = None }) (content_len t)) t)) none)

close-put : (i : List ℕ) (s : ℕ) (f : List Frame) (r : Option Tree) (m : Bool) (ts : List Tree) (t : Tree) → Parts m ts t →
    close_doc (puts put_doc ts (open_doc m (Some (record { input = i; side_len = s; frames = f; root = r })))) ≡ put_doc t (Some (record { input = i; side_len = s; frames = f; root = r }))
close-put i s f None m ts t p = close-room (nat_le (length f + 1) 128) i s f m ts t p refl
close-put i s f (Some x) m ts t p = ap close_doc (puts-lost ts)

doc-law : (k : Option Built) (m : Bool) (ts : List Tree) (t : Tree) → Parts m ts t → close_doc (puts put_doc ts (open_doc m k)) ≡ put_doc t k
doc-law None m ts t p = ap close_doc (puts-lost ts)
doc-law (Some b) m ts t p = close-put b.input b.side_len b.frames b.root m ts t p

close-within : (b : Bool) (x d : Draft) (t : Tree) → x ≡ put t d → cond b (Ok x) (Err reason.TooDeep) ≡ with_put put (cond b (Ok t) (Err reason.TooDeep)) d
close-within true x d t e = ap Ok e
close-within false x d t e = refl

law : (d : Draft) (m : Bool) (ts : List Tree) (t : Tree) → Parts m ts t → closed (puts put ts (opened m d)) ≡ with_put put (within t) d
law d m ts t p =
    let k = doc-law d.doc m ts t p in
    let n = trees_depth (trees ts) in
    ap closed (puts-at 0 (d.top ∷ d.outer) (open_doc m d.doc) ts ∙ ap (λ a. at a (d.top ∷ d.outer) (puts put_doc ts (open_doc m d.doc))) (max_from n))
    ∙ ap (λ a. cond (nat_le a 128) (Ok (at (max d.top a) d.outer (close_doc (puts put_doc ts (open_doc m d.doc))))) (Err reason.TooDeep)) (sym p.levels)
    ∙ close-within (nat_le (depth t) 128) (at (max d.top (depth t)) d.outer (close_doc (puts put_doc ts (open_doc m d.doc)))) d t (ap (at (max d.top (depth t)) d.outer) k)

pub lists : (d : Draft) (ts : List Tree) → closed (puts put ts (opened false d)) ≡ with_put put (within (list (trees ts))) d
lists d ts = law d false ts (list (trees ts)) (record { is = refl; full = refl; levels = refl; long = refl })

even : (es : List (Tree × Tree)) → length (by_turns es) % 2 ≡ 0
even [] = refl
even (e ∷ es) = let h = even es in omega arith

by_turns_depth : (es : List (Tree × Tree)) → entries_depth (entries es) ≡ trees_depth (trees (by_turns es))
by_turns_depth [] = refl
by_turns_depth (e ∷ es) = omega (arith, by_turns_depth es)

by_turns_len : (es : List (Tree × Tree)) → entries_content_len (entries es) ≡ trees_content_len (trees (by_turns es))
by_turns_len [] = refl
by_turns_len (e ∷ es) = omega (arith, by_turns_len es)

pub maps : (d : Draft) (es : List (Tree × Tree)) → closed (puts put (by_turns es) (opened true d)) ≡ with_put put (within (map (entries es))) d
maps d es =
    let p : Parts true (by_turns es) (map (entries es)) =
    record {
      is = ap (λ ds. map (entries ds)) (turns-by_turns es);
      full = eq-eqb (length (by_turns es) % 2) 0 (even es);
      levels = ap suc (by_turns_depth es);
      long = by_turns_len es;
    } in
    law d true (by_turns es) (map (entries es)) p
