-- How many schemas stand in a row, and that a part whose tree is too deep makes the tree around it too deep.
use Rattle.std.proofs.Common.{◌≡◌, ℕ, zero, suc, ◌<◌, ◌≤◌, Bool, true, false, cond, List, [], ◌∷◌, ◌++◌, length, drop, get_or, Result, Ok, Err, refl, ap, sym, subst, ◌∙◌, arith}
use Rattle.std.proofs.lemmas.Bool.{leb-false, lt-leb}
use Rattle.std.specs.Prelude.{nat_le, IsErrAnd}
use Rattle.sw_tree.specs.Tree.{Tree, depth, trees, trees_depth, entries, entries_depth}
use Rattle.sw_tree.specs.declared.fail.SerError.TheVariants as reason
use Rattle.sw_schema.specs.Schema.{Schema, schemas}
use Rattle.sw_schema.specs.Field.{Field, field_row}
use Rattle.sw_schema.specs.SchemaTree.{count_of, keyed, list_of, map_of, schema_tree, schema_trees, properties}
use Rattle.sw_schema.specs.ToNode.{IsToNode}
use Rattle.sw_schema.specs.declared.to_node.ToNodeFail.{ToNodeFail}
use Rattle.sw_schema.specs.declared.to_node.ToNodeFail.TheVariants as fail

pub count-length : (ss : List Schema) → count_of (schemas ss) ≡ length ss
count-length [] = refl
count-length (s ∷ ss) = ap suc (count-length ss)

-- the tree has more than 128 levels where there is no node of it
deep_where : (b : Bool) (t : Tree) → cond b (Ok t) (Err reason.TooDeep) ≡ Err reason.TooDeep → b ≡ false
deep_where true t p = absurd (cc)
deep_where false t p = refl

pub around : (e : ToNodeFail) (t u : Tree) → depth t ≤ depth u → IsToNode (Err e) t → IsToNode (Err e) u
around fail.Memory t u h k = k
around fail.TooDeep t u h k =
    let deep : 128 ≤ depth t = omega (arith, leb-false (depth t) 128 (deep_where (nat_le (depth t) 128) t k)) in
    rw (lt-leb (depth u) 128 (omega (arith, leb-false (depth t) 128 (deep_where (nat_le (depth t) 128) t k)))) refl

pub item-depth : (ts : List Tree) (t : Tree) (us : List Tree) → depth t ≤ trees_depth (trees (ts ++ t ∷ us))
item-depth [] t us = omega arith
item-depth (s ∷ ts) t us = omega (arith, item-depth ts t us)

pub value-depth : (ds : List (Tree × Tree)) (n : List ℕ) (t : Tree) (es : List (Tree × Tree)) → depth t ≤ entries_depth (entries (ds ++ keyed n t ∷ es))
value-depth [] n t es = omega arith
value-depth (d ∷ ds) n t es = omega (arith, value-depth ds n t es)

-- ---- the part that a loop has come to

trees_at : (ss : List Schema) (k : ℕ) (d s : Schema) → k < length ss → s ≡ get_or ss k d → schema_trees (schemas (drop k ss)) ≡ schema_tree s ∷ schema_trees (schemas (drop (suc k) ss))
trees_at [] k d s h e = absurd (omega arith)
trees_at (r ∷ ss) zero d s h e = ap (λ (x : Schema). schema_tree x ∷ schema_trees (schemas ss)) (sym e)
trees_at (r ∷ ss) (suc k) d s h e = trees_at ss k d s (omega arith) e

property_at : (fs : List Field) (k : ℕ) (d f : Field) → k < length fs → f ≡ get_or fs k d → properties (field_row (drop k fs)) ≡ keyed f.name (schema_tree f.schema) ∷ properties (field_row (drop (suc k) fs))
property_at [] k d f h e = absurd (omega arith)
property_at (g ∷ fs) zero d f h e = ap (λ (x : Field). keyed x.name (schema_tree x.schema) ∷ properties (field_row fs)) (sym e)
property_at (g ∷ fs) (suc k) d f h e = property_at fs k d f (omega arith) e

refused : (r : Result Tree ToNodeFail) (e : ToNodeFail) (t : Tree) → IsErrAnd r (λ y. y ≡ e) → IsToNode (Err e) t → IsToNode r t
refused (Ok u) e t p k = absurd p
refused (Err f) e t p k = subst (λ (x : ToNodeFail). IsToNode (Err x) t) (sym p) k

-- the list so far, and the trees of the schemas that are left
pub list_too_deep : (r : Result Tree ToNodeFail) (e : ToNodeFail) (whole ts : List Tree) (ss : List Schema) (k : ℕ) (d s : Schema) → k < length ss → s ≡ get_or ss k d → whole ≡ ts ++ schema_trees (schemas (drop k ss)) → IsErrAnd r (λ y. y ≡ e) → IsToNode (Err e) (schema_tree s) → IsToNode r (list_of whole)
list_too_deep r e whole ts ss k d s h i q p deep =
    let us = schema_trees (schemas (drop (suc k) ss)) in
    let w : trees_depth (trees whole) ≡ trees_depth (trees (ts ++ schema_tree s ∷ us)) = ap (λ (vs : List Tree). trees_depth (trees vs)) (q ∙ ap (λ (vs : List Tree). ts ++ vs) (trees_at ss k d s h i)) in
    let fewer : depth (schema_tree s) ≤ depth (list_of whole) = omega (arith, w, item-depth ts (schema_tree s) us) in
    refused r e (list_of whole) p (around e (schema_tree s) (list_of whole) fewer deep)

pub map_too_deep : (r : Result Tree ToNodeFail) (e : ToNodeFail) (whole ds : List (Tree × Tree)) (fs : List Field) (k : ℕ) (d f : Field) (s : Schema) → k < length fs → f ≡ get_or fs k d → s ≡ f.schema → whole ≡ ds ++ properties (field_row (drop k fs)) → IsErrAnd r (λ y. y ≡ e) → IsToNode (Err e) (schema_tree s) → IsToNode r (map_of whole)
map_too_deep r e whole ds fs k d f s h i j q p deep =
    let es = properties (field_row (drop (suc k) fs)) in
    let w : entries_depth (entries whole) ≡ entries_depth (entries (ds ++ keyed f.name (schema_tree f.schema) ∷ es)) = ap (λ (x : List (Tree × Tree)). entries_depth (entries x)) (q ∙ ap (λ (x : List (Tree × Tree)). ds ++ x) (property_at fs k d f h i)) in
    let same : depth (schema_tree s) ≡ depth (schema_tree f.schema) = ap (λ (x : Schema). depth (schema_tree x)) j in
    let fewer : depth (schema_tree s) ≤ depth (map_of whole) = omega (arith, w, same, value-depth ds f.name (schema_tree f.schema) es) in
    refused r e (map_of whole) p (around e (schema_tree s) (map_of whole) fewer deep)

pub ruleset trees_added = (count-length, item-depth, value-depth)
