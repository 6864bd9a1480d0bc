-- What a nest passes over is in the tree, and how its text is told.
use Rattle.std.proofs.Common.{ℕ, zero, suc, ◌≡◌, ◌+◌, ◌<◌, List, [], ◌∷◌, ◌++◌, length, map, flat_map, get_or, take, true, false, Result, Ok, Err, IfOk, is_ok, String, string_bytes, refl, ap, ◌∙◌, sym, arith, append_assoc, append-nil}
use Rattle.std.specs.Bool.{◌==◌}
use Rattle.std.specs.declared.alloc.AllocError.{AllocError}
use Rattle.std.specs.declared.alloc.Global.{Global}
use Rattle.std.proofs.lemmas.List.{map-append, length-map, take_more}
use Rattle.std.proofs.lemmas.Grind.{flat_map-append}
use Rattle.sw_tree.specs.Laws.Each.{each_end}
use Rattle.sw_tree.specs.Meaning.{Meaning}
use Rattle.sw_tree.specs.Mode.{plain}
use Rattle.sw_tree.specs.Nodes.{kinds, IsNoteIn}
use Rattle.sw_tree.specs.Laws.Nodes.{IsNoteIn-below}
use Rattle.sw_tree.specs.Path.{HasPlace}
use Rattle.sw_tree.specs.Placed.{Note}
use Rattle.sw_tree.specs.Seen.{Seen}
use Rattle.sw_tree.specs.Steps.{Each}
use Rattle.sw_tree.specs.Laws.Steps.{bind_ok}
use Rattle.sw_tree.specs.Tree.{Tree, size}
use Rattle.sw_tree.specs.declared.fail.Refusal.{Refusal}
use Rattle.sw_tree.specs.declared.fail.WireError.{WireError}
use Rattle.sw_tree.specs.declared.mode.WireKind.TheVariants.{Json}
use Rattle.sw_elem.specs.Equations.{Writes, Reads, Spots, Skips}
use Rattle.sw_elem.specs.Statements.{HasNoteKinds}
use Rattle.sw_core.specs.Recoding.{found, noted}
use Rattle.sw_json.specs.Spelled.{spelled}
use Rattle.sw_tool.specs.Log.{Entry, entry_text, heading, log_text, IsLogText}
use Rattle.sw_tool.specs.Path.{HasNode, IsPathIn, IsPathTo}
use Rattle.sw_tool.specs.Nests.{json_answer, json_log}
use Rattle.sw_tool.specs.Inner.Log.{IsTold, GainsEntry}

noted_nodes : (bytes : List ℕ) (t : Tree) (ns : List Note) → spelled bytes ≡ Ok t → Each (IsNoteIn (kinds t)) ns → Each (λ (r : Refusal). HasNode bytes r.place) (noted ns)
noted_nodes bytes t [] e h = tt
noted_nodes bytes t (n ∷ ns) e h = (record { tree = t; spells = e; inside = IsNoteIn-below t n h.0 }, noted_nodes bytes t ns e h.1)

found_is : (q : Result Tree WireError) (t : Tree) → found q ≡ Ok t → q ≡ Ok t
found_is (Ok u) t p = let e : u ≡ t = cc in ap Ok e
found_is (Err e) t p = absurd (cc)

-- where a nest gives a text, all that it passes over is in the tree that the bytes spell
pub logged_nodes : (reads : Reads) (spot : Spots) (skips : Skips) (writes : Writes) (bytes : List ℕ) (a : Meaning × List ℕ) (log : List Refusal) →
    HasNoteKinds skips (plain Json) → json_answer reads spot writes bytes ≡ Ok a → log ≡ json_log skips bytes → Each (λ (r : Refusal). HasNode bytes r.place) log
logged_nodes reads spot skips writes bytes a log law p q =
    let f = bind_ok (found (spelled bytes)) _ a p in
    let e = found_is (spelled bytes) f.0 f.1 in
    rw (q, e) (noted_nodes bytes f.0 (skips (plain Json) f.0) e (law f.0))

pub each_at : {A : Type 0} (P : A → Type 0) (xs : List A) (i : ℕ) (d : A) → i < length xs → Each P xs → P (get_or xs i d)
each_at P [] i d h e = absurd (omega (arith, h))
each_at P (x ∷ xs) zero d h e = e.0
each_at P (x ∷ xs) (suc i) d h e = each_at P xs i d (omega (arith, h)) e.1

-- the root of the tree that the bytes spell
abbrev pub root : Tree → Seen
root t = record { tree = t; place = 0; counts = true }

one_tree : (q : Result Tree WireError) (t u : Tree) → q ≡ Ok t → q ≡ Ok u → t ≡ u
one_tree q t u p r = cc

place_shown : (bytes : List ℕ) (t : Tree) (n : ℕ) → spelled bytes ≡ Ok t → HasNode bytes n → HasPlace (root t) n
place_shown bytes t n e h =
    let same : size h.tree ≡ size t = ap size (one_tree (spelled bytes) h.tree t h.spells e) in
    record { counts = refl; from = omega arith; before = omega (arith, h.inside, same) }

-- a document of the bytes shows their nodes
pub nodes_shown : (bytes : List ℕ) (t : Tree) (log : List Refusal) → spelled bytes ≡ Ok t → Each (λ (r : Refusal). HasNode bytes r.place) log → Each (λ (r : Refusal). HasPlace (root t) r.place) log
nodes_shown bytes t [] e h = tt
nodes_shown bytes t (r ∷ rs) e h = (place_shown bytes t r.place e h.0, nodes_shown bytes t rs e h.1)

paths_to : (bytes : List ℕ) (t : Tree) (es : List Entry) → spelled bytes ≡ Ok t → Each (λ (e : Entry). IsPathIn (root t) e.refusal.place e.path) es → Each (λ (e : Entry). IsPathTo bytes e.refusal.place e.path) es
paths_to bytes t [] e h = tt
paths_to bytes t (x ∷ xs) e h = (record { tree = t; spells = e; leads = h.0 }, paths_to bytes t xs e h.1)

entries_text : (es : List Entry) (log : List Refusal) → map (λ (e : Entry). e.refusal) es ≡ log → 0 < length log → heading (length log) ++ flat_map entry_text es ≡ log_text es
entries_text [] log e h = absurd (omega (arith, h, ap length e))
entries_text (x ∷ xs) log e h =
    let count : length log ≡ length (x ∷ xs) = ap length (sym e) ∙ length-map (x ∷ xs) (λ (y : Entry). y.refusal) in
    ap (λ n. heading n ++ flat_map entry_text (x ∷ xs)) count

log_told : (bytes : List ℕ) (t : Tree) (log : List Refusal) (text : List ℕ) → spelled bytes ≡ Ok t → 0 < length log → IsTold (IsPathIn (root t)) (heading (length log)) log text → IsLogText bytes log text
log_told bytes t log text e h told =
    record {
      entries = told.entries;
      are = record { refusals = told.are.refusals; paths = paths_to bytes t told.entries e told.are.paths };
      printed = told.printed ∙ entries_text told.entries log told.are.refusals h;
    }

-- a log that isn't empty
pub some_logged : (log : List Refusal) → false ≡ (length log == 0) → 0 < length log
some_logged [] e = absurd (cc)
some_logged (r ∷ rs) e = omega arith

-- a log that isn't empty has nodes of a tree
pub is_spelled : (bytes : List ℕ) (log : List Refusal) → 0 < length log → Each (λ (r : Refusal). HasNode bytes r.place) log → is_ok (spelled bytes) ≡ true
is_spelled bytes [] some h = absurd (omega (arith, some))
is_spelled bytes (r ∷ rs) some h = ap (λ (q : Result Tree WireError). is_ok q) h.0.spells

-- what is told of a document of the bytes is the text of the log
pub document_told : (bytes : List ℕ) (t : Tree) (s : Seen) (log : List Refusal) (answer : Result (String Global) AllocError) → spelled bytes ≡ Ok t → s ≡ root t → 0 < length log →
    IfOk answer (λ text. IsTold (IsPathIn s) (heading (length log)) log (string_bytes text)) → IfOk answer (λ text. IsLogText bytes log (string_bytes text))
document_told bytes t s log (Ok x) e f h told = log_told bytes t log (string_bytes x) e h (rw f at told)
document_told bytes t s log (Err x) e f h told = tt

joined_more : (front : List ℕ) (es : List Entry) (x : Entry) → (front ++ flat_map entry_text es) ++ entry_text x ≡ front ++ flat_map entry_text (es ++ x ∷ [])
joined_more front es x =
    let last : flat_map entry_text (x ∷ []) ≡ entry_text x = append-nil (entry_text x) in
    append_assoc front (flat_map entry_text es) (entry_text x) ∙ ap (λ b. front ++ b) (sym (flat_map-append entry_text es (x ∷ []) ∙ ap (λ b. flat_map entry_text es ++ b) last))

-- the text of no entries, and of one more
pub told_none : (IsPath : ℕ → List ℕ → Type 0) (front text : List ℕ) → text ≡ front → IsTold IsPath front [] text
told_none IsPath front text e = record { entries = []; are = record { refusals = refl; paths = tt }; printed = e ∙ sym (append-nil front) }

pub told_more : (IsPath : ℕ → List ℕ → Type 0) (front : List ℕ) (log : List Refusal) (i : ℕ) (d : Refusal) (old new : List ℕ) → i < length log →
    IsTold IsPath front (take i log) old → GainsEntry IsPath (get_or log i d) old new → IsTold IsPath front (take (i + 1) log) new
told_more IsPath front log i d old new h told gains =
    let x : Entry = record { refusal = get_or log i d; path = gains.path } in
    let es = told.entries in
    record {
      entries = es ++ x ∷ [];
      are = record {
        refusals = map-append (λ (e : Entry). e.refusal) es (x ∷ []) ∙ ap (λ rs. rs ++ get_or log i d ∷ []) told.are.refusals ∙ sym (take_more log i d h);
        paths = each_end (λ (e : Entry). IsPath e.refusal.place e.path) es x told.are.paths gains.leads;
      };
      printed = gains.gained ∙ ap (λ b. b ++ entry_text x) told.printed ∙ joined_more front es x;
    }
