-- What a writer of documents means: how many levels the parts of the innermost list or map have, and those of each around it, the innermost first; and what the document's builder means, until the document is lost.
use Rattle.std.specs.Prelude.{ℕ, List, Option, refl, cond, Some, None, Bool, [], max, ◌∷◌, suc, nat_le, Result, Ok, Err}
use Rattle.std.specs.Coded.{Coded, code_by, coded×, coded_list, coded_ℕ, coded_option}
use Rattle.sw_tree.specs.Tree.{Tree, depth, content_len}
use Rattle.sw_tree.specs.Builder.{Built, added, longer}
use Rattle.sw_tree.specs.Builder as builder
use Rattle.sw_tree.specs.Doc.{Document}
use Rattle.sw_tree.specs.declared.fail.SerError.{SerError}
use Rattle.sw_tree.specs.declared.fail.SerFail.{SerFail}
use Rattle.sw_tree.specs.declared.fail.SerFail.TheVariants as ser
use Rattle.sw_tree.specs.declared.fail.SerError.TheVariants as reason
use Rattle.sw_tree.specs.Inner.Builder.{coded_built, takes, can_close}

pub record Draft : Type 0 where
  pub top : ℕ
  pub outer : List ℕ
  pub doc : Option Built

abbrev pub coded_draft : Coded Draft
coded_draft =
    code_by ((ℕ × List ℕ) × Option Built) (coded× (coded× coded_ℕ (coded_list coded_ℕ)) (coded_option coded_built)) (λ d. ((d.top, d.outer), d.doc))
    (λ p. record { top = p.0.0; outer = p.0.1; doc = p.1 }) (λ _. refl)

-- ---- the builder, where it takes what comes
-- given up where it doesn't take a tree of so many levels
abbrev pub with_room : Option Built → ℕ → Option Built
with_room None n = None
with_room (Some b) n = cond (takes b n) (Some b) None

abbrev pub put_doc : Tree → Option Built → Option Built
put_doc t None = None
put_doc t (Some b) = cond (takes b (depth t)) (Some (added (longer b (content_len t)) t)) None

abbrev pub open_doc : Bool → Option Built → Option Built
open_doc m None = None
open_doc m (Some b) = cond (takes b 1) (Some (builder.opened b m)) None

abbrev pub close_doc : Option Built → Option Built
close_doc None = None
close_doc (Some b) = cond (can_close b) (Some (builder.closed b)) None

-- ---- what a writer means
abbrev pub fresh : Draft
fresh = record { top = 0; outer = []; doc = Some (record { input = []; side_len = 0; frames = []; root = None }) }

abbrev pub put : Tree → Draft → Draft
put t d = record { top = max d.top (depth t); outer = d.outer; doc = put_doc t d.doc }

abbrev pub opened : Bool → Draft → Draft
opened m d = record { top = 0; outer = d.top ∷ d.outer; doc = open_doc m d.doc }

abbrev pub closed_to : Draft → List ℕ → Result Draft SerError
closed_to d [] = Ok d
closed_to d (n ∷ ns) = cond (nat_le (suc d.top) 128) (Ok (record { top = max n (suc d.top); outer = ns; doc = close_doc d.doc })) (Err reason.TooDeep)

abbrev pub closed : Draft → Result Draft SerError
closed d = closed_to d d.outer

abbrev pub document_at : Option Tree → ℕ → Option Document
document_at None n = None
document_at (Some t) n = Some (record { tree = t; side_len = n })

-- the document, where it isn't lost, and has a root
abbrev pub document : Option Built → Option Document
document None = None
document (Some b) = document_at b.root b.side_len

-- an answer of the builder's, as one of writing
abbrev pub built_of : {E : Type 0} → Result (Unit {0}) E → Result (Unit {0}) SerFail
built_of (Ok u) = Ok u
built_of (Err e) = Err ser.Memory
