-- What is read of a tree by itself.
use Rattle.std.proofs.Common.{◌≡◌, true, Option, Some, None, Ok, Err, refl, ap, sym, ◌∙◌}
use Rattle.std.specs.Prelude.{option_map}
use Rattle.sw_tree.specs.Meaning as meaning
use Rattle.sw_tree.specs.Tree.{Tree}
use Rattle.sw_tree.specs.Seen.{Seen}
use Rattle.sw_tree.specs.Placed.{placed}
use Rattle.sw_tree.specs.Foreign.{is_plain, Foreign, foreign}
use Rattle.sw_tree.specs.Laws.Foreign.{none_foreign}
use Rattle.sw_tree.specs.ForeignSeen.{refusal_of, foreign_seen}
use Rattle.sw_tree.specs.declared.mode.Mode.{Mode}
use Rattle.sw_tree.specs.declared.fail.Refusal.{Refusal}
use Rattle.sw_elem.specs.Foreign.{any_reads, any_spot}

refused : (m : Mode) (s : Seen) (o : Option Foreign) (r : Refusal) → foreign s.tree ≡ o → Some r ≡ option_map (refusal_of s) o → placed (any_reads m) (any_spot m) s ≡ Err r
refused m s None r e h = absurd (cc)
refused m s (Some f) r e h = let k : r ≡ refusal_of s f = cc in rw e (ap Err (sym k))

pub any_refused : (m : Mode) (s : Seen) (r : Refusal) → Some r ≡ foreign_seen s → placed (any_reads m) (any_spot m) s ≡ Err r
any_refused m s r h = refused m s (foreign s.tree) r refl h

none_there : (s : Seen) (o : Option Foreign) → None ≡ option_map (refusal_of s) o → o ≡ None
none_there s None h = refl
none_there s (Some f) h = absurd (cc)

pub any_taken : (m : Mode) (s : Seen) (t : Tree) → None ≡ foreign_seen s → t ≡ s.tree → placed (any_reads m) (any_spot m) s ≡ Ok (meaning.tree t)
any_taken m s t h e = rw (none_there s (foreign s.tree) h) (ap (λ u. Ok (meaning.tree u)) (sym e))

pub any_held : (s : Seen) (t : Tree) → None ≡ foreign_seen s → t ≡ s.tree → is_plain t ≡ true
any_held s t h e = ap is_plain e ∙ none_foreign s.tree (none_there s (foreign s.tree) h)

pub ruleset any_answers = (any_refused, any_taken, any_held)
