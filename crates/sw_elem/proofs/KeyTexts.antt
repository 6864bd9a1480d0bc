-- Numbers and truth values, by what the node is and what its text stands for.
use Rattle.std.proofs.Common.{◌≡◌, ℕ, List, true, false, Option, Some, None, Result, Ok, Err, refl, ap, sym}
use Rattle.std.specs.Option.{option_and_then}
use Rattle.sw_tree.specs.Tree.{Tree, null, truth, int, text, bytes, list, map, text_at, kind_of}
use Rattle.sw_tree.specs.declared.mode.Mode.{Mode}
use Rattle.sw_tree.specs.declared.fail.DeError.{DeError}
use Rattle.sw_tree.specs.declared.fail.DeError.TheVariants as fail
use Rattle.sw_tree.specs.declared.fail.Refusal.{Refusal}
use Rattle.sw_tree.specs.Placed.{placed, placed_at}
use Rattle.sw_tree.specs.Seen.{Seen, place_at}
use Rattle.sw_tree.specs.Steps.{bind}
use Rattle.sw_elem.specs.Equations.{own_spot}
use Rattle.sw_elem.specs.KeyPlace.{is_plain_key, key_text, keyed_reads}

pub in_key_place : (m : Mode) (t : Tree) → is_plain_key m ≡ true → key_text m t ≡ text_at t
in_key_place m null h = refl
in_key_place m (truth b) h = refl
in_key_place m (int n) h = refl
in_key_place m (text s) h = rw h refl
in_key_place m (bytes s) h = refl
in_key_place m (list ts) h = refl
in_key_place m (map es) h = refl

pub elsewhere : (m : Mode) (t : Tree) → is_plain_key m ≡ false → key_text m t ≡ None
elsewhere m null h = refl
elsewhere m (truth b) h = refl
elsewhere m (int n) h = refl
elsewhere m (text s) h = rw h refl
elsewhere m (bytes s) h = refl
elsewhere m (list ts) h = refl
elsewhere m (map es) h = refl

pub ruleset key_texts = (in_key_place, elsewhere)

module _ {A : Type 0} (own : Tree → Option A) (named : List ℕ → Option A) (m : Mode) (s : Seen) where
  pub keyed-own : (x : A) → Some x ≡ own s.tree → placed (keyed_reads own named m) (own_spot m) s ≡ Ok x
  keyed-own x h = rw (sym h) refl

  pub keyed-named : (x : A) → None ≡ own s.tree → Some x ≡ option_and_then named (key_text m s.tree) → placed (keyed_reads own named m) (own_spot m) s ≡ Ok x
  keyed-named x h k = rw (sym h, sym k) refl

  pub keyed-none : None ≡ own s.tree → None ≡ option_and_then named (key_text m s.tree) → placed (keyed_reads own named m) (own_spot m) s ≡ Err (record { error = fail.InvalidType (kind_of s.tree); place = place_at s 0 })
  keyed-none h k = rw (sym h, sym k) refl

refused_first : {A B : Type 0} (s : Seen) (n : ℕ) (r : Result A DeError) (g : A → Result B DeError) (e : Refusal) → Err e ≡ placed_at s n r → placed_at s n (bind r g) ≡ Err e
refused_first s n (Ok x) g e h = absurd (cc)
refused_first s n (Err d) g e h = let k : e ≡ record { error = d; place = place_at s n } = cc in ap Err (sym k)

-- what a reader makes of what was read first
module _ {A B : Type 0} (f : Mode → Tree → Result A DeError) (g : A → Result B DeError) (m : Mode) (s : Seen) where
  pub then_refused : (e : Refusal) → Err e ≡ placed (f m) (own_spot m) s → placed (λ t. bind (f m t) g) (own_spot m) s ≡ Err e
  then_refused e h = refused_first s 0 (f m s.tree) g e h

pub ruleset keyed = (keyed-own, keyed-named, keyed-none)
