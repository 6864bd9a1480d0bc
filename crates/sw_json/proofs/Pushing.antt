-- Pushing one text and then another.
use Rattle.std.proofs.Common.{◌≡◌, ℕ, List, ◌++◌, refl, ap, ◌∙◌, append_assoc, Option, Some, None, option_map, Result, Ok, Err}
use Rattle.sw_tree.specs.declared.fail.PrintError.{PrintError}
use Rattle.sw_tree.specs.declared.fail.PrintError.TheVariants.{Key, Memory}
use Rattle.sw_json.specs.Inner.Pushed.{IsPushed, joined}

abbrev pub Done : Type 0
Done = Result (Unit {0}) PrintError

-- what the bytes become once the text is appended
abbrev pub onto : List ℕ → Option (List ℕ) → Option (List ℕ)
onto before r = option_map (λ s. before ++ s) r

pub onto-joined : (before mid : List ℕ) (r s : Option (List ℕ)) → onto before r ≡ Some mid → onto before (joined r s) ≡ onto mid s
onto-joined before mid None s h = cc
onto-joined before mid (Some a) None h = refl
onto-joined before mid (Some a) (Some b) h = let e : before ++ a ≡ mid = cc in rw (← e, append_assoc) refl

pub none_onto : (before : List ℕ) (r : Option (List ℕ)) → onto before r ≡ None → r ≡ None
none_onto before None h = refl
none_onto before (Some a) h = cc

-- what is left to push from the middle on is what was to be pushed
pub pushed-moved : (done : Done) (before mid after : List ℕ) (r s : Option (List ℕ)) → onto before r ≡ onto mid s → IsPushed done mid after s → IsPushed done before after r
pushed-moved (Ok u) before mid after r s e h = e ∙ h
pushed-moved (Err Key) before mid after r s e h = e ∙ h
pushed-moved (Err Memory) before mid after r s e h = tt

pub pushed-then : (done : Done) (before mid after : List ℕ) (r s : Option (List ℕ)) → onto before r ≡ Some mid → IsPushed done mid after s → IsPushed done before after (joined r s)
pushed-then done before mid after r s h k = pushed-moved done before mid after (joined r s) s (onto-joined before mid r s h) k

-- where the first is refused, both are
pub pushed-refused : (e : PrintError) (before mid after : List ℕ) (r s : Option (List ℕ)) → IsPushed (Err e) before mid r → IsPushed (Err e) before after (joined r s)
pushed-refused Key before mid after r s h = ap (λ x. onto before (joined x s)) (none_onto before r h)
pushed-refused Memory before mid after r s h = tt

-- three texts in a row
pub onto-three : (before first second : List ℕ) (r s t all : Option (List ℕ)) → all ≡ joined r (joined s t) → onto before r ≡ Some first → onto first s ≡ Some second → onto before all ≡ onto second t
onto-three before first second r s t all law h k = ap (onto before) law ∙ onto-joined before first r (joined s t) h ∙ onto-joined first second s t k
