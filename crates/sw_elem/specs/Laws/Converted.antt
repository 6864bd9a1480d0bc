-- The laws of a value that is made of another's one to one are that other's.
use Rattle.std.specs.Prelude.{Ok, ◌≡◌, Result, Err}
use Rattle.std.proofs.Common.{refl, ap, ◌∙◌, subst}
use Rattle.sw_tree.specs.Meaning.{Meaning}
use Rattle.sw_tree.specs.Steps.{bind}
use Rattle.sw_tree.specs.declared.fail.DeError.{DeError}
use Rattle.sw_tree.specs.Laws.Steps.{bind_ok}
use Rattle.sw_check.specs.Form.{Form}
use Rattle.sw_elem.specs.Equations.{Writes, Reads, Spots, Skips, LawfulReading}
use Rattle.sw_elem.specs.Statements.{Norm}
use Rattle.sw_elem.specs.Lawful.{Lawful}
use Rattle.sw_elem.specs.Converted.{converted_writes, converted_reads, converted_norm}

-- those of `Q` are made of those of `P`, and lead back to them
pub record IsConversion (P Q : Meaning → Type 0) (to from : Meaning → Meaning) : Type 0 where
  pub into : (u : Meaning) → P u → Q (to u)
  pub out : (v : Meaning) → Q v → P (from v)
  pub same : (v : Meaning) → Q v → to (from v) ≡ v

refused : (to : Meaning → Meaning) (r : Result Meaning DeError) (e : DeError) → bind r (λ u. Ok (to u)) ≡ Err e → r ≡ Err e
refused to (Ok u) e p = absurd (cc)
refused to (Err d) e p = cc

module _ {P Q : Meaning → Type 0} {to from : Meaning → Meaning} (c : IsConversion P Q to from) where
  made : (u v : Meaning) (r : Result Meaning DeError) → P u → r ≡ Ok (to u) → r ≡ Ok v → Q v
  made u v r h p q = let e : to u ≡ v = cc in subst Q e (c.into u h)

  pub converted_lawful : {r : Reads} {s : Spots} → LawfulReading P r s → LawfulReading Q (converted_reads to r) s
  converted_lawful {r} law = record {
    meanings = λ m t v h p. let q = bind_ok (r m t) (λ u. Ok (to u)) v p in made q.0 v (Ok (to q.0)) (law.meanings m t q.0 h q.1) refl q.2;
    inside = λ m t e p. law.inside m t e (refused to (r m t) e p);
  }

  -- the laws of what is made are those of what it is made of, under the same expression
  pub converted_keeps : {w : Writes} {r : Reads} {s : Spots} {k : Skips} {e : Form} {n : Norm} {a : Type 0} → Lawful P w r s k e n a →
      Lawful Q (converted_writes from w) (converted_reads to r) s k e (converted_norm to from n) a
  converted_keeps {w} {r} law = record {
    images = λ m i v t h p. law.images m i (from v) t (c.out v h) p;
    back = λ b m i v t j h p q. ap (λ x. bind x (λ u. Ok (to u))) (law.back b m i (from v) t j (c.out v h) p q);
    never_key = λ m i v h p. law.never_key m i (from v) (c.out v h) p;
    written_kinds = λ m v t h p. law.written_kinds m (from v) t (c.out v h) p;
    read_kinds = λ m t v p. let q = bind_ok (r m t) (λ u. Ok (to u)) v p in law.read_kinds m t q.0 q.1;
    unmarked = λ m v. law.unmarked m (from v);
    exact = λ m g v h. ap to (law.exact m g (from v) (c.out v h)) ∙ c.same v h;
    spot_kinds = λ m t j p. law.spot_kinds m t j (refused to (r m t) _ p);
    note_kinds = law.note_kinds;
    nodes = λ m v t h p. law.nodes m (from v) t (c.out v h) p;
    norms = λ m v h. c.into _ (law.norms m (from v) (c.out v h));
  }
