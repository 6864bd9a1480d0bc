-- What recoding logs where a step fails.
use Rattle.std.proofs.Common.{List, [], ◌∷◌, ◌++◌, ◌≡◌, true, Result, Ok, Err, append-nil, zero-add, refl, sym, ap, ◌∙◌}
use Rattle.std.specs.Result.{IsErrAnd}
use Rattle.sw_tree.specs.Mode.{plain}
use Rattle.sw_tree.specs.Seen.{Seen}
use Rattle.sw_tree.specs.declared.mode.Mode.{Mode}
use Rattle.sw_tree.specs.declared.mode.WireKind.{WireKind}
use Rattle.sw_tree.specs.Placed.{Note, placed_notes}
use Rattle.sw_tree.specs.Tree.{Tree}
use Rattle.sw_tree.specs.Wires.{IsFound}
use Rattle.sw_tree.specs.declared.fail.Refusal.{Refusal}
use Rattle.sw_tree.specs.declared.fail.SerFail.{SerFail}
use Rattle.sw_tree.specs.declared.fail.SerFail.TheVariants as ser
use Rattle.sw_tree.specs.declared.fail.WireError.{WireError}
use Rattle.sw_tree.specs.declared.fail.WireError.TheVariants as wire
use Rattle.sw_elem.specs.Equations.{Skips}
use Rattle.sw_core.specs.declared.recode.RecodeError.{RecodeError}
use Rattle.sw_core.specs.declared.recode.RecodeError.TheVariants as fail
use Rattle.sw_core.specs.Recoding.{wire_error, write_error, noted, passed_over, IsNoted}
use Rattle.sw_tree.specs.Laws.Logs.{cut_at_start, cut_at_end}

-- an error that came from a step's
pub err_is : {T E : Type 0} (x : Result T E) (e : E) → IsErrAnd x (λ r. r ≡ e) → x ≡ Err e
err_is (Ok y) e h = absurd h
err_is (Err r) e h = ap Err h

none_gained : (log gains : List Refusal) → gains ≡ [] → log ≡ log ++ gains
none_gained log gains e = rw e (sym (append-nil log))

-- a wire's error leaves the log
pub wire_noted : {T : Type 0} (x : Result T RecodeError) (e : WireError) (q : Result Tree WireError) (skips : Tree → List Note) (log : List Refusal) → IsErrAnd x (λ r. r ≡ wire_error e) → IsFound (Err e) q → IsNoted x log (passed_over skips q) log
wire_noted x wire.Syntax q skips log k h = rw (err_is x fail.Syntax k) (none_gained log (passed_over skips q) (rw h refl))
wire_noted x (wire.NotWhole at) q skips log k h = rw (err_is x (fail.NotWhole at) k) (none_gained log (passed_over skips q) (rw h refl))
wire_noted x (wire.TooDeep at) q skips log k h = rw (err_is x (fail.TooDeep at) k) (none_gained log (passed_over skips q) (rw h refl))
wire_noted x wire.Memory q skips log k h = rw (err_is x fail.Memory k) (cut_at_start log (passed_over skips q))

placed_notes-root : (t : Tree) (ns : List Note) → placed_notes (record { tree = t; place = 0; counts = true }) ns ≡ noted ns
placed_notes-root t [] = refl
placed_notes-root t (n ∷ ns) = rw (zero-add n.number, placed_notes-root t ns) refl

-- what reading the whole document logged is what recoding does
pub log_skipped : (q : Result Tree WireError) (t : Tree) (s : Seen) (m : Mode) (w : WireKind) (skips : Skips) (old new : List Refusal) → q ≡ Ok t → s ≡ record { tree = t; place = 0; counts = true } → m ≡ plain w →
    new ≡ old ++ placed_notes s (skips m s.tree) → new ≡ old ++ passed_over (skips (plain w)) q
log_skipped q t s m w skips old new e is mode h =
    h ∙ ap (λ l. old ++ l) (ap (λ (x : Seen). placed_notes x (skips m x.tree)) is ∙ ap (λ x. placed_notes (record { tree = t; place = 0; counts = true }) (skips x t)) mode ∙ placed_notes-root t (skips (plain w) t) ∙ rw e refl)

-- behind a reading that gave a value the log has all
pub write_noted : {T : Type 0} (x : Result T RecodeError) (e : SerFail) (old gains new : List Refusal) → IsErrAnd x (λ r. r ≡ write_error e) → new ≡ old ++ gains → IsNoted x old gains new
write_noted x (ser.Unwritable r) old gains new k h = rw (err_is x (fail.Unwritable r) k) h
write_noted x ser.Memory old gains new k h = rw (err_is x fail.Memory k) (cut_at_end old new gains h)
