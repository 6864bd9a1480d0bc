use Rattle.std.proofs.Common.{◌≡◌, ◌<◌, length, sym, ap, ◌∙◌, arith}
use Rattle.std.proofs.lemmas.List.{length-reverse}
use Rattle.std.specs.Prelude.{reverse, Ok, is_some}
use Rattle.sw_tree.specs.Tree.{Tree}
use Rattle.sw_tree.specs.Laws.Options.{some_is}
use Rattle.sw_compact.specs.Inner.Heads.{head_of}
use Rattle.sw_compact.proofs.Fronts.{head_shorter}
use Rattle.sw_compact.proofs.Reading as reading
use Rattle.sw_compact.proofs.reader.read_by.Goals as goal

pub loop-head-init : goal.loop-head-init
loop-head-init c = rw (c.new-levels.ensures.items, c.reserve.ensures, c.new-builder.ensures) (reading.at_start c.args.version c.args.bytes.now c.args.body.now c.requires)

pub overflow_sub-end : goal.overflow_sub-end
overflow_sub-end c =
    let less : length c.in-Some.behind.now < length c.loop-head.rest.now = head_shorter c.args.version c.loop-head.rest.now (head_of c.in-Some.head) c.in-Some.behind.now (sym c.in-Some.ensures) in
    omega (arith, less, reading.inside c.loop-head.invariant)

pub keep-requires : goal.keep-requires
keep-requires c =
    let depth : length (reverse c.loop-head.levels.items) ≡ c.len.result = omega (arith, length-reverse c.loop-head.levels.items, c.len.ensures, c.loop-head.levels.ok) in
    λ n. rw (← depth) (reading.can_build c.loop-head.invariant (head_of c.in-Some.head) c.in-Some.behind.now (sym c.in-Some.ensures) n)

pub step-requires : goal.step-requires
step-requires c =
    let depth : c.len.result ≡ length (reverse c.loop-head.levels.items) = omega (arith, length-reverse c.loop-head.levels.items, c.len.ensures, c.loop-head.levels.ok) in
    λ n. reading.can_follow c.loop-head.invariant (head_of c.in-Some.head) c.in-Some.behind.now c.in-Ok.first c.keep.new.builder (sym c.in-Some.ensures) (rw depth at c.in-Ok.ensures) n

pub loop-head-smaller : goal.loop-head-smaller
loop-head-smaller c = head_shorter c.args.version c.loop-head.rest.now (head_of c.in-Some.head) c.in-Some.behind.now (sym c.in-Some.ensures)

pub loop-head-preserved : goal.loop-head-preserved
loop-head-preserved c =
    let depth : c.len.result ≡ length (reverse c.loop-head.levels.items) = omega (arith, length-reverse c.loop-head.levels.items, c.len.ensures, c.loop-head.levels.ok) in
    let some : 0 < length (reverse c.step.new.levels.items) = omega (arith, length-reverse c.step.new.levels.items, c.step.new.levels.ok, reading.is_some_number c.step.new.levels.len c.if-is_empty.ensures) in
    reading.still_reads c.loop-head.invariant (head_of c.in-Some.head) c.in-Some.behind.now c.in-Ok.first c.keep.new.builder c.step.new.builder (reverse c.step.new.levels.items) (sym c.in-Some.ensures) (rw depth at c.in-Ok.ensures) (reading.where_ok c.step.result c.if-is_err-2.ensures.value c.step.ensures) some

pub returns-then-not-is_empty-clause-found : goal.returns-then-not-is_empty-clause-found
returns-then-not-is_empty-clause-found c =
    let depth : c.len.result ≡ length (reverse c.loop-head.levels.items) = omega (arith, length-reverse c.loop-head.levels.items, c.len.ensures, c.loop-head.levels.ok) in
    let none : length (reverse c.step.new.levels.items) ≡ 0 = omega (arith, length-reverse c.step.new.levels.items, c.step.new.levels.ok, reading.is_zero c.step.new.levels.len c.if-is_empty.ensures) in
    reading.too_long c.loop-head.invariant (head_of c.in-Some.head) c.in-Some.behind.now c.in-Ok.first c.keep.new.builder c.step.new.builder (reverse c.step.new.levels.items) (sym c.in-Some.ensures) (rw depth at c.in-Ok.ensures) (reading.where_ok c.step.result c.if-is_err-2.ensures.value c.step.ensures) none (reading.is_some_number (length c.in-Some.behind.now) c.if-not-is_empty.ensures)

pub returns-in-Some-fault-clause-found : goal.returns-in-Some-fault-clause-found
returns-in-Some-fault-clause-found c =
    let depth : c.len.result ≡ length (reverse c.loop-head.levels.items) = omega (arith, length-reverse c.loop-head.levels.items, c.len.ensures, c.loop-head.levels.ok) in
    let none : length (reverse c.step.new.levels.items) ≡ 0 = omega (arith, length-reverse c.step.new.levels.items, c.step.new.levels.ok, reading.is_zero c.step.new.levels.len c.if-is_empty.ensures) in
    let nothing : length c.in-Some.behind.now ≡ 0 = reading.is_zero (length c.in-Some.behind.now) c.if-not-is_empty.ensures in
    reading.caused c.in-Some-fault.fault _ (reading.at_fault c.loop-head.invariant (head_of c.in-Some.head) c.in-Some.behind.now c.in-Ok.first c.keep.new.builder c.step.new.builder (reverse c.step.new.levels.items) (sym c.in-Some.ensures) (rw depth at c.in-Ok.ensures) (reading.where_ok c.step.result c.if-is_err-2.ensures.value c.step.ensures) c.in-Some-fault.fault none nothing c.in-Some-fault.is)

pub finish-requires : goal.finish-requires
finish-requires c =
    let depth : c.len.result ≡ length (reverse c.loop-head.levels.items) = omega (arith, length-reverse c.loop-head.levels.items, c.len.ensures, c.loop-head.levels.ok) in
    let none : length (reverse c.step.new.levels.items) ≡ 0 = omega (arith, length-reverse c.step.new.levels.items, c.step.new.levels.ok, reading.is_zero c.step.new.levels.len c.if-is_empty.ensures) in
    let nothing : length c.in-Some.behind.now ≡ 0 = reading.is_zero (length c.in-Some.behind.now) c.if-not-is_empty.ensures in
    let g = reading.at_tree c.loop-head.invariant (head_of c.in-Some.head) c.in-Some.behind.now c.in-Ok.first c.keep.new.builder c.step.new.builder (reverse c.step.new.levels.items) (sym c.in-Some.ensures) (rw depth at c.in-Ok.ensures) (reading.where_ok c.step.result c.if-is_err-2.ensures.value c.step.ensures) none nothing c.in_default-fault.is in
    record { root = ap is_some g.1 }

pub returns-clause-found : goal.returns-clause-found
returns-clause-found c =
    let depth : c.len.result ≡ length (reverse c.loop-head.levels.items) = omega (arith, length-reverse c.loop-head.levels.items, c.len.ensures, c.loop-head.levels.ok) in
    let none : length (reverse c.step.new.levels.items) ≡ 0 = omega (arith, length-reverse c.step.new.levels.items, c.step.new.levels.ok, reading.is_zero c.step.new.levels.len c.if-is_empty.ensures) in
    let nothing : length c.in-Some.behind.now ≡ 0 = reading.is_zero (length c.in-Some.behind.now) c.if-not-is_empty.ensures in
    let g = reading.at_tree c.loop-head.invariant (head_of c.in-Some.head) c.in-Some.behind.now c.in-Ok.first c.keep.new.builder c.step.new.builder (reverse c.step.new.levels.items) (sym c.in-Some.ensures) (rw depth at c.in-Ok.ensures) (reading.where_ok c.step.result c.if-is_err-2.ensures.value c.step.ensures) none nothing c.in_default-fault.is in
    rw c.in-Ok-shared.ensures (g.2 ∙ ap (λ (t : Tree). Ok t) (sym (some_is (c.finish.ensures.tree ∙ g.1))))

pub returns-clause-side : goal.returns-clause-side
returns-clause-side c =
    let depth : c.len.result ≡ length (reverse c.loop-head.levels.items) = omega (arith, length-reverse c.loop-head.levels.items, c.len.ensures, c.loop-head.levels.ok) in
    let none : length (reverse c.step.new.levels.items) ≡ 0 = omega (arith, length-reverse c.step.new.levels.items, c.step.new.levels.ok, reading.is_zero c.step.new.levels.len c.if-is_empty.ensures) in
    let nothing : length c.in-Some.behind.now ≡ 0 = reading.is_zero (length c.in-Some.behind.now) c.if-not-is_empty.ensures in
    let g = reading.at_tree c.loop-head.invariant (head_of c.in-Some.head) c.in-Some.behind.now c.in-Ok.first c.keep.new.builder c.step.new.builder (reverse c.step.new.levels.items) (sym c.in-Some.ensures) (rw depth at c.in-Ok.ensures) (reading.where_ok c.step.result c.if-is_err-2.ensures.value c.step.ensures) none nothing c.in_default-fault.is in
    rw c.in-Ok-shared.ensures (c.finish.ensures.side ∙ g.3)
