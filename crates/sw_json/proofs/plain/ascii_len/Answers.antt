use Rattle.std.proofs.Common.{sym, ap, ◌∙◌, arith}
use Rattle.std.proofs.lemmas.List.{take_rest}
use Rattle.std.specs.List.{prefix_len}
use lib.Count.{count_trailing_zeros}
use Rattle.sw_json.specs.Inner.Plain.{is_plain_ascii}
use Rattle.sw_json.proofs.Stops.{goes_through, ends_within, len_fits}
use Rattle.sw_json.proofs.plain.ascii_len.Goals as goal

pub returns-then-stops-ne0-clause-value : goal.returns-then-stops-ne0-clause-value
returns-then-stops-ne0-clause-value c =
    let found = c.ascii_stops_16-stops in
    let run = ends_within is_plain_ascii c.args.bytes.now c.loop-at.at 16 (omega arith) (omega arith) (omega (arith, found.ensures)) ∙ ap (count_trailing_zeros 64) (sym found.ensures) in
    omega (arith, run, c.loop-at.invariant.0)

pub returns-then-stops-ne0-clause-bound : goal.returns-then-stops-ne0-clause-bound
returns-then-stops-ne0-clause-bound c =
    let found = c.ascii_stops_16-stops in
    let run = ends_within is_plain_ascii c.args.bytes.now c.loop-at.at 16 (omega arith) (omega arith) (omega (arith, found.ensures)) ∙ ap (count_trailing_zeros 64) (sym found.ensures) in
    omega (arith, run, len_fits is_plain_ascii c.args.bytes.now c.loop-at.at c.loop-at.invariant.1)

pub loop-at-preserved : goal.loop-at-preserved
loop-at-preserved c =
    let run = goes_through is_plain_ascii c.args.bytes.now c.loop-at.at 16 (omega arith) (omega (arith, c.ascii_stops_16-stops.ensures)) in
    (omega (arith, run, c.loop-at.invariant.0), omega arith)

pub overflow_add-result-2 : goal.overflow_add-result-2
overflow_add-result-2 c = omega (arith, len_fits is_plain_ascii c.args.bytes.now c.loop-at.at c.loop-at.invariant.1, ap (prefix_len is_plain_ascii) (take_rest c.args.bytes.now c.loop-at.at))

pub returns-clause-bound : goal.returns-clause-bound
returns-clause-bound c = omega (arith, len_fits is_plain_ascii c.args.bytes.now c.loop-at.at c.loop-at.invariant.1, ap (prefix_len is_plain_ascii) (take_rest c.args.bytes.now c.loop-at.at))
