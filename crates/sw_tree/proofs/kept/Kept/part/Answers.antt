use Rattle.std.proofs.Common.{◌≡◌, List, ap, ◌∙◌, arith}
use Rattle.std.specs.Prelude.{slice_range}
use Rattle.sw_tree.specs.declared.cell.Cell.{Cell}
use Rattle.sw_tree.specs.declared.cell.Cell.TheVariants.{Null}
use Rattle.sw_tree.specs.Inner.Cells.{first}
use Rattle.sw_tree.specs.Inner.Sheet.{sheet_store}
use Rattle.sw_tree.proofs.Parts.{cut_at, stop_inside}
use Rattle.sw_tree.proofs.kept.Kept.part.Goals as goal

pub run_at-run-requires : goal.run_at-run-requires
run_at-run-requires c =
    let inside = stop_inside (sheet_store c.args.input.now c.args.sheet.now) c.args.sheet.now.cells.items c.args.at c.args.end Null c.requires.inside c.requires.formed c.requires.all in
    record { ordered = omega (arith, c.requires.all); inside = rw c.as_slice.ensures.value inside }

pub copied-requires : goal.copied-requires
copied-requires c =
    let cells = c.args.sheet.now.cells.items in
    let is : c.run_at-run.result.now ≡ slice_range cells c.args.at c.args.end = c.run_at-run.ensures ∙ ap (λ (xs : List Cell). slice_range xs c.args.at c.args.end) c.as_slice.ensures.value in
    let k = cut_at (sheet_store c.args.input.now c.args.sheet.now) cells c.args.at c.args.end Null c.run_at-run.result.now c.reach_of-reach.result is c.reach_of-reach.ensures c.requires.inside c.requires.formed c.requires.all in
    record { ordered = k.part.input; inside = k.part.inside.input }

pub copied-requires-2 : goal.copied-requires-2
copied-requires-2 c =
    let cells = c.args.sheet.now.cells.items in
    let is : c.run_at-run.result.now ≡ slice_range cells c.args.at c.args.end = c.run_at-run.ensures ∙ ap (λ (xs : List Cell). slice_range xs c.args.at c.args.end) c.as_slice.ensures.value in
    let k = cut_at (sheet_store c.args.input.now c.args.sheet.now) cells c.args.at c.args.end Null c.run_at-run.result.now c.reach_of-reach.result is c.reach_of-reach.ensures c.requires.inside c.requires.formed c.requires.all in
    record { ordered = k.part.side; inside = rw c.as_slice-2.ensures.value k.part.inside.side }

pub copied-requires-3 : goal.copied-requires-3
copied-requires-3 c =
    let cells = c.args.sheet.now.cells.items in
    let is : c.run_at-run.result.now ≡ slice_range cells c.args.at c.args.end = c.run_at-run.ensures ∙ ap (λ (xs : List Cell). slice_range xs c.args.at c.args.end) c.as_slice.ensures.value in
    let k = cut_at (sheet_store c.args.input.now c.args.sheet.now) cells c.args.at c.args.end Null c.run_at-run.result.now c.reach_of-reach.result is c.reach_of-reach.ensures c.requires.inside c.requires.formed c.requires.all in
    record { ordered = k.part.wides; inside = rw c.as_slice-3.ensures.value k.part.inside.wides }

pub invariant_of-result-2 : goal.invariant_of-result-2
invariant_of-result-2 c =
    let cells = c.args.sheet.now.cells.items in
    let is : c.run_at-run.result.now ≡ slice_range cells c.args.at c.args.end = c.run_at-run.ensures ∙ ap (λ (xs : List Cell). slice_range xs c.args.at c.args.end) c.as_slice.ensures.value in
    let k = cut_at (sheet_store c.args.input.now c.args.sheet.now) cells c.args.at c.args.end Null c.run_at-run.result.now c.reach_of-reach.result is c.reach_of-reach.ensures c.requires.inside c.requires.formed c.requires.all in
    rw (c.in_ok-own_input.ensures, c.in_ok-own_side.ensures, c.in_ok-own_wides.ensures, c.in_ok-own_cells.ensures, c.as_slice-2.ensures.value, c.as_slice-3.ensures.value) k.part.formed

pub returns : goal.returns
returns c =
    let cells = c.args.sheet.now.cells.items in
    let is : c.run_at-run.result.now ≡ slice_range cells c.args.at c.args.end = c.run_at-run.ensures ∙ ap (λ (xs : List Cell). slice_range xs c.args.at c.args.end) c.as_slice.ensures.value in
    let k = cut_at (sheet_store c.args.input.now c.args.sheet.now) cells c.args.at c.args.end Null c.run_at-run.result.now c.reach_of-reach.result is c.reach_of-reach.ensures c.requires.inside c.requires.formed c.requires.all in
    rw (c.in_ok-own_input.ensures, c.in_ok-own_side.ensures, c.in_ok-own_wides.ensures, c.in_ok-own_cells.ensures, c.as_slice-2.ensures.value, c.as_slice-3.ensures.value) (ap first (k.part.means ∙ k.one))
