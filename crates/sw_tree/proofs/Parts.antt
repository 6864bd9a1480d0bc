-- A part of a document, cut out, means the tree that it meant.
use Rattle.std.proofs.Common.{ℕ, suc, ◌+◌, ◌-◌, ◌≤◌, ◌<◌, ◌≡◌, List, [], ◌∷◌, length, take, drop, get_or, refl, sym, ap, ◌∙◌, arith, length-drop}
use Rattle.std.proofs.lemmas.List.{length-take-le}
use Rattle.std.specs.Prelude.{slice_range}
use Rattle.sw_tree.specs.declared.cell.Cell.{Cell}
use Rattle.sw_tree.specs.Tree.{Tree}
use Rattle.sw_tree.specs.Inner.Cells.{Store, Formed, forest, first, below, tree_at}
use Rattle.sw_tree.specs.Inner.Moved.{reach_of}
use Rattle.sw_tree.specs.declared.part.Reach.{Reach}
use Rattle.sw_tree.proofs.CellLemmas.{is_at}
use Rattle.sw_tree.proofs.Runs.{run_of}
use Rattle.sw_tree.proofs.MovedLemmas.{Part, moved_part_of}

-- the cells of one node and of all below it
pub record Cut (s : Store) (cells : List Cell) (at stop : ℕ) (run : List Cell) (reach : Reach) : Type 0 where
  pub part : Part s reach run
  pub one : forest s run ≡ first (forest s (drop at cells)) ∷ []
  pub some : 0 < length run
  pub few : length run ≤ length cells
  pub inside : stop ≤ length cells

cut_of : (s : Store) (cells : List Cell) (at stop : ℕ) (d : Cell) → at < length cells → Formed s cells → stop ≡ at + 1 + below (get_or cells at d) → Cut s cells at stop (slice_range cells at stop) (reach_of (slice_range cells at stop))
unfolding forest
cut_of s cells at stop d lt formed e =
    let c = get_or cells at d in
    let rest = drop (at + 1) cells in
    let here = is_at s cells at d lt formed in
    let n : stop - at ≡ suc (below c) = omega arith in
    let is : slice_range cells at stop ≡ take (suc (below c)) (c ∷ rest) = rw (n, here.means) refl in
    let run = run_of s c rest here.fits here.rest in
    let root : first (forest s (drop at cells)) ≡ tree_at s c (forest s rest) = ap (λ cs. first (forest s cs)) here.means in
    let l : length (take (below c) rest) ≡ below c = length-take-le (below c) rest here.fits.inside in
    let r = length-drop (at + 1) cells in
    rw is
    (record {
      part = moved_part_of s (take (suc (below c)) (c ∷ rest)) run.formed;
      one = run.means ∙ ap (λ (t : Tree). t ∷ []) (sym root);
      some = omega arith;
      few = omega (arith, l, here.fits.inside, r);
      inside = omega (arith, here.fits.inside, r);
    })

pub cut_at : (s : Store) (cells : List Cell) (at stop : ℕ) (d : Cell) (run : List Cell) (reach : Reach) → run ≡ slice_range cells at stop → reach ≡ reach_of run → at < length cells → Formed s cells → stop ≡ at + 1 + below (get_or cells at d) → Cut s cells at stop run reach
cut_at s cells at stop d run reach is means lt formed e = rw (means, is) (cut_of s cells at stop d lt formed e)

pub stop_inside : (s : Store) (cells : List Cell) (at stop : ℕ) (d : Cell) → at < length cells → Formed s cells → stop ≡ at + 1 + below (get_or cells at d) → stop ≤ length cells
stop_inside s cells at stop d lt formed e = (cut_of s cells at stop d lt formed e).inside
