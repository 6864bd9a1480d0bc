use Rattle.std.proofs.Common.{ap, ◌∙◌, ◌≡◌, ℕ, List, pos, arith}
use Rattle.std.specs.Prelude.{map}
use Rattle.std.proofs.lemmas.List.{take_all}
use Rattle.sw_tree.specs.Tree.{trees, trees_depth, list, int}
use Rattle.sw_tree.specs.Image.{numbers}
use Rattle.sw_tree.proofs.ImageLemmas.{numbers-map, numbers-depth}
use Rattle.sw_tree.proofs.images.list_of_numbers.Goals as goal

pub shallow_list-requires : goal.shallow_list-requires
shallow_list-requires c =
    let is : trees c.loop-byte.items.items ≡ numbers c.args.bytes.now =
    ap trees (c.loop-byte.invariant ∙ ap (λ (bs : List ℕ). map (λ (b : ℕ). int (pos b)) bs) (take_all c.loop-byte.byte-index c.args.bytes.now c.loop-byte-test.false)) ∙ numbers-map c.args.bytes.now in
    omega (arith, ap trees_depth is, numbers-depth c.args.bytes.now)

pub returns : goal.returns
returns c =
    let is : trees c.loop-byte.items.items ≡ numbers c.args.bytes.now =
    ap trees (c.loop-byte.invariant ∙ ap (λ (bs : List ℕ). map (λ (b : ℕ). int (pos b)) bs) (take_all c.loop-byte.byte-index c.args.bytes.now c.loop-byte-test.false)) ∙ numbers-map c.args.bytes.now in
    c.shallow_list.ensures ∙ ap list is
