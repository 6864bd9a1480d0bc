use Rattle.std.proofs.Common.{ap, ◌∙◌, ◌≡◌, Some, arith}
use Rattle.std.specs.Prelude.{Vec, option_map}
use Rattle.std.specs.declared.alloc.Global.{Global}
use Rattle.sw_tree.specs.Tree.{Tree, depth, list, map, trees, entries}
use Rattle.sw_tree.specs.Inner.Seen.{trees_of, pairs_of}
use Rattle.sw_tree.specs.Inner.View.{seen, tree_of}
use Rattle.sw_tree.specs.Image.{value_image, key_image, trees_image, entries_image}
use Rattle.sw_tree.proofs.Shown.{list_seen, map_seen, shallow_view}
use Rattle.sw_tree.proofs.ImageLemmas.{value_image-depth, image_on, image_lacks, images_all, entry_image_on, key_image_lacks, value_image_lacks, entry_images_all, items_shallow, entries_shallow, refused}
use Rattle.sw_tree.proofs.images.+image.Goals as goal

pub images_of-returns-in_err-image_of : goal.images_of-returns-in_err-image_of
images_of-returns-in_err-image_of t c =
    let whole = trees_image (trees (trees_of c.args.items)) in
    refused (λ u. u) (λ v. trees v.items) c.from_residual.result c.in_err-image_of.field-0.0 (value_image (tree_of c.in-Some.item)) whole c.from_residual.ensures.1 c.in_err-image_of.ensures
    (image_lacks whole c.loop-item.images.items c.loop-item.item-iterator c.loop-item.invariant.so_far (seen c.in-Some.item) c.next.new.self c.in-Some.ensures.steps)

pub images_of-loop-item-preserved : goal.images_of-loop-item-preserved
images_of-loop-item-preserved t c =
    record {
      so_far = rw c.in_ok-push.ensures.items
          (image_on (trees_image (trees (trees_of c.args.items))) c.loop-item.images.items c.loop-item.item-iterator c.loop-item.invariant.so_far (seen c.in-Some.item) c.next.new.self c.in-Some.ensures.steps c.in_ok-image_of.field-0 c.in_ok-image_of.ensures);
      shallow = omega (arith, c.loop-item.invariant.shallow, items_shallow c.loop-item.item-iterator (seen c.in-Some.item) c.next.new.self c.in-Some.ensures.steps);
    }

pub images_of-returns : goal.images_of-returns
images_of-returns t c = images_all (trees_image (trees (trees_of c.args.items))) c.loop-item.images.items c.loop-item.item-iterator c.loop-item.invariant.so_far c.in-None.ensures.steps.0

pub entry_images_of-returns-in_err-key_image_of : goal.entry_images_of-returns-in_err-key_image_of
entry_images_of-returns-in_err-key_image_of t c =
    let whole = entries_image (entries (pairs_of c.args.pairs)) in
    refused (λ u. u) (λ v. entries v.items) c.from_residual.result c.in_err-key_image_of.field-0.0 (key_image (tree_of c.in-Some.key)) whole c.from_residual.ensures.1 c.in_err-key_image_of.ensures
    (key_image_lacks whole c.loop-key.images.items c.loop-key.key-iterator c.loop-key.invariant.so_far (seen c.in-Some.key, seen c.in-Some.value) c.next.new.self c.in-Some.ensures.steps)

pub entry_images_of-returns-in_err-image_of : goal.entry_images_of-returns-in_err-image_of
entry_images_of-returns-in_err-image_of t c =
    let whole = entries_image (entries (pairs_of c.args.pairs)) in
    refused (λ u. u) (λ v. entries v.items) c.from_residual-in_err-image_of.result c.in_err-image_of.field-0.0 (value_image (tree_of c.in-Some.value)) whole c.from_residual-in_err-image_of.ensures.1 c.in_err-image_of.ensures
    (value_image_lacks whole c.loop-key.images.items c.loop-key.key-iterator c.loop-key.invariant.so_far (seen c.in-Some.key, seen c.in-Some.value) c.next.new.self c.in-Some.ensures.steps c.in_ok-key_image_of.field-0 c.in_ok-key_image_of.ensures)

pub entry_images_of-loop-key-preserved : goal.entry_images_of-loop-key-preserved
entry_images_of-loop-key-preserved t c =
    record {
      so_far = rw c.in_ok-push.ensures.items
          (entry_image_on (entries_image (entries (pairs_of c.args.pairs))) c.loop-key.images.items c.loop-key.key-iterator c.loop-key.invariant.so_far (seen c.in-Some.key, seen c.in-Some.value) c.next.new.self c.in-Some.ensures.steps c.in_ok-key_image_of.field-0 c.in_ok-image_of.field-0 c.in_ok-key_image_of.ensures c.in_ok-image_of.ensures);
      shallow = omega (arith, c.loop-key.invariant.shallow, entries_shallow c.loop-key.key-iterator (seen c.in-Some.key, seen c.in-Some.value) c.next.new.self c.in-Some.ensures.steps);
    }

pub entry_images_of-returns : goal.entry_images_of-returns
entry_images_of-returns t c = entry_images_all (entries_image (entries (pairs_of c.args.pairs))) c.loop-key.images.items c.loop-key.key-iterator c.loop-key.invariant.so_far c.in-None.ensures.steps.0

pub image_of-images_of-requires : goal.image_of-images_of-requires
image_of-images_of-requires t c = (omega (arith, c.decreases, ap depth (list_seen (seen c.args.view) c.in-Some.items c.in-Some.ensures)), tt)

pub image_of-returns-in_err-images_of : goal.image_of-returns-in_err-images_of
image_of-returns-in_err-images_of t c =
    refused (λ (v : Vec Tree Global). trees v.items) (λ u. u) c.from_residual.result c.in_err-images_of.field-0.0 (trees_image (trees (trees_of c.in-Some.items))) (value_image (tree_of c.args.view)) c.from_residual.ensures.1 c.in_err-images_of.ensures
    (λ lack. ap value_image (list_seen (seen c.args.view) c.in-Some.items c.in-Some.ensures) ∙ ap (option_map list) lack)

pub image_of-shallow_list-requires : goal.image_of-shallow_list-requires
image_of-shallow_list-requires t c =
    let is : value_image (tree_of c.args.view) ≡ Some (list (trees c.in_ok-images_of.field-0.items)) =
    ap value_image (list_seen (seen c.args.view) c.in-Some.items c.in-Some.ensures) ∙ ap (option_map list) c.in_ok-images_of.ensures in
    omega (arith, shallow_view c.args.view, value_image-depth (tree_of c.args.view) _ is)

pub image_of-returns-in-Some : goal.image_of-returns-in-Some
image_of-returns-in-Some t c =
    rw c.shallow_list.ensures (ap value_image (list_seen (seen c.args.view) c.in-Some.items c.in-Some.ensures) ∙ ap (option_map list) c.in_ok-images_of.ensures)

pub image_of-entry_images_of-requires : goal.image_of-entry_images_of-requires
image_of-entry_images_of-requires t c = (omega (arith, c.decreases, ap depth (map_seen (seen c.args.view) c.in-Some-entries.pairs c.in-Some-entries.ensures)), tt)

pub image_of-returns-in_err-entry_images_of : goal.image_of-returns-in_err-entry_images_of
image_of-returns-in_err-entry_images_of t c =
    refused (λ (v : Vec (Tree × Tree) Global). entries v.items) (λ u. u) c.from_residual-in_err-entry_images_of.result c.in_err-entry_images_of.field-0.0 (entries_image (entries (pairs_of c.in-Some-entries.pairs))) (value_image (tree_of c.args.view)) c.from_residual-in_err-entry_images_of.ensures.1 c.in_err-entry_images_of.ensures
    (λ lack. ap value_image (map_seen (seen c.args.view) c.in-Some-entries.pairs c.in-Some-entries.ensures) ∙ ap (option_map map) lack)

pub image_of-shallow_map-requires : goal.image_of-shallow_map-requires
image_of-shallow_map-requires t c =
    let is : value_image (tree_of c.args.view) ≡ Some (map (entries c.in_ok-entry_images_of.field-0.items)) =
    ap value_image (map_seen (seen c.args.view) c.in-Some-entries.pairs c.in-Some-entries.ensures) ∙ ap (option_map map) c.in_ok-entry_images_of.ensures in
    omega (arith, shallow_view c.args.view, value_image-depth (tree_of c.args.view) _ is)

pub image_of-returns-in-Some-entries : goal.image_of-returns-in-Some-entries
image_of-returns-in-Some-entries t c =
    rw c.shallow_map.ensures (ap value_image (map_seen (seen c.args.view) c.in-Some-entries.pairs c.in-Some-entries.ensures) ∙ ap (option_map map) c.in_ok-entry_images_of.ensures)
