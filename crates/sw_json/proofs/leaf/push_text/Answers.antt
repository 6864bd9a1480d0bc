use Rattle.std.proofs.Common.{[], Some, ap, sym, subst, ◌∙◌}
use Rattle.std.specs.Prelude.{codes}
use Rattle.sw_tree.specs.Tree.{text}
use Rattle.sw_json.specs.Text.{escaped, json_text}
use Rattle.sw_json.specs.Inner.Pushed.{IsPushed}
use Rattle.sw_json.proofs.Pushing.{onto, onto-three, pushed-moved}
use Rattle.sw_json.proofs.Runs.{plain_text}
use Rattle.sw_json.proofs.Texts.{quoted_text}
use Rattle.sw_json.proofs.leaf.push_text.Goals as goal

pub returns-then-are_plain : goal.returns-then-are_plain
returns-then-are_plain c =
    subst (λ r. IsPushed c.push_plain.result c.args.out.now.items c.push_plain.new.out.items r) (plain_text c.args.content.now c.as_bytes-bytes.result.now c.as_bytes-bytes.ensures.value c.if-are_plain.ensures) c.push_plain.ensures

pub returns : goal.returns
returns c =
    let s = c.args.content.now in
    pushed-moved c.append-2.result c.args.out.now.items c.push_escaped.new.out.items c.append-2.new.out.items (json_text (text s)) (Some (codes "\""))
    (onto-three c.args.out.now.items c.append.new.out.items c.push_escaped.new.out.items (Some (codes "\"")) (Some (escaped s [])) (Some (codes "\"")) (json_text (text s)) (quoted_text s) c.in_ok-append.ensures
    (ap (λ b. onto c.append.new.out.items (Some (escaped b []))) (sym c.as_bytes-bytes.ensures.value) ∙ c.in_ok-push_escaped.ensures))
    c.append-2.ensures
