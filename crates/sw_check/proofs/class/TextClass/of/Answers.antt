use Rattle.std.proofs.Common.{◌∙◌, ap}
use Rattle.sw_check.specs.TextClass.{class_of, admits}
use Rattle.sw_check.specs.declared.class.TextClass.{TextClass}
use Rattle.sw_check.proofs.TextClasses.{admits-class_of, other-class_of, never_empty-class_of}
use Rattle.sw_check.proofs.class.TextClass.of.Goals as goal

pub returns-clause-low : goal.returns-clause-low
returns-clause-low c =
    let same = c.class_of.ensures ∙ ap class_of c.as_bytes.ensures.value in
    λ b below. ap (λ (k : TextClass). admits k b) same ∙ admits-class_of c.args.text.now b below

pub returns-clause-high : goal.returns-clause-high
returns-clause-high c =
    let same = c.class_of.ensures ∙ ap class_of c.as_bytes.ensures.value in
    ap (λ (k : TextClass). k.other) same ∙ other-class_of c.args.text.now

pub returns-clause-filled : goal.returns-clause-filled
returns-clause-filled c =
    let same = c.class_of.ensures ∙ ap class_of c.as_bytes.ensures.value in
    ap (λ (k : TextClass). k.never_empty) same ∙ never_empty-class_of c.args.text.now
