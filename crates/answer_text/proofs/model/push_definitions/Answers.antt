use Rattle.std.proofs.Common.{◌++◌, ◌∙◌, ap, sym, append_assoc}
use Rattle.answer_text.proofs.Lines.{definitions-drop}
use Rattle.answer_text.proofs.model.push_definitions.Goals as goal

pub loop-name-preserved : goal.loop-name-preserved
loop-name-preserved c =
    let V = c.args.model.now in
    let more = definitions-drop V c.args.names.now c.loop-name.name-index c.name-item.result c.loop-name-test.true c.name-item.is in
    rw (c.in_ok-push_definition.ensures, append_assoc) (sym (ap (λ lines. c.loop-name.text.items ++ lines) more) ∙ c.loop-name.invariant)
