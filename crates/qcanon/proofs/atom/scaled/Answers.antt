use Rattle.std.proofs.Common.{◌∙◌, sym, ap, subst, Err}
use Rattle.std.specs.Int.{w128}
use Rattle.std.proofs.lemmas.Int.{to_z-of_z}
use Rattle.qlin.specs.Form.{times, if_in_range}
use Rattle.qlin.specs.Lin.{form_at, IsFormIfFits}
use Rattle.qcanon.proofs.Narrow.{wide_form}
use Rattle.qcanon.proofs.atom.scaled.Goals as goal

pub returns-in-Err-Wide : goal.returns-in-Err-Wide
returns-in-Err-Wide c =
    let ts = c.args.store.now in
    let l = c.in_ok-form.form in
    let s = subst (λ a. IsFormIfFits ts (times a (form_at ts l)) c.scale.result) (to_z-of_z w128 c.args.by c.ranges.by) (c.scale.ensures ts c.in_ok-form.ensures.form) in
    let w = subst (IsFormIfFits ts (times c.args.by (form_at ts l))) (c.in-Err-Wide.is ∙ ap Err c.in-Err-Wide.field-0-is) s in
    ap (λ f. if_in_range (times c.args.by f)) (sym c.in_ok-form.ensures.same) ∙ wide_form (times c.args.by (form_at ts l)) w
