use Rattle.std.proofs.Common.{◌∙◌, sym, ap, subst, Err}
use Rattle.qterm.specs.Store.{tree_at}
use Rattle.qlin.specs.Form.{plus, if_in_range}
use Rattle.qlin.specs.Lin.{form_at, IsFormIfFits}
use Rattle.qcanon.specs.Sums.{GivesForm}
use Rattle.qcanon.proofs.Narrow.{wide_form, difference_is}
use Rattle.qcanon.proofs.atom.difference.Goals as goal

pub returns-in-Ok-clause-gives : goal.returns-in-Ok-clause-gives
returns-in-Ok-clause-gives c =
    let ts = c.args.store.now in
    let l = c.in_ok-form.ensures in
    let n = c.in_ok-other.ensures in
    let m = c.in_ok-turned.ensures ts n.form in
    let d = difference_is ts c.in_ok-form.form c.in_ok-turned.turned c.in_ok-other.other (tree_at ts c.args.left) (tree_at ts c.args.right) l.form l.same m.1 n.same in
    let s = c.in-Ok.ensures in
    subst (λ o. GivesForm ts o c.narrow.result) (ap if_in_range s.1 ∙ d) (c.narrow.ensures.gives ts s.0)

pub returns-in-Err-Wide-clause-gives : goal.returns-in-Err-Wide-clause-gives
returns-in-Err-Wide-clause-gives c =
    let ts = c.args.store.now in
    let l = c.in_ok-form.ensures in
    let n = c.in_ok-other.ensures in
    let m = c.in_ok-turned.ensures ts n.form in
    let d = difference_is ts c.in_ok-form.form c.in_ok-turned.turned c.in_ok-other.other (tree_at ts c.args.left) (tree_at ts c.args.right) l.form l.same m.1 n.same in
    let f = plus (form_at ts c.in_ok-form.form) (form_at ts c.in_ok-turned.turned) in
    sym d ∙ wide_form f (subst (IsFormIfFits ts f) (c.in-Err-Wide.is ∙ ap Err c.in-Err-Wide.field-0-is) c.add.ensures)
