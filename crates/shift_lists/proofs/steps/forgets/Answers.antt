use Rattle.std.proofs.Common.{◌≡◌, ◌++◌, [], ◌∷◌, ap, ◌∙◌, rules}
use Rattle.model_conv.specs.declared.step.LiftStep.TheVariants.{Forget}
use Rattle.shift_lists.specs.Lifting.{forget_of}
use Rattle.shift_lists.proofs.Carrying.{map_more}
use Rattle.shift_lists.proofs.steps.forgets.Goals as goal

pub loop-shift-preserved : goal.loop-shift-preserved
loop-shift-preserved c =
    let same : c.in_ok-clone.field-0 ≡ c.shift-item.result.fresh = search rules in
    map_more forget_of c.args.shifts.now c.loop-shift.shift-index c.shift-item.result _ _ c.loop-shift-test.true c.shift-item.is c.loop-shift.invariant (c.in_ok-push.ensures.ok ∙ ap (λ n. c.loop-shift.steps ++ Forget n ∷ []) same)
