use Rattle.std.proofs.Common.{◌++◌, [], ◌∷◌, ap, ◌∙◌}
use Rattle.shift_lists.specs.Lifting.{assign_of}
use Rattle.shift_lists.proofs.Carrying.{map_more}
use Rattle.shift_lists.proofs.steps.assigns.Goals as goal

pub loop-shift-preserved : goal.loop-shift-preserved
loop-shift-preserved c =
    map_more assign_of c.args.shifts.now c.loop-shift.shift-index c.shift-item.result _ _ c.loop-shift-test.true c.shift-item.is c.loop-shift.invariant
    (c.in_ok-push.ensures.ok ∙ ap (λ s. c.loop-shift.steps ++ s ∷ []) c.in_ok-assign.ensures)
