-- The steps that carry a model of shifted formulas back.
use Rattle.std.specs.Prelude.{pos, List, [], ◌∷◌, ◌++◌, map}
use Rattle.model_conv.specs.declared.step.LiftStep.{LiftStep}
use Rattle.model_conv.specs.declared.step.LiftStep.TheVariants.{Assign, Forget}
use Rattle.shift_lists.specs.declared.shifting.Shift.{Shift}

-- the name gets the value of the fresh name plus the number
abbrev pub assign_of : Shift → LiftStep
assign_of s = Assign s.name ((pos 1, s.fresh) ∷ []) s.by

-- the fresh name is taken out
abbrev pub forget_of : Shift → LiftStep
forget_of s = Forget s.fresh

-- each name gets its value, and then the fresh names are taken out: steps are run from the last to the first
abbrev pub lifting : List Shift → List LiftStep
lifting ss = map forget_of ss ++ map assign_of ss
