-- The steps that carry a model of split formulas back.
use Rattle.std.specs.Prelude.{ℕ, ◌*◌, ℤ, pos, List, [], ◌∷◌, ◌++◌, map}
use Rattle.qterm.specs.declared.name.Name.{Name}
use Rattle.model_conv.specs.declared.step.LiftStep.{LiftStep}
use Rattle.model_conv.specs.declared.step.LiftStep.TheVariants.{Assign, Forget}
use Rattle.bit_lists.specs.declared.splits.Split.{Split}
use Rattle.bit_lists.specs.Splits.{all_bits}

-- each bit with its weight, which is w for the first and doubles from each to the next
abbrev pub form_of : ℕ → List Name → List (ℤ × Name)
form_of w [] = []
form_of w (b ∷ bs) = (pos w, b) ∷ form_of (w * 2) bs

-- the name gets the number that its bits are
abbrev pub assign_of : Split → LiftStep
assign_of s = Assign s.name (form_of 1 s.bits) (pos 0)

-- a bit is taken out
abbrev pub forget_of : Name → LiftStep
forget_of b = Forget b

-- each name gets its value, and then the bits are taken out: steps are run from the last to the first
abbrev pub lifting : List Split → List LiftStep
lifting ss = map forget_of (all_bits ss) ++ map assign_of ss
