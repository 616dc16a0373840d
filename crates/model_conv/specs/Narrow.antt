-- Valuations and lifting steps whose numbers have 128 bits, as all of the code have.
use Rattle.std.specs.Prelude.{◌≡◌, List, [], ◌∷◌, false}
use Rattle.qeval.specs.Value.{Valuation, is_wide}
use Rattle.model_conv.specs.declared.step.LiftStep.{LiftStep}
use Rattle.model_conv.specs.declared.step.LiftStep.TheVariants.{Set, Assign, Choose, Bit, Forget}

-- each value of a valuation has 128 bits
abbrev pub IsNarrow : Valuation → Type 0
IsNarrow [] = Unit {0}
IsNarrow (e ∷ V) = (is_wide e.1 ≡ false) × IsNarrow V

-- the value that a step sets has 128 bits
abbrev pub SetsNarrow : LiftStep → Type 0
SetsNarrow (Set n v) = is_wide v ≡ false
SetsNarrow (Assign n ps c) = Unit {0}
SetsNarrow (Choose n by ps c p) = Unit {0}
SetsNarrow (Bit n p) = Unit {0}
SetsNarrow (Forget n) = Unit {0}

-- each value that one of the steps sets has 128 bits
abbrev pub AllSetNarrow : List LiftStep → Type 0
AllSetNarrow [] = Unit {0}
AllSetNarrow (s ∷ ss) = SetsNarrow s × AllSetNarrow ss
