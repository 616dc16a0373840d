use Rattle.shift_lists.proofs.ShiftSteps.{up, down, carried}
use Rattle.shift_lists.proofs.laws.shifts_keep_models.Goals as goal

pub returns : goal.returns
returns c = record {
  up = λ g l h ss n. up c.keeps_models.ensures g l h ss n.formulas n.canonical n.are n.lawful n.result;
  down = λ g l h ss n. down c.keeps_models.ensures g l h ss n.formulas n.canonical n.are n.lawful n.result;
  carried = λ g l h ss V n m. carried c.keeps_models.ensures g l h ss n.formulas n.canonical n.are n.lawful n.result V m;
}
