use Rattle.bit_lists.proofs.Models.{up, down, carried}
use Rattle.bit_lists.proofs.laws.splits_keep_models.Goals as goal

pub returns : goal.returns
returns c = record {
  up = λ most g l h ss n. up c.keeps_models.ensures most g l h ss n.formulas n.canonical n.allowed n.are n.lawful n.result;
  down = λ most g l h ss n. down c.keeps_models.ensures most g l h ss n.formulas n.canonical n.allowed n.are n.lawful n.result;
  carried = λ most g l h ss V n m. carried c.keeps_models.ensures most g l h ss n.formulas n.canonical n.allowed n.are n.lawful n.result V m;
}
