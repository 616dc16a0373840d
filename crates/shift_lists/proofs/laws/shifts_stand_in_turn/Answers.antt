use Rattle.shift_lists.proofs.InTurn.{each_in_turn}
use Rattle.shift_lists.proofs.laws.shifts_stand_in_turn.Goals as goal

pub returns : goal.returns
returns c s ss fs apart = each_in_turn s ss apart fs
