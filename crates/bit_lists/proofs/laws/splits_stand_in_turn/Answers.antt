use Rattle.qsubst.proofs.Members.{Contains-from_Member}
use Rattle.bit_lists.proofs.InTurn.{each_in_turn}
use Rattle.bit_lists.proofs.laws.splits_stand_in_turn.Goals as goal

pub returns : goal.returns
returns c s ss fs apart = each_in_turn s ss (λ b m. apart b (Contains-from_Member b s.bits m)) fs
