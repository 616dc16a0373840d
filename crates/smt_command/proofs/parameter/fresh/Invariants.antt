use Rattle.std.proofs.Common.{◌+◌, ◌-◌, length}
use Rattle.qterm.specs.Name.{IsNameText}
use Rattle.smt_command.specs.Parameters.{total}
use Rattle.smt_command.proofs.FreshTexts.{IsOnWay}
use Rattle.smt_command.proofs.parameter.fresh.Given as goal

abbrev pub invariant-loop-own : goal.invariant-loop-own
invariant-loop-own l = record {
  way : IsOnWay l.symbols l.texts l.text l.own.items;
  allowed : IsNameText l.own.items;
}

abbrev pub decreases-loop-own : goal.decreases-loop-own
decreases-loop-own l = 1 + (total l.symbols + total l.texts) - length l.own.items
