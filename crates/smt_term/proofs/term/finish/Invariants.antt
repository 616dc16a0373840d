use Rattle.std.proofs.Common.{◌≡◌, All, reverse}
use Rattle.smt_names.specs.Given.{Goes}
use Rattle.smt_term.specs.Turns.{IsFrame, HasTurn, turn_reads, turn_around, all_reads, all_left, all_around}
use Rattle.smt_term.proofs.term.finish.Given as goal

-- what is left, read from here, is what the first turn reads
abbrev pub invariant-loop-fault : goal.invariant-loop-fault
invariant-loop-fault l = record {
  reads : all_reads l.bytes l.store l.state l.turn (reverse l.stack.items) ≡ turn_reads l.bytes l.fn.store l.fn.state l.fn.first;
  scopes : all_around l.bytes l.store l.state l.turn (reverse l.stack.items) ≡ turn_around l.bytes l.fn.store l.fn.first l.fn.state.scopes;
  has : HasTurn l.store l.turn;
  frames : All (IsFrame l.store) (reverse l.stack.items);
  goes : Goes l.fn.store l.fn.state l.store l.state;
}

abbrev pub decreases-loop-fault : goal.decreases-loop-fault
decreases-loop-fault l = all_left l.bytes l.store l.turn (reverse l.stack.items)
