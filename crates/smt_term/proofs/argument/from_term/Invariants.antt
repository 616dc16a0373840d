use Rattle.std.proofs.Common.{◌≡◌, ◌-◌, ◌≤◌, length, drop}
use Rattle.strat_text.specs.Form.{forms_of}
use Rattle.smt_names.specs.Atoms.{Scopes}
use Rattle.smt_names.specs.Reading.{State as States}
use Rattle.smt_term.specs.Frames.{weights}
use Rattle.smt_term.specs.Term.{read_args}
use Rattle.smt_term.proofs.argument.from_term.Given as goal

-- the arguments before may be no terms
abbrev pub invariant-loop-at : goal.invariant-loop-at
invariant-loop-at l = record {
  within : l.at ≤ length l.args;
  reads : (scopes : Scopes) (s : States) → read_args scopes (forms_of l.bytes l.args) s ≡ read_args scopes (forms_of l.bytes (drop l.at l.args)) s;
  fewer : weights (forms_of l.bytes (drop l.at l.args)) ≤ weights (forms_of l.bytes l.args);
}

abbrev pub decreases-loop-at : goal.decreases-loop-at
decreases-loop-at l = length l.args - l.at
