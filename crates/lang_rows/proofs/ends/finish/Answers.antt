use Rattle.std.proofs.Common.{sym, ap₂, ◌∙◌}
use Rattle.qgoal.specs.Goal.{goal_tree}
use Rattle.deriv.specs.declared.outcome.Outcome.TheVariants as outcome
use Rattle.lang_rows.specs.Ends.{seq_deriv, too_many}
use Rattle.lang_rows.proofs.Ending.{joined_result}
use Rattle.lang_rows.proofs.Finishing.{whole_refused, whole_run}
use Rattle.lang_rows.proofs.Drawing.{seq_tally, made_tally}
use Rattle.lang_rows.proofs.ends.finish.Goals as goal

pub returns-in_ok-deriv-in-Some : goal.returns-in_ok-deriv-in-Some
returns-in_ok-deriv-in-Some c = record {
  run = λ x ts s p r turns ps n chain v has lt chains on is whole.
      whole_refused x v.top ts c.args.goal c.args.limit ps n s p has lt r turns chains c.args.row on is whole (c.rows_are_honest.ensures.lift x.probe x.kinds x.workers x.pool v.top) c.in_ok-deriv-in-Some.deriv c.in-Some.cause
      (ap₂ too_many (sym c.len.ensures) (sym c.as_slice.ensures) ∙ sym c.in-Some.ensures) c.in_ok-deriv-in-Some.ensures;
  draws = λ old new tally. seq_tally old new c.args.goal c.args.limit c.args.row.spent (outcome.Failed c.in-Some.cause) c.args.row.first.deriv c.args.row.derivs c.in_ok-deriv-in-Some.deriv c.in_ok-deriv-in-Some.ensures tally;
}

pub returns-in-None : goal.returns-in-None
returns-in-None c = record {
  run = λ x ts s p r turns ps n chain v has lt chains on is whole.
      joined_result x ts s (goal_tree ts c.args.goal) c.args.limit ps n chain v c.args.row.joined (seq_deriv c.args.goal c.args.limit c.args.row.spent (outcome.Done c.args.row.joined.goals) c.args.row.first.deriv c.args.row.derivs) c.args.row.first.models c.args.row.first.proofs
      (whole_run x v.top ts c.args.goal c.args.limit ps n s p has lt r turns chains c.args.row on is whole (c.rows_are_honest.ensures.lift x.probe x.kinds x.workers x.pool v.top)
      (c.rows_are_honest.ensures.honest x.probe x.kinds x.workers x.pool v.top) (ap₂ too_many (sym c.len.ensures) (sym c.as_slice.ensures) ∙ sym c.in-None.ensures))
      c.ran.result c.succeeded-done.result c.then-convs.result c.succeeded-done.ensures.goals c.succeeded-done.ensures.deriv c.then-convs.ensures c.ran.ensures.goals c.ran.ensures.deriv c.ran.ensures.above c.ran.ensures.models c.ran.ensures.proofs c.ran.ensures.stop;
  draws = λ old new tally. made_tally old new c.ran.result c.succeeded-done.result _ c.succeeded-done.ensures.deriv c.ran.ensures.deriv c.ran.ensures.stop
      (λ d is. seq_tally old new c.args.goal c.args.limit c.args.row.spent (outcome.Done c.args.row.joined.goals) c.args.row.first.deriv c.args.row.derivs d is tally);
}
