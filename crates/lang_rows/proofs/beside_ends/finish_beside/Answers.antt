use Rattle.std.proofs.Common.{sym, ap, ap₂, ◌∙◌}
use Rattle.qgoal.specs.Goal.{goal_tree}
use Rattle.deriv.specs.declared.outcome.Outcome.TheVariants as outcome
use Rattle.lang_rows.specs.Beside.{first_of}
use Rattle.lang_rows.specs.Ends.{too_many}
use Rattle.lang_rows.specs.BesideEnds.{par_deriv}
use Rattle.lang_rows.proofs.Ending.{joined_result}
use Rattle.lang_rows.proofs.Joining.{beside_refused, beside_run}
use Rattle.lang_rows.proofs.Drawing.{par_tally, made_tally}
use Rattle.lang_rows.proofs.beside_ends.finish_beside.Goals as goal

pub returns-in_ok-deriv-in-Some : goal.returns-in_ok-deriv-in-Some
returns-in_ok-deriv-in-Some c =
    let refused = ap (first_of c.args.beside.cause) (ap₂ too_many (sym c.len.ensures) (sym c.as_slice.ensures)) ∙ sym c.in-Some.ensures in
    record {
      run = λ x ts s p r ps n chain v has lt form is all.
          beside_refused x v.top ts c.args.goal c.args.limit ps n s p r has lt form c.args.beside is all (c.rows_are_honest.ensures.lift x.probe x.kinds x.workers x.pool v.top) c.in_ok-deriv-in-Some.deriv c.in-Some.cause refused
          c.in_ok-deriv-in-Some.ensures;
      draws = λ old new tally. par_tally old new c.args.goal c.args.limit c.args.beside.most (outcome.Failed c.in-Some.cause) c.args.beside.first.deriv c.args.beside.derivs c.in_ok-deriv-in-Some.deriv c.in_ok-deriv-in-Some.ensures tally;
    }

pub returns-in-None : goal.returns-in-None
returns-in-None c =
    let allowed = ap (first_of c.args.beside.cause) (ap₂ too_many (sym c.len.ensures) (sym c.as_slice.ensures)) ∙ sym c.in-None.ensures in
    record {
      run = λ x ts s p r ps n chain v has lt form is all.
          joined_result x ts s (goal_tree ts c.args.goal) c.args.limit ps n chain v c.args.beside.joined (par_deriv c.args.goal c.args.limit c.args.beside.most (outcome.Done c.args.beside.joined.goals) c.args.beside.first.deriv c.args.beside.derivs)
          c.args.beside.first.models c.args.beside.first.proofs
          (beside_run x v.top ts c.args.goal c.args.limit ps n s p r has lt form c.args.beside is all (c.rows_are_honest.ensures.lift x.probe x.kinds x.workers x.pool v.top) (c.rows_are_honest.ensures.honest x.probe x.kinds x.workers x.pool v.top) allowed)
          c.ran.result c.made_all-made.result c.then-convs.result c.made_all-made.ensures.goals c.made_all-made.ensures.deriv c.then-convs.ensures c.ran.ensures.goals c.ran.ensures.deriv c.ran.ensures.above c.ran.ensures.models c.ran.ensures.proofs c.ran.ensures.stop;
      draws = λ old new tally. made_tally old new c.ran.result c.made_all-made.result _ c.made_all-made.ensures.deriv c.ran.ensures.deriv c.ran.ensures.stop
          (λ d is. par_tally old new c.args.goal c.args.limit c.args.beside.most (outcome.Done c.args.beside.joined.goals) c.args.beside.first.deriv c.args.beside.derivs d is tally);
    }
