use Rattle.std.proofs.Common.{◌≡◌, ◌+◌, length, get_or, ap, sym, ◌∙◌, refl}
use Rattle.deriv.specs.declared.outcome.Outcome.TheVariants as outcome
use Rattle.proof_conv.specs.Leads.{raised}
use Rattle.lang_rows.specs.Ends.{too_deep}
use Rattle.lang_rows.proofs.Finishing.{ups_are, sat_refused, sat_result}
use Rattle.lang_rows.proofs.Drawing.{last_tally, made_tally}
use Rattle.lang_rows.proofs.ends.finish_sat.Goals as goal

these-in-Some : (c : goal.After-drop-ups-inside-in-Some) → c.in-Ok.above ≡ raised (get_or c.args.row.first.above (length c.args.row.derivs) 0) c.args.last.above
these-in-Some c = ups_are _ _ _ _ _ _ _ _ _ c.in-Ok.ensures c.new.ensures c.at-up.ensures c.as_slice.ensures c.len-place.ensures c.as_slice-2.ensures

these-in-Ok : (c : goal.After-drop-ups-inside-in-Ok) → c.in-Ok.above ≡ raised (get_or c.args.row.first.above (length c.args.row.derivs) 0) c.args.last.above
these-in-Ok c = ups_are _ _ _ _ _ _ _ _ _ c.in-Ok.ensures c.new.ensures c.at-up.ensures c.as_slice.ensures c.len-place.ensures c.as_slice-2.ensures

pub returns-in-Some : goal.returns-in-Some
returns-in-Some c = record {
  run = λ x ts s p r turns ps n chain v next has lt chains on is at run sat.
      sat_refused x v.top ts c.args.goal c.args.limit ps n s p has lt r turns chains c.args.row on is c.args.last next at run sat c.in_ok-deriv-in-Some.deriv c.in-Some.cause
      (ap too_deep (sym (these-in-Some c)) ∙ ap too_deep (sym c.as_slice-in-Ok.ensures) ∙ sym c.in-Some.ensures) c.in_ok-deriv-in-Some.ensures;
  draws = λ before old new tally one. last_tally old new c.args.goal c.args.limit (c.args.row.spent + c.args.last.deriv.spent) (outcome.Failed c.in-Some.cause) c.args.row.first.deriv before c.args.row.derivs c.args.last.deriv c.in_ok-deriv-in-Some.deriv c.in_ok-deriv-in-Some.ensures tally one;
}

pub returns-in-Ok : goal.returns-in-Ok
returns-in-Ok c = record {
  run = λ x ts s p r turns ps n chain v next has lt chains on is at run sat.
      sat_result x v.top ts c.args.goal c.args.limit ps n s p has lt r turns chains c.args.row on is c.args.last next at run sat (c.rows_are_honest.ensures.lift x.probe x.kinds x.workers x.pool v.top) chain v refl
      c.ran.result c.ended-done.result c.convs_at-convs.result c.in-Ok.above c.len-place.result c.len.result (these-in-Ok c) c.len-place.ensures c.len.ensures (ap too_deep (sym c.as_slice-in-Ok.ensures) ∙ sym c.in-None.ensures)
      c.ended-done.ensures.goals c.ended-done.ensures.deriv c.convs_at-convs.ensures.models c.convs_at-convs.ensures.plan c.convs_at-convs.ensures.subgoals
      c.ran.ensures.goals c.ran.ensures.deriv c.ran.ensures.above c.ran.ensures.models c.ran.ensures.proofs c.ran.ensures.stop;
  draws = λ before old new tally one. made_tally before new c.ran.result c.ended-done.result _ c.ended-done.ensures.deriv c.ran.ensures.deriv c.ran.ensures.stop
      (λ d is. last_tally old new c.args.goal c.args.limit (c.args.row.spent + c.args.last.deriv.spent) (outcome.Done c.args.last.goals) c.args.row.first.deriv before c.args.row.derivs c.args.last.deriv d is tally one);
}
