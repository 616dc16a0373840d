use Rattle.std.proofs.Common.{◌++◌, ◌∷◌, [], ℕ, List, length, max, slice_index, slice_index_or, refl, sym, ap, ap₂, ◌∙◌}
use Rattle.deriv.specs.declared.outcome.Outcome.TheVariants as outcome
use Rattle.model_conv.specs.Conv.{after_each}
use Rattle.proof_conv.specs.Leads.{raised}
use Rattle.lang_rows.specs.Ends.{too_deep}
use Rattle.lang_rows.proofs.Closing.{sat_refused, sat_result}
use Rattle.lang_rows.proofs.Drawing.{last_par_tally, made_tally}
use Rattle.lang_rows.proofs.beside_ends.finish_beside_sat.Goals as goal

pub returns-in_ok-deriv-in-Some : goal.returns-in_ok-deriv-in-Some
returns-in_ok-deriv-in-Some c =
    let up = c.at-up.ensures ∙ ap₂ (λ (us : List ℕ) (k : ℕ). slice_index us k) c.as_slice.ensures c.len-place.ensures in
    let same = c.in-Ok-above.ensures ∙ ap (λ (us : List ℕ). us ++ raised c.at-up.result c.as_slice-2.result.now) c.new.ensures ∙ ap₂ raised up c.as_slice-2.ensures in
    record {
      run = λ x ts s p r ps n chain v next has lt one form is at run sat.
          sat_refused x v.top ts c.args.goal c.args.limit ps n s p r has lt form c.args.beside is one next at c.args.last run sat c.in-Ok-above.above c.in_ok-deriv-in-Some.deriv c.in-Some.cause same
          (ap too_deep (sym c.as_slice-in-Ok-above.ensures) ∙ sym c.in-Some.ensures) c.in_ok-deriv-in-Some.ensures;
      draws = λ before old new tally one. last_par_tally old new c.args.goal c.args.limit (max c.args.beside.most c.args.last.deriv.spent) (outcome.Failed c.in-Some.cause) c.args.beside.first.deriv before c.args.beside.derivs (length c.args.beside.derivs) c.args.last.deriv c.in_ok-deriv-in-Some.deriv c.in_ok-deriv-in-Some.ensures tally one;
    }

pub returns-in-None : goal.returns-in-None
returns-in-None c =
    let up = c.at-up.ensures ∙ ap₂ (λ (us : List ℕ) (k : ℕ). slice_index us k) c.as_slice.ensures c.len-place.ensures in
    let same = c.in-Ok-above.ensures ∙ ap (λ (us : List ℕ). us ++ raised c.at-up.result c.as_slice-2.result.now) c.new.ensures ∙ ap₂ raised up c.as_slice-2.ensures in
    let way = c.in-Ok.ensures ∙ ap (λ (k : ℕ). after_each (slice_index_or c.args.beside.first.models k [] ∷ []) (c.args.last.models ∷ [])) c.len-place.ensures in
    record {
      run = λ x ts s p r ps n chain v next has lt one form is at run sat.
          sat_result x v.top ts c.args.goal c.args.limit ps n s p r has lt form c.args.beside is one next at c.args.last run sat chain v refl c.sat_ran.result c.made_last-made.result c.in-Ok-above.above c.in-Ok.models same
          (ap too_deep (sym c.as_slice-in-Ok-above.ensures) ∙ sym c.in-None.ensures) way
          c.made_last-made.ensures.goals c.made_last-made.ensures.deriv c.sat_ran.ensures.goals c.sat_ran.ensures.deriv c.sat_ran.ensures.above c.sat_ran.ensures.models c.sat_ran.ensures.plan c.sat_ran.ensures.subgoals c.sat_ran.ensures.stop;
      draws = λ before old new tally one. made_tally before new c.sat_ran.result c.made_last-made.result _ c.made_last-made.ensures.deriv c.sat_ran.ensures.deriv c.sat_ran.ensures.stop
          (λ d is. last_par_tally old new c.args.goal c.args.limit (max c.args.beside.most c.args.last.deriv.spent) (outcome.Done c.args.last.goals) c.args.beside.first.deriv before c.args.beside.derivs (length c.args.beside.derivs) c.args.last.deriv d is tally one);
    }
