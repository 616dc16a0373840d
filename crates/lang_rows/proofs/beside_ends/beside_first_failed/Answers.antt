use Rattle.std.proofs.Common.{ℕ, List, ap₂, ◌∙◌}
use Rattle.deriv.specs.declared.outcome.Outcome.{Outcome}
use Rattle.deriv.specs.declared.deriv.Deriv.{Deriv}
use Rattle.lang_rows.specs.BesideEnds.{par_deriv}
use Rattle.lang_rows.proofs.Closing.{par_first_failed_is}
use Rattle.lang_rows.proofs.Drawing.{alone_par_tally}
use Rattle.lang_rows.proofs.beside_ends.beside_first_failed.Goals as goal

pub returns : goal.returns
returns c = record {
  run = λ x ts s p r ps n chain v has lt form f. par_first_failed_is x v.top ts c.args.goal c.args.limit ps n s p r has lt form c.args.first c.in_ok-deriv.deriv
      (c.in_ok-deriv.ensures ∙ ap₂ (λ (o : Outcome) (ds : List (ℕ × Deriv)). par_deriv c.args.goal c.args.limit 0 o c.args.first ds) c.in_ok-out.ensures c.new-rest.ensures) f;
  draws = λ old new one. alone_par_tally old new c.args.goal c.args.limit 0 c.in_ok-out.out c.args.first c.new-rest.result c.in_ok-deriv.deriv c.in_ok-deriv.ensures c.new-rest.ensures one;
}
