use Rattle.lang_rows.proofs.Finishing.{first_failed_is}
use Rattle.lang_rows.proofs.Drawing.{alone_tally}
use Rattle.lang_rows.proofs.ends.first_failed.Goals as goal

pub returns : goal.returns
returns c = record {
  run = λ x ts s p r turns ps n chain v has lt chains f. first_failed_is x v.top ts c.args.goal c.args.limit ps n s p has lt r turns chains c.args.first c.in_ok-deriv.deriv c.in_ok-deriv.ensures f;
  draws = λ old new one. alone_tally old new c.args.goal c.args.limit c.args.first.spent c.args.first.out c.args.first c.in_ok-deriv.deriv c.in_ok-deriv.ensures one;
}
