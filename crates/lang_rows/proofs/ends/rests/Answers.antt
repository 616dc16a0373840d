use Rattle.lang_rows.proofs.Finishing.{rests_is}
use Rattle.lang_rows.proofs.Drawing.{alone_tally}
use Rattle.lang_rows.proofs.ends.rests.Goals as goal

pub returns-in-Ok : goal.returns-in-Ok
returns-in-Ok c = record {
  run = λ x ts s p turns ps n chain v has lt form some run alone. rests_is x v.top ts c.args.goal c.args.limit ps n s p has lt turns c.args.first c.in-Ok.deriv form some c.in-Ok.ensures run alone;
  draws = λ old new one. alone_tally old new c.args.goal c.args.limit c.args.first.deriv.spent c.args.first.deriv.out c.args.first.deriv c.in-Ok.deriv c.in-Ok.ensures one;
}
