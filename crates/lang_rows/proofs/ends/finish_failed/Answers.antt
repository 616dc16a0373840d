use Rattle.std.proofs.Common.{◌+◌}
use Rattle.lang_rows.proofs.Finishing.{last_failed_is}
use Rattle.lang_rows.proofs.Drawing.{last_tally}
use Rattle.lang_rows.proofs.ends.finish_failed.Goals as goal

pub returns : goal.returns
returns c = record {
  run = λ x ts s p r turns ps n chain v next has lt chains on is at f.
      last_failed_is x v.top ts c.args.goal c.args.limit ps n s p has lt r turns chains c.args.row on is c.args.last c.in_ok-deriv.deriv next c.in_ok-deriv.ensures at f;
  draws = λ before old new tally one. last_tally old new c.args.goal c.args.limit (c.args.row.spent + c.args.last.spent) c.args.last.out c.args.row.first.deriv before c.args.row.derivs c.args.last c.in_ok-deriv.deriv c.in_ok-deriv.ensures tally one;
}
