use Rattle.std.proofs.Common.{[], refl, arith}
use Rattle.lang_rows.proofs.Drawing.{first_tally}
use Rattle.lang_rows.proofs.row.Row.new.Goals as goal

pub returns : goal.returns
returns c = record {
  row = λ s top ts p r g ps n run. record {
    first = run;
    done = [];
    ahead = _;
    goals = refl;
    rans = [];
    runs = c.remains-left.ensures;
    joined = c.new.ensures _;
    derivs = c.new-2.ensures;
    spent = omega arith;
  };
  first = refl;
  draws = λ old new tally. first_tally old new c.args.first (record { first = c.args.first; joined = c.new.result; derivs = c.new-2.result; spent = c.args.first.deriv.spent; left = c.remains-left.result }) refl c.new-2.ensures tally;
}
