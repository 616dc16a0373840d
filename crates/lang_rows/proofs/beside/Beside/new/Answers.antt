use Rattle.std.proofs.Common.{[], None, refl}
use Rattle.lang_rows.proofs.Growing.{no_parts}
use Rattle.lang_rows.proofs.Drawing.{first_beside_tally}
use Rattle.lang_rows.proofs.beside.Beside.new.Goals as goal

pub returns : goal.returns
returns c = record {
  beside = λ s top ts p r g ps n run. record {
    first = run;
    done = [];
    ahead = _;
    goals = refl;
    left = c.remains-left.ensures;
    parts = [];
    each = tt;
    joined = no_parts _ _ (c.new.ensures _);
    derivs = c.new-2.ensures;
    cause = refl;
    most = refl;
  };
  draws = λ old new tally. first_beside_tally old new c.args.first (record { first = c.args.first; joined = c.new.result; derivs = c.new-2.result; cause = None; most = 0; left = c.remains-left.result }) refl c.new-2.ensures tally;
}
