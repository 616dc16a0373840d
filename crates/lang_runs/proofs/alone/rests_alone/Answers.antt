use Rattle.std.proofs.Common.{ℤ, subst, rules, SFits}
use Rattle.std.specs.Int.{w128}
use Rattle.std.proofs.lemmas.Int.{to_z-of_z}
use Rattle.lang_runs.specs.Nodes.{IsAlone}
use Rattle.lang_runs.proofs.Ending.{alone_run}
use Rattle.lang_runs.proofs.Drawing.{alone_tally}
use Rattle.lang_runs.proofs.alone.rests_alone.Goals as goal

pub returns : goal.returns
returns c =
    let fits : SFits w128 c.args.value = search rules in
    record {
      run = λ setting ts s ps n chain v has shallow deep form. alone_run setting ts c.args.goal.now has c.args.limit ps n s c.args.value v.top c.in_ok-ran.ran shallow deep form
          (subst (λ (z : ℤ). IsAlone c.args.goal.now c.args.limit z c.in_ok-ran.ran) (to_z-of_z w128 c.args.value fits) c.in_ok-ran.ensures);
      draws = λ v. alone_tally c.args.goal.now c.args.limit _ v c.in_ok-ran.ran.deriv c.in_ok-ran.ensures.deriv;
    }
