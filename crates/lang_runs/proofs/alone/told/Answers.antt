use Rattle.std.proofs.Common.{◌≡◌, ℤ, subst, rules, SFits}
use Rattle.std.specs.Int.{w128}
use Rattle.std.proofs.lemmas.Int.{to_z-of_z}
use Rattle.lang_runs.specs.Nodes.{told_deriv}
use Rattle.lang_runs.proofs.Ending.{told_run}
use Rattle.lang_runs.proofs.Drawing.{told_tally}
use Rattle.lang_runs.proofs.alone.told.Goals as goal

pub returns : goal.returns
returns c =
    let fits : SFits w128 c.args.value = search rules in
    record {
      run = λ setting ts s ps n chain v has deep told. told_run setting ts c.args.goal.now has c.args.limit ps n s c.args.value v.top c.in_ok-deriv.deriv deep told
          (subst (λ (z : ℤ). c.in_ok-deriv.deriv ≡ told_deriv c.args.goal.now c.args.limit z) (to_z-of_z w128 c.args.value fits) c.in_ok-deriv.ensures);
      draws = λ v. told_tally c.args.goal.now c.args.limit _ v c.in_ok-deriv.deriv c.in_ok-deriv.ensures;
    }
