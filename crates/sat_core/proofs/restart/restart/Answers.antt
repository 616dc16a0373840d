use Rattle.std.proofs.Common.{sym}
use Rattle.sat_core.proofs.Restarting.{restarted}
use Rattle.sat_core.proofs.restart.restart.Goals as goal

pub returns-in_ok-back_to-in-Some-clause-ready : goal.returns-in_ok-back_to-in-Some-clause-ready
returns-in_ok-back_to-in-Some-clause-ready c known watches ready =
    let first = rw c.in-Some.is at c.first_start.ensures in
    rw (c.keep_levels.ensures, c.in_ok-back_to-in-Some.ensures.trail) (restarted known watches c.args.trail.now c.args.at c.in-Some.start ready (sym first))
