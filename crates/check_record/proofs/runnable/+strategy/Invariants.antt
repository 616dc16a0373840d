use Rattle.std.proofs.Common.{◌≡◌, true, take}
use Rattle.std.specs.List.{list_all}
use Rattle.lang_runs.specs.Strategies.{runs}
use Rattle.check_record.proofs.runnable.+strategy.Given as goal

abbrev pub invariant-all_run-loop-part : goal.invariant-all_run-loop-part
invariant-all_run-loop-part g l = list_all (runs (g.R.Reducers.kinds l.reducers)) (take l.part-index l.parts) ≡ true
