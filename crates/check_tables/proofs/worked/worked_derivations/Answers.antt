use Rattle.check_tables.proofs.Working as work
use Rattle.check_tables.proofs.worked.worked_derivations.Goals as goal

pub returns-clause-or_else : goal.returns-clause-or_else
returns-clause-or_else c workers = work.or_else workers

pub returns-clause-or_else_fails : goal.returns-clause-or_else_fails
returns-clause-or_else_fails c workers = work.or_else_fails workers

pub returns-clause-then_fails : goal.returns-clause-then_fails
returns-clause-then_fails c workers = work.then_fails workers

pub returns-clause-then_gives : goal.returns-clause-then_gives
returns-clause-then_gives c workers = work.then_gives workers

pub returns-clause-then_sat : goal.returns-clause-then_sat
returns-clause-then_sat c workers = work.then_sat workers

pub returns-clause-repeat_ends : goal.returns-clause-repeat_ends
returns-clause-repeat_ends c workers = work.repeat_ends workers

pub returns-clause-tries : goal.returns-clause-tries
returns-clause-tries c workers = work.tries workers

pub returns-clause-par_then : goal.returns-clause-par_then
returns-clause-par_then c workers = work.par_then workers

pub returns-clause-too_deep : goal.returns-clause-too_deep
returns-clause-too_deep c workers = work.too_deep workers

pub returns-clause-raced : goal.returns-clause-raced
returns-clause-raced c = work.raced
