use Rattle.sat_rows.proofs.Learning.{are_clauses, first_is}
use Rattle.sat_rows.proofs.laws.read_lists_are_clauses.Goals as goal

pub returns-clause-clauses : goal.returns-clause-clauses
returns-clause-clauses c = are_clauses

pub returns-clause-other : goal.returns-clause-other
returns-clause-other c = first_is
