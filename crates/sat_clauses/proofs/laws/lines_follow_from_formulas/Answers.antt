use Rattle.sat_clauses.proofs.Following.{rup_follows, pairs_same, contains_same}
use Rattle.sat_clauses.proofs.laws.lines_follow_from_formulas.Goals as goal

pub returns-clause-follows : goal.returns-clause-follows
returns-clause-follows c = rup_follows

pub returns-clause-pairs : goal.returns-clause-pairs
returns-clause-pairs c = pairs_same

pub returns-clause-contains : goal.returns-clause-contains
returns-clause-contains c = contains_same
