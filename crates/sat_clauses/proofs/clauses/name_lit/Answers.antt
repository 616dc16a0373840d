use Rattle.sat_clauses.proofs.Naming.{var_there}
use Rattle.sat_clauses.proofs.clauses.name_lit.Goals as goal

pub number-number-requires : goal.number-number-requires
number-number-requires c = record { there = var_there c.args.store.now c.args.numbers.now c.args.id c.args.name.now c.is_distinct.ensures c.requires.vars c.requires.has c.requires.is c.requires.names }
