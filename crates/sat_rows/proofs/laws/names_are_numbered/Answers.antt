use Rattle.qsubst.specs.Names.{names_of}
use Rattle.sat_rows.proofs.Naming.{many, names_are, names_there, numbers_occur}
use Rattle.sat_rows.proofs.laws.names_are_numbered.Goals as goal

pub returns-clause-count : goal.returns-clause-count
returns-clause-count c ts vars cs e = many ts vars (names_of cs) e

pub returns-clause-names : goal.returns-clause-names
returns-clause-names c ts vars cs e = names_are ts vars (names_of cs) e

pub returns-clause-occur : goal.returns-clause-occur
returns-clause-occur c = numbers_occur

pub returns-clause-there : goal.returns-clause-there
returns-clause-there c = names_there
