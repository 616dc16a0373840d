-- The law is that of the rows.
use Rattle.cert_values.proofs.Tabling.{follows_by_table}
use Rattle.cert_values.proofs.laws.follows_by_table.Goals as goal

pub returns : goal.returns
returns c = follows_by_table
