-- The law is proved by induction on the term.
use Rattle.cert_values.proofs.Enclosing.{holds_values}
use Rattle.cert_values.proofs.laws.holds_values.Goals as goal

pub returns : goal.returns
returns c = holds_values
