use Rattle.qlist_laws.proofs.Own as own
use Rattle.qlist_laws.proofs.laws.has_parts_alone.Goals as goal

pub returns : goal.returns
returns c = own.has_parts_alone
