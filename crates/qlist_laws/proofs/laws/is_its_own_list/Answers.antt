use Rattle.qlist_laws.proofs.Own as own
use Rattle.qlist_laws.proofs.laws.is_its_own_list.Goals as goal

pub returns : goal.returns
returns c = own.is_its_own_list
