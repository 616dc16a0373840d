use Rattle.tac_simplify.proofs.simplify.one_list.Goals as goal

pub returns : goal.returns
returns c = let e = c.in_ok-applied.ensures in record { goals = e.goals; models = e.models; proofs = e.proofs; leads = e.leads; nests = e.nests; lemmas = e.lemmas }
