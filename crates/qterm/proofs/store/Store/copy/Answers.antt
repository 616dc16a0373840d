use Rattle.std.proofs.Common.{[], ◌++◌, sym, subst, ◌∙◌}
use Rattle.qterm.specs.Place.{grown, AreStored}
use Rattle.qterm.proofs.store.Store.copy.Goals as goal

pub invariant_of-result : goal.invariant_of-result
invariant_of-result c = subst AreStored (λ i. sym c.in_ok-share.ensures i ++ sym c.in_ok-copied.ensures i) c.self.invariant

pub returns : goal.returns
returns c = (λ i. grown [] (c.in_ok-share.ensures i ++ c.in_ok-copied.ensures i)) ∙ c.self.view_is
