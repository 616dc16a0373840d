use Rattle.std.proofs.Common.{[], ◌++◌, sym, subst}
use Rattle.qterm.specs.Store.{grow, Shows}
use Rattle.qterm.specs.Place.{grown}
use Rattle.qterm.proofs.Grown.{interned_at, Interned}
use Rattle.qterm.proofs.store.Store.intern.Goals as goal

done : (c : goal.After-new) → Interned c.args.self.now record { term = c.args.term; sort = c.sort_over-sort.result } c.in_ok-at.at (c.self.inside.shared ++ c.place.new.own.keys)
done c = interned_at c.args.self.now (c.self.inside.shared ++ c.self.inside.own.keys) record { term = c.args.term; sort = c.sort_over-sort.result } c.in_ok-at.at (c.self.inside.shared ++ c.place.new.own.keys)
    c.self.view_is c.self.invariant c.requires.fits c.sort_over-sort.ensures c.is_named.ensures c.in_ok-at.ensures.ok

pub invariant_of-self-2 : goal.invariant_of-self-2
invariant_of-self-2 c = (done c).stored

pub returns-clause-shows : goal.returns-clause-shows
returns-clause-shows c = subst (λ i. Shows (grown [] (c.self.inside.shared ++ c.place.new.own.keys)) i (grow c.args.self.now c.args.term)) (sym c.new.ensures) (done c).shows

pub returns-clause-extends : goal.returns-clause-extends
returns-clause-extends c = (done c).extends

pub returns-clause-adds : goal.returns-clause-adds
returns-clause-adds c = (done c).adds
