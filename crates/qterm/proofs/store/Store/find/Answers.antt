use Rattle.std.proofs.Common.{◌++◌, sym, subst}
use Rattle.qterm.specs.Store.{grow, Shows}
use Rattle.qterm.proofs.Grown.{shows_at, shows_none}
use Rattle.qterm.proofs.store.Store.find.Goals as goal

pub returns-in-Some-clause-found : goal.returns-in-Some-clause-found
returns-in-Some-clause-found c =
    subst (λ i. Shows c.args.self.now i (grow c.args.self.now c.args.term)) (sym c.new.ensures)
    (shows_at c.args.self.now (c.self.inside.shared ++ c.self.inside.own.keys) record { term = c.args.term; sort = c.sort_over-sort.result } c.in-Some.at c.self.view_is c.self.invariant c.in-Some.ensures)

pub returns-clause-absent : goal.returns-clause-absent
returns-clause-absent c =
    shows_none c.args.self.now (c.self.inside.shared ++ c.self.inside.own.keys) record { term = c.args.term; sort = c.sort_over-sort.result } c.self.view_is c.self.invariant c.requires.fits c.sort_over-sort.ensures c.in-None.ensures
