use Rattle.std.proofs.Common.{subst}
use Rattle.qterm.specs.Store.{tree_at, Shows}
use Rattle.smt_expand.proofs.Joining.{as_many, new_fits, new_is}
use Rattle.smt_expand.proofs.expanding.rebuilt.Goals as goal

pub with_children-requires : goal.with_children-requires
with_children-requires c = let ts = c.args.store.now in record { all = as_many ts (tree_at ts c.args.id) c.view.result.now c.args.children.now c.view.ensures.tree c.requires.sorts }

pub intern-requires : goal.intern-requires
intern-requires c =
    let ts = c.args.store.now in
    record { fits = new_fits ts (tree_at ts c.args.id) c.view.result.now c.in_ok-term.term c.args.children.now c.view.ensures.tree c.view.ensures.fits c.requires.sorts c.in_ok-term.ensures }

pub returns-clause-shows : goal.returns-clause-shows
returns-clause-shows c =
    let ts = c.args.store.now in
    subst (Shows c.intern.new.self c.in_ok-found.found) (new_is ts (tree_at ts c.args.id) c.view.result.now c.in_ok-term.term c.args.children.now c.view.ensures.tree c.requires.sorts c.in_ok-term.ensures) c.in_ok-found.ensures.shows
