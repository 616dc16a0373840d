use Rattle.qterm.specs.Store.{tree_at}
use Rattle.smt_expand.proofs.Joining.{sum_ints}
use Rattle.smt_expand.proofs.expanding.joined.Goals as goal

pub plain-requires : goal.plain-requires
plain-requires c =
    let ts = c.args.store.now in
    record { suit = sum_ints ts (tree_at ts c.args.id) c.view.result.now c.in-Sum.field-0 c.args.children.now c.view.ensures.tree c.in-Sum.is c.view.ensures.fits c.requires.sorts }
