use Rattle.std.proofs.Common.{◌∙◌}
use Rattle.qterm.specs.Store.{tree_at}
use Rattle.qcanon.proofs.Finding.{as_many, stands_over, StandsOver}
use Rattle.qcanon.proofs.walk.term_over.Goals as goal

pub with_children-requires : goal.with_children-requires
with_children-requires c =
    record { all = as_many c.args.store.now (tree_at c.args.store.now c.args.id) c.view.result.now c.args.outs.now c.as_slice.result.now c.view.ensures.tree c.requires.children (c.as_slice.ensures.value ∙ c.in_ok-ids.ensures) }

done : (c : goal.After-drop-ids-2) → StandsOver c.args.store.now (tree_at c.args.store.now c.args.id) c.in_ok-term.term
done c =
    stands_over c.args.store.now (tree_at c.args.store.now c.args.id) c.view.result.now c.in_ok-term.term c.args.outs.now c.as_slice.result.now c.is_lawful.ensures c.view.ensures.tree c.view.ensures.fits c.requires.children c.requires.all
    (c.as_slice.ensures.value ∙ c.in_ok-ids.ensures) c.in_ok-term.ensures

pub returns-clause-fits : goal.returns-clause-fits
returns-clause-fits c = (done c).fits

pub returns-clause-own : goal.returns-clause-own
returns-clause-own c = (done c).own

pub returns-clause-same : goal.returns-clause-same
returns-clause-same c = (done c).same
