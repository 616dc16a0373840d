use Rattle.qterm.specs.Tree.{True}
use Rattle.qterm.specs.Store.{tree_at}
use Rattle.qcanon.proofs.Sorted.{answer_sort}
use Rattle.qcanon.proofs.Nesting.{sound_found}
use Rattle.qcanon.proofs.Joining.{told_form, told_fault}
use Rattle.qcanon.proofs.walk.canon_with.Goals as goal

pub settle-requires-clause-sound : goal.settle-requires-clause-sound
settle-requires-clause-sound c = sound_found c.fold_terms.new.store (tree_at c.args.store.now c.args.id) c.in_ok-answer.answer c.in_ok-answer.ensures.right

pub returns-clause-canonical : goal.returns-clause-canonical
returns-clause-canonical c =
    let t = tree_at c.args.store.now c.args.id in
    told_form c.settle.new.store t c.in_ok-found.found c.told.result (c.in_ok-found.ensures.links t c.in_ok-answer.ensures.right) c.told.ensures

pub returns-clause-sort : goal.returns-clause-sort
returns-clause-sort c =
    let t = tree_at c.args.store.now c.args.id in
    answer_sort c.settle.new.store t c.in_ok-found.found c.told.result (c.is_lawful.ensures c.args.id True c.requires.has) (c.in_ok-found.ensures.links t c.in_ok-answer.ensures.right) c.told.ensures

pub returns-clause-too_wide : goal.returns-clause-too_wide
returns-clause-too_wide c =
    let t = tree_at c.args.store.now c.args.id in
    told_fault c.settle.new.store t c.in_ok-found.found c.told.result (c.in_ok-found.ensures.links t c.in_ok-answer.ensures.right) c.told.ensures
