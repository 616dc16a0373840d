-- The names of a junction are those of its children.
use Rattle.std.proofs.Common.{ap, ◌∙◌}
use Rattle.qterm.specs.Store.{tree_at, grow}
use Rattle.cert_values.proofs.Gathering.{of_iff, of_not, of_ite}
use Rattle.cert_values.proofs.few.few_at.Goals as goal

pub returns-in-Iff : goal.returns-in-Iff
returns-in-Iff c =
    let ts = c.args.store.now in
    of_iff ts (tree_at ts c.args.id) (tree_at ts c.in-Iff.field-0) (tree_at ts c.in-Iff.field-1) c.args.outs.now _ c.is_distinct.ensures (c.view.ensures.tree ∙ ap (grow ts) c.in-Iff.is) c.requires.children c.join_all-in-Iff.ensures

pub returns-in-Not : goal.returns-in-Not
returns-in-Not c =
    let ts = c.args.store.now in
    of_not ts (tree_at ts c.args.id) (tree_at ts c.in-Not.field-0) c.args.outs.now _ c.is_distinct.ensures (c.view.ensures.tree ∙ ap (grow ts) c.in-Not.is) c.requires.children c.join_all-in-Not.ensures

pub returns-in-Ite : goal.returns-in-Ite
returns-in-Ite c =
    let ts = c.args.store.now in
    of_ite ts (tree_at ts c.args.id) (tree_at ts c.in-Ite.field-0) (tree_at ts c.in-Ite.field-1) (tree_at ts c.in-Ite.field-2) c.args.outs.now _ c.is_distinct.ensures (c.view.ensures.tree ∙ ap (grow ts) c.in-Ite.is) c.requires.children c.join_all-in-Ite.ensures
