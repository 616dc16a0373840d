use Rattle.std.proofs.Common.{◌∙◌, sym, ap}
use Rattle.qterm.specs.Store.{grow, tree_at}
use Rattle.qsubst.proofs.Rebuilding.{no_var}
use Rattle.smt_expand.proofs.Joining.{name_found, name_itself}
use Rattle.smt_expand.proofs.expanding.image.Goals as goal

pub returns-in-Some : goal.returns-in-Some
returns-in-Some c =
    name_found c.args.store.now c.args.images.now (tree_at c.args.store.now c.args.id) c.in-Var.name c.in-Some.found c.is_lawful.ensures c.requires.images (c.view.ensures.tree ∙ ap (grow c.args.store.now) c.in-Var.is) (sym c.in-Some.ensures)

pub returns-in-None : goal.returns-in-None
returns-in-None c =
    name_itself c.args.store.now c.args.images.now c.args.id c.in-Var.name c.is_lawful.ensures c.requires.images c.requires.has (c.view.ensures.tree ∙ ap (grow c.args.store.now) c.in-Var.is) (sym c.in-None.ensures)

pub returns-in_default : goal.returns-in_default
returns-in_default c = no_var c.args.store.now (tree_at c.args.store.now c.args.id) c.view.result.now c.view.ensures.tree c.in_default.not-Var
