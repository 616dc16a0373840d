use Rattle.std.proofs.Common.{◌∙◌, ap, sym, is_some}
use Rattle.qterm.specs.Store.{grow}
use Rattle.bit_lists.specs.Row.{is_split}
use Rattle.bit_lists.proofs.Looping.{known}
use Rattle.bit_lists.proofs.row.is_split.Goals as goal

pub returns-in-Var : goal.returns-in-Var
returns-in-Var c ss h = c.is_some.ensures ∙ ap is_some c.get.ensures ∙ known c.args.store.now c.args.images.now ss c.in-Var.name h ∙ ap (is_split ss) (sym (c.view.ensures.tree ∙ ap (grow c.args.store.now) c.in-Var.is))
