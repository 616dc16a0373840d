use Rattle.std.proofs.Common.{subst, sym, IfOk}
use Rattle.qterm.specs.Store.{tree_at}
use Rattle.qsubst.proofs.Rebuilding.{images_extend}
use Rattle.smt_expand.specs.Walk.{IsRight}
use Rattle.smt_expand.proofs.Joining.{right_extends}
use Rattle.smt_expand.proofs.expanding.ExpandingFoldOptionTermId.node.Goals as goal

pub returns-in-None-clause-right : goal.returns-in-None-clause-right
returns-in-None-clause-right c =
    let es = c.args.self.now.images.now in
    let x = c.over_children.ensures.extends in
    subst (λ s. IfOk c.over_children.result (IsRight c.over_children.new.store s (tree_at c.args.store.now c.args.id))) (sym (images_extend c.args.store.now c.over_children.new.store es x c.requires.ready)) c.over_children.ensures.right

pub returns-in-None-clause-keeps : goal.returns-in-None-clause-keeps
returns-in-None-clause-keeps c t o h =
    let es = c.args.self.now.images.now in
    let x = c.over_children.ensures.extends in
    subst (λ s. IsRight c.over_children.new.store s t o) (sym (images_extend c.args.store.now c.over_children.new.store es x c.requires.ready)) (right_extends c.args.store.now c.over_children.new.store _ t o x h)
