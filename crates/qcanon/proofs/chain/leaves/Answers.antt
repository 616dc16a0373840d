use Rattle.std.proofs.Common.{◌≡◌, ◌∙◌, ◌++◌, [], All, ap, subst, sym}
use Rattle.qterm.specs.Store.{HasSort}
use Rattle.qterm.specs.declared.name.Sort.TheVariants.{Bool}
use Rattle.qterm.proofs.Alls.{All-nil}
use Rattle.qcanon.proofs.Nesting.{leaves_begun}
use Rattle.qcanon.proofs.chain.leaves.Goals as goal

pub loop-id-init : goal.loop-id-init
loop-id-init c =
    let ts = c.args.store.now in
    let todo : c.extend_from_slice.new.self.items ≡ c.args.ids.now = c.in_ok-extend_from_slice.ensures.items ∙ ap (λ is. is ++ c.args.ids.now) c.new-todo.ensures.items in
    let found : c.new-found.result.items ≡ [] = c.new-found.ensures.items in
    record {
      leaves = leaves_begun ts c.args.is_and c.args.ids.now c.extend_from_slice.new.self.items c.new-found.result.items todo found;
      todo = subst (All (HasSort Bool ts)) (sym todo) c.requires.formulas;
      found = subst (All (HasSort Bool ts)) (sym found) (All-nil (HasSort Bool ts));
    }
