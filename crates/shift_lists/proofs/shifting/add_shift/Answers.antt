use Rattle.std.proofs.Common.{◌≡◌, ◌∙◌, sym, ap, rules}
use Rattle.qterm.specs.declared.name.Name.{Name}
use Rattle.qterm.specs.declared.name.Sort.TheVariants as sort
use Rattle.qterm.specs.Tree.{sort_of}
use Rattle.qterm.specs.Store.{grow}
use Rattle.qsubst.proofs.Rebuilding.{AreImages_extends}
use Rattle.shift_lists.proofs.shifting.add_shift.Goals as goal

pub returns-in_ok-push-in-Var-clause-images : goal.returns-in_ok-push-in-Var-clause-images
returns-in_ok-push-in-Var-clause-images c =
    let S = c.args.store.now in
    let T = c.plus.new.store in
    let same : c.in_ok-key-in-Var.key ≡ c.in-Var.found = search rules in
    let int : c.in_ok-key-in-Var.key.sort ≡ sort.Int = ap (λ (n : Name). n.sort) same ∙ sym (ap sort_of (c.view.ensures.tree ∙ ap (grow S) c.in-Var.is)) ∙ c.requires.int.1 in
    c.in_ok-put-in-Var.ensures.sorts T (AreImages_extends S T c.args.images.now c.plus.ensures.extends c.requires.images) (c.in_ok-term-in-Var.ensures.shows.has, ap sort_of c.in_ok-term-in-Var.ensures.shows.is ∙ sym int)
