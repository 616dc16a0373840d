use Rattle.std.proofs.Common.{◌≡◌, ◌++◌, ◌∙◌, sym, ap, not, subst}
use Rattle.qterm.specs.Tree.{And, Or}
use Rattle.qterm.specs.Store.{grow, trees_at, tree_at, Fits}
use Rattle.qlin.specs.Junction.{joined}
use Rattle.qnegation.proofs.Junctions.{at_true, at_false, at_members, at_turned, at_other}
use Rattle.qnegation.proofs.junction.add_members.Goals as goal

pub returns-in-True : goal.returns-in-True
returns-in-True c = at_true c.args.store.now c.args.is_and c.args.id c.args.all.now.items (c.view.ensures.tree ∙ ap (grow c.args.store.now) c.in-True.is)

pub returns-in-False : goal.returns-in-False
returns-in-False c = at_false c.args.store.now c.args.is_and c.args.id c.args.all.now.items (c.view.ensures.tree ∙ ap (grow c.args.store.now) c.in-False.is)

pub returns-in_ok-push-in_default : goal.returns-in_ok-push-in_default
returns-in_ok-push-in_default c =
    at_other c.args.store.now c.args.is_and c.args.id c.view.result.now c.args.all.now.items c.push-in_default.new.self.items c.view.ensures.tree c.in_default.not-True c.in_default.not-False c.in_default.not-And c.in_default.not-Or c.requires c.in_ok-push-in_default.ensures.items

pub returns-in_ok-extend_from_slice-in-And : goal.returns-in_ok-extend_from_slice-in-And
returns-in_ok-extend_from_slice-in-And c =
    let ts = c.args.store.now in
    let e = c.in_ok-extend_from_slice-in-And.ensures.items in
    let f : tree_at ts c.args.id ≡ And (trees_at ts c.in-And.ids) = c.view.ensures.tree ∙ ap (grow ts) c.in-And.is in
    at_members ts c.args.is_and c.args.id c.args.all.now.items c.in-And.ids c.extend_from_slice.new.self.items (f ∙ ap (λ k. joined k (trees_at ts c.in-And.ids)) (sym c.if-is_and.true)) (subst (Fits ts) c.in-And.is c.view.ensures.fits)
    (e ∙ ap (λ x. c.args.all.now.items ++ x) c.as_slice.ensures)

pub returns-in_ok-push-in-And : goal.returns-in_ok-push-in-And
returns-in_ok-push-in-And c =
    let ts = c.args.store.now in
    let f : tree_at ts c.args.id ≡ And (trees_at ts c.in-And.ids) = c.view.ensures.tree ∙ ap (grow ts) c.in-And.is in
    at_turned ts c.args.is_and c.args.id c.args.all.now.items c.in-And.ids c.push.new.self.items (f ∙ ap (λ k. joined (not k) (trees_at ts c.in-And.ids)) (sym c.if-is_and.false)) c.requires c.in_ok-push-in-And.ensures.items

pub returns-in_ok-push-in-Or : goal.returns-in_ok-push-in-Or
returns-in_ok-push-in-Or c =
    let ts = c.args.store.now in
    let f : tree_at ts c.args.id ≡ Or (trees_at ts c.in-Or.ids) = c.view.ensures.tree ∙ ap (grow ts) c.in-Or.is in
    at_turned ts c.args.is_and c.args.id c.args.all.now.items c.in-Or.ids c.push-then-is_and-2.new.self.items (f ∙ ap (λ k. joined (not k) (trees_at ts c.in-Or.ids)) (sym c.if-is_and-2.true)) c.requires c.in_ok-push-in-Or.ensures.items

pub returns-in_ok-extend_from_slice-in-Or : goal.returns-in_ok-extend_from_slice-in-Or
returns-in_ok-extend_from_slice-in-Or c =
    let ts = c.args.store.now in
    let e = c.in_ok-extend_from_slice-in-Or.ensures.items in
    let f : tree_at ts c.args.id ≡ Or (trees_at ts c.in-Or.ids) = c.view.ensures.tree ∙ ap (grow ts) c.in-Or.is in
    at_members ts c.args.is_and c.args.id c.args.all.now.items c.in-Or.ids c.extend_from_slice-else-is_and-2.new.self.items (f ∙ ap (λ k. joined k (trees_at ts c.in-Or.ids)) (sym c.if-is_and-2.false)) (subst (Fits ts) c.in-Or.is c.view.ensures.fits)
    (e ∙ ap (λ x. c.args.all.now.items ++ x) c.as_slice-else-is_and-2.ensures)
