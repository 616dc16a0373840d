use Rattle.std.proofs.Common.{Some, sym, ap, subst, ◌∙◌, option_map}
use Rattle.qterm.specs.Store.{tree_at}
use Rattle.qterm.specs.Kids.{kids, listed}
use Rattle.qsubst.specs.Substitution.{images_at}
use Rattle.smt_expand.specs.Walk.{KeepSorts}
use Rattle.smt_expand.proofs.Joining.{kept_sorts, none_right, over_rights}
use Rattle.smt_expand.proofs.expanding.over_children.Goals as goal

pub joined-requires-clause-sorts : goal.joined-requires-clause-sorts
joined-requires-clause-sorts c =
    let ts = c.args.store.now in
    subst (KeepSorts ts (listed (kids (tree_at ts c.args.id)))) (sym c.as_slice.ensures.value)
    (kept_sorts ts (images_at ts c.args.images.now) (listed (kids (tree_at ts c.args.id))) c.args.outs.now c.in-Some.children.items c.requires.children (sym c.in_ok-all_there.ensures ∙ ap (option_map (λ v. v.items)) c.in-Some.is))

pub returns-in-None-clause-right : goal.returns-in-None-clause-right
returns-in-None-clause-right c =
    let ts = c.args.store.now in
    none_right ts (images_at ts c.args.images.now) (tree_at ts c.args.id) c.args.outs.now c.requires.plain c.requires.children (sym c.in_ok-all_there.ensures ∙ ap (option_map (λ v. v.items)) c.in-None.is)

pub returns-in-Some-clause-right : goal.returns-in-Some-clause-right
returns-in-Some-clause-right c =
    let ts = c.args.store.now in
    over_rights ts (images_at ts c.args.images.now) c.joined.new.store (tree_at ts c.args.id) c.args.outs.now c.as_slice.result.now c.joined.result c.requires.plain c.requires.children
    (sym c.in_ok-all_there.ensures ∙ ap (option_map (λ v. v.items)) c.in-Some.is ∙ ap (λ is. Some is) (sym c.as_slice.ensures.value)) c.joined.ensures.over
