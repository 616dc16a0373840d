use Rattle.std.proofs.Common.{◌≡◌, ◌∙◌, All, Err, refl, sym, ap, subst, to_z, of_z}
use Rattle.std.proofs.lemmas.List.Elements.{All-filter}
use mir.Syntax.{w128}
use Rattle.qterm.specs.declared.name.Sort.TheVariants as sort
use Rattle.qterm.specs.Store.{HasSort, tree_at, trees_of}
use Rattle.tac_cert.specs.Accepts.{as_items}
use Rattle.qgoal.specs.Goal.{goal_tree}
use Rattle.qgoal.specs.Precision.{join}
use Rattle.deriv.specs.declared.kind.Kind.TheVariants as kinds
use Rattle.goal_depth.specs.Depths.{AreShallow}
use Rattle.proof_conv.specs.Leaves.{StepsLeave}
use Rattle.bound_lists.specs.DropWide.{is_narrow, narrow, has_wide, narrowing}
use Rattle.reducer_iface.specs.Listed.{most_subterms, IsListed}
use Rattle.reducer_iface.specs.Allowed.{IsAllowed}
use Rattle.reduce_base.specs.Fault.{IsFault}
use Rattle.tac_bounds.specs.Kept.{narrow_ids}
use Rattle.tac_bounds.proofs.Keeping.{narrow_trees, narrow_shallow}
use Rattle.tac_bounds.proofs.Narrowed.{narrowed, fault_allowed, wide_fits}
use Rattle.tac_bounds.proofs.drop_wide.DropWideReducer.apply.Goals as goal

pub returns-in_ok-applied-in-Ok-clause-allowed : goal.returns-in_ok-applied-in-Ok-clause-allowed
unfolding most_subterms
returns-in_ok-applied-in-Ok-clause-allowed c =
    let ts = c.args.store.now in
    let us = c.list_goal.new.store in
    let g = c.args.goal.now in
    let l = c.in-Ok.listed in
    let n = c.in_ok-narrowed-in-Ok.narrowed in
    let most = c.args.env.now.params.drop_wide_max in
    let o = c.in_ok-applied-in-Ok.ensures in
    let z : to_z w128 (of_z w128 most) ≡ most = wide_fits most c.requires.params.wide in
    let ids : n.formulas ≡ narrow_ids us most l.formulas = c.in_ok-narrowed-in-Ok.ensures.formulas ∙ ap (λ y. narrow_ids us y l.formulas) z in
    let wide : n.dropped ≡ has_wide most (trees_of us l.formulas) = c.in_ok-narrowed-in-Ok.ensures.dropped ∙ ap (λ y. has_wide y (trees_of us l.formulas)) z in
    let trees : trees_of us n.formulas ≡ narrow most (trees_of us l.formulas) = ap (trees_of us) ids ∙ narrow_trees us most l.formulas in
    narrowed c.keeps_models.ensures us (goal_tree ts g) (record { formulas = n.formulas; precision = join g.precision (narrowing n.dropped) }) (trees_of us l.formulas) n.dropped n.steps c.args.env.now _ c.in_ok-applied-in-Ok.applied
    (subst (λ is. IsListed most_subterms (trees_of ts is) (trees_of us l.formulas)) c.as_slice.ensures c.in-Ok.ensures.listed) trees wide refl
    (subst (All (HasSort sort.Bool us)) (sym ids) (All-filter (λ i. is_narrow most (tree_at us i)) (HasSort sort.Bool us) l.formulas c.in-Ok.ensures.formulas)) (subst AreShallow (sym trees) (narrow_shallow most (trees_of us l.formulas) c.in-Ok.ensures.shallow))
    o
    (o.leads us (trees_of ts g.formulas) (trees_of us n.formulas)
    (c.in_ok-narrowed-in-Ok.ensures.leads (as_items (trees_of ts g.formulas)) (subst (λ is. StepsLeave us (as_items (trees_of ts is)) l.steps (as_items (trees_of us l.formulas))) c.as_slice.ensures c.in-Ok.ensures.leads)))

pub returns-in-Err-clause-allowed : goal.returns-in-Err-clause-allowed
unfolding most_subterms
returns-in-Err-clause-allowed c =
    let us = c.list_goal.new.store in
    let g = goal_tree c.args.store.now c.args.goal.now in
    subst (λ s. IsAllowed kinds.DropWide us g c.args.env.now c.args._racer.now.chain c.args._racer.now.view (Err s)) (sym c.from.ensures)
    (fault_allowed us g c.args.env.now _ _ c.in-Err.fault (subst (λ is. IsFault most_subterms us (trees_of c.args.store.now is) c.in-Err.fault) c.as_slice.ensures c.in-Err.ensures.fault))
