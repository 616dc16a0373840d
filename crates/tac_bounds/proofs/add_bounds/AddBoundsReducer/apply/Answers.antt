use Rattle.std.proofs.Common.{◌∙◌, Err, refl, sym, ap, subst}
use Rattle.qterm.specs.Store.{trees_of}
use Rattle.tac_cert.specs.Accepts.{as_items}
use Rattle.qgoal.specs.Goal.{goal_tree}
use Rattle.deriv.specs.declared.kind.Kind.TheVariants as kinds
use Rattle.proof_conv.specs.Leaves.{StepsLeave}
use Rattle.reducer_iface.specs.Listed.{most_subterms, IsListed}
use Rattle.reducer_iface.specs.Allowed.{IsAllowed}
use Rattle.reduce_base.specs.Fault.{IsFault, stop_of}
use Rattle.tac_bounds.proofs.Missing.{given_success, wide_allowed, fault_allowed}
use Rattle.tac_bounds.proofs.add_bounds.AddBoundsReducer.apply.Goals as goal

pub returns-in_ok-applied-in-Ok-bound_list-clause-allowed : goal.returns-in_ok-applied-in-Ok-bound_list-clause-allowed
unfolding most_subterms
returns-in_ok-applied-in-Ok-bound_list-clause-allowed c =
    let ts = c.args.store.now in
    let us = c.list_goal.new.store in
    let g = c.args.goal.now in
    let l = c.in-Ok.listed in
    let ps = c.args.env.now.params in
    given_success c.keeps_models.ensures us c.bound_list.new.store (goal_tree ts g) l c.in-Ok-bound_list.bounded ps.add_bound_lower ps.add_bound_upper c.args.env.now _ c.in_ok-applied-in-Ok-bound_list.applied refl refl c.in-Ok-bound_list.ensures.extends
    c.in-Ok.ensures.formulas (subst (λ is. IsListed most_subterms (trees_of ts is) (trees_of us l.formulas)) c.as_slice.ensures c.in-Ok.ensures.listed) c.in-Ok-bound_list.ensures.formulas c.in-Ok.ensures.shallow
    (subst (λ is. StepsLeave us (as_items (trees_of ts is)) l.steps (as_items (trees_of us l.formulas))) c.as_slice.ensures c.in-Ok.ensures.leads) c.in-Ok-bound_list.ensures.bounded c.in_ok-applied-in-Ok-bound_list.ensures

pub returns-in-Err-bound_list-clause-allowed : goal.returns-in-Err-bound_list-clause-allowed
unfolding most_subterms
returns-in-Err-bound_list-clause-allowed c =
    let ts = c.args.store.now in
    let us = c.list_goal.new.store in
    let vs = c.bound_list.new.store in
    let g = goal_tree ts c.args.goal.now in
    let l = c.in-Ok.listed in
    let ps = c.args.env.now.params in
    subst (λ s. IsAllowed kinds.AddBounds vs g c.args.env.now c.args._racer.now.chain c.args._racer.now.view (Err s)) (sym (c.from-in-Err-bound_list.ensures ∙ ap stop_of c.from.ensures))
    (wide_allowed vs g (trees_of us l.formulas) ps.add_bound_lower ps.add_bound_upper c.args.env.now _ _ c.in-Err-bound_list.cause refl refl
    (subst (λ is. IsListed most_subterms (trees_of ts is) (trees_of us l.formulas)) c.as_slice.ensures c.in-Ok.ensures.listed) c.in-Err-bound_list.ensures.wide)

pub returns-in-Err-clause-allowed : goal.returns-in-Err-clause-allowed
unfolding most_subterms
returns-in-Err-clause-allowed c =
    let us = c.list_goal.new.store in
    let g = goal_tree c.args.store.now c.args.goal.now in
    subst (λ s. IsAllowed kinds.AddBounds us g c.args.env.now c.args._racer.now.chain c.args._racer.now.view (Err s)) (sym c.from-in-Err.ensures)
    (fault_allowed us g c.args.env.now _ _ c.in-Err.fault (subst (λ is. IsFault most_subterms us (trees_of c.args.store.now is) c.in-Err.fault) c.as_slice.ensures c.in-Err.ensures.fault))
