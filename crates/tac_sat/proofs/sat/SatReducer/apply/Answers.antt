use Rattle.std.proofs.Common.{◌≡◌, sym, subst, ap, ◌∙◌, Err}
use Rattle.qterm.specs.declared.name.Sort.TheVariants as sort
use Rattle.qterm.specs.Store.{trees_of, Has, HasSort}
use Rattle.qterm.proofs.Alls.{All-weaker}
use Rattle.qterm.proofs.Extending.{trees_of_extends}
use Rattle.qgoal.specs.Goal.{goal_tree}
use Rattle.tac_cert.specs.Accepts.{as_items}
use Rattle.proof_conv.specs.Leaves.{StepsLeave}
use Rattle.deriv.specs.declared.kind.Kind.TheVariants as kinds
use Rattle.reducer_iface.specs.Listed.{most_clausal, IsListed}
use Rattle.reducer_iface.specs.Allowed.{IsAllowed}
use Rattle.reduce_base.specs.Fault.{IsFault}
use Rattle.tac_sat.proofs.Rows.{fault_allowed}
use Rattle.tac_sat.proofs.sat.SatReducer.apply.Goals as goal

pub decide_list-requires-clause-listed : goal.decide_list-requires-clause-listed
unfolding most_clausal
decide_list-requires-clause-listed c =
    let ts = c.args.store.now in
    let us = c.list_goal.new.store in
    let fs = c.args.goal.now.formulas in
    let same : trees_of ts c.as_slice.result.now ≡ trees_of us fs = ap (trees_of ts) c.as_slice.ensures ∙ sym (trees_of_extends ts us fs c.in-Ok.ensures.extends (All-weaker (HasSort sort.Bool ts) (Has ts) fs (λ i h. h.0) c.requires.goal)) in
    subst (λ gs. IsListed most_clausal gs (trees_of us c.in-Ok.listed.formulas)) same c.in-Ok.ensures.listed

pub decide_list-requires-clause-leads : goal.decide_list-requires-clause-leads
decide_list-requires-clause-leads c =
    let ts = c.args.store.now in
    let us = c.list_goal.new.store in
    let fs = c.args.goal.now.formulas in
    let same : trees_of ts c.as_slice.result.now ≡ trees_of us fs = ap (trees_of ts) c.as_slice.ensures ∙ sym (trees_of_extends ts us fs c.in-Ok.ensures.extends (All-weaker (HasSort sort.Bool ts) (Has ts) fs (λ i h. h.0) c.requires.goal)) in
    subst (λ gs. StepsLeave us (as_items gs) c.in-Ok.listed.steps (as_items (trees_of us c.in-Ok.listed.formulas))) same c.in-Ok.ensures.leads

pub returns-in-Ok-clause-allowed : goal.returns-in-Ok-clause-allowed
returns-in-Ok-clause-allowed c =
    let ts = c.args.store.now in
    let us = c.list_goal.new.store in
    let h = c.args.goal.now in
    let same : goal_tree us h ≡ goal_tree ts h = ap (λ gs. record { formulas = gs; precision = h.precision }) (trees_of_extends ts us h.formulas c.in-Ok.ensures.extends (All-weaker (HasSort sort.Bool ts) (Has ts) h.formulas (λ i k. k.0) c.requires.goal)) in
    subst (λ g. IsAllowed kinds.Sat c.decide_list.new.store g c.args.env.now c.args.racer.now.chain c.decide_list.new.racer.view c.decide_list.result) same c.decide_list.ensures.allowed

pub returns-in-Err-clause-allowed : goal.returns-in-Err-clause-allowed
unfolding most_clausal
returns-in-Err-clause-allowed c =
    let us = c.list_goal.new.store in
    let g = goal_tree c.args.store.now c.args.goal.now in
    subst (λ s. IsAllowed kinds.Sat us g c.args.env.now c.args.racer.now.chain c.args.racer.now.view (Err s)) (sym c.from.ensures)
    (fault_allowed us g c.args.env.now _ _ c.in-Err.fault (subst (λ is. IsFault most_clausal us (trees_of c.args.store.now is) c.in-Err.fault) c.as_slice.ensures c.in-Err.ensures.fault))
