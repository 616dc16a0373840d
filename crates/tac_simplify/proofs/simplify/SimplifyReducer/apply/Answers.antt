use Rattle.std.proofs.Common.{sym, subst, Err, refl, All}
use Rattle.qterm.specs.declared.name.Sort.TheVariants as sort
use Rattle.qterm.specs.Store.{HasSort, trees_of}
use Rattle.tac_cert.specs.Accepts.{as_items}
use Rattle.qgoal.specs.Goal.{goal_tree}
use Rattle.deriv.specs.declared.kind.Kind.TheVariants as kinds
use Rattle.goal_depth.specs.Depths.{AreShallow}
use Rattle.proof_conv.specs.Leaves.{StepsLeave}
use Rattle.race_word.proofs.Racers.{keeps_refl}
use Rattle.reducer_iface.specs.Listed.{most_subterms, IsListed}
use Rattle.reducer_iface.specs.Allowed.{IsAllowed}
use Rattle.reduce_base.specs.Fault.{IsFault}
use Rattle.tac_simplify.proofs.Simplified.{simplified, fault_allowed}
use Rattle.tac_simplify.proofs.simplify.SimplifyReducer.apply.Goals as goal

pub list_goal-requires-clause-formulas : goal.list_goal-requires-clause-formulas
list_goal-requires-clause-formulas c = subst (All (HasSort sort.Bool c.args.store.now)) (sym c.as_slice.ensures) c.requires.goal

pub list_goal-requires-clause-shallow : goal.list_goal-requires-clause-shallow
list_goal-requires-clause-shallow c = subst (λ is. AreShallow (trees_of c.args.store.now is)) (sym c.as_slice.ensures) c.requires.shallow

pub returns-in-Err-clause-allowed : goal.returns-in-Err-clause-allowed
unfolding most_subterms
returns-in-Err-clause-allowed c =
    let us = c.list_goal.new.store in
    let g = goal_tree c.args.store.now c.args.goal.now in
    subst (λ s. IsAllowed kinds.Simplify us g c.args._env.now c.args._racer.now.chain c.args._racer.now.view (Err s)) (sym c.from.ensures)
    (fault_allowed us g c.args._env.now _ _ c.in-Err.fault (subst (λ is. IsFault most_subterms us (trees_of c.args.store.now is) c.in-Err.fault) c.as_slice.ensures c.in-Err.ensures.fault))

pub returns-in_ok-applied-in-Ok-clause-racer : goal.returns-in_ok-applied-in-Ok-clause-racer
returns-in_ok-applied-in-Ok-clause-racer c = keeps_refl c.args._racer.now

pub returns-in_ok-applied-in-Ok-clause-allowed : goal.returns-in_ok-applied-in-Ok-clause-allowed
unfolding most_subterms
returns-in_ok-applied-in-Ok-clause-allowed c =
    let ts = c.args.store.now in
    let us = c.list_goal.new.store in
    let g = c.args.goal.now in
    let l = c.in-Ok.listed in
    let o = c.in_ok-applied-in-Ok.ensures in
    simplified c.keeps_models.ensures us (goal_tree ts g) (record { formulas = l.formulas; precision = g.precision }) l.steps c.args._env.now _ c.in_ok-applied-in-Ok.applied
    (subst (λ is. IsListed most_subterms (trees_of ts is) (trees_of us l.formulas)) c.as_slice.ensures c.in-Ok.ensures.listed) refl c.in-Ok.ensures.formulas c.in-Ok.ensures.shallow o.goals o.models o.proofs
    (o.leads us (trees_of ts g.formulas) (trees_of us l.formulas) (subst (λ is. StepsLeave us (as_items (trees_of ts is)) l.steps (as_items (trees_of us l.formulas))) c.as_slice.ensures c.in-Ok.ensures.leads)) o.nests o.lemmas
