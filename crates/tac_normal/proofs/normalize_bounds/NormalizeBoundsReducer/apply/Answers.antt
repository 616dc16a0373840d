use Rattle.std.proofs.Common.{◌≡◌, ◌∙◌, Err, sym, ap, subst}
use Rattle.qterm.specs.Store.{trees_of}
use Rattle.qlin.specs.CanonList.{canon_list}
use Rattle.qgoal.specs.Goal.{goal_tree}
use Rattle.tac_cert.specs.Accepts.{as_items}
use Rattle.goal_depth.specs.Depths.{AreShallow}
use Rattle.deriv.specs.declared.kind.Kind.TheVariants as kinds
use Rattle.proof_conv.specs.Leaves.{StepsLeave}
use Rattle.reducer_iface.specs.Listed.{most_subterms, IsListed}
use Rattle.reducer_iface.specs.Allowed.{IsAllowed}
use Rattle.reduce_base.specs.Fault.{IsFault}
use Rattle.reduce_base.proofs.Tidying.{same_trees}
use Rattle.tac_normal.specs.Normal.{IsNormal, IsNotNormal}
use Rattle.tac_normal.proofs.Normals.{normalized, fault_allowed, wide_allowed}
use Rattle.tac_normal.proofs.normalize_bounds.NormalizeBoundsReducer.apply.Goals as goal

pub normalize-requires-clause-shallow : goal.normalize-requires-clause-shallow
normalize-requires-clause-shallow c =
    let S = c.args.store.now in
    let T = c.list_goal.new.store in
    let g = c.args.goal.now in
    let same : trees_of T c.as_slice-in-Ok.result.now ≡ trees_of S g.formulas = ap (trees_of T) c.as_slice-in-Ok.ensures ∙ same_trees S T g.formulas c.list_goal.ensures.extends c.requires.goal in
    subst AreShallow (sym same) c.requires.shallow

pub normalize-requires-clause-canonical : goal.normalize-requires-clause-canonical
unfolding most_subterms
normalize-requires-clause-canonical c =
    let S = c.args.store.now in
    let T = c.list_goal.new.store in
    let g = c.args.goal.now in
    let same : trees_of T c.as_slice-in-Ok.result.now ≡ trees_of S g.formulas = ap (trees_of T) c.as_slice-in-Ok.ensures ∙ same_trees S T g.formulas c.list_goal.ensures.extends c.requires.goal in
    let l = c.in-Ok.listed in
    let listed : IsListed most_subterms (trees_of S g.formulas) (trees_of T l.formulas) = subst (λ is. IsListed most_subterms (trees_of S is) (trees_of T l.formulas)) c.as_slice.ensures c.in-Ok.ensures.listed in
    ap canon_list same ∙ listed.canonical

pub normalize-requires-clause-leads : goal.normalize-requires-clause-leads
normalize-requires-clause-leads c =
    let S = c.args.store.now in
    let T = c.list_goal.new.store in
    let g = c.args.goal.now in
    let same : trees_of T c.as_slice-in-Ok.result.now ≡ trees_of S g.formulas = ap (trees_of T) c.as_slice-in-Ok.ensures ∙ same_trees S T g.formulas c.list_goal.ensures.extends c.requires.goal in
    let l = c.in-Ok.listed in
    let whole : trees_of S c.as_slice.result.now ≡ trees_of T c.as_slice-in-Ok.result.now = ap (trees_of S) c.as_slice.ensures ∙ sym same in
    subst (λ fs. StepsLeave T (as_items fs) l.steps (as_items (trees_of T l.formulas))) whole c.in-Ok.ensures.leads

pub returns-in_ok-applied-in-Ok-normalize-clause-allowed : goal.returns-in_ok-applied-in-Ok-normalize-clause-allowed
unfolding most_subterms
returns-in_ok-applied-in-Ok-normalize-clause-allowed c =
    let S = c.args.store.now in
    let T = c.list_goal.new.store in
    let g = c.args.goal.now in
    let same : trees_of T c.as_slice-in-Ok.result.now ≡ trees_of S g.formulas = ap (trees_of T) c.as_slice-in-Ok.ensures ∙ same_trees S T g.formulas c.list_goal.ensures.extends c.requires.goal in
    let l = c.in-Ok.listed in
    let listed : IsListed most_subterms (trees_of S g.formulas) (trees_of T l.formulas) = subst (λ is. IsListed most_subterms (trees_of S is) (trees_of T l.formulas)) c.as_slice.ensures c.in-Ok.ensures.listed in
    let W = c.normalize.new.store in
    normalized c.keeps_models.ensures W (goal_tree S g) (trees_of T l.formulas) c.in-Ok-normalize.normal c.args._env.now _ c.in_ok-applied-in-Ok-normalize.applied listed
    (subst (λ fs. IsNormal W fs (trees_of T l.formulas) c.in-Ok-normalize.normal) same c.in-Ok-normalize.ensures.normal) c.in_ok-applied-in-Ok-normalize.ensures

pub returns-in-Err-normalize-clause-allowed : goal.returns-in-Err-normalize-clause-allowed
unfolding most_subterms
returns-in-Err-normalize-clause-allowed c =
    let S = c.args.store.now in
    let T = c.list_goal.new.store in
    let g = c.args.goal.now in
    let same : trees_of T c.as_slice-in-Ok.result.now ≡ trees_of S g.formulas = ap (trees_of T) c.as_slice-in-Ok.ensures ∙ same_trees S T g.formulas c.list_goal.ensures.extends c.requires.goal in
    let l = c.in-Ok.listed in
    let listed : IsListed most_subterms (trees_of S g.formulas) (trees_of T l.formulas) = subst (λ is. IsListed most_subterms (trees_of S is) (trees_of T l.formulas)) c.as_slice.ensures c.in-Ok.ensures.listed in
    let W = c.normalize.new.store in
    subst (λ s. IsAllowed kinds.NormalizeBounds W (goal_tree S g) c.args._env.now c.args._racer.now.chain c.args._racer.now.view (Err s)) (sym c.from.ensures)
    (wide_allowed W (goal_tree S g) (trees_of T l.formulas) c.args._env.now _ _ c.in-Err-normalize.fault listed (subst (λ fs. IsNotNormal W fs (trees_of T l.formulas) c.in-Err-normalize.fault) same c.in-Err-normalize.ensures.fault))

pub returns-in-Err-clause-allowed : goal.returns-in-Err-clause-allowed
unfolding most_subterms
returns-in-Err-clause-allowed c =
    let S = c.args.store.now in
    let T = c.list_goal.new.store in
    let g = c.args.goal.now in
    subst (λ s. IsAllowed kinds.NormalizeBounds T (goal_tree S g) c.args._env.now c.args._racer.now.chain c.args._racer.now.view (Err s)) (sym c.from-in-Err.ensures)
    (fault_allowed T (goal_tree S g) c.args._env.now _ _ c.in-Err.fault (subst (λ is. IsFault most_subterms T (trees_of S is) c.in-Err.fault) c.as_slice.ensures c.in-Err.ensures.fault))
