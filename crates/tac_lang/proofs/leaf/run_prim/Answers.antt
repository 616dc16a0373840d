use Rattle.std.proofs.Common.{◌≡◌, ◌≤◌, ℕ, List, refl, sym, ap, subst, ◌∙◌, arith}
use Rattle.qgoal.specs.Goal.{GoalTree, goal_tree}
use Rattle.strat_text.specs.declared.strategy.Strategy.TheVariants as strategy
use Rattle.reducer_iface.specs.Allowed.{IsAllowed}
use Rattle.reducer_iface.specs.Names.{kind_at}
use Rattle.lang_runs.specs.Runs.{HasRun}
use Rattle.tac_lang.specs.Ready.{setting}
use Rattle.tac_lang.proofs.Later.{copy_is, copy_has, of_copy, allowed_at, draws_at}
use Rattle.tac_lang.proofs.leaf.run_prim.Goals as goal

pub returns-clause-run : goal.returns-clause-run
returns-clause-run g c =
    let S = setting (g.T.Table.kinds c.args.table.now) g.T.Table.value_of c.args.env.now in
    let ts = c.args.store.now in let us = c.apply-answer.new.store in let gl = c.args.goal.now in
    let e = c.apply-answer.ensures.store in let has = c.requires.ready.has in let same = c.in_ok-kept_goal.ensures in
    let kept = c.in_ok-kept_goal.kept_goal in let chain = c.args.racer.now.chain in let v = c.apply-answer.new.racer.view in
    let name : c.in_ok-kept_name.kept_name ≡ c.args.name.now = c.in_ok-kept_name.ensures ∙ c.text.ensures in
    let room : c.args.depth ≤ 2048 = (let r = c.requires.ready.room in omega arith) in
    let allowed = allowed_at _ c.kind_of-kind.result us _ c.args.env.now chain v c.apply-answer.result c.kind_of-kind.ensures c.apply-answer.ensures.allowed in
    subst (λ (x : List ℕ). HasRun S us (strategy.Prim x) (goal_tree ts gl) c.args.env.now.limit c.args.env.now.params c.args.depth chain v c.prim.result) name
    (of_copy ts us gl e has S (strategy.Prim c.in_ok-kept_name.kept_name) c.args.env.now.limit c.args.env.now.params c.args.depth chain v c.prim.result kept same
    (c.prim.ensures.run S us c.args.env.now c.args.depth chain v (copy_has ts us gl e has kept same) room refl refl (ap (kind_at (g.T.Table.kinds c.args.table.now)) name ∙ c.kind_of-kind.ensures)
    (subst (λ (x : GoalTree). IsAllowed c.kind_of-kind.result us x c.args.env.now chain v c.apply-answer.result) (sym (copy_is ts us gl e has kept same)) allowed)))

pub returns-clause-draws : goal.returns-clause-draws
returns-clause-draws g c =
    c.prim.ensures.draws c.args.racer.now c.apply-answer.new.racer c.apply-answer.ensures.racer
    (draws_at _ c.kind_of-kind.result c.args.racer.now c.apply-answer.new.racer c.apply-answer.result c.kind_of-kind.ensures c.apply-answer.ensures.draws)
