use Rattle.std.proofs.Common.{◌≡◌, ◌+◌, ◌≤◌, ◌<◌, ◌∷◌, [], length, take, drop, true, refl, sym, ap, subst, ◌∙◌, arith, rules, SFits}
use Rattle.std.specs.Int.{w128}
use Rattle.std.proofs.lemmas.Int.{to_z-of_z}
use Rattle.std.proofs.lemmas.List.{take_all}
use Rattle.qterm.proofs.Extending.{Extends_refl, Extends_trans}
use Rattle.qgoal.specs.Goal.{GoalTree}
use Rattle.race_word.proofs.Racers.{keeps_refl, keeps_then}
use Rattle.strat_text.specs.declared.strategy.Strategy.{Strategy}
use Rattle.strat_text.specs.declared.strategy.Strategy.TheVariants as strategy
use Rattle.deriv.specs.Derives.{by_or_else, by_par_or, InOrder}
use Rattle.lang_runs.specs.Strategies.{runs, AllRun}
use Rattle.lang_runs.specs.Forms.{Surrounds, params, try_for, no_turn, AreTried}
use Rattle.lang_runs.specs.Runs.{HasRun, IsRun, IsFailure}
use Rattle.lang_runs.proofs.Later.{tried_stays, goal_stays}
use Rattle.tac_lang.specs.Ready.{setting}
use Rattle.tac_lang.specs.Chain.{rest_of}
use Rattle.tac_lang.proofs.Chaining.{rest_none, chains_repeat, chains_then, part_runs, alone_runs, then_is, repeat_is}
use Rattle.tac_lang.proofs.Resting.{within, leaves_less, beside_first, beside_now, run_next, failure_next, answer_first}
use Rattle.tac_lang.proofs.MayRun.{may_then, may_repeat, may_par_then, may_prim, may_or_else, may_par_or, may_if, may_when, may_params, may_try_for}
use Rattle.std.proofs.Common.{List}
use Rattle.qgoal.specs.Goal.{goal_tree}
use Rattle.tac_lang.proofs.Later.{stays_shallow, copy_is, copy_has, of_copy, for_copy, ready_later, ready_with, ready_on, ready_below, run_first, failure_first, when_rests, when_surrounds, if_surrounds, chosen_runs, split_here, take_here}
use Rattle.qgoal.specs.declared.goal.Goal.{Goal}
use Rattle.race_word.specs.declared.place.Place.{Place}
use Rattle.reducer_iface.specs.Depths.{IsShallow}
use Rattle.lang_runs.specs.declared.ran.Ran.{Ran}
use Rattle.strat_text.specs.Allowed.{depth_of}
use Rattle.tac_lang.specs.Nesting.{deepest}
use Rattle.tac_lang.proofs.Nested.{deep_then, deep_or_else, deep_par_or, deep_par_then, deep_if, deep_when, deep_repeat, deep_params, deep_try_for, deepest_one, deep_here, deep_at, chosen_deep}
use Rattle.std.proofs.Common.{max}
use Rattle.std.proofs.Common.{reverse, length-drop}
use Rattle.tac_lang.specs.declared.level.Level.{Level}
use Rattle.tac_lang.specs.declared.level.Turn.{Turn}
use Rattle.tac_lang.specs.Levels.{Task, task, rest_at, rest_task, IsAnswer, IsWaiting, Waits, IsTurn, IsAt, left_in, left_under}
use Rattle.tac_lang.proofs.Waiting.{waiting_stays, waits_stay, answer_has, ready_level, no_levels, innermost}
use Rattle.tac_lang.proofs.Falling.{taken_less}
use Rattle.tac_lang.proofs.run.+run.Goals as goal

pub run_around-returns-clause-run : goal.run_around-returns-clause-run
run_around-returns-clause-run g t c = λ s ps around.
    let S = setting (g.T.Table.kinds c.args.table.now) g.T.Table.value_of c.args.env.now in
    let ts = c.args.store.now in let us = c.run_at-ran.new.store in let gl = c.args.goal.now in
    let e = c.run_at-ran.ensures.store in let has = c.requires.ready.has in let same = c.in_ok-kept.ensures in
    let kept = c.in_ok-kept.kept in let chain = c.args.racer.now.chain in let v = c.run_at-ran.new.racer.view in
    let room : c.args.depth ≤ 2048 = (let r = c.requires.ready.room in omega arith) in
    of_copy ts us gl e has S s c.args.limit ps c.args.depth chain v c.surround.result kept same
    (c.surround.ensures.run S us s c.args.part.now c.args.env.now.limit ps c.args.env.now.params c.args.depth chain v (copy_has ts us gl e has kept same) room
    (subst (λ (x : GoalTree). Surrounds S x c.args.limit ps c.args.how s c.args.part.now c.args.env.now.limit c.args.env.now.params) (sym (copy_is ts us gl e has kept same)) around)
    (for_copy ts us gl e has S c.args.part.now c.args.env.now.limit c.args.env.now.params (c.args.depth + 1) chain v c.run_at-ran.result kept same c.run_at-ran.ensures.run))

pub run_at-returns-then-depth-gt-DEEPEST-clause-run : goal.run_at-returns-then-depth-gt-DEEPEST-clause-run
run_at-returns-then-depth-gt-DEEPEST-clause-run g t c =
    let deep : c.args.depth ≡ 2048 + 1 = (let r = c.requires.ready.room in omega arith) in
    c.stopped.ensures.run (setting (g.T.Table.kinds c.args.table.now) g.T.Table.value_of c.args.env.now) c.args.store.now c.args.strategy.now c.args.env.now.params c.args.depth c.args.racer.now.chain c.args.racer.now.view c.requires.ready.has deep

pub run_at-run_prim-requires-clause-known : goal.run_at-run_prim-requires-clause-known
run_at-run_prim-requires-clause-known g t c = may_prim (g.T.Table.kinds c.args.table.now) c.args.strategy.now c.in-Prim.name c.requires.runs c.in-Prim.is

pub run_at-run_tries-requires : goal.run_at-run_tries-requires
run_at-run_tries-requires g t c κs within =
    let parts = may_or_else (g.T.Table.kinds c.args.table.now) c.args.strategy.now c.in-OrElse.parts c.requires.runs c.in-OrElse.is in
    let all : AllRun (g.T.Table.kinds c.args.table.now) c.as_slice-in-OrElse.result.now = rw c.as_slice-in-OrElse.ensures parts.0 in
    let some : 1 ≤ length c.as_slice-in-OrElse.result.now = rw c.as_slice-in-OrElse.ensures (omega (arith, parts.1)) in
    let room : c.args.depth ≤ 2048 = omega (arith, c.if-depth-gt-DEEPEST.false) in
    let ready = ready_below c.args.races.now c.args.racer.now c.args.store.now c.args.goal.now c.args.env.now c.args.depth room c.requires.ready in
    let deep : depth_of c.args.strategy.now ≡ 1 + deepest c.as_slice-in-OrElse.result.now = rw c.as_slice-in-OrElse.ensures (deep_or_else c.args.strategy.now c.in-OrElse.parts c.in-OrElse.is) in
    search rules

pub run_at-run_tries-requires-in-ParOr : goal.run_at-run_tries-requires-in-ParOr
run_at-run_tries-requires-in-ParOr g t c κs within =
    let parts = may_par_or (g.T.Table.kinds c.args.table.now) c.args.strategy.now c.in-ParOr.parts c.requires.runs c.in-ParOr.is in
    let all : AllRun (g.T.Table.kinds c.args.table.now) c.as_slice-in-ParOr.result.now = rw c.as_slice-in-ParOr.ensures parts.0 in
    let some : 1 ≤ length c.as_slice-in-ParOr.result.now = rw c.as_slice-in-ParOr.ensures (omega (arith, parts.1)) in
    let room : c.args.depth ≤ 2048 = omega (arith, c.if-depth-gt-DEEPEST.false) in
    let ready = ready_below c.args.races.now c.args.racer.now c.args.store.now c.args.goal.now c.args.env.now c.args.depth room c.requires.ready in
    let deep : depth_of c.args.strategy.now ≡ 1 + deepest c.as_slice-in-ParOr.result.now = rw c.as_slice-in-ParOr.ensures (deep_par_or c.args.strategy.now c.in-ParOr.parts c.in-ParOr.is) in
    search rules

pub run_at-run_if-requires : goal.run_at-run_if-requires
run_at-run_if-requires g t c κs within =
    let both = may_if (g.T.Table.kinds c.args.table.now) c.args.strategy.now c.in-If.expr c.in-If.part c.in-If.other c.requires.runs c.in-If.is in
    let one : runs (g.T.Table.kinds c.args.table.now) c.get-in-If.result.now ≡ true = rw c.get-in-If.ensures both.0 in
    let two : runs (g.T.Table.kinds c.args.table.now) c.get-in-If-2.result.now ≡ true = rw c.get-in-If-2.ensures both.1 in
    let room : c.args.depth ≤ 2048 = omega (arith, c.if-depth-gt-DEEPEST.false) in
    let ready = ready_below c.args.races.now c.args.racer.now c.args.store.now c.args.goal.now c.args.env.now c.args.depth room c.requires.ready in
    let deep : depth_of c.args.strategy.now ≡ 1 + max (depth_of c.get-in-If.result.now) (depth_of c.get-in-If-2.result.now) = rw (c.get-in-If.ensures, c.get-in-If-2.ensures) (deep_if c.args.strategy.now c.in-If.expr c.in-If.part c.in-If.other c.in-If.is) in
    search rules

pub run_at-run_when-requires : goal.run_at-run_when-requires
run_at-run_when-requires g t c κs within =
    let one : runs (g.T.Table.kinds c.args.table.now) c.get-in-When.result.now ≡ true = rw c.get-in-When.ensures (may_when (g.T.Table.kinds c.args.table.now) c.args.strategy.now c.in-When.expr c.in-When.part c.requires.runs c.in-When.is) in
    let room : c.args.depth ≤ 2048 = omega (arith, c.if-depth-gt-DEEPEST.false) in
    let ready = ready_below c.args.races.now c.args.racer.now c.args.store.now c.args.goal.now c.args.env.now c.args.depth room c.requires.ready in
    let deep : depth_of c.args.strategy.now ≡ 1 + depth_of c.get-in-When.result.now = rw c.get-in-When.ensures (deep_when c.args.strategy.now c.in-When.expr c.in-When.part c.in-When.is) in
    search rules

pub run_at-run_params-requires : goal.run_at-run_params-requires
run_at-run_params-requires g t c κs within =
    let both = may_params (g.T.Table.kinds c.args.table.now) c.args.strategy.now c.in-Params.part c.in-Params.settings c.requires.runs c.in-Params.is in
    let one : runs (g.T.Table.kinds c.args.table.now) c.get-in-Params.result.now ≡ true = rw c.get-in-Params.ensures both.0 in
    let two = rw (sym c.as_slice-in-Params.ensures) at both.1 in
    let room : c.args.depth ≤ 2048 = omega (arith, c.if-depth-gt-DEEPEST.false) in
    let ready = ready_below c.args.races.now c.args.racer.now c.args.store.now c.args.goal.now c.args.env.now c.args.depth room c.requires.ready in
    let deep : depth_of c.args.strategy.now ≡ 1 + depth_of c.get-in-Params.result.now = rw c.get-in-Params.ensures (deep_params c.args.strategy.now c.in-Params.part c.in-Params.settings c.in-Params.is) in
    search rules

pub run_at-run_try_for-requires : goal.run_at-run_try_for-requires
run_at-run_try_for-requires g t c κs within =
    let one : runs (g.T.Table.kinds c.args.table.now) c.get-in-TryFor.result.now ≡ true = rw c.get-in-TryFor.ensures (may_try_for (g.T.Table.kinds c.args.table.now) c.args.strategy.now c.in-TryFor.part c.in-TryFor.most c.requires.runs c.in-TryFor.is) in
    let room : c.args.depth ≤ 2048 = omega (arith, c.if-depth-gt-DEEPEST.false) in
    let ready = ready_below c.args.races.now c.args.racer.now c.args.store.now c.args.goal.now c.args.env.now c.args.depth room c.requires.ready in
    let deep : depth_of c.args.strategy.now ≡ 1 + depth_of c.get-in-TryFor.result.now = rw c.get-in-TryFor.ensures (deep_try_for c.args.strategy.now c.in-TryFor.part c.in-TryFor.most c.in-TryFor.is) in
    search rules

pub run_at-returns-in-OrElse-clause-run : goal.run_at-returns-in-OrElse-clause-run
run_at-returns-in-OrElse-clause-run g t c = c.run_tries.ensures.run c.args.strategy.now (by_or_else _ (c.in-OrElse.is ∙ ap strategy.OrElse (sym c.as_slice-in-OrElse.ensures)))

pub run_at-returns-in-ParOr-clause-run : goal.run_at-returns-in-ParOr-clause-run
run_at-returns-in-ParOr-clause-run g t c = c.run_tries-in-ParOr.ensures.run c.args.strategy.now (by_par_or _ (c.in-ParOr.is ∙ ap strategy.ParOr (sym c.as_slice-in-ParOr.ensures)))

pub run_if-run_around-requires : goal.run_if-run_around-requires
run_if-run_around-requires g t c κs within =
    let child : runs (g.T.Table.kinds c.args.table.now) c.chosen-part.result.now ≡ true = chosen_runs (g.T.Table.kinds c.args.table.now) _ c.args.part.now c.args.other.now c.chosen-part.result.now c.chosen-part.ensures c.requires.part c.requires.other in
    let ready = ready_later c.args.races.now c.args.racer.now c.args.racer.now c.args.store.now c.probe.new.store c.args.goal.now c.args.env.now (c.args.depth + 1) (keeps_refl _) c.in_ok-value.ensures.store c.requires.ready in
    let deep = chosen_deep _ c.args.part.now c.args.other.now c.chosen-part.result.now c.chosen-part.ensures in
    search rules

pub run_if-returns-clause-run : goal.run_if-returns-clause-run
run_if-returns-clause-run g t c =
    let S = setting (g.T.Table.kinds c.args.table.now) g.T.Table.value_of c.args.env.now in
    let ts = c.args.store.now in let us = c.probe.new.store in let gl = c.args.goal.now in
    let e = c.in_ok-value.ensures.store in let has = c.requires.ready.has in
    let fits : SFits w128 c.in_ok-value.value = search rules in
    let same = to_z-of_z w128 c.in_ok-value.value fits in
    let around = if_surrounds ts us gl e has S c.args.expr.now c.in_ok-value.value _ same c.in_ok-value.ensures.value c.args.part.now c.args.other.now c.chosen-part.result.now c.args.env.now.limit c.args.env.now.params c.chosen-part.ensures in
    subst (λ (x : GoalTree). HasRun S c.run_around.new.store (strategy.If c.args.expr.now c.args.part.now c.args.other.now) x c.args.env.now.limit c.args.env.now.params c.args.depth c.args.racer.now.chain c.run_around.new.racer.view c.run_around.result) (goal_stays ts us gl e has)
    (c.run_around.ensures.run _ c.args.env.now.params around)

pub run_params-returns-clause-run : goal.run_params-returns-clause-run
run_params-returns-clause-run g t c = c.run_around.ensures.run _ c.args.env.now.params (params c.args.settings.now refl refl c.with_all.ensures.settings)

pub run_try_for-returns-clause-run : goal.run_try_for-returns-clause-run
run_try_for-returns-clause-run g t c = c.run_around.ensures.run _ c.args.env.now.params (try_for c.args.most refl refl c.lesser.ensures)

pub run_when-run_around-requires : goal.run_when-run_around-requires
run_when-run_around-requires g t c κs within =
    let ready = ready_later c.args.races.now c.args.racer.now c.args.racer.now c.args.store.now c.probe.new.store c.args.goal.now c.args.env.now (c.args.depth + 1) (keeps_refl _) c.in_ok-value.ensures.store c.requires.ready in
    search rules

pub run_tries-run_at-requires : goal.run_tries-run_at-requires
run_tries-run_at-requires g t c κs within =
    let ready = ready_later c.args.races.now c.args.racer.now c.loop-part.racer c.args.store.now c.loop-part.store c.args.goal.now c.args.env.now (c.args.depth + 1) c.loop-part.invariant.racer_kept c.loop-part.invariant.store_grows c.requires.ready in
    let below = ready_with c.args.races.now c.loop-part.racer c.loop-part.store c.args.goal.now c.args.env.now (c.args.depth + 1) c.loop-part.failures.left c.args.env.now.params ready.params ready in
    let deep = deep_at c.args.parts.now c.loop-part.part-index c.part-item.result c.loop-part-test.true c.part-item.is in
    search rules

pub run_when-returns-then-is_true-clause-run : goal.run_when-returns-then-is_true-clause-run
run_when-returns-then-is_true-clause-run g t c =
    let S = setting (g.T.Table.kinds c.args.table.now) g.T.Table.value_of c.args.env.now in
    let ts = c.args.store.now in let us = c.probe.new.store in let gl = c.args.goal.now in
    let e = c.in_ok-value.ensures.store in let has = c.requires.ready.has in
    let fits : SFits w128 c.in_ok-value.value = search rules in
    let same = to_z-of_z w128 c.in_ok-value.value fits in
    let around = when_surrounds ts us gl e has S c.args.expr.now c.in_ok-value.value _ same c.in_ok-value.ensures.value c.args.part.now c.args.env.now.limit c.args.env.now.params c.if-is_true.ensures in
    subst (λ (x : GoalTree). HasRun S c.run_around.new.store (strategy.When c.args.expr.now c.args.part.now) x c.args.env.now.limit c.args.env.now.params c.args.depth c.args.racer.now.chain c.run_around.new.racer.view c.run_around.result) (goal_stays ts us gl e has)
    (c.run_around.ensures.run _ c.args.env.now.params around)

pub run_when-returns-clause-run : goal.run_when-returns-clause-run
run_when-returns-clause-run g t c =
    let S = setting (g.T.Table.kinds c.args.table.now) g.T.Table.value_of c.args.env.now in
    let ts = c.args.store.now in let us = c.probe.new.store in let gl = c.args.goal.now in
    let e = c.in_ok-value.ensures.store in let has = c.requires.ready.has in
    let fits : SFits w128 c.in_ok-value.value = search rules in
    let same = to_z-of_z w128 c.in_ok-value.value fits in
    let room : c.args.depth ≤ 2048 = (let r = c.requires.ready.room in omega arith) in
    of_copy ts us gl e has S _ c.args.env.now.limit c.args.env.now.params c.args.depth c.args.racer.now.chain c.args.racer.now.view c.rests_alone.result gl refl
    (c.rests_alone.ensures.run S us _ c.args.env.now.params c.args.depth c.args.racer.now.chain c.args.racer.now.view (copy_has ts us gl e has gl refl) (stays_shallow ts us gl e has c.requires.ready.shallow) room
    (when_rests ts us gl e has S c.args.expr.now c.in_ok-value.value _ same c.in_ok-value.ensures.value c.args.part.now c.if-is_true.ensures))

pub run_tries-loop-part-init : goal.run_tries-loop-part-init
run_tries-loop-part-init g t c = record {
  store_grows = Extends_refl _;
  racer_kept = keeps_refl _;
  all_tried = c.new-failures.ensures.tried _ _ _ _ _ _;
  drawn = c.new-failures.ensures.draws c.args.racer.now.view;
}

pub run_tries-returns-in-Ok-clause-run : goal.run_tries-returns-in-Ok-clause-run
run_tries-returns-in-Ok-clause-run g t c = λ s order.
    let S = setting (g.T.Table.kinds c.args.table.now) g.T.Table.value_of c.args.env.now in
    let ts = c.args.store.now in let mid = c.loop-part.store in let us = c.run_at.new.store in let gl = c.args.goal.now in
    let e = c.loop-part.invariant.store_grows in let f = c.in-Ok.ensures.store in let has = c.requires.ready.has in let same = c.in_ok-kept.ensures in
    let whole = Extends_trans ts mid us e f in let v = c.run_at.new.racer.view in
    let room : c.args.depth ≤ 2048 = (let r = c.requires.ready.room in omega arith) in
    let i = c.loop-part.part-index in let ps = c.args.parts.now in let part = c.part-item.result in
    let tried = tried_stays S c.loop-part.racer.view.top v.top mid us (take i ps) (goal_tree ts gl) c.args.env.now.limit c.args.env.now.params (c.args.depth + 1) c.loop-part.failures f c.in-Ok.ensures.racer.top c.loop-part.invariant.all_tried in
    let run = run_first S ts mid us gl e f has part c.loop-part.failures.left c.args.env.now.params (c.args.depth + 1) v.top c.in-Ok.ran c.in-Ok.ensures.run in
    let is = sym (copy_is ts us gl whole has c.in_ok-kept.kept same) in
    of_copy ts us gl whole has S s c.args.env.now.limit c.args.env.now.params c.args.depth c.args.racer.now.chain v c.tried.result c.in_ok-kept.kept same
    (c.tried.ensures.run S us s part (take i ps) (drop (i + 1) ps) c.args.env.now.params c.args.depth c.args.racer.now.chain v (copy_has ts us gl whole has c.in_ok-kept.kept same) room
    (subst (λ (xs : List Strategy). InOrder s xs) (split_here ps i part c.loop-part-test.true c.part-item.is) order)
    (subst (λ (x : GoalTree). AreTried S v.top us (take i ps) x c.args.env.now.limit c.args.env.now.params (c.args.depth + 1) c.loop-part.failures) is tried)
    (subst (λ (x : GoalTree). IsRun S v.top us part x c.loop-part.failures.left c.args.env.now.params (c.args.depth + 1) c.in-Ok.ran) is run))

pub run_tries-loop-part-preserved : goal.run_tries-loop-part-preserved
run_tries-loop-part-preserved g t c =
    let S = setting (g.T.Table.kinds c.args.table.now) g.T.Table.value_of c.args.env.now in
    let ts = c.args.store.now in let mid = c.loop-part.store in let us = c.run_at.new.store in let gl = c.args.goal.now in
    let e = c.loop-part.invariant.store_grows in let f = c.in-Err-Failed.ensures.store in let has = c.requires.ready.has in
    let v = c.run_at.new.racer.view in
    let i = c.loop-part.part-index in let ps = c.args.parts.now in let part = c.part-item.result in
    let ran = rw c.in-Err-Failed.field-0-is at c.in-Err-Failed.ensures.run in
    let tried = tried_stays S c.loop-part.racer.view.top v.top mid us (take i ps) (goal_tree ts gl) c.args.env.now.limit c.args.env.now.params (c.args.depth + 1) c.loop-part.failures f c.in-Err-Failed.ensures.racer.top c.loop-part.invariant.all_tried in
    let failed = failure_first S ts mid us gl e f has part c.loop-part.failures.left c.args.env.now.params (c.args.depth + 1) v.top c.in-Err-Failed.deriv ran in
    record {
      store_grows = Extends_trans ts mid us e f;
      racer_kept = keeps_then c.loop-part.invariant.racer_kept c.in-Err-Failed.ensures.racer;
      all_tried = subst (λ (xs : List Strategy). AreTried S v.top us xs (goal_tree ts gl) c.args.env.now.limit c.args.env.now.params (c.args.depth + 1) c.in_ok-failures-in-Err-Failed.failures) (sym (take_here ps i part c.loop-part-test.true c.part-item.is))
          (c.in_ok-failures-in-Err-Failed.ensures.tried S v.top us (take i ps) part (goal_tree ts gl) c.args.env.now.limit c.args.env.now.params (c.args.depth + 1) tried failed);
      drawn = c.in_ok-failures-in-Err-Failed.ensures.draws c.args.racer.now.view c.loop-part.racer.view v c.loop-part.invariant.drawn (rw c.in-Err-Failed.field-0-is at c.in-Err-Failed.ensures.draws);
    }

pub run_tries-returns-clause-run : goal.run_tries-returns-clause-run
run_tries-returns-clause-run g t c = λ s order.
    let S = setting (g.T.Table.kinds c.args.table.now) g.T.Table.value_of c.args.env.now in
    let ts = c.args.store.now in let us = c.loop-part.store in let gl = c.args.goal.now in
    let e = c.loop-part.invariant.store_grows in let has = c.requires.ready.has in let same = c.in_ok-kept.ensures in
    let kept = c.in_ok-kept.kept in let chain = c.args.racer.now.chain in let v = c.loop-part.racer.view in let ps = c.args.parts.now in
    let room : c.args.depth ≤ 2048 = (let r = c.requires.ready.room in omega arith) in
    let whole : take c.loop-part.part-index ps ≡ ps = take_all c.loop-part.part-index ps c.loop-part-test.false in
    let tried = subst (λ (xs : List Strategy). AreTried S v.top us xs (goal_tree ts gl) c.args.env.now.limit c.args.env.now.params (c.args.depth + 1) c.loop-part.failures) whole c.loop-part.invariant.all_tried in
    of_copy ts us gl e has S s c.args.env.now.limit c.args.env.now.params c.args.depth chain v c.tried_all.result kept same
    (c.tried_all.ensures.run S us s ps c.args.env.now.params c.args.depth chain v (copy_has ts us gl e has kept same) room order c.requires.some
    (subst (λ (x : GoalTree). AreTried S v.top us ps x c.args.env.now.limit c.args.env.now.params (c.args.depth + 1) c.loop-part.failures) (sym (copy_is ts us gl e has kept same)) tried))

pub run_tries-returns-in-Ok-clause-racer : goal.run_tries-returns-in-Ok-clause-racer
run_tries-returns-in-Ok-clause-racer g t c = keeps_then c.loop-part.invariant.racer_kept c.in-Ok.ensures.racer

pub run_tries-returns-in_err-failures-in-Err-Failed-clause-racer : goal.run_tries-returns-in_err-failures-in-Err-Failed-clause-racer
run_tries-returns-in_err-failures-in-Err-Failed-clause-racer g t c = keeps_then c.loop-part.invariant.racer_kept c.in-Err-Failed.ensures.racer

pub run_tries-returns-in-Err-Cancelled-clause-racer : goal.run_tries-returns-in-Err-Cancelled-clause-racer
run_tries-returns-in-Err-Cancelled-clause-racer g t c = keeps_then c.loop-part.invariant.racer_kept c.in-Err-Cancelled.ensures.racer

pub run_tries-returns-in-Err-Memory-clause-racer : goal.run_tries-returns-in-Err-Memory-clause-racer
run_tries-returns-in-Err-Memory-clause-racer g t c = keeps_then c.loop-part.invariant.racer_kept c.in-Err-Memory.ensures.racer

pub run_at-run_parts-requires : goal.run_at-run_parts-requires
run_at-run_parts-requires g t c κs within =
    let parts = may_then (g.T.Table.kinds c.args.table.now) c.args.strategy.now c.in-Then.parts c.requires.runs c.in-Then.is in
    let all : AllRun (g.T.Table.kinds c.args.table.now) c.as_slice.result.now = rw c.as_slice.ensures parts.0 in
    let many : 2 ≤ length c.as_slice.result.now = rw c.as_slice.ensures parts.1 in
    let some : 1 ≤ length c.as_slice.result.now = omega (arith, many) in
    let deep : depth_of c.args.strategy.now ≡ 1 + deepest c.as_slice.result.now = rw c.as_slice.ensures (deep_then c.args.strategy.now c.in-Then.parts c.in-Then.is) in
    search rules

pub run_at-run_parts-requires-in-Repeat : goal.run_at-run_parts-requires-in-Repeat
run_at-run_parts-requires-in-Repeat g t c κs within =
    let one = may_repeat (g.T.Table.kinds c.args.table.now) c.args.strategy.now c.in-Repeat.part c.in-Repeat.turns c.requires.runs c.in-Repeat.is in
    let runs_one : runs (g.T.Table.kinds c.args.table.now) c.get.result.now ≡ true = rw c.get.ensures one in
    let all = alone_runs (g.T.Table.kinds c.args.table.now) c.get.result.now c.from_ref.result.now c.from_ref.ensures.value runs_one in
    let some : 1 ≤ length c.from_ref.result.now = omega (arith, c.from_ref.ensures.len) in
    let deep : depth_of c.args.strategy.now ≡ 1 + depth_of c.get.result.now = rw c.get.ensures (deep_repeat c.args.strategy.now c.in-Repeat.part c.in-Repeat.turns c.in-Repeat.is) in
    let most = deepest_one c.get.result.now c.from_ref.result.now c.from_ref.ensures.value in
    search rules

pub run_at-run_par_then-requires : goal.run_at-run_par_then-requires
run_at-run_par_then-requires g t c κs within =
    let both = may_par_then (g.T.Table.kinds c.args.table.now) c.args.strategy.now c.in-ParThen.part c.in-ParThen.other c.requires.runs c.in-ParThen.is in
    let one : runs (g.T.Table.kinds c.args.table.now) c.get-in-ParThen.result.now ≡ true = rw c.get-in-ParThen.ensures both.0 in
    let two : runs (g.T.Table.kinds c.args.table.now) c.get-in-ParThen-2.result.now ≡ true = rw c.get-in-ParThen-2.ensures both.1 in
    let room : c.args.depth ≤ 2048 = omega (arith, c.if-depth-gt-DEEPEST.false) in
    let ready = ready_below c.args.races.now c.args.racer.now c.args.store.now c.args.goal.now c.args.env.now c.args.depth room c.requires.ready in
    let deep : depth_of c.args.strategy.now ≡ 1 + max (depth_of c.get-in-ParThen.result.now) (depth_of c.get-in-ParThen-2.result.now) = rw (c.get-in-ParThen.ensures, c.get-in-ParThen-2.ensures) (deep_par_then c.args.strategy.now c.in-ParThen.part c.in-ParThen.other c.in-ParThen.is) in
    search rules

pub run_at-returns-in-Then-clause-run : goal.run_at-returns-in-Then-clause-run
run_at-returns-in-Then-clause-run g t c =
    let many = (may_then (g.T.Table.kinds c.args.table.now) c.args.strategy.now c.in-Then.parts c.requires.runs c.in-Then.is).1 in
    subst (λ (x : Strategy). HasRun (setting (g.T.Table.kinds c.args.table.now) g.T.Table.value_of c.args.env.now) c.run_parts.new.store x (goal_tree c.args.store.now c.args.goal.now) c.args.env.now.limit c.args.env.now.params c.args.depth c.args.racer.now.chain c.run_parts.new.racer.view c.run_parts.result)
    (then_is c.args.strategy.now c.in-Then.parts c.as_slice.result.now c.in-Then.is many c.as_slice.ensures) c.run_parts.ensures.run

pub run_at-returns-in-Repeat-clause-run : goal.run_at-returns-in-Repeat-clause-run
run_at-returns-in-Repeat-clause-run g t c =
    subst (λ (x : Strategy). HasRun (setting (g.T.Table.kinds c.args.table.now) g.T.Table.value_of c.args.env.now) c.run_parts-in-Repeat.new.store x (goal_tree c.args.store.now c.args.goal.now) c.args.env.now.limit c.args.env.now.params c.args.depth c.args.racer.now.chain c.run_parts-in-Repeat.new.racer.view c.run_parts-in-Repeat.result)
    (repeat_is c.args.strategy.now c.in-Repeat.part c.in-Repeat.turns c.from_ref.result.now c.in-Repeat.is (c.from_ref.ensures.value ∙ ap (λ (x : Strategy). x ∷ []) c.get.ensures)) c.run_parts-in-Repeat.ensures.run

pub run_beside-loop-next-init : goal.run_beside-loop-next-init
run_beside-loop-next-init g t c = record { store_grows = Extends_refl _; racer_kept = keeps_refl _; are_beside = c.requires.beside; drawn = λ before tally. tally }

pub run_par_then-returns-in-Ok-clause-run : goal.run_par_then-returns-in-Ok-clause-run
run_par_then-returns-in-Ok-clause-run g t c =
    let S = setting (g.T.Table.kinds c.args.table.now) g.T.Table.value_of c.args.env.now in
    let ts = c.args.store.now in let us = c.run_at.new.store in let gl = c.args.goal.now in
    let e = c.in-Ok.ensures.store in let has = c.requires.ready.has in let same = c.in_ok-kept.ensures in
    let kept = c.in_ok-kept.kept in let w = c.run_beside.new.racer.view in let s = strategy.ParThen c.args.part.now c.args.other.now in
    subst (λ (x : GoalTree). HasRun S c.run_beside.new.store s x c.args.env.now.limit c.args.env.now.params c.args.depth c.args.racer.now.chain w c.run_beside.result) (copy_is ts us gl e has kept same)
    (subst (λ (x : List Place). HasRun S c.run_beside.new.store s (goal_tree us kept) c.args.env.now.limit c.args.env.now.params c.args.depth x w c.run_beside.result) c.in-Ok.ensures.racer.chain
    c.run_beside.ensures.run)

pub run_par_then-run_beside-requires : goal.run_par_then-run_beside-requires
run_par_then-run_beside-requires g t c κs within =
    let S = setting (g.T.Table.kinds c.args.table.now) g.T.Table.value_of c.args.env.now in
    let ts = c.args.store.now in let us = c.run_at.new.store in let gl = c.args.goal.now in
    let e = c.in-Ok.ensures.store in let has = c.requires.ready.has in let same = c.in_ok-kept.ensures in
    let kept = c.in_ok-kept.kept in let v = c.run_at.new.racer.view in
    let later = ready_later c.args.races.now c.args.racer.now c.run_at.new.racer ts us gl c.args.env.now (c.args.depth + 1) c.in-Ok.ensures.racer e c.requires.ready in
    let ready = ready_on c.args.races.now c.run_at.new.racer us gl kept c.args.env.now (c.args.depth + 1) (copy_has ts us gl e has kept same) (subst (λ (x : Goal). IsShallow (goal_tree us x)) (sym same) later.shallow) later in
    let beside = c.new-beside.ensures.beside S v.top us c.args.part.now c.args.other.now (goal_tree us kept) c.args.env.now.params (c.args.depth + 1)
    (subst (λ (x : GoalTree). IsRun S v.top us c.args.part.now x c.args.env.now.limit c.args.env.now.params (c.args.depth + 1) c.in-Ok.first) (sym (copy_is ts us gl e has kept same)) c.in-Ok.ensures.run) in
    search rules

pub run_par_then-returns-in-Err-Failed-clause-run : goal.run_par_then-returns-in-Err-Failed-clause-run
run_par_then-returns-in-Err-Failed-clause-run g t c =
    let S = setting (g.T.Table.kinds c.args.table.now) g.T.Table.value_of c.args.env.now in
    let ts = c.args.store.now in let us = c.run_at.new.store in let gl = c.args.goal.now in
    let e = c.in-Err-Failed.ensures.store in let has = c.requires.ready.has in let same = c.in_ok-kept.ensures in
    let kept = c.in_ok-kept.kept in let chain = c.args.racer.now.chain in let v = c.run_at.new.racer.view in let s = strategy.ParThen c.args.part.now c.args.other.now in
    let room : c.args.depth ≤ 2048 = (let r = c.requires.ready.room in omega arith) in
    let ran = rw c.in-Err-Failed.field-0-is at c.in-Err-Failed.ensures.run in
    of_copy ts us gl e has S s c.args.env.now.limit c.args.env.now.params c.args.depth chain v c.beside_first_failed.result kept same
    (c.beside_first_failed.ensures.run S us s c.args.part.now c.args.other.now c.args.env.now.params c.args.depth chain v (copy_has ts us gl e has kept same) room refl
    (subst (λ (x : GoalTree). IsFailure S v.top us c.args.part.now x c.args.env.now.limit c.args.env.now.params (c.args.depth + 1) c.in-Err-Failed.first) (sym (copy_is ts us gl e has kept same)) ran))

pub run_beside-run_at-requires : goal.run_beside-run_at-requires
run_beside-run_at-requires g t c κs within =
    let S = setting (g.T.Table.kinds c.args.table.now) g.T.Table.value_of c.args.env.now in
    let ts = c.args.store.now in let mid = c.loop-next.store in let gl = c.args.goal in let next = c.in-Some.next.now in
    let fit = c.in-Some.ensures.fits S c.loop-next.racer.view.top mid c.args.part.now c.args.other.now (goal_tree ts gl) c.args.env.now.limit c.args.env.now.params (c.args.depth + 1) c.loop-next.invariant.are_beside in
    let later = ready_later c.args.races.now c.args.racer.now c.loop-next.racer ts mid gl c.args.env.now (c.args.depth + 1) c.loop-next.invariant.racer_kept c.loop-next.invariant.store_grows c.requires.ready in
    let here = ready_on c.args.races.now c.loop-next.racer mid gl next c.args.env.now (c.args.depth + 1) fit.0 fit.1 later in
    let below = ready_with c.args.races.now c.loop-next.racer mid next c.args.env.now (c.args.depth + 1) c.loop-next.beside.left c.args.env.now.params here.params here in
    search rules

pub run_beside-returns-clause-run : goal.run_beside-returns-clause-run
run_beside-returns-clause-run g t c =
    let S = setting (g.T.Table.kinds c.args.table.now) g.T.Table.value_of c.args.env.now in
    let ts = c.args.store.now in let us = c.loop-next.store in let gl = c.args.goal in let s = strategy.ParThen c.args.part.now c.args.other.now in
    let i = c.loop-next.invariant in let e = i.store_grows in let has = c.requires.ready.has in
    let v = c.loop-next.racer.view in let l = c.args.env.now.limit in let ps = c.args.env.now.params in let n = c.args.depth + 1 in
    let chain = c.args.racer.now.chain in
    let room : c.args.depth ≤ 2048 = (let r = c.requires.ready.room in omega arith) in
    answer_first S ts us gl s l ps c.args.depth chain v c.finish_beside.result e has
    (c.finish_beside.ensures.run S us s c.args.part.now c.args.other.now ps c.args.depth chain v (copy_has ts us gl e has gl refl) room refl
    (beside_now S ts us us e (Extends_refl us) gl has v.top v.top (omega arith) l ps n c.args.part.now c.args.other.now c.loop-next.beside i.are_beside) c.in_default.ensures.next)

pub run_beside-returns-then-is_sat-clause-run : goal.run_beside-returns-then-is_sat-clause-run
run_beside-returns-then-is_sat-clause-run g t c =
    let S = setting (g.T.Table.kinds c.args.table.now) g.T.Table.value_of c.args.env.now in
    let ts = c.args.store.now in let mid = c.loop-next.store in let us = c.run_at.new.store in let gl = c.args.goal in let next = c.in-Some.next.now in let s = strategy.ParThen c.args.part.now c.args.other.now in
    let i = c.loop-next.invariant in let e = i.store_grows in let f = c.in-Ok.ensures.store in let has = c.requires.ready.has in let whole = Extends_trans ts mid us e f in
    let v = c.run_at.new.racer.view in let l = c.args.env.now.limit in let ps = c.args.env.now.params in let n = c.args.depth + 1 in
    let chain = c.args.racer.now.chain in let p = c.args.part.now in let r = c.args.other.now in
    let room : c.args.depth ≤ 2048 = (let r = c.requires.ready.room in omega arith) in
    let fit = c.in-Some.ensures.fits S c.loop-next.racer.view.top mid p r (goal_tree ts gl) l ps n i.are_beside in
    answer_first S ts us gl s l ps c.args.depth chain v c.finish_beside_sat.result whole has
    (c.finish_beside_sat.ensures.run S us s p r ps c.args.depth chain v next (copy_has ts us gl whole has gl refl) room c.requires.ready.alone refl
    (beside_now S ts mid us e f gl has c.loop-next.racer.view.top v.top c.in-Ok.ensures.racer.top l ps n p r c.loop-next.beside i.are_beside) c.in-Some.ensures.next
    (run_next S mid us next r c.loop-next.beside.left ps n v.top c.in-Ok.ran f fit.0 c.in-Ok.ensures.run) (sym (c.if-is_sat.ensures.sat us)))

pub run_beside-returns-in-Err-Cancelled-clause-racer : goal.run_beside-returns-in-Err-Cancelled-clause-racer
run_beside-returns-in-Err-Cancelled-clause-racer g t c = keeps_then c.loop-next.invariant.racer_kept c.in-Err-Cancelled.ensures.racer

pub run_beside-returns-in-Err-Memory-clause-racer : goal.run_beside-returns-in-Err-Memory-clause-racer
run_beside-returns-in-Err-Memory-clause-racer g t c = keeps_then c.loop-next.invariant.racer_kept c.in-Err-Memory.ensures.racer

pub run_beside-returns-in_err-beside-in-Err-Failed-clause-racer : goal.run_beside-returns-in_err-beside-in-Err-Failed-clause-racer
run_beside-returns-in_err-beside-in-Err-Failed-clause-racer g t c = keeps_then c.loop-next.invariant.racer_kept c.in-Err-Failed.ensures.racer

pub run_beside-returns-in_err-beside-in-Ok-clause-racer : goal.run_beside-returns-in_err-beside-in-Ok-clause-racer
run_beside-returns-in_err-beside-in-Ok-clause-racer g t c = keeps_then c.loop-next.invariant.racer_kept c.in-Ok.ensures.racer

pub run_beside-returns-then-is_sat-clause-racer : goal.run_beside-returns-then-is_sat-clause-racer
run_beside-returns-then-is_sat-clause-racer g t c = keeps_then c.loop-next.invariant.racer_kept c.in-Ok.ensures.racer

pub run_par_then-returns-in-Ok-clause-racer : goal.run_par_then-returns-in-Ok-clause-racer
run_par_then-returns-in-Ok-clause-racer g t c = keeps_then c.in-Ok.ensures.racer c.run_beside.ensures.racer

pub run_beside-loop-next-preserved-in-Ok : goal.run_beside-loop-next-preserved-in-Ok
run_beside-loop-next-preserved-in-Ok g t c =
    let S = setting (g.T.Table.kinds c.args.table.now) g.T.Table.value_of c.args.env.now in
    let ts = c.args.store.now in let mid = c.loop-next.store in let us = c.run_at.new.store in let gl = c.args.goal in let next = c.in-Some.next.now in
    let i = c.loop-next.invariant in let e = i.store_grows in let f = c.in-Ok.ensures.store in let has = c.requires.ready.has in
    let v = c.run_at.new.racer.view in let p = c.args.part.now in let r = c.args.other.now in let l = c.args.env.now.limit in let ps = c.args.env.now.params in let n = c.args.depth + 1 in
    let fit = c.in-Some.ensures.fits S c.loop-next.racer.view.top mid p r (goal_tree ts gl) l ps n i.are_beside in
    record {
      store_grows = Extends_trans ts mid us e f;
      racer_kept = keeps_then i.racer_kept c.in-Ok.ensures.racer;
      are_beside = c.in_ok-beside-in-Ok.ensures.beside S v.top us p r (goal_tree ts gl) l ps n next
          (beside_first S ts mid us e f gl has c.loop-next.racer.view.top v.top c.in-Ok.ensures.racer.top l ps n p r c.loop-next.beside i.are_beside) c.in-Some.ensures.next
          (run_next S mid us next r c.loop-next.beside.left ps n v.top c.in-Ok.ran f fit.0 c.in-Ok.ensures.run, sym (c.if-is_sat.ensures.sat us));
      drawn = λ before tally. c.in_ok-beside-in-Ok.ensures.draws before c.loop-next.racer.view v (i.drawn before tally) c.in-Ok.ensures.draws;
    }

pub run_beside-loop-next-smaller-in-Ok : goal.run_beside-loop-next-smaller-in-Ok
run_beside-loop-next-smaller-in-Ok g t c = leaves_less _ _ _ _ (within _ _ _ c.in-Some.ensures.next) (ap (λ (x : Ran). length x.goals) c.in_ok-beside-in-Ok.ensures.grows.0) c.in_ok-beside-in-Ok.ensures.grows.1

pub run_beside-loop-next-preserved : goal.run_beside-loop-next-preserved
run_beside-loop-next-preserved g t c =
    let S = setting (g.T.Table.kinds c.args.table.now) g.T.Table.value_of c.args.env.now in
    let ts = c.args.store.now in let mid = c.loop-next.store in let us = c.run_at.new.store in let gl = c.args.goal in let next = c.in-Some.next.now in
    let i = c.loop-next.invariant in let e = i.store_grows in let f = c.in-Err-Failed.ensures.store in let has = c.requires.ready.has in
    let v = c.run_at.new.racer.view in let p = c.args.part.now in let r = c.args.other.now in let l = c.args.env.now.limit in let ps = c.args.env.now.params in let n = c.args.depth + 1 in
    let fit = c.in-Some.ensures.fits S c.loop-next.racer.view.top mid p r (goal_tree ts gl) l ps n i.are_beside in
    record {
      store_grows = Extends_trans ts mid us e f;
      racer_kept = keeps_then i.racer_kept c.in-Err-Failed.ensures.racer;
      are_beside = c.in_ok-beside-in-Err-Failed.ensures.beside S v.top us p r (goal_tree ts gl) l ps n next
          (beside_first S ts mid us e f gl has c.loop-next.racer.view.top v.top c.in-Err-Failed.ensures.racer.top l ps n p r c.loop-next.beside i.are_beside) c.in-Some.ensures.next
          (failure_next S mid us next r c.loop-next.beside.left ps n v.top c.in-Err-Failed.deriv f fit.0 (rw c.in-Err-Failed.field-0-is at c.in-Err-Failed.ensures.run));
      drawn = λ before tally. c.in_ok-beside-in-Err-Failed.ensures.draws before c.loop-next.racer.view v (i.drawn before tally) (rw c.in-Err-Failed.field-0-is at c.in-Err-Failed.ensures.draws);
    }

pub run_beside-loop-next-smaller : goal.run_beside-loop-next-smaller
run_beside-loop-next-smaller g t c = leaves_less _ _ _ _ (within _ _ _ c.in-Some.ensures.next) (ap (λ (x : Ran). length x.goals) c.in_ok-beside-in-Err-Failed.ensures.grows.0) c.in_ok-beside-in-Err-Failed.ensures.grows.1

pub run_around-returns-clause-draws : goal.run_around-returns-clause-draws
run_around-returns-clause-draws g t c = c.surround.ensures.draws c.args.racer.now.view c.run_at-ran.new.racer.view c.run_at-ran.ensures.draws

pub run_at-returns-then-depth-gt-DEEPEST-clause-draws : goal.run_at-returns-then-depth-gt-DEEPEST-clause-draws
run_at-returns-then-depth-gt-DEEPEST-clause-draws g t c = c.stopped.ensures.draws c.args.racer.now.view

pub run_when-returns-clause-draws : goal.run_when-returns-clause-draws
run_when-returns-clause-draws g t c = c.rests_alone.ensures.draws c.args.racer.now.view

pub run_tries-returns-in-Ok-clause-draws : goal.run_tries-returns-in-Ok-clause-draws
run_tries-returns-in-Ok-clause-draws g t c = c.tried.ensures.draws c.args.racer.now.view c.loop-part.racer.view c.run_at.new.racer.view c.loop-part.invariant.drawn c.in-Ok.ensures.draws

pub run_tries-returns-clause-draws : goal.run_tries-returns-clause-draws
run_tries-returns-clause-draws g t c = c.tried_all.ensures.draws c.args.racer.now.view c.loop-part.racer.view c.loop-part.invariant.drawn

pub run_par_then-returns-in-Ok-clause-draws : goal.run_par_then-returns-in-Ok-clause-draws
run_par_then-returns-in-Ok-clause-draws g t c = c.run_beside.ensures.draws c.args.racer.now.view (c.new-beside.ensures.draws c.args.racer.now.view c.run_at.new.racer.view c.in-Ok.ensures.draws)

pub run_par_then-returns-in-Err-Failed-clause-draws : goal.run_par_then-returns-in-Err-Failed-clause-draws
run_par_then-returns-in-Err-Failed-clause-draws g t c =
    let one = rw c.in-Err-Failed.field-0-is at c.in-Err-Failed.ensures.draws in
    c.beside_first_failed.ensures.draws c.args.racer.now.view c.run_at.new.racer.view one

pub run_beside-returns-then-is_sat-clause-draws : goal.run_beside-returns-then-is_sat-clause-draws
run_beside-returns-then-is_sat-clause-draws g t c = λ before tally. c.finish_beside_sat.ensures.draws before c.loop-next.racer.view c.run_at.new.racer.view (c.loop-next.invariant.drawn before tally) c.in-Ok.ensures.draws

pub run_beside-returns-clause-draws : goal.run_beside-returns-clause-draws
run_beside-returns-clause-draws g t c = λ before tally. c.finish_beside.ensures.draws before c.loop-next.racer.view (c.loop-next.invariant.drawn before tally)

pub run_parts-loop-turn-init : goal.run_parts-loop-turn-init
run_parts-loop-turn-init g t c =
    let S = setting (g.T.Table.kinds c.args.table.now) g.T.Table.value_of c.args.env.now in
    let ps = c.args.env.now.params in let parts = c.args.parts.now in
    let whole = task (rest_of parts c.args.turns) (goal_tree c.args.store.now c.args.goal.now) c.args.env.now.limit c.args.depth c.args.racer.now.view in
    record {
      store_grows = c.start-turn.ensures.store;
      racer_kept = c.start-turn.ensures.racer;
      at = subst (λ (xs : List Level). IsAt S c.start-turn.new.store parts ps c.args.racer.now.chain c.start-turn.new.racer.view whole (reverse xs) c.start-turn.result) (sym c.new-levels.ensures.items) (whole, c.start-turn.ensures.turn, refl);
    }

pub run_parts-go_down-turn-requires : goal.run_parts-go_down-turn-requires
run_parts-go_down-turn-requires g t c κs within =
    let S = setting (g.T.Table.kinds c.args.table.now) g.T.Table.value_of c.args.env.now in
    let ps = c.args.env.now.params in let parts = c.args.parts.now in let i = c.loop-turn.invariant in let r = c.loop-turn.racer in let mid = c.loop-turn.store in
    let is = subst (λ (x : Turn). IsTurn S mid parts ps c.args.racer.now.chain r.view i.at.0 x) c.in-Down.is i.at.1 in
    let way = is.way in
    let later = ready_later c.args.races.now c.args.racer.now r c.args.store.now mid c.args.goal.now c.args.env.now c.args.depth i.racer_kept i.store_grows c.requires.ready in
    let ready = ready_level S r.view.top parts ps c.args.races.now r mid c.args.goal.now c.args.env.now c.args.depth c.in-Down.level later way in
    search rules

pub run_parts-loop-turn-preserved-in-Down : goal.run_parts-loop-turn-preserved-in-Down
run_parts-loop-turn-preserved-in-Down g t c =
    let S = setting (g.T.Table.kinds c.args.table.now) g.T.Table.value_of c.args.env.now in
    let ps = c.args.env.now.params in let parts = c.args.parts.now in let i = c.loop-turn.invariant in let r = c.loop-turn.racer in let mid = c.loop-turn.store in
    let us = c.go_down-turn.new.store in let v = c.go_down-turn.new.racer.view in
    let whole = task (rest_of parts c.args.turns) (goal_tree c.args.store.now c.args.goal.now) c.args.env.now.limit c.args.depth c.args.racer.now.view in
    let is = subst (λ (x : Turn). IsTurn S mid parts ps c.args.racer.now.chain r.view i.at.0 x) c.in-Down.is i.at.1 in
    record {
      store_grows = Extends_trans c.args.store.now mid us i.store_grows c.go_down-turn.ensures.store;
      racer_kept = keeps_then i.racer_kept c.go_down-turn.ensures.racer;
      at = subst (λ (x : List Place). IsAt S us parts ps x v whole (reverse c.go_down-turn.new.levels.items) c.go_down-turn.result) i.racer_kept.chain (c.go_down-turn.ensures.at whole i.at.0 is i.at.2);
    }

pub run_parts-loop-turn-smaller-in-Down : goal.run_parts-loop-turn-smaller-in-Down
run_parts-loop-turn-smaller-in-Down g t c =
    let S = setting (g.T.Table.kinds c.args.table.now) g.T.Table.value_of c.args.env.now in
    let ps = c.args.env.now.params in let parts = c.args.parts.now in let i = c.loop-turn.invariant in let r = c.loop-turn.racer in let mid = c.loop-turn.store in
    let is = subst (λ (x : Turn). IsTurn S mid parts ps c.args.racer.now.chain r.view i.at.0 x) c.in-Down.is i.at.1 in
    subst (λ (x : Turn). left_in c.go_down-turn.result + left_under (reverse c.go_down-turn.new.levels.items) < left_in x + left_under (reverse c.loop-turn.levels.items)) (sym c.in-Down.is) (c.go_down-turn.ensures.less i.at.0 is)

pub run_parts-loop-turn-preserved : goal.run_parts-loop-turn-preserved
run_parts-loop-turn-preserved g t c =
    let S = setting (g.T.Table.kinds c.args.table.now) g.T.Table.value_of c.args.env.now in
    let ps = c.args.env.now.params in let parts = c.args.parts.now in let i = c.loop-turn.invariant in let v = c.loop-turn.racer.view in let mid = c.loop-turn.store in let chain = c.args.racer.now.chain in
    let whole = task (rest_of parts c.args.turns) (goal_tree c.args.store.now c.args.goal.now) c.args.env.now.limit c.args.depth c.args.racer.now.view in
    let answer = subst (λ (x : Turn). IsTurn S mid parts ps chain v i.at.0 x) c.in-Ended.is i.at.1 in
    let waits = subst (λ (xs : List Level). Waits S v.top mid parts ps whole xs i.at.0) (ap reverse c.in-Some.ensures.items ∙ innermost c.pop.new.self.items c.in-Some.level) i.at.2 in
    record {
      store_grows = i.store_grows;
      racer_kept = i.racer_kept;
      at = (waits.0, c.resumed-turn.ensures.turn S mid parts ps chain v waits.0 i.at.0 waits.1 answer, waits.2);
    }

pub run_parts-loop-turn-smaller : goal.run_parts-loop-turn-smaller
run_parts-loop-turn-smaller g t c =
    subst (λ (x : Turn). left_in c.resumed-turn.result + left_under (reverse c.pop.new.self.items) < left_in x + left_under (reverse c.loop-turn.levels.items)) (sym c.in-Ended.is)
    (taken_less c.in-Some.level c.loop-turn.levels.items c.pop.new.self.items c.resumed-turn.result c.in-Some.ensures.items c.resumed-turn.ensures.grows)

pub run_parts-returns-in-None-clause-run : goal.run_parts-returns-in-None-clause-run
run_parts-returns-in-None-clause-run g t c =
    let S = setting (g.T.Table.kinds c.args.table.now) g.T.Table.value_of c.args.env.now in
    let ps = c.args.env.now.params in let parts = c.args.parts.now in let i = c.loop-turn.invariant in let v = c.loop-turn.racer.view in let mid = c.loop-turn.store in let chain = c.args.racer.now.chain in
    let whole = task (rest_of parts c.args.turns) (goal_tree c.args.store.now c.args.goal.now) c.args.env.now.limit c.args.depth c.args.racer.now.view in
    let answer = subst (λ (x : Turn). IsTurn S mid parts ps chain v i.at.0 x) c.in-Ended.is i.at.1 in
    let empty : length c.loop-turn.levels.items ≡ 0 = grind arith in
    let same = subst (λ (xs : List Level). Waits S v.top mid parts ps whole xs i.at.0) (no_levels c.loop-turn.levels.items empty) i.at.2 in
    (subst (λ (x : Task). IsAnswer S mid ps chain v x c.in-Ended.answer) same answer).0

pub run_parts-returns-in-None-clause-draws : goal.run_parts-returns-in-None-clause-draws
run_parts-returns-in-None-clause-draws g t c =
    let S = setting (g.T.Table.kinds c.args.table.now) g.T.Table.value_of c.args.env.now in
    let ps = c.args.env.now.params in let parts = c.args.parts.now in let i = c.loop-turn.invariant in let v = c.loop-turn.racer.view in let mid = c.loop-turn.store in let chain = c.args.racer.now.chain in
    let whole = task (rest_of parts c.args.turns) (goal_tree c.args.store.now c.args.goal.now) c.args.env.now.limit c.args.depth c.args.racer.now.view in
    let answer = subst (λ (x : Turn). IsTurn S mid parts ps chain v i.at.0 x) c.in-Ended.is i.at.1 in
    let empty : length c.loop-turn.levels.items ≡ 0 = grind arith in
    let same = subst (λ (xs : List Level). Waits S v.top mid parts ps whole xs i.at.0) (no_levels c.loop-turn.levels.items empty) i.at.2 in
    (subst (λ (x : Task). IsAnswer S mid ps chain v x c.in-Ended.answer) same answer).1

pub go_down-start-turn-requires : goal.go_down-start-turn-requires
go_down-start-turn-requires g t c κs within =
    let S = setting (g.T.Table.kinds c.args.table.now) g.T.Table.value_of c.args.env.now in
    let ts = c.args.store.now in let level = c.args.level in let next = c.in-Some.next.now in let way = c.requires.level in let n = level.depth + 1 in let ps = c.args.env.now.params in
    let fit = c.in-Some.ensures.fits S c.args.racer.now.view.top ts way.part (rest_at c.args.parts.now level) (goal_tree ts level.goal) level.limit ps n way.row in
    let here = ready_on c.args.races.now c.args.racer.now ts level.goal next c.args.env.now n fit.0 fit.1 c.requires.ready in
    let below = ready_with c.args.races.now c.args.racer.now ts next c.args.env.now n level.row.left ps here.params here in
    let some = way.some in
    search rules

pub go_down-returns-in-Some-clause-at : goal.go_down-returns-in-Some-clause-at
go_down-returns-in-Some-clause-at g t c = λ whole task is waits.
    let S = setting (g.T.Table.kinds c.args.table.now) g.T.Table.value_of c.args.env.now in
    let ts = c.args.store.now in let us = c.start-turn.new.store in let level = c.args.level in let next = c.in-Some.next.now in let way = is.way in let n = level.depth + 1 in let ps = c.args.env.now.params in let parts = c.args.parts.now in
    let top = c.args.racer.now.view.top in let v = c.start-turn.new.racer.view in let e = c.start-turn.ensures.store in let le = c.start-turn.ensures.racer.top in
    let fit = c.in-Some.ensures.fits S top ts way.part (rest_at parts level) (goal_tree ts level.goal) level.limit ps n way.row in
    let inner = rest_task parts ts level next c.args.racer.now.view in
    let first : IsWaiting S top ts parts ps level task inner = record { stands = is; next = next; is_next = c.in-Some.ensures.next; has = fit.0; is = refl } in
    c.stepped.ensures.at S us parts ps c.args.racer.now.chain v whole task inner (waiting_stays S top v.top ts us parts ps le e level task inner first) (waits_stay S top v.top ts us parts ps le e whole (reverse c.args.levels.now.items) task waits) c.start-turn.ensures.turn

pub go_down-returns-in-Some-clause-less : goal.go_down-returns-in-Some-clause-less
go_down-returns-in-Some-clause-less g t c = λ task is.
    let S = setting (g.T.Table.kinds c.args.table.now) g.T.Table.value_of c.args.env.now in
    let ts = c.args.store.now in let us = c.start-turn.new.store in let level = c.args.level in let next = c.in-Some.next.now in let way = is.way in let n = level.depth + 1 in let ps = c.args.env.now.params in let parts = c.args.parts.now in
    let top = c.args.racer.now.view.top in let v = c.start-turn.new.racer.view in let e = c.start-turn.ensures.store in let le = c.start-turn.ensures.racer.top in
    let fit = c.in-Some.ensures.fits S top ts way.part (rest_at parts level) (goal_tree ts level.goal) level.limit ps n way.row in
    let inner = rest_task parts ts level next c.args.racer.now.view in
    let first : IsWaiting S top ts parts ps level task inner = record { stands = is; next = next; is_next = c.in-Some.ensures.next; has = fit.0; is = refl } in
    c.stepped.ensures.less S us parts ps c.args.racer.now.chain v task inner (waiting_stays S top v.top ts us parts ps le e level task inner first) c.start-turn.ensures.turn

pub go_down-returns-in-None-clause-at : goal.go_down-returns-in-None-clause-at
go_down-returns-in-None-clause-at g t c = λ whole task is waits.
    let S = setting (g.T.Table.kinds c.args.table.now) g.T.Table.value_of c.args.env.now in
    (task, c.finished.ensures.answer S c.args.store.now c.args.parts.now c.args.env.now.params c.args.racer.now.chain c.args.racer.now.view task is c.in-None.ensures.next, waits)

pub go_down-returns-in-None-clause-less : goal.go_down-returns-in-None-clause-less
go_down-returns-in-None-clause-less g t c = λ task is. omega arith

pub start-returns-then-depth-gt-DEEPEST-clause-turn : goal.start-returns-then-depth-gt-DEEPEST-clause-turn
start-returns-then-depth-gt-DEEPEST-clause-turn g t c =
    let S = setting (g.T.Table.kinds c.args.table.now) g.T.Table.value_of c.args.env.now in
    let deep : c.args.depth ≡ 2048 + 1 = (let r = c.requires.ready.room in omega arith) in (
      c.stopped.ensures.run S c.args.store.now (rest_of (drop c.args.at c.args.parts.now) c.args.turns) c.args.env.now.params c.args.depth c.args.racer.now.chain c.args.racer.now.view c.requires.ready.has deep,
      c.stopped.ensures.draws c.args.racer.now.view,
    )

pub start-returns-then-turns-eq0-clause-turn : goal.start-returns-then-turns-eq0-clause-turn
start-returns-then-turns-eq0-clause-turn g t c =
    let S = setting (g.T.Table.kinds c.args.table.now) g.T.Table.value_of c.args.env.now in
    let rest = drop c.args.at c.args.parts.now in
    let room : c.args.depth ≤ 2048 = omega (arith, c.if-depth-gt-DEEPEST.false) in
    let is = rest_none rest (drop (c.args.at + 1) c.args.parts.now) c.part_at-part.result.now c.args.turns c.in-Some.turns c.part_at-part.ensures c.in-Some.is c.if-turns-eq0.true in (
      c.rests_alone.ensures.run S c.args.store.now (rest_of rest c.args.turns) c.args.env.now.params c.args.depth c.args.racer.now.chain c.args.racer.now.view c.requires.ready.has c.requires.ready.shallow room (no_turn c.part_at-part.result.now refl is),
      c.rests_alone.ensures.draws c.args.racer.now.view,
    )

pub start-run_first-requires : goal.start-run_first-requires
start-run_first-requires g t c κs within =
    let one = part_runs (g.T.Table.kinds c.args.table.now) c.args.parts.now c.args.at c.part_at-part.result.now (drop (c.args.at + 1) c.args.parts.now) c.requires.parts c.part_at-part.ensures in
    let deep = deep_here c.args.parts.now c.args.at c.part_at-part.result.now (drop (c.args.at + 1) c.args.parts.now) c.part_at-part.ensures in
    let room : c.args.depth ≤ 2048 = omega (arith, c.if-depth-gt-DEEPEST.false) in
    let ready = ready_below c.args.races.now c.args.racer.now c.args.store.now c.args.goal.now c.args.env.now c.args.depth room c.requires.ready in
    search rules

pub start-returns-else-turns-eq0-clause-turn : goal.start-returns-else-turns-eq0-clause-turn
start-returns-else-turns-eq0-clause-turn g t c =
    let rest = drop c.args.at c.args.parts.now in
    let left : 0 < c.in-Some.turns = (let ne = c.if-turns-eq0.false in omega arith) in
    c.run_first.ensures.turn (rest_of rest c.args.turns) (chains_repeat rest (drop (c.args.at + 1) c.args.parts.now) c.part_at-part.result.now c.args.turns c.in-Some.turns c.part_at-part.ensures c.in-Some.is left)

pub start-run_at-requires : goal.start-run_at-requires
start-run_at-requires g t c κs within =
    let one = part_runs (g.T.Table.kinds c.args.table.now) c.args.parts.now c.args.at c.part_at-part.result.now (drop (c.args.at + 1) c.args.parts.now) c.requires.parts c.part_at-part.ensures in
    let deep = deep_here c.args.parts.now c.args.at c.part_at-part.result.now (drop (c.args.at + 1) c.args.parts.now) c.part_at-part.ensures in
    search rules

pub run_first-begun-requires-clause-goal : goal.run_first-begun-requires-clause-goal
run_first-begun-requires-clause-goal g t c = copy_has c.args.store.now c.run_at-first.new.store c.args.goal.now c.run_at-first.ensures.store c.requires.ready.has c.in-Ok.kept c.in-Ok.ensures

pub run_first-begun-requires-clause-goals : goal.run_first-begun-requires-clause-goals
run_first-begun-requires-clause-goals g t c =
    let S = setting (g.T.Table.kinds c.args.table.now) g.T.Table.value_of c.args.env.now in
    answer_has S c.run_at-first.new.store c.args.part.now (goal_tree c.args.store.now c.args.goal.now) c.args.env.now.limit c.args.env.now.params (c.args.depth + 1) c.args.racer.now.chain c.run_at-first.new.racer.view c.run_at-first.result c.run_at-first.ensures.run

pub run_first-returns-clause-turn : goal.run_first-returns-clause-turn
run_first-returns-clause-turn g t c = λ s chains.
    let S = setting (g.T.Table.kinds c.args.table.now) g.T.Table.value_of c.args.env.now in
    let ts = c.args.store.now in let us = c.run_at-first.new.store in let gl = c.args.goal.now in let e = c.run_at-first.ensures.store in let has = c.requires.ready.has in
    let kept = c.in-Ok.kept in let same = c.in-Ok.ensures in let ps = c.args.env.now.params in let l = c.args.env.now.limit in let chain = c.args.racer.now.chain in let v = c.run_at-first.new.racer.view in let before = c.args.racer.now.view in
    let room : c.args.depth ≤ 2048 = (let r = c.requires.ready.room in omega arith) in
    let low = subst (λ (x : GoalTree). IsShallow x) (sym (copy_is ts us gl e has kept same)) c.requires.ready.shallow in
    subst (λ (x : GoalTree). IsTurn S us c.args.parts.now ps chain v (task s x l c.args.depth before) c.begun.result) (copy_is ts us gl e has kept same)
    (c.begun.ensures.turn S c.args.parts.now ps chain v before s c.args.part.now room c.requires.some low chains
    (for_copy ts us gl e has S c.args.part.now l ps (c.args.depth + 1) chain v c.run_at-first.result kept same c.run_at-first.ensures.run, c.run_at-first.ensures.draws))

pub run_parts-returns-in-None-clause-store : goal.run_parts-returns-in-None-clause-store
run_parts-returns-in-None-clause-store g t c = c.loop-turn.invariant.store_grows

pub run_parts-returns-in-None-clause-racer : goal.run_parts-returns-in-None-clause-racer
run_parts-returns-in-None-clause-racer g t c = c.loop-turn.invariant.racer_kept

pub start-run_first-requires-in-None : goal.start-run_first-requires-in-None
start-run_first-requires-in-None g t c κs within =
    let one = part_runs (g.T.Table.kinds c.args.table.now) c.args.parts.now c.args.at c.part_at-part.result.now (drop (c.args.at + 1) c.args.parts.now) c.requires.parts c.part_at-part.ensures in
    let deep = deep_here c.args.parts.now c.args.at c.part_at-part.result.now (drop (c.args.at + 1) c.args.parts.now) c.part_at-part.ensures in
    let some : c.args.at + 1 < length c.args.parts.now = (let lt = c.requires.some in let ne = c.if-at-parts.false in omega arith) in
    let room : c.args.depth ≤ 2048 = omega (arith, c.if-depth-gt-DEEPEST.false) in
    let ready = ready_below c.args.races.now c.args.racer.now c.args.store.now c.args.goal.now c.args.env.now c.args.depth room c.requires.ready in
    search rules

pub start-returns-else-at-parts-clause-turn : goal.start-returns-else-at-parts-clause-turn
start-returns-else-at-parts-clause-turn g t c =
    let rest = drop c.args.at c.args.parts.now in
    let some : c.args.at + 1 < length c.args.parts.now = (let lt = c.requires.some in let ne = c.if-at-parts.false in omega arith) in
    let many : 1 ≤ length (drop (c.args.at + 1) c.args.parts.now) = rw (length-drop (c.args.at + 1) c.args.parts.now) (omega (arith, some)) in
    c.run_first-in-None.ensures.turn (rest_of rest c.args.turns) (chains_then rest (drop (c.args.at + 1) c.args.parts.now) c.part_at-part.result.now c.args.turns c.part_at-part.ensures many c.in-None.is)
