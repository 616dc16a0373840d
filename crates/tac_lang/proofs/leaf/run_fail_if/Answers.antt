use Rattle.std.proofs.Common.{◌≤◌, refl, arith, rules, SFits}
use Rattle.std.specs.Int.{w128}
use Rattle.std.proofs.lemmas.Int.{to_z-of_z}
use Rattle.tac_lang.specs.Ready.{setting}
use Rattle.tac_lang.proofs.Later.{copy_has, of_copy, stays_shallow, is_told, fail_if_rests}
use Rattle.tac_lang.proofs.leaf.run_fail_if.Goals as goal

pub returns-then-is_true-clause-run : goal.returns-then-is_true-clause-run
returns-then-is_true-clause-run g c =
    let S = setting (g.T.Table.kinds c.args.table.now) g.T.Table.value_of c.args.env.now in
    let ts = c.args.store.now in let us = c.probe.new.store in let gl = c.args.goal.now in
    let e = c.in_ok-value.ensures.store in let has = c.requires.ready.has in
    let fits : SFits w128 c.in_ok-value.value = search rules in
    let same = to_z-of_z w128 c.in_ok-value.value fits in
    let room : c.args.depth ≤ 2048 = (let r = c.requires.ready.room in omega arith) in
    of_copy ts us gl e has S _ c.args.env.now.limit c.args.env.now.params c.args.depth c.args.racer.now.chain c.args.racer.now.view c.told.result gl refl
    (c.told.ensures.run S us _ c.args.env.now.params c.args.depth c.args.racer.now.chain c.args.racer.now.view (copy_has ts us gl e has gl refl) room
    (is_told ts us gl e has S c.args.expr.now c.in_ok-value.value _ same c.in_ok-value.ensures.value c.if-is_true.ensures))

pub returns-else-is_true-clause-run : goal.returns-else-is_true-clause-run
returns-else-is_true-clause-run g c =
    let S = setting (g.T.Table.kinds c.args.table.now) g.T.Table.value_of c.args.env.now in
    let ts = c.args.store.now in let us = c.probe.new.store in let gl = c.args.goal.now in
    let e = c.in_ok-value.ensures.store in let has = c.requires.ready.has in
    let fits : SFits w128 c.in_ok-value.value = search rules in
    let same = to_z-of_z w128 c.in_ok-value.value fits in
    let room : c.args.depth ≤ 2048 = (let r = c.requires.ready.room in omega arith) in
    of_copy ts us gl e has S _ c.args.env.now.limit c.args.env.now.params c.args.depth c.args.racer.now.chain c.args.racer.now.view c.rests_alone.result gl refl
    (c.rests_alone.ensures.run S us _ c.args.env.now.params c.args.depth c.args.racer.now.chain c.args.racer.now.view (copy_has ts us gl e has gl refl) (stays_shallow ts us gl e has c.requires.ready.shallow) room
    (fail_if_rests ts us gl e has S c.args.expr.now c.in_ok-value.value _ same c.in_ok-value.ensures.value c.if-is_true.ensures))

pub returns-then-is_true-clause-draws : goal.returns-then-is_true-clause-draws
returns-then-is_true-clause-draws g c = c.told.ensures.draws c.args.racer.now.view

pub returns-else-is_true-clause-draws : goal.returns-else-is_true-clause-draws
returns-else-is_true-clause-draws g c = c.rests_alone.ensures.draws c.args.racer.now.view
