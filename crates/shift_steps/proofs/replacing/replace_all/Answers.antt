use Rattle.std.proofs.Common.{◌<◌, ◌≤◌, ◌+◌, length, take, sym, subst, arith}
use Rattle.std.specs.HashMap.{get}
use Rattle.qterm.specs.Store.{tree_at, trees_of}
use Rattle.qwalk.specs.Walk.{same_id}
use Rattle.shift_steps.specs.Replacing.{AreShifted}
use Rattle.shift_steps.proofs.Moving.{tree_there, as_many_trees, shifted_next, shifted_end}
use Rattle.shift_steps.proofs.replacing.replace_all.Goals as goal

pub loop-at-preserved : goal.loop-at-preserved
loop-at-preserved c = λ ss ready w d h.
    let S = c.args.store.now in
    let fs = trees_of S c.args.list.now in
    let k = c.loop-at.at in
    let i = c.index-list-at.result in
    let l : k < length fs = let n = as_many_trees S c.args.list.now in omega (arith, c.loop-at-test.true, n) in
    subst (λ ns. AreShifted S fs ss c.replace_names.new.trace ns (take (k + 1) fs)) (sym c.in_ok-push.ensures.ok)
    (shifted_next S fs ss (get same_id c.args.turns.now) c.loop-at.trace c.replace_names.new.trace c.loop-at.numbers c.in_ok-first.first c.in_ok-last.last k (tree_at S i) ready w d l (tree_there S c.args.list.now k i c.loop-at-test.true c.index-list-at.is)
    c.in_ok-first.ensures c.in_ok-last.ensures (c.loop-at.invariant ss ready w d h))

pub returns : goal.returns
returns c = λ ss ready w d h.
    let S = c.args.store.now in
    let fs = trees_of S c.args.list.now in
    let l : length fs ≤ c.loop-at.at = let n = as_many_trees S c.args.list.now in omega (arith, c.loop-at-test.false, n) in
    shifted_end S fs ss c.loop-at.trace c.loop-at.numbers c.loop-at.at l (c.loop-at.invariant ss ready w d h)
