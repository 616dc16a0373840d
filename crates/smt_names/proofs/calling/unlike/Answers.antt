use Rattle.std.proofs.Common.{◌≡◌, None, sym, ◌∙◌}
use Rattle.qterm.specs.Store.{trees_of}
use Rattle.smt_names.specs.Called.{unlike}
use Rattle.smt_names.proofs.Calls.{all_alike, params_end, args_end}
use Rattle.smt_names.proofs.calling.unlike.Goals as goal

pub returns-else-at-ids-clause-place : goal.returns-else-at-ids-clause-place
returns-else-at-ids-clause-place c = args_end c.args.store.now c.args.params.now c.args.ids.now c.loop-at.at _ c.if-at-ids.false c.loop-at.invariant

pub returns-else-at-ids-clause-sorts : goal.returns-else-at-ids-clause-sorts
returns-else-at-ids-clause-sorts c =
    all_alike 0 c.args.params.now (trees_of c.args.store.now c.args.ids.now) (sym (args_end c.args.store.now c.args.params.now c.args.ids.now c.loop-at.at _ c.if-at-ids.false c.loop-at.invariant))

pub returns-after-loop-at-clause-sorts : goal.returns-after-loop-at-clause-sorts
returns-after-loop-at-clause-sorts c =
    all_alike 0 c.args.params.now (trees_of c.args.store.now c.args.ids.now) (sym (params_end c.args.store.now c.args.params.now c.args.ids.now c.loop-at.at _ c.loop-at-test.false c.loop-at.invariant))
