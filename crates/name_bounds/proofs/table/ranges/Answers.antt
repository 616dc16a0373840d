use Rattle.std.specs.HashMap.{get}
use Rattle.qwalk.specs.Walk.{same_id}
use Rattle.name_bounds.proofs.Tables.{still_so, so_ends}
use Rattle.name_bounds.proofs.table.ranges.Goals as goal

pub loop-formula-preserved : goal.loop-formula-preserved
loop-formula-preserved c =
    still_so c.args.store.now c.args.formulas.now c.loop-formula.formula-index c.formula-item.result (get same_id c.loop-formula.table) (get same_id c.note.new.table) c.loop-formula-test.true c.formula-item.is
    c.in_ok-note.ensures c.loop-formula.invariant

pub returns : goal.returns
returns c = so_ends c.args.store.now c.args.formulas.now c.loop-formula.formula-index (get same_id c.loop-formula.table) c.loop-formula-test.false c.loop-formula.invariant
