use Rattle.qterm.specs.Store.{trees_of}
use Rattle.shift_lists.proofs.Adding.{shifts_are}
use Rattle.shift_lists.proofs.shifting.shift_names.Goals as goal

pub returns-clause-shifts : goal.returns-clause-shifts
returns-clause-shifts c =
    shifts_are c.in_ok-taken.taken (trees_of c.args.store.now c.args.goal.now) (trees_of c.args.store.now c.args.list.now) c.shift_all.new.shifts.items c.in_ok-taken.ensures c.in_ok-formulas.ensures.shifts
