use Rattle.std.specs.HashMap.{get}
use Rattle.qterm.proofs.Extending.{Extends_trans}
use Rattle.qwalk.specs.Walk.{same_id}
use Rattle.shift_steps.proofs.Tables.{place_has, member_ints, member_narrow, define_more, define_end}
use Rattle.shift_steps.proofs.defining.define_all.Goals as goal

pub define-requires-clause-int : goal.define-requires-clause-int
define-requires-clause-int c = (member_ints c.args.shifts.now c.shift-item.result c.requires.ints (place_has c.args.shifts.now c.loop-shift.shift-index c.shift-item.result c.loop-shift-test.true c.shift-item.is)).0

pub define-requires-clause-fresh_int : goal.define-requires-clause-fresh_int
define-requires-clause-fresh_int c = (member_ints c.args.shifts.now c.shift-item.result c.requires.ints (place_has c.args.shifts.now c.loop-shift.shift-index c.shift-item.result c.loop-shift-test.true c.shift-item.is)).1

pub define-requires-clause-narrow : goal.define-requires-clause-narrow
define-requires-clause-narrow c = member_narrow c.args.shifts.now c.shift-item.result c.requires.narrow (place_has c.args.shifts.now c.loop-shift.shift-index c.shift-item.result c.loop-shift-test.true c.shift-item.is)

pub loop-shift-preserved : goal.loop-shift-preserved
loop-shift-preserved c =
    let S = c.args.store.now in
    let T = c.loop-shift.store in
    let U = c.define.new.store in
    let so = c.loop-shift.invariant in
    record {
      extends = Extends_trans S T U so.extends c.define.ensures.extends;
      defined = λ fs can h.
          define_more T U fs c.args.shifts.now c.loop-shift.shift-index c.shift-item.result c.loop-shift.trace c.define.new.trace (get same_id c.loop-shift.turns) (get same_id c.define.new.turns) c.define.ensures.extends c.loop-shift-test.true
          c.shift-item.is can c.in_ok-define.ensures.defines (so.defined fs can h);
    }

pub returns-clause-defined : goal.returns-clause-defined
returns-clause-defined c = λ fs can h. define_end c.loop-shift.store fs c.args.shifts.now c.loop-shift.shift-index c.loop-shift.trace (get same_id c.loop-shift.turns) c.loop-shift-test.false (c.loop-shift.invariant.defined fs can h)
