use Rattle.shift_lists.specs.Steps.{low_at}
use Rattle.std.proofs.Common.{◌≡◌, [], subst, arith, to_z, of_z, if◌then◌else◌}
use Rattle.std.proofs.lemmas.Int.{ints}
use mir.Syntax.{w128}
use Rattle.std.specs.HashMap.{get}
use Rattle.qwalk.specs.Walk.{same_id}
use Rattle.shift_lists.specs.Steps.{AddsShift}
use Rattle.name_bounds.specs.Missing.{is_int}
use Rattle.shift_lists.specs.Shifts.{shift_by}
use Rattle.shift_lists.proofs.Adding.{step_one}
use Rattle.shift_lists.proofs.shifting.shift_name.Goals as goal

pub returns-in_ok-add_shift-in-Some-clause-step : goal.returns-in_ok-add_shift-in-Some-clause-step
returns-in_ok-add_shift-in-Some-clause-step c x e =
    let z : to_z w128 (of_z w128 c.in-Some.low) ≡ c.in-Some.low = omega (arith, ints) in
    step_one c.add_shift.new.store c.args.store.now c.args.id x c.in-Some.low (if is_int x.sort then shift_by x (low_at (get same_id c.args.table.now) c.args.id) else []) c.args.taken.now c.add_shift.new.taken c.args.images.now c.add_shift.new.images
    c.args.shifts.now.items c.add_shift.new.shifts.items c.in-Some.ensures.int e (c.in-Some.ensures.lower x e) (subst (λ y. AddsShift c.add_shift.new.store x y c.args.taken.now c.add_shift.new.taken c.args.images.now c.add_shift.new.images c.args.shifts.now.items c.add_shift.new.shifts.items) z
    (c.in_ok-add_shift-in-Some.ensures.adds x e))
