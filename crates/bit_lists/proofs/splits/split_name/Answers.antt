use Rattle.std.proofs.Common.{◌≡◌, [], subst, arith, to_z, of_z, if◌then◌else◌}
use Rattle.std.proofs.lemmas.Int.{ints}
use mir.Syntax.{w128}
use Rattle.std.specs.HashMap.{get}
use Rattle.qwalk.specs.Walk.{same_id}
use Rattle.name_bounds.specs.Missing.{is_int}
use Rattle.name_bounds.specs.Ranges.{range_of}
use Rattle.bit_lists.specs.Splits.{split_by}
use Rattle.bit_lists.specs.Steps.{AddsSplit}
use Rattle.bit_lists.proofs.Making.{step_one}
use Rattle.bit_lists.proofs.splits.split_name.Goals as goal

pub returns-in_ok-add_split-in-Some : goal.returns-in_ok-add_split-in-Some
returns-in_ok-add_split-in-Some c x e =
    let z : to_z w128 (of_z w128 c.in-Some.up) ≡ c.in-Some.up = omega (arith, ints) in
    step_one c.args.store.now c.args.id x c.in-Some.up (if is_int x.sort then split_by x (range_of (get same_id c.args.table.now c.args.id)).up else []) c.args.taken.now c.add_split.new.taken c.args.splits.now.items c.add_split.new.splits.items c.in-Some.ensures.int e
    (c.in-Some.ensures.upper x e) (subst (λ y. AddsSplit x y c.args.taken.now c.add_split.new.taken c.args.splits.now.items c.add_split.new.splits.items) z (c.in_ok-add_split-in-Some.ensures x e))
