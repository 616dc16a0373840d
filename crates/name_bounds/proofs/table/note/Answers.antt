use Rattle.std.proofs.Common.{◌∙◌, ap, Some, cond, nat_eq}
use Rattle.std.specs.HashMap.{get}
use Rattle.qterm.specs.Store.{tree_at}
use Rattle.qwalk.specs.Walk.{same_id}
use Rattle.name_bounds.specs.Ranges.{tighter}
use Rattle.name_bounds.proofs.Tables.{noted}
use Rattle.name_bounds.proofs.table.note.Goals as goal

pub returns-in_ok-put-in-Some : goal.returns-in_ok-put-in-Some
returns-in_ok-put-in-Some c =
    let b = c.in-Some.bound in
    let old = get same_id c.args.table.now in
    let new = get same_id c.put.new.table in
    let e = c.tightened.ensures ∙ ap (λ r. tighter r b.low b.up) c.range_at-range.ensures in
    noted c.args.store.now (tree_at c.args.store.now c.args.formula) b old new c.is_distinct.ensures c.in-Some.ensures (λ j. c.in_ok-put-in-Some.ensures j ∙ ap (λ r. cond (nat_eq b.id j) (Some r) (old j)) e)
