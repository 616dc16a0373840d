use Rattle.std.proofs.Common.{◌≡◌, [], drop}
use Rattle.indexmap.specs.IndexSet.{insert_all}
use Rattle.qwalk.specs.Walk.{same_id}
use Rattle.qcanon.proofs.list.once.Given as goal

abbrev pub invariant-loop-id : goal.invariant-loop-id
invariant-loop-id l = insert_all same_id l.seen.keys (drop l.id-index l.ids) ≡ insert_all same_id [] l.ids
