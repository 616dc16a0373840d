use Rattle.std.proofs.Common.{ℕ, ◌<◌, get_or}
use Rattle.qterm.specs.Store.{HasSort}
use Rattle.qterm.proofs.store.Store.all_have_sort.Given as goal

abbrev pub invariant-loop-id : goal.invariant-loop-id
invariant-loop-id l = (k : ℕ) → k < l.id-index → HasSort l.sort l.self (get_or l.ids k 0)
