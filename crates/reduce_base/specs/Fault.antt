-- The causes for which a goal has no canonical list within its size.
use Rattle.std.specs.Prelude.{◌≡◌, ℕ, List, Err}
use Rattle.qterm.specs.Tree.{Tree}
use Rattle.qterm.specs.Store.{tree_at, Has}
use Rattle.qlin.specs.CanonList.{canon_list}
use Rattle.qcanon.specs.declared.error.CanonError.{CanonError}
use Rattle.qcanon.specs.declared.error.CanonError.TheVariants as canon
use Rattle.deriv.specs.declared.cause.Cause.TheVariants as cause
use Rattle.reducer_iface.specs.declared.applied.Stop.{Stop}
use Rattle.reducer_iface.specs.declared.applied.Stop.TheVariants as stop
use Rattle.reducer_iface.specs.Listed.{IsLarge}
use Rattle.reduce_base.specs.declared.fault.Fault.{Fault}
use Rattle.reduce_base.specs.declared.fault.Fault.TheVariants.{TooWide, TooLarge, Memory}

-- the cause that a cause of the canonical form is
abbrev pub fault_of : CanonError → Fault
fault_of (canon.TooWide i) = TooWide i
fault_of (canon.Memory e) = Memory e

-- what a reducer answers for the cause
abbrev pub stop_of : Fault → Stop
stop_of (TooWide i) = stop.Fail (cause.TooWide i) 0
stop_of (TooLarge n) = stop.Fail (cause.TooLarge n) 0
stop_of (Memory e) = stop.Memory

-- the formulas have no canonical list, or it is too large
abbrev pub IsFault : ℕ → List Tree → List Tree → Fault → Type 0
IsFault most ts fs (TooWide i) = Has ts i × (canon_list fs ≡ Err (tree_at ts i))
IsFault most ts fs (TooLarge n) = IsLarge most fs n
IsFault most ts fs (Memory e) = Unit {0}
