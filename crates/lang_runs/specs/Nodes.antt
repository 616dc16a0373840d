-- The derivations that are put together from those of the parts, and the runs that hold them.
use Rattle.std.specs.Prelude.{◌≡◌, ℕ, ◌+◌, ℤ, List, [], ◌∷◌, Option, Some, None, Result, Ok, Err}
use Rattle.qterm.specs.Tree.{Tree}
use Rattle.qgoal.specs.declared.goal.Goal.{Goal}
use Rattle.deriv.specs.declared.kind.Kind.{Kind}
use Rattle.deriv.specs.declared.cause.Cause.{Cause}
use Rattle.deriv.specs.declared.cause.Cause.TheVariants as cause
use Rattle.deriv.specs.declared.outcome.Outcome.TheVariants as outcome
use Rattle.deriv.specs.declared.deriv.Deriv.{Deriv}
use Rattle.deriv.specs.declared.deriv.Node.{Node}
use Rattle.deriv.specs.declared.deriv.Node.TheVariants as node
use Rattle.deriv.specs.Above.{is_split}
use Rattle.proof_conv.specs.Conv.{IsOpen}
use Rattle.proof_conv.specs.Leads.{Leads, NestAtMost, for_each}
use Rattle.reducer_iface.specs.declared.applied.Applied.{Applied}
use Rattle.reducer_iface.specs.declared.applied.Stop.{Stop}
use Rattle.reducer_iface.specs.declared.applied.Stop.TheVariants as stop
use Rattle.lang_runs.specs.declared.around.Around.{Around}
use Rattle.lang_runs.specs.declared.around.Around.TheVariants.{Wrap, Test}
use Rattle.lang_runs.specs.declared.failures.Failures.{Failures}
use Rattle.lang_runs.specs.declared.ran.Ran.{Ran}
use Rattle.lang_runs.specs.declared.ran.RunStop.{RunStop}
use Rattle.lang_runs.specs.declared.ran.RunStop.TheVariants as stops

-- the run hands on the child's goals and converters, with this derivation
pub record HandsOn (d : Deriv) (child ran : Ran) : Type 0 where
  pub deriv : ran.deriv ≡ d
  pub goals : ran.goals ≡ child.goals
  pub above : ran.above ≡ child.above
  pub models : ran.models ≡ child.models
  pub proofs : ran.proofs ≡ child.proofs

-- ---- around a child
abbrev pub around_node : Around → Deriv → Node
around_node Wrap d = node.Wrap d
around_node (Test value) d = node.Test value (Some d)

abbrev pub around_deriv : Goal → Option ℕ → Around → Deriv → Deriv
around_deriv g l how d = record { goal = g; limit = l; spent = d.spent; out = d.out; node = around_node how d }

-- the run of a node around its child's; want of memory is free
abbrev pub IsAround : Goal → Option ℕ → Around → Result Ran RunStop → Result Ran RunStop → Type 0
IsAround g l how (Ok r) (Ok q) = HandsOn (around_deriv g l how r.deriv) r q
IsAround g l how (Err (stops.Failed d)) (Err (stops.Failed e)) = e ≡ around_deriv g l how d
IsAround g l how (Err (stops.Cancelled seen)) (Err (stops.Cancelled other)) = other ≡ seen
IsAround g l how _ (Err stops.Memory) = Unit {0}
IsAround g l how _ _ = ⊥

-- ---- without a child
-- the goal alone
abbrev pub alone_deriv : Goal → Option ℕ → ℤ → Deriv
alone_deriv g l value = record { goal = g; limit = l; spent = 0; out = outcome.Done (g ∷ []); node = node.Test value None }

pub record IsAlone (g : Goal) (l : Option ℕ) (value : ℤ) (ran : Ran) : Type 0 where
  pub deriv : ran.deriv ≡ alone_deriv g l value
  pub goals : ran.goals ≡ g ∷ []
  pub above : ran.above ≡ 0 ∷ []
  pub models : ran.models ≡ [] ∷ []
  pub opens : IsOpen [] ran.proofs
  pub leads : (ts : List Tree) (formulas : List Tree) → Leads ts ran.proofs.0 formulas (formulas ∷ [])
  pub nests : NestAtMost ran.proofs.0 (0 ∷ [])

-- the failure by a test
abbrev pub told_deriv : Goal → Option ℕ → ℤ → Deriv
told_deriv g l value = record { goal = g; limit = l; spent = 0; out = outcome.Failed cause.Told; node = node.Test value None }

-- the failure of what would stand too deep
abbrev pub stopped_deriv : Goal → Option ℕ → Deriv
stopped_deriv g l = record { goal = g; limit = l; spent = 0; out = outcome.Failed cause.TooDeep; node = node.Stopped }

-- ---- a reducer's node
abbrev pub prim_deriv : Goal → List ℕ → Option ℕ → Applied → Deriv
prim_deriv g name l a = record { goal = g; limit = l; spent = a.lemmas; out = outcome.Done a.goals; node = node.Prim name a.models }

pub record IsKeptPrim (g : Goal) (name : List ℕ) (kind : Kind) (l : Option ℕ) (a : Applied) (ran : Ran) : Type 0 where
  pub deriv : ran.deriv ≡ prim_deriv g name l a
  pub goals : ran.goals ≡ a.goals
  pub above : ran.above ≡ for_each (is_split (Some kind)) a.goals
  pub models : ran.models ≡ a.models
  pub proofs : ran.proofs ≡ a.proofs

abbrev pub failed_prim : Goal → List ℕ → Option ℕ → Cause → ℕ → Deriv
failed_prim g name l c spent = record { goal = g; limit = l; spent = spent; out = outcome.Failed c; node = node.Prim name [] }

-- the run of a reducer's node from the reducer's answer; want of memory is free
abbrev pub IsPrim : Goal → List ℕ → Kind → Option ℕ → Result Applied Stop → Result Ran RunStop → Type 0
IsPrim g name kind l (Ok a) (Ok q) = IsKeptPrim g name kind l a q
IsPrim g name kind l (Err (stop.Fail c spent)) (Err (stops.Failed e)) = e ≡ failed_prim g name l c spent
IsPrim g name kind l (Err (stop.Cancelled seen spent)) (Err (stops.Cancelled other)) = other ≡ seen
IsPrim g name kind l _ (Err stops.Memory) = Unit {0}
IsPrim g name kind l _ _ = ⊥

-- ---- parts in order
-- a part that succeeded after others
abbrev pub tried_deriv : Goal → Option ℕ → Failures → Deriv → Deriv
tried_deriv g l failures last = record { goal = g; limit = l; spent = failures.spent + last.spent; out = last.out; node = node.Tries failures.derivs (Some last) }

abbrev pub IsTried : Goal → Option ℕ → Failures → Ran → Result Ran RunStop → Type 0
IsTried g l failures child (Ok q) = HandsOn (tried_deriv g l failures child.deriv) child q
IsTried g l failures child (Err stops.Memory) = Unit {0}
IsTried g l failures child (Err _) = ⊥

-- the cause is that of the first, which failed
abbrev pub IsFirstCause : List Deriv → Cause → Type 0
IsFirstCause [] c = ⊥
IsFirstCause (d ∷ ds) c = d.out ≡ outcome.Failed c

-- parts that all failed
abbrev pub tried_all_deriv : Goal → Option ℕ → Failures → Cause → Deriv
tried_all_deriv g l failures c = record { goal = g; limit = l; spent = failures.spent; out = outcome.Failed c; node = node.Tries failures.derivs None }

pub record IsTriedAll (g : Goal) (l : Option ℕ) (failures : Failures) (d : Deriv) : Type 0 where
  pub cause : Cause
  pub first : IsFirstCause failures.derivs cause
  pub is : d ≡ tried_all_deriv g l failures cause
