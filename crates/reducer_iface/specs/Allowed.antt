-- What `apply` may answer, and what it draws.
use Rattle.std.specs.Prelude.{◌≡◌, ◌⊎◌, ◌≤◌, ℕ, ◌+◌, ◌-◌, ◌*◌, List, [], map, length, All, true, Option, Some, None, Result, Ok, Err}
use Rattle.std.specs.Option.{is_some}
use Rattle.qterm.specs.Tree.{Tree}
use Rattle.qgoal.specs.declared.precision.Precision.{Precision}
use Rattle.qgoal.specs.declared.precision.Precision.TheVariants.{Precise, Under, Over}
use Rattle.qgoal.specs.Precision.{is_down}
use Rattle.qgoal.specs.Goal.{GoalTree, HasGoal}
use Rattle.race_word.specs.declared.place.Place.{Place}
use Rattle.race_word.specs.declared.view.View.{View}
use Rattle.race_word.specs.Runner.{Runner}
use Rattle.race_word.specs.Keeps.{SeenOn}
use Rattle.deriv.specs.declared.kind.Kind.{Kind}
use Rattle.deriv.specs.declared.kind.Kind.TheVariants as kinds
use Rattle.deriv.specs.Outcome.{Done, Failed, IsOutcome, goal_trees, cause_tree, HasCause}
use Rattle.deriv.specs.declared.cause.Cause.{Cause}
use Rattle.deriv.specs.declared.cause.Cause.TheVariants as cause
use Rattle.deriv.specs.Above.{is_split}
use Rattle.deriv.specs.Honest.{IsHonest}
use Rattle.proof_conv.specs.Leads.{Leads, NestAtMost, for_each}
use Rattle.reducer_iface.specs.declared.env.Env.{Env}
use Rattle.reducer_iface.specs.declared.applied.Applied.{Applied}
use Rattle.reducer_iface.specs.declared.applied.Stop.{Stop}
use Rattle.reducer_iface.specs.declared.applied.Stop.TheVariants as stop
use Rattle.reducer_iface.specs.Depths.{AllShallow}
use Rattle.reducer_iface.specs.Rows.{rows}

-- how a step of a reducer of that kind is called: under or over only where its row may join that; a Custom one is called by what it keeps
abbrev pub IsCalled : Kind → Precision → Type 0
IsCalled kinds.Custom step = Unit {0}
IsCalled kinds.AddBounds step = (step ≡ Precise) ⊎ (step ≡ Under)
IsCalled kinds.DropWide step = (step ≡ Precise) ⊎ (step ≡ Over)
IsCalled kind step = step ≡ Precise

-- a success: 1 to 65,536 goals of the store, within the limits on their depth, which the row allows for every total drawn from the top on; the step is an honest one; both converters have a subgoal for each goal; that of certificates leads from the goal to the goals, with a split above each at most if its kind splits, and can be closed where the step isn't under
pub record IsSuccess (kind : Kind) (ts : List Tree) (g : GoalTree) (env : Env) (top : ℕ) (a : Applied) : Type 0 where
  pub has : All (HasGoal ts) a.goals
  pub some : IsOutcome (Done (goal_trees ts a.goals))
  pub shallow : AllShallow (goal_trees ts a.goals)
  pub row : (drawn : ℕ) → top ≤ drawn → rows kind env.params g env.limit env.pool drawn (Done (goal_trees ts a.goals)) a.models a.lemmas
  pub models : length a.models ≡ length a.goals
  pub proofs : a.proofs.1 ≡ length a.goals
  pub step : Precision
  pub called : IsCalled kind step
  pub honest : IsHonest step g (goal_trees ts a.goals)
  pub closes : is_down step ≡ true → is_some a.proofs.0 ≡ true
  pub leads : Leads ts a.proofs.0 g.formulas (map (λ h. h.formulas) (goal_trees ts a.goals))
  pub nests : NestAtMost a.proofs.0 (for_each (is_split (Some kind)) a.goals)

-- a failure that the row allows for every total drawn from the top on
pub record IsFailure (kind : Kind) (ts : List Tree) (g : GoalTree) (env : Env) (top : ℕ) (c : Cause) (spent : ℕ) : Type 0 where
  pub has : HasCause ts c
  pub row : (drawn : ℕ) → top ≤ drawn → rows kind env.params g env.limit env.pool drawn (Failed (cause_tree ts c)) [] spent

-- the answer, over the store that it leaves, for a racer on this chain that then has this view; want of memory is free
abbrev pub IsAllowed : Kind → List Tree → GoalTree → Env → List Place → View → Result Applied Stop → Type 0
IsAllowed kind ts g env chain v (Ok a) = IsSuccess kind ts g env v.top a
IsAllowed kind ts g env chain v (Err (stop.Fail c spent)) = IsFailure kind ts g env v.top c spent
IsAllowed kind ts g env chain v (Err (stop.Cancelled seen spent)) = SeenOn chain v seen
IsAllowed kind ts g env chain v (Err stop.Memory) = Unit {0}

-- a ticket for each lemma; where an end of the pool was noted before there is at most one lemma, which it refused
abbrev pub DrawsEach : Option ℕ → ℕ → View → View → Type 0
DrawsEach None lemmas v w = w.draws ≡ v.draws + lemmas
DrawsEach (Some ticket) lemmas v w = (lemmas ≤ 1) × (w.draws ≡ v.draws)

-- of a failure by this cause: a ticket for each lemma; at the end of the pool, which is noted then, an end that was noted before may have refused the last one
abbrev pub DrawsTill : Cause → ℕ → View → View → Type 0
DrawsTill (cause.PoolSpent ticket lemmas) spent v w = DrawsEach v.end spent v w × (w.end ≡ Some ticket)
DrawsTill c spent v w = w.draws ≡ v.draws + spent

-- a poll for each lemma, of all places on the chain; where it was cancelled, the last one may have stopped at its first place
abbrev pub PollsEach : ℕ → ℕ → View → View → Type 0
PollsEach places lemmas v w = w.polls ≡ v.polls + lemmas * places

abbrev pub PollsUpTo : ℕ → ℕ → View → View → Type 0
PollsUpTo places lemmas v w = v.polls + (lemmas - 1) * places + 1 ≤ w.polls

-- the polls of an answer that wasn't cancelled: kind Sat polls for each lemma
abbrev pub Polls : Kind → Runner → Runner → ℕ → Type 0
Polls kinds.Sat old new lemmas = PollsEach (length old.chain) lemmas old.view new.view
Polls kind old new lemmas = Unit {0}

-- the draws and polls of an answer that was cancelled: a lemma of kind Sat draws after its poll, whatever the poll saw
abbrev pub DrawsOn : Kind → Runner → Runner → ℕ → Type 0
DrawsOn kinds.Sat old new lemmas = DrawsEach old.view.end lemmas old.view new.view × PollsUpTo (length old.chain) lemmas old.view new.view
DrawsOn kind old new lemmas = new.view.draws ≡ old.view.draws + lemmas

-- what the answer says of the tickets and polls: a ticket for each lemma that it tells, but for one that a noted end refused
abbrev pub Draws : Kind → Runner → Runner → Result Applied Stop → Type 0
Draws kind old new (Ok a) = (new.view.draws ≡ old.view.draws + a.lemmas) × Polls kind old new a.lemmas
Draws kind old new (Err (stop.Fail c spent)) = DrawsTill c spent old.view new.view × Polls kind old new spent
Draws kind old new (Err (stop.Cancelled seen spent)) = DrawsOn kind old new spent
Draws kind old new (Err stop.Memory) = Unit {0}
