-- How many tickets a racer drew over a run: one for each lemma that the reducers of its derivation spent, but for those that an end of the
-- pool noted before refused.
use Rattle.std.specs.Prelude.{◌≡◌, ℕ, ◌+◌, List, Some, None, Result, Ok, Err}
use Rattle.std.specs.List.{sum, sum_by}
use Rattle.qterm.specs.Tree.{Tree}
use Rattle.race_word.specs.declared.view.View.{View}
use Rattle.deriv.specs.declared.cause.Cause.TheVariants as cause
use Rattle.deriv.specs.declared.outcome.Outcome.{Outcome}
use Rattle.deriv.specs.declared.outcome.Outcome.TheVariants as outcome
use Rattle.deriv.specs.declared.deriv.Deriv.{Deriv}
use Rattle.deriv.specs.declared.deriv.Node.TheOpen.{Node-F}
use Rattle.deriv.specs.declared.deriv.Node.TheFolds.{fold-Deriv}
use Rattle.deriv.specs.Trees.{Der}
use Rattle.deriv.specs.Sees.{Sees}
use Rattle.deriv.specs.Spent.{all_spent, pool_ends, Draws}
use Rattle.lang_runs.specs.declared.failures.Failures.{Failures}
use Rattle.lang_runs.specs.declared.ran.Ran.{Ran}
use Rattle.lang_runs.specs.declared.ran.RunStop.{RunStop}
use Rattle.lang_runs.specs.declared.ran.RunStop.TheVariants as stops

-- of so many lemmas, with so many failures at the end of the pool: each has a ticket, but for those that an end noted before refused, at most one a failure; and where no end is noted then, none was before, and each has its ticket
pub record IsDrawn (old new : View) (spent ends : ℕ) : Type 0 where
  pub draws : Draws spent ends old.draws new.draws
  pub exactly : new.end ≡ None → (old.end ≡ None) × (new.draws ≡ old.draws + spent)

-- the same of what a derivation shows over any store
abbrev pub ShowsDrawn : View → View → Deriv → Type 0
ShowsDrawn old new d = (ts : List Tree) (t : Der) → Sees ts d t → IsDrawn old new (all_spent t) (pool_ends t)

-- of a racer with this view before and this one after the run; nothing is said where it was cancelled, or memory was short
abbrev pub HasDrawn : View → View → Result Ran RunStop → Type 0
HasDrawn old new (Ok ran) = ShowsDrawn old new ran.deriv
HasDrawn old new (Err (stops.Failed d)) = ShowsDrawn old new d
HasDrawn old new (Err (stops.Cancelled seen)) = Unit {0}
HasDrawn old new (Err stops.Memory) = Unit {0}

-- ---- the same counted over derivations of the code, without a store
-- what is counted of a reducer's node, by its spent lemmas and its outcome
abbrev pub Count : Type 0
Count = ℕ → Outcome → ℕ

-- one level of the sum
abbrev pub total_layer : Count → Node-F Count ℕ → Count
total_layer c (Node-F.Prim name lifts) = c
total_layer c (Node-F.Seq first rest) = λ spent out. first + sum rest
total_layer c (Node-F.Tries failed None) = λ spent out. sum failed
total_layer c (Node-F.Tries failed (Some last)) = λ spent out. sum failed + last
total_layer c (Node-F.Race winner child) = λ spent out. child
total_layer c (Node-F.ParSeq first rest) = λ spent out. first + sum_by (λ p. p.1) rest
total_layer c (Node-F.Test value None) = λ spent out. 0
total_layer c (Node-F.Test value (Some child)) = λ spent out. child
total_layer c (Node-F.Wrap child) = λ spent out. child
total_layer c Node-F.Stopped = λ spent out. 0

-- the sum over all reducers' nodes
unfoldable pub total_in : Count → Deriv → ℕ
total_in c d = fold-Deriv Count ℕ (total_layer c) (λ x. x.node x.spent x.out) d

-- the lemmas, and whether they were spent at the end of the pool
abbrev pub lemmas : Count
lemmas spent out = spent

abbrev pub ends : Count
ends spent (outcome.Failed (cause.PoolSpent ticket refused)) = 1
ends spent _ = 0

-- of all that is counted so
abbrev pub Tallies : View → View → (Count → ℕ) → Type 0
Tallies old new total = IsDrawn old new (total lemmas) (total ends)

-- of a derivation
abbrev pub Tally : View → View → Deriv → Type 0
Tally old new d = Tallies old new (λ c. total_in c d)

-- of parts that failed
abbrev pub FailuresTally : View → View → Failures → Type 0
FailuresTally old new f = Tallies old new (λ c. sum_by (total_in c) f.derivs)

-- of a run
abbrev pub RunTally : View → View → Result Ran RunStop → Type 0
RunTally old new (Ok ran) = Tally old new ran.deriv
RunTally old new (Err (stops.Failed d)) = Tally old new d
RunTally old new (Err (stops.Cancelled seen)) = Unit {0}
RunTally old new (Err stops.Memory) = Unit {0}
