-- What the record of a check tells: a derivation that its strategy has on the assertions, and the answer that this allows.
use Rattle.std.specs.Prelude.{◌≡◌, ℕ, ◌+◌, min, List, Option, Some, None}
use Rattle.qterm.specs.Tree.{Tree}
use Rattle.qterm.specs.Store.{trees_of}
use Rattle.qgoal.specs.declared.precision.Precision.TheVariants.{Precise}
use Rattle.qgoal.specs.Goal.{GoalTree}
use Rattle.strat_text.specs.declared.strategy.Strategy.{Strategy}
use Rattle.deriv.specs.Params.{defaults}
use Rattle.deriv.specs.declared.deriv.Deriv.{Deriv}
use Rattle.deriv.specs.Trees.{Der}
use Rattle.deriv.specs.Derives.{World, Derives}
use Rattle.deriv.specs.Sees.{Sees}
use Rattle.deriv.specs.Spent.{all_spent}
use Rattle.reducer_iface.specs.Names.{Names, kind_at}
use Rattle.probe_set.specs.Probe.{probe_of}
use Rattle.lang_runs.specs.Runs.{Setting, world_at}
use Rattle.check_answer.specs.declared.answers.Answer.{Answer}
use Rattle.check_answer.specs.declared.answers.Answer.TheVariants as answers
use Rattle.check_answer.specs.declared.answers.Why.TheVariants as why
use Rattle.check_answer.specs.Answers as allowed
use Rattle.check_record.specs.declared.kept.CheckRecord.{CheckRecord}

-- the goal of assertions
abbrev pub precise : List Tree → GoalTree
precise asserts = record { formulas = asserts; precision = Precise }

-- what all runs of a check have in common: the kinds of the registry's names, the values of probes, its workers and its pool
abbrev pub setting_of : Names → ℕ → ℕ → Setting
setting_of names workers pool = record { kinds = kind_at names; probe = probe_of; workers = workers; pool = pool }

-- the derivation shows one that the strategy has on the assertions, without a limit, with the default parameters, and at depth 1
pub record IsHad (K : World) (ts asserts : List Tree) (s : Strategy) (d : Deriv) : Type 0 where
  pub tree : Der
  pub sees : Sees ts d tree
  pub derives : Derives K tree s (precise asserts) None defaults 1

-- the answer is one of those that the derivation allows
pub record IsAllowed (K : World) (ts asserts : List Tree) (s : Strategy) (allows : Der → Answer → Type 0) (d : Deriv) (it : Answer) : Type 0 where
  pub had : IsHad K ts asserts s d
  pub answer : allows had.tree it

-- the same where there is a derivation; without one the answer is want of memory
abbrev pub Tells : World → List Tree → List Tree → Strategy → (Der → Answer → Type 0) → Answer → Option Deriv → Answer → Type 0
Tells K ts asserts s allows memory None it = it ≡ memory
Tells K ts asserts s allows memory (Some d) it = IsAllowed K ts asserts s allows d it

-- the world of the derivations of a record's check
abbrev pub world_of : Names → CheckRecord → World
world_of names r = world_at (setting_of names r.workers r.pool) r.drawn

-- the record of a check, over the trees of the store that it left
abbrev pub IsChecked : Names → List Tree → CheckRecord → Type 0
IsChecked names ts r = Tells (world_of names r) ts (trees_of ts r.asserts) r.strategy (allowed.IsAnswer ts r.number (trees_of ts r.asserts)) (answers.Unknown why.Memory) r.deriv r.answer

-- the record of a run alone
abbrev pub IsApplied : Names → List Tree → CheckRecord → Type 0
IsApplied names ts r = Tells (world_of names r) ts (trees_of ts r.asserts) r.strategy (allowed.IsApplied ts) (answers.NoSubgoals why.Memory) r.deriv r.answer

-- So many lemmas were drawn as the reducers of the derivation spent in all, or one past the pool where they were more.
abbrev pub IsTotal : ℕ → ℕ → Deriv → Type 0
IsTotal pool drawn d = (ts : List Tree) (tree : Der) → Sees ts d tree → drawn ≡ min (all_spent tree) (pool + 1)
