-- The row of sat: whether the canonical list of the goal, which has to be clauses, has a model, decided within a number of lemmas.
use Rattle.std.specs.Prelude.{◌≡◌, ◌⊎◌, ℕ, ◌<◌, ◌≤◌, ◌+◌, ◌^◌, Bool as Truth, List, [], ◌∷◌, length, Option, Some, MatchOption}
use Rattle.qterm.specs.declared.name.Name.{Name}
use Rattle.qterm.specs.Tree.{Tree, False}
use Rattle.qeval.specs.declared.model.Value.TheVariants.{Bool}
use Rattle.qeval.specs.Value.{Valuation, IsSorted}
use Rattle.qsubst.specs.Names.{names_of}
use Rattle.qgoal.specs.Goal.{GoalTree}
use Rattle.qgoal.specs.Meaning.{IsModel}
use Rattle.model_conv.specs.declared.step.LiftStep.{LiftStep}
use Rattle.model_conv.specs.declared.step.LiftStep.TheVariants.{Set}
use Rattle.model_conv.specs.Lift.{lifted}
use Rattle.deriv.specs.Outcome as outcome
use Rattle.deriv.specs.Outcome.{CauseTree, OutTree, Done, Failed}
use Rattle.deriv.specs.Trees.{Lists}
use Rattle.reducer_iface.specs.Listed.{most_clausal, IsListed, IsUnlisted}
use Rattle.reducer_iface.specs.Lemmas.{first_other, AreClauses, AreLemmas}

-- ---- a success
-- the steps that set names to truth values
abbrev pub sets : List Name → List Truth → List LiftStep
sets [] bs = []
sets (n ∷ ns) [] = []
sets (n ∷ ns) (b ∷ bs) = Set n (Bool b) ∷ sets ns bs

-- the clauses have a model: the steps of lifting set each of their names, in name order, to a truth value, and whatever they are run on they give a model
pub record IsFound (cs : List Tree) (fs : List Tree) (lifts : Lists) : Type 0 where
  pub values : List Truth
  pub each : length values ≡ length (names_of cs)
  pub model : (V : Valuation) → IsSorted V → IsModel (lifted (sets (names_of cs) values) V) cs
  pub formulas : fs ≡ []
  pub steps : lifts ≡ sets (names_of cs) values ∷ []

-- the clauses have no model, and there are no steps of lifting
pub record IsRefuted (cs : List Tree) (fs : List Tree) (lifts : Lists) : Type 0 where
  pub nowhere : (V : Valuation) → IsModel V cs → ⊥
  pub formulas : fs ≡ False ∷ []
  pub steps : lifts ≡ [] ∷ []

-- at most the limit
abbrev pub InLimit : Option ℕ → ℕ → Type 0
InLimit limit n = MatchOption limit (Unit {0}) (λ most. n ≤ most)

-- the one goal has no formula exactly where the canonical list has a model, and else `false` alone; the lemmas are within the limit, and fewer than 3 to the number of names
pub record IsDecided (g : GoalTree) (limit : Option ℕ) (hs : List GoalTree) (lifts : Lists) (spent : ℕ) : Type 0 where
  pub list : List Tree
  pub listed : IsListed most_clausal g.formulas list
  pub clauses : AreClauses list
  pub formulas : List Tree
  pub goals : hs ≡ record { formulas = formulas; precision = g.precision } ∷ []
  pub answer : IsFound list formulas lifts ⊎ IsRefuted list formulas lifts
  pub in_limit : InLimit limit spent
  pub few : spent < 3 ^ length (names_of list)

-- ---- failures
-- so many lemmas over the canonical list, which is clauses
pub record HasLemmas (g : GoalTree) (lemmas : List Tree) : Type 0 where
  pub list : List Tree
  pub listed : IsListed most_clausal g.formulas list
  pub clauses : AreClauses list
  pub each : AreLemmas list [] lemmas

-- the first formula of the canonical list that is no clause has the number i, from 1
pub record IsOther (g : GoalTree) (i : ℕ) : Type 0 where
  pub list : List Tree
  pub listed : IsListed most_clausal g.formulas list
  pub first : first_other 1 list ≡ Some i

-- one lemma more than the limit
pub record IsSpent (g : GoalTree) (limit : Option ℕ) (lemmas : List Tree) (spent : ℕ) : Type 0 where
  pub over : HasLemmas g lemmas
  pub past : MatchOption limit ⊥ (λ most. length lemmas ≡ most + 1)
  pub count : spent ≡ length lemmas

-- the ticket of the last lemma is past the pool: it is at least the pool, and below the total that the check drew; the lemmas, at least that one, are at most one more than the limit
pub record IsPoolSpent (g : GoalTree) (limit : Option ℕ) (pool drawn ticket : ℕ) (lemmas : List Tree) (spent : ℕ) : Type 0 where
  pub over : HasLemmas g lemmas
  pub some : 1 ≤ length lemmas
  pub in_limit : MatchOption limit (Unit {0}) (λ most. length lemmas ≤ most + 1)
  pub past : pool ≤ ticket
  pub below : ticket < drawn
  pub count : spent ≡ length lemmas

-- the cause, with the number of lemmas: there is no canonical list within its size; or one of its formulas is no clause; or the lemmas are spent
abbrev pub IsUndecided : GoalTree → Option ℕ → ℕ → ℕ → CauseTree → ℕ → Type 0
IsUndecided g limit pool drawn (outcome.TooWide t) spent = IsUnlisted most_clausal g.formulas (outcome.TooWide t) × (spent ≡ 0)
IsUndecided g limit pool drawn (outcome.TooLarge n) spent = IsUnlisted most_clausal g.formulas (outcome.TooLarge n) × (spent ≡ 0)
IsUndecided g limit pool drawn (outcome.NotClausal i) spent = IsOther g i × (spent ≡ 0)
IsUndecided g limit pool drawn (outcome.Spent lemmas) spent = IsSpent g limit lemmas spent
IsUndecided g limit pool drawn (outcome.PoolSpent ticket lemmas) spent = IsPoolSpent g limit pool drawn ticket lemmas spent
IsUndecided g limit pool drawn _ spent = ⊥

abbrev pub SatRow : GoalTree → Option ℕ → ℕ → ℕ → OutTree → Lists → ℕ → Type 0
SatRow g limit pool drawn (Done hs) lifts spent = IsDecided g limit hs lifts spent
SatRow g limit pool drawn (Failed c) lifts spent = IsUndecided g limit pool drawn c spent × (lifts ≡ [])
