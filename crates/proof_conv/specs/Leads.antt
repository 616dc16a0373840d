-- What a converter of proofs leads to, over term trees: from the formulas of a goal to those of its subgoals, and how deep its splits nest.
use Rattle.std.specs.Prelude.{◌≡◌, ℕ, ◌+◌, ◌≤◌, List, [], ◌∷◌, ◌++◌, map, Option, Some, None}
use Rattle.qterm.specs.Tree.{Tree, Trees, Or, none, more}
use Rattle.tac_cert.specs.declared.cert.Step.{Step}
use Rattle.tac_cert.specs.Items.{Formula, item}
use Rattle.tac_cert.specs.Accepts.{as_items}
use Rattle.proof_conv.specs.declared.plan.Plan.{Plan}
use Rattle.proof_conv.specs.Plan.{depths}
use Rattle.proof_conv.specs.Conv.{Converter}
use Rattle.proof_conv.specs.Leaves.{StepsLeave, Leaves}
use Rattle.proof_conv.specs.Accepted.{all_items}

-- ---- what a converter leads to
-- where there is a proof with open places, its steps hold from the goal's formulas and leave those of the subgoals at the places
abbrev pub Leads : List Tree → Option Plan → List Tree → List (List Tree) → Type 0
Leads ts None goal subgoals = Unit {0}
Leads ts (Some p) goal subgoals = Leaves ts p (as_items goal) (all_items subgoals)

-- each converter leads from its goal to its subgoals
abbrev pub LeadEach : List Tree → List Converter → List (List Tree) → List (List (List Tree)) → Type 0
LeadEach ts [] [] [] = Unit {0}
LeadEach ts (c ∷ cs) (goal ∷ goals) (subgoals ∷ subgoalss) = Leads ts c.0 goal subgoals × LeadEach ts cs goals subgoalss
LeadEach ts [] [] (subgoals ∷ subgoalss) = ⊥
LeadEach ts [] (goal ∷ goals) subgoalss = ⊥
LeadEach ts (c ∷ cs) [] subgoalss = ⊥
LeadEach ts (c ∷ cs) (goal ∷ goals) [] = ⊥

-- the steps of each case lead from the goal's formulas, with one child of a disjunction behind them, to a subgoal's
abbrev pub CasesLead : List Tree → List (List Step) → Trees → List Tree → List (List Tree) → Type 0
CasesLead ts [] none goal [] = Unit {0}
CasesLead ts (ss ∷ sss) (more t us) goal (subgoal ∷ subgoals) = StepsLeave ts (as_items goal ++ Formula t ∷ []) ss (as_items subgoal) × CasesLead ts sss us goal subgoals
CasesLead ts [] none goal (subgoal ∷ subgoals) = ⊥
CasesLead ts [] (more t us) goal subgoals = ⊥
CasesLead ts (ss ∷ sss) none goal subgoals = ⊥
CasesLead ts (ss ∷ sss) (more t us) goal [] = ⊥

-- the item is a disjunction, and the cases lead from its children to the subgoals
pub record SplitLeads (ts : List Tree) (n : ℕ) (cases : List (List Step)) (goal : List Tree) (subgoals : List (List Tree)) : Type 0 where
  pub first : Tree
  pub others : Trees
  pub is : item (as_items goal) n ≡ Some (Formula (Or (more first others)))
  pub each : CasesLead ts cases (more first others) goal subgoals

-- ---- how deep splits nest
-- numbers side by side: each of the first is at most the one of the second
abbrev pub AtMostEach : List ℕ → List ℕ → Type 0
AtMostEach [] [] = Unit {0}
AtMostEach (d ∷ ds) (n ∷ ns) = (d ≤ n) × AtMostEach ds ns
AtMostEach [] (n ∷ ns) = ⊥
AtMostEach (d ∷ ds) [] = ⊥

-- where there is a proof with open places, at most so many splits stand above each place
abbrev pub NestAtMost : Option Plan → List ℕ → Type 0
NestAtMost None ns = Unit {0}
NestAtMost (Some p) ns = AtMostEach (depths p) ns

-- the same for converters side by side
abbrev pub NestEach : List Converter → List (List ℕ) → Type 0
NestEach [] [] = Unit {0}
NestEach (c ∷ cs) (ns ∷ nss) = NestAtMost c.0 ns × NestEach cs nss
NestEach [] (ns ∷ nss) = ⊥
NestEach (c ∷ cs) [] = ⊥

-- each number of the list is that much greater
abbrev pub raised : ℕ → List ℕ → List ℕ
raised n ms = map (λ m. n + m) ms

-- each number added to each of its list, the lists behind one another
abbrev pub deepened : List ℕ → List (List ℕ) → List ℕ
deepened [] mss = []
deepened (n ∷ ns) [] = []
deepened (n ∷ ns) (ms ∷ mss) = raised n ms ++ deepened ns mss

-- the number n for each of a list
abbrev pub for_each : {X : Type 0} → ℕ → List X → List ℕ
for_each n xs = map (λ x. n) xs
