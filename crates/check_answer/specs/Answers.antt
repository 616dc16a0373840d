-- What a check answers, by the derivation that its strategy has on the assertions: a lifted model, a certificate, or why there is neither.
use Rattle.std.specs.Prelude.{◌≡◌, ℕ, List, [], All, Some, None, slice_index_or}
use Rattle.qterm.specs.Tree.{Tree}
use Rattle.qeval.specs.Value.{Valuation}
use Rattle.qgoal.specs.Goal.{GoalTree, HasGoal}
use Rattle.model_conv.specs.declared.step.LiftStep.{LiftStep}
use Rattle.model_conv.specs.Lift.{lifted, wide_at}
use Rattle.tac_cert.specs.declared.cert.Cert.{Cert}
use Rattle.tac_cert.specs.Accepts.{Accepts}
use Rattle.deriv.specs.Outcome.{CauseTree, cause_tree, HasCause, OutTree, Done, Failed, goal_trees, Verdict, SatAt, AllUnsat, Open, verdict}
use Rattle.deriv.specs.Trees.{Lists, Der, out_of}
use Rattle.deriv.specs.Above.{lifts}
use Rattle.check_answer.specs.declared.answers.Answer.{Answer}
use Rattle.check_answer.specs.declared.answers.Answer.TheVariants as answers
use Rattle.check_answer.specs.declared.answers.Why.TheVariants as why

-- sat by the empty model, carried back by the steps; or, where a number of theirs is outside 128 bits, the name that it is for
abbrev pub IsLifted : List LiftStep → Answer → Type 0
IsLifted steps (answers.Sat m) = (wide_at steps [] ≡ None) × (m ≡ lifted steps [])
IsLifted steps (answers.Unknown (why.LiftWide name)) = wide_at steps [] ≡ Some name
IsLifted steps _ = ⊥

-- unsat by a certificate with the number of the check, which is accepted against the assertions
abbrev pub IsRefuted : List Tree → ℕ → List Tree → Answer → Type 0
IsRefuted ts number asserts (answers.Unsat cert) = (cert.check ≡ number) × Accepts ts cert asserts
IsRefuted ts number asserts _ = ⊥

-- undecided, with these goals
abbrev pub IsUndecided : List Tree → List GoalTree → Answer → Type 0
IsUndecided ts hs (answers.Unknown (why.Undecided gs)) = All (HasGoal ts) gs × (goal_trees ts gs ≡ hs)
IsUndecided ts hs _ = ⊥

-- failed, with this cause
abbrev pub IsFailed : List Tree → CauseTree → Answer → Type 0
IsFailed ts c (answers.Unknown (why.Failed d)) = HasCause ts d × (cause_tree ts d ≡ c)
IsFailed ts c _ = ⊥

-- what goals, with the steps above each, are together: sat by the first one that is; else unsat where each is; else undecided
abbrev pub Decides : List Tree → ℕ → List Tree → List GoalTree → Lists → Verdict → Answer → Type 0
Decides ts number asserts hs lists (SatAt i) it = IsLifted (slice_index_or lists i []) it
Decides ts number asserts hs lists AllUnsat it = IsRefuted ts number asserts it
Decides ts number asserts hs lists Open it = IsUndecided ts hs it

abbrev pub DecidesOut : List Tree → ℕ → List Tree → Lists → OutTree → Answer → Type 0
DecidesOut ts number asserts lists (Done hs) it = Decides ts number asserts hs lists (verdict hs) it
DecidesOut ts number asserts lists (Failed c) it = IsFailed ts c it

-- the answer of the check of that number of these assertions, whose strategy has this derivation on them
abbrev pub IsAnswer : List Tree → ℕ → List Tree → Der → Answer → Type 0
IsAnswer ts number asserts d it = DecidesOut ts number asserts (lifts d) (out_of d) it

-- the answer where the strategy alone is run: the goals or the cause
abbrev pub TellsOut : List Tree → OutTree → Answer → Type 0
TellsOut ts (Done hs) (answers.Subgoals gs) = All (HasGoal ts) gs × (goal_trees ts gs ≡ hs)
TellsOut ts (Failed c) (answers.NoSubgoals (why.Failed d)) = HasCause ts d × (cause_tree ts d ≡ c)
TellsOut ts _ _ = ⊥

abbrev pub IsApplied : List Tree → Der → Answer → Type 0
IsApplied ts d it = TellsOut ts (out_of d) it

-- what holds of the model of an answer, and of its certificate, where there is one
abbrev pub IfSat : (Valuation → Type 0) → Answer → Type 0
IfSat P (answers.Sat m) = P m
IfSat P _ = Unit {0}

abbrev pub IfUnsat : (Cert → Type 0) → Answer → Type 0
IfUnsat P (answers.Unsat cert) = P cert
IfUnsat P _ = Unit {0}
