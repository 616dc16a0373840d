-- The certificate of an answer has the number of the check, and is accepted against the assertions; and no derivation allows want of memory.
use Rattle.std.proofs.Common.{◌≡◌, ℕ, List, [], get_or}
use Rattle.qterm.specs.Tree.{Tree}
use Rattle.qgoal.specs.Goal.{GoalTree}
use Rattle.model_conv.specs.declared.step.LiftStep.{LiftStep}
use Rattle.tac_cert.specs.Accepts.{Accepts}
use Rattle.deriv.specs.Outcome.{CauseTree, OutTree, Done, Failed, Verdict, SatAt, AllUnsat, Open, verdict}
use Rattle.deriv.specs.Trees.{Lists, Der, out_of}
use Rattle.deriv.specs.Above.{lifts}
use Rattle.check_answer.specs.declared.answers.Answer.{Answer}
use Rattle.check_answer.specs.declared.answers.Answer.TheVariants as answers
use Rattle.check_answer.specs.declared.answers.Why.TheVariants as why
use Rattle.check_answer.specs.Answers.{IsLifted, IsRefuted, IsUndecided, IsFailed, Decides, DecidesOut, IsAnswer, TellsOut, IsApplied, IfUnsat}

module _ (ts : List Tree) (number : ℕ) (asserts : List Tree) where
  lifted_accepted : (steps : List LiftStep) (it : Answer) → IsLifted steps it → IfUnsat (λ cert. (cert.check ≡ number) × Accepts ts cert asserts) it
  lifted_accepted steps (answers.Sat m) is = tt
  lifted_accepted steps (answers.Unsat c) is = absurd is
  lifted_accepted steps (answers.Unknown w) is = tt
  lifted_accepted steps (answers.Subgoals gs) is = tt
  lifted_accepted steps (answers.NoSubgoals w) is = tt

  refuted_accepted : (it : Answer) → IsRefuted ts number asserts it → IfUnsat (λ cert. (cert.check ≡ number) × Accepts ts cert asserts) it
  refuted_accepted (answers.Sat m) is = tt
  refuted_accepted (answers.Unsat c) is = is
  refuted_accepted (answers.Unknown w) is = tt
  refuted_accepted (answers.Subgoals gs) is = tt
  refuted_accepted (answers.NoSubgoals w) is = tt

  undecided_accepted : (hs : List GoalTree) (it : Answer) → IsUndecided ts hs it → IfUnsat (λ cert. (cert.check ≡ number) × Accepts ts cert asserts) it
  undecided_accepted hs (answers.Sat m) is = tt
  undecided_accepted hs (answers.Unsat c) is = absurd is
  undecided_accepted hs (answers.Unknown w) is = tt
  undecided_accepted hs (answers.Subgoals gs) is = tt
  undecided_accepted hs (answers.NoSubgoals w) is = tt

  failed_accepted : (c : CauseTree) (it : Answer) → IsFailed ts c it → IfUnsat (λ cert. (cert.check ≡ number) × Accepts ts cert asserts) it
  failed_accepted c (answers.Sat m) is = tt
  failed_accepted c (answers.Unsat x) is = absurd is
  failed_accepted c (answers.Unknown w) is = tt
  failed_accepted c (answers.Subgoals gs) is = tt
  failed_accepted c (answers.NoSubgoals w) is = tt

  decided_accepted : (hs : List GoalTree) (lists : Lists) (v : Verdict) (it : Answer) → Decides ts number asserts hs lists v it → IfUnsat (λ cert. (cert.check ≡ number) × Accepts ts cert asserts) it
  decided_accepted hs lists (SatAt i) it is = lifted_accepted (get_or lists i []) it is
  decided_accepted hs lists AllUnsat it is = refuted_accepted it is
  decided_accepted hs lists Open it is = undecided_accepted hs it is

  out_accepted : (lists : Lists) (out : OutTree) (it : Answer) → DecidesOut ts number asserts lists out it → IfUnsat (λ cert. (cert.check ≡ number) × Accepts ts cert asserts) it
  out_accepted lists (Done hs) it is = decided_accepted hs lists (verdict hs) it is
  out_accepted lists (Failed c) it is = failed_accepted c it is

  pub answer_accepted : (d : Der) (it : Answer) → IsAnswer ts number asserts d it → IfUnsat (λ cert. (cert.check ≡ number) × Accepts ts cert asserts) it
  answer_accepted d it is = out_accepted (lifts d) (out_of d) it is

  -- want of memory
  decided_remembers : (hs : List GoalTree) (lists : Lists) (v : Verdict) → Decides ts number asserts hs lists v (answers.Unknown why.Memory) → ⊥
  decided_remembers hs lists (SatAt i) is = is
  decided_remembers hs lists AllUnsat is = is
  decided_remembers hs lists Open is = is

  out_remembers : (lists : Lists) (out : OutTree) → DecidesOut ts number asserts lists out (answers.Unknown why.Memory) → ⊥
  out_remembers lists (Done hs) is = decided_remembers hs lists (verdict hs) is
  out_remembers lists (Failed c) is = is

  pub answer_remembers : (d : Der) → IsAnswer ts number asserts d (answers.Unknown why.Memory) → ⊥
  answer_remembers d is = out_remembers (lifts d) (out_of d) is

tells_remember : (ts : List Tree) (out : OutTree) → TellsOut ts out (answers.NoSubgoals why.Memory) → ⊥
tells_remember ts (Done hs) is = is
tells_remember ts (Failed c) is = is

pub applied_remembers : (ts : List Tree) (d : Der) → IsApplied ts d (answers.NoSubgoals why.Memory) → ⊥
applied_remembers ts d is = tells_remember ts (out_of d) is
