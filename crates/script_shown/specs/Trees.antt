-- Answers of checks over the trees of a store, as they may be shown.
use Rattle.std.specs.Prelude.{List, All, Option, Some, None}
use Rattle.qterm.specs.Tree.{Tree}
use Rattle.qgoal.specs.Goal.{HasGoal}
use Rattle.deriv.specs.declared.cause.Cause.{Cause}
use Rattle.deriv.specs.Outcome.{goal_trees}
use Rattle.tac_cert.specs.Accepts.{CertFits}
use Rattle.cert_text.specs.CertText.{cert_text}
use Rattle.check_answer.specs.declared.answers.Answer.{Answer}
use Rattle.check_answer.specs.declared.answers.Answer.TheVariants as answers
use Rattle.check_answer.specs.declared.answers.Why.{Why}
use Rattle.check_answer.specs.declared.answers.Why.TheVariants as why
use Rattle.script_text.specs.Answers.{AnswerTree, Sat, Unsat, Unknown, Subgoals, NoSubgoals, Reason, Failed, Incomplete, Wide, Memory}

-- the reason of an unknown answer
abbrev pub reason_of : Why → Reason
reason_of (why.Failed cause) = Failed cause
reason_of (why.Undecided goals) = Incomplete
reason_of (why.LiftWide name) = Wide name
reason_of why.Memory = Memory

-- the cause by which an `apply` came to no goals; there is none where there was no memory
abbrev pub cause_of : Why → Option Cause
cause_of (why.Failed cause) = Some cause
cause_of (why.Undecided goals) = None
cause_of (why.LiftWide name) = None
cause_of why.Memory = None

-- an answer over the trees of a store, a certificate as its text
abbrev pub answer_tree : List Tree → Answer → AnswerTree
answer_tree ts (answers.Sat model) = Sat model
answer_tree ts (answers.Unsat cert) = Unsat (cert_text ts cert)
answer_tree ts (answers.Unknown reason) = Unknown (reason_of reason)
answer_tree ts (answers.Subgoals goals) = Subgoals (goal_trees ts goals)
answer_tree ts (answers.NoSubgoals reason) = NoSubgoals (cause_of reason)

-- the terms of an answer are in the store
abbrev pub HasAnswer : List Tree → Answer → Type 0
HasAnswer ts (answers.Sat model) = Unit {0}
HasAnswer ts (answers.Unsat cert) = CertFits ts cert
HasAnswer ts (answers.Unknown reason) = Unit {0}
HasAnswer ts (answers.Subgoals goals) = All (HasGoal ts) goals
HasAnswer ts (answers.NoSubgoals reason) = Unit {0}
