-- Answers of checks as they may be shown, and the records of checks, over the trees of a store.
use Rattle.std.specs.Prelude.{ℕ, List, codes, Option, Some, None}
use Rattle.qterm.specs.declared.name.Name.{Name}
use Rattle.qterm.specs.Tree.{Tree}
use Rattle.qeval.specs.Value.{Valuation}
use Rattle.qgoal.specs.Goal.{GoalTree}
use Rattle.deriv.specs.declared.cause.Cause.{Cause}
use Rattle.strat_text.specs.declared.strategy.Strategy.{Strategy}
use Rattle.answer_text.specs.Goals.{goals_text}
use Rattle.answer_text.specs.Lines.{failed_line, failed_reason, wide_reason}

-- why an answer is unknown: the strategy failed, it left goals that aren't decided, the value of a name passes 128 bits, or there was no memory
pub data Reason : Type 0 where
  Failed : Cause → Reason
  Incomplete : Reason
  Wide : Name → Reason
  Memory : Reason

-- what may be shown of an answer: a model, the text of a certificate, a reason, goals, or a cause; no cause stands for want of memory
pub data AnswerTree : Type 0 where
  Sat : Valuation → AnswerTree
  Unsat : List ℕ → AnswerTree
  Unknown : Reason → AnswerTree
  Subgoals : List GoalTree → AnswerTree
  NoSubgoals : Option Cause → AnswerTree

-- the record of a check, or of an `apply`
pub record RecordTree : Type 0 where
  pub number : ℕ
  pub asserts : List Tree
  pub strategy : Strategy
  pub answer : AnswerTree

-- the line of an `apply` that came to no goals
abbrev pub failure_line : Option Cause → List ℕ
failure_line (Some cause) = failed_line cause
failure_line None = codes "(failed memout)\n"

-- what a check or an `apply` writes
unfoldable pub answer_text : AnswerTree → List ℕ
answer_text (Sat V) = codes "sat\n"
answer_text (Unsat cert) = codes "unsat\n"
answer_text (Unknown reason) = codes "unknown\n"
answer_text (Subgoals goals) = goals_text goals
answer_text (NoSubgoals cause) = failure_line cause

-- the line of a reason
unfoldable pub reason_line : Reason → List ℕ
reason_line (Failed cause) = failed_reason cause
reason_line Incomplete = codes "(:reason-unknown incomplete)\n"
reason_line (Wide name) = wide_reason name
reason_line Memory = codes "(:reason-unknown memout)\n"
