-- Records of checks over the trees of a store, and what the answers of records rest on.
use Rattle.std.specs.Prelude.{◌≡◌, ◌^◌, ◌-◌, List, length, map, All, slice_get, Option, option_map}
use Rattle.qterm.specs.Tree.{Tree}
use Rattle.qterm.specs.Store.{Has, Extends, trees_of}
use Rattle.qgoal.specs.Meaning.{IsModel}
use Rattle.cert_items.specs.Truth.{Unsatisfiable}
use Rattle.reducer_iface.specs.Names.{Names}
use Rattle.check_answer.specs.declared.answers.Answer.{Answer}
use Rattle.check_answer.specs.declared.answers.Answer.TheVariants as answers
use Rattle.check_answer.specs.Answers.{IfSat, IfUnsat}
use Rattle.check_record.specs.declared.kept.CheckRecord.{CheckRecord}
use Rattle.check_record.specs.Records.{IsChecked, IsApplied}
use Rattle.script_text.specs.Answers.{AnswerTree, RecordTree}
use Rattle.script_shown.specs.Trees.{answer_tree, HasAnswer}

-- a record over the trees of a store
abbrev pub record_tree : List Tree → CheckRecord → RecordTree
record_tree ts r = record { number = r.number; asserts = trees_of ts r.asserts; strategy = r.strategy; answer = answer_tree ts r.answer }

abbrev pub record_trees : List Tree → List CheckRecord → List RecordTree
record_trees ts rs = map (record_tree ts) rs

-- the answer of the last record
abbrev pub last_answer : List RecordTree → Option AnswerTree
last_answer rs = option_map (λ (r : RecordTree). r.answer) (slice_get rs (length rs - 1))

-- the assertions and the terms of the answer of a record are in the store
pub record HasRecord (ts : List Tree) (r : CheckRecord) : Type 0 where
  pub asserts : All (Has ts) r.asserts
  pub answer : HasAnswer ts r.answer

-- a model makes all assertions of its record true, and where there is a certificate no valuation does
pub record IsRight (ts : List Tree) (r : CheckRecord) : Type 0 where
  pub sat : IfSat (λ model. IsModel model (trees_of ts r.asserts)) r.answer
  pub unsat : IfUnsat (λ cert. Unsatisfiable (trees_of ts r.asserts)) r.answer

-- a record is that of a check or of an `apply`, by its answer
abbrev pub MadeBy : Names → List Tree → CheckRecord → Answer → Type 0
MadeBy names ts r (answers.Sat model) = IsChecked names ts r
MadeBy names ts r (answers.Unsat cert) = IsChecked names ts r
MadeBy names ts r (answers.Unknown reason) = IsChecked names ts r
MadeBy names ts r (answers.Subgoals goals) = IsApplied names ts r
MadeBy names ts r (answers.NoSubgoals reason) = IsApplied names ts r

-- the record is that of a check, or of an `apply`, with one worker and the whole pool, over the trees `at` of the store that it left
pub record IsMade (names : Names) (at : List Tree) (r : CheckRecord) : Type 0 where
  pub made : MadeBy names at r r.answer
  pub workers : r.workers ≡ 1
  pub pool : r.pool ≡ 2 ^ 62

-- a record of a store that has grown since
abbrev pub IsKept : Names → List Tree → CheckRecord → Type 0
IsKept names ts r = (at : List Tree) × IsMade names at r × Extends at ts
