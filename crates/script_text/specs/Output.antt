-- The text of a script, by the records of its checks: each command's text in order, and the line of the first fault.
use Rattle.std.specs.Prelude.{◌≡◌, ℕ, Bool as Truth, if◌then◌else◌, List, [], ◌∷◌, ◌++◌, Option, Some}
use Rattle.strat_text.specs.declared.strategy.Strategy.{Strategy}
use Rattle.smt_words.specs.declared.error.ScriptError.{ScriptError}
use Rattle.smt_words.specs.declared.error.What.TheVariants.{UnknownReducer}
use Rattle.smt_words.specs.Command.{CommandTree, SetLogic, PrintSuccess, SetOption, SetInfo, Declare, Define, Assert, Push, Pop, CheckSat, CheckSatUsing, Apply, GetModel, GetValue, GetProof, GetInfo, Echo, ResetAssertions, Exit, PlacedTree}
use Rattle.script_text.specs.Answers.{RecordTree, answer_text}
use Rattle.script_text.specs.Session.{SessionTree, hidden, telling, declared, asserted, pushed, popped, emptied, checked, IsCheck, IsApply}
use Rattle.script_text.specs.Shown.{Told, Text, Refused, model_shown, values_shown, proof_shown, info_shown, success_text, option_text, echo_text, fault_line}

-- what a script is run with: which strategies can run, and the script's bytes
pub record Setting : Type 0 where
  pub can_run : Strategy → Truth
  pub bytes : List ℕ

-- what a command does: it writes a text and leaves a session, it can't be done, or it has the assertions decided, or run through, by a strategy
pub data Deed : Type 0 where
  Writes : List ℕ → SessionTree → Deed
  Refuses : ScriptError → Deed
  Checks : Strategy → Deed
  Applies : Strategy → Deed

-- a command without other output
abbrev pub done : SessionTree → Deed
done s = Writes (success_text s.print_success) s

-- a command that shows something
abbrev pub shows : SessionTree → Told → Deed
shows s (Text text) = Writes text s
shows s (Refused error) = Refuses error

-- a reducer of the command's strategy isn't there
abbrev pub unknown_reducer : ℕ → ScriptError
unknown_reducer place = record { what = UnknownReducer; place = place }

-- a command with a strategy, which has to be one that can run
abbrev pub runs_by : Setting → ℕ → (Strategy → Deed) → Strategy → Deed
runs_by k place deed strategy = if k.can_run strategy then deed strategy else Refuses (unknown_reducer place)

-- What a command at a place does. The default strategy of a check has reducers that aren't there.
unfoldable pub deed : Setting → SessionTree → ℕ → CommandTree → Deed
deed k s place SetLogic = done s
deed k s place (PrintSuccess on) = done (telling s on)
deed k s place (SetOption known) = Writes (option_text known s.print_success) s
deed k s place SetInfo = done s
deed k s place (Declare name) = done (declared s name)
deed k s place Define = done (hidden s)
deed k s place (Assert t) = done (asserted s t)
deed k s place (Push levels) = done (pushed s levels)
deed k s place (Pop levels) = done (popped s levels)
deed k s place CheckSat = Refuses (unknown_reducer place)
deed k s place (CheckSatUsing strategy) = runs_by k place Checks strategy
deed k s place (Apply strategy) = runs_by k place Applies strategy
deed k s place GetModel = shows s (model_shown s.names place s.shown)
deed k s place (GetValue asked) = shows s (values_shown k.bytes asked place s.shown)
deed k s place GetProof = shows s (proof_shown place s.shown)
deed k s place (GetInfo info) = shows s (info_shown info place s.shown)
deed k s place (Echo text) = Writes (echo_text text) s
deed k s place ResetAssertions = done (emptied s)
deed k s place Exit = done s

abbrev pub deed_of : Setting → SessionTree → PlacedTree → Deed
deed_of k s p = deed k s p.place p.command

-- The text of a deed, and what comes after it by the session and the records that it leaves.
abbrev pub text_by : List ℕ → Deed → SessionTree → List RecordTree → (SessionTree → List RecordTree → List ℕ) → List ℕ
text_by bytes (Writes text next) s rs after = text ++ after next rs
text_by bytes (Refuses error) s rs after = fault_line bytes (Some error)
text_by bytes (Checks strategy) s [] after = []
text_by bytes (Checks strategy) s (r ∷ rs) after = answer_text r.answer ++ after (checked s r.answer) rs
text_by bytes (Applies strategy) s [] after = []
text_by bytes (Applies strategy) s (r ∷ rs) after = answer_text r.answer ++ after (hidden s) rs

-- The text of the commands from a session on, as far as the records go.
unfoldable pub output : Setting → SessionTree → List PlacedTree → Option ScriptError → List RecordTree → List ℕ
output k s [] fault rs = fault_line k.bytes fault
output k s (p ∷ ps) fault rs = text_by k.bytes (deed_of k s p) s rs (λ next more. output k next ps fault more)

-- how a script ends: over, with its first fault if there is one, or cut off where a record is missing
pub data End : Type 0 where
  over : Option ScriptError → End
  cut : End

-- How a script ends whose first command does this.
abbrev pub end_by : Deed → SessionTree → List RecordTree → (SessionTree → List RecordTree → End) → End
end_by (Writes text next) s rs after = after next rs
end_by (Refuses error) s rs after = over (Some error)
end_by (Checks strategy) s [] after = cut
end_by (Checks strategy) s (r ∷ rs) after = after (checked s r.answer) rs
end_by (Applies strategy) s [] after = cut
end_by (Applies strategy) s (r ∷ rs) after = after (hidden s) rs

-- How the commands from a session on end.
unfoldable pub end_of : Setting → SessionTree → List PlacedTree → Option ScriptError → List RecordTree → End
end_of k s [] fault rs = over fault
end_of k s (p ∷ ps) fault rs = end_by (deed_of k s p) s rs (λ next more. end_of k next ps fault more)

-- The record of a deed, if it makes one, before those that come after it.
abbrev pub records_by : Deed → SessionTree → List RecordTree → (SessionTree → List RecordTree → Type 0) → Type 0
records_by (Writes text next) s rs After = After next rs
records_by (Refuses error) s rs After = rs ≡ []
records_by (Checks strategy) s [] After = Unit {0}
records_by (Checks strategy) s (r ∷ rs) After = IsCheck s strategy r × After (checked s r.answer) rs
records_by (Applies strategy) s [] After = Unit {0}
records_by (Applies strategy) s (r ∷ rs) After = IsApply s strategy r × After (hidden s) rs

-- The records are those of the checks and of each `apply` in order, each with the assertions in force, up to the last one made.
unfoldable pub AreRecords : Setting → SessionTree → List PlacedTree → List RecordTree → Type 0
AreRecords k s [] rs = rs ≡ []
AreRecords k s (p ∷ ps) rs = records_by (deed_of k s p) s rs (λ next more. AreRecords k next ps more)

-- A deed leads from one session to another, with these records and this text.
abbrev pub Acts : Deed → SessionTree → List RecordTree → List ℕ → SessionTree → Type 0
Acts (Writes told next) s rs text new = (rs ≡ []) × (text ≡ told) × (new ≡ next)
Acts (Refuses error) s rs text new = ⊥
Acts (Checks strategy) s rs text new = (r : RecordTree) × IsCheck s strategy r × (rs ≡ r ∷ []) × (text ≡ answer_text r.answer) × (new ≡ checked s r.answer)
Acts (Applies strategy) s rs text new = (r : RecordTree) × IsApply s strategy r × (rs ≡ r ∷ []) × (text ≡ answer_text r.answer) × (new ≡ hidden s)
