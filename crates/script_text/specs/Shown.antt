-- What the commands write that show something: the last answer, the values of terms, and information.
use Rattle.std.specs.Prelude.{ℕ, Bool as Truth, if◌then◌else◌, List, [], ◌∷◌, ◌++◌, codes, map, is_some, Option, Some, None}
use Rattle.qterm.specs.declared.name.Name.{Name}
use Rattle.qeval.specs.Value.{Valuation}
use Rattle.qeval.specs.Eval.{val, wide}
use Rattle.smt_words.specs.declared.command.Info.{Info}
use Rattle.smt_words.specs.declared.command.Info.TheVariants as info
use Rattle.smt_words.specs.declared.error.ScriptError.{ScriptError}
use Rattle.smt_words.specs.declared.error.What.TheVariants.{NoAnswer, WideValue}
use Rattle.smt_words.specs.Command.{AskedTree}
use Rattle.answer_text.specs.declared.values.ValueRow.{ValueRow}
use Rattle.answer_text.specs.Models.{model_text}
use Rattle.answer_text.specs.Values.{values_text}
use Rattle.answer_text.specs.Errors.{error_line}
use Rattle.script_text.specs.Answers.{AnswerTree, Sat, Unsat, Unknown, Subgoals, NoSubgoals, reason_line}

-- what a command tells: a text, or why it can't be done
pub data Told : Type 0 where
  Text : List ℕ → Told
  Refused : ScriptError → Told

-- there is no answer to show, at the place of the command
abbrev pub no_answer : ℕ → Told
no_answer place = Refused (record { what = NoAnswer; place = place })

-- the value of a term passes 128 bits, at the place of the term
abbrev pub wide_value : ℕ → Told
wide_value place = Refused (record { what = WideValue; place = place })

-- the model after sat
abbrev pub model_shown : List Name → ℕ → Option AnswerTree → Told
model_shown names place None = no_answer place
model_shown names place (Some (Sat V)) = Text (model_text V names)
model_shown names place (Some (Unsat cert)) = no_answer place
model_shown names place (Some (Unknown reason)) = no_answer place
model_shown names place (Some (Subgoals goals)) = no_answer place
model_shown names place (Some (NoSubgoals cause)) = no_answer place

-- the place of the first asked term whose value, or that of a subterm of it, passes 128 bits
abbrev pub first_wide : Valuation → List AskedTree → Option ℕ
first_wide V [] = None
first_wide V (a ∷ rest) = if is_some (wide V a.term) then Some a.start else first_wide V rest

-- an asked term with its value
abbrev pub value_row : Valuation → AskedTree → ValueRow
value_row V a = record { start = a.start; end = a.end; value = val V a.term }

-- the values of the asked terms, unless one passes 128 bits
abbrev pub values_or : List ℕ → Valuation → List AskedTree → Option ℕ → Told
values_or bytes V asked None = Text (values_text bytes (map (value_row V) asked))
values_or bytes V asked (Some place) = wide_value place

-- the values of the asked terms after sat
abbrev pub values_shown : List ℕ → List AskedTree → ℕ → Option AnswerTree → Told
values_shown bytes asked place None = no_answer place
values_shown bytes asked place (Some (Sat V)) = values_or bytes V asked (first_wide V asked)
values_shown bytes asked place (Some (Unsat cert)) = no_answer place
values_shown bytes asked place (Some (Unknown reason)) = no_answer place
values_shown bytes asked place (Some (Subgoals goals)) = no_answer place
values_shown bytes asked place (Some (NoSubgoals cause)) = no_answer place

-- the certificate after unsat
abbrev pub proof_shown : ℕ → Option AnswerTree → Told
proof_shown place None = no_answer place
proof_shown place (Some (Sat V)) = no_answer place
proof_shown place (Some (Unsat cert)) = Text cert
proof_shown place (Some (Unknown reason)) = no_answer place
proof_shown place (Some (Subgoals goals)) = no_answer place
proof_shown place (Some (NoSubgoals cause)) = no_answer place

-- the reason after unknown
abbrev pub reason_shown : ℕ → Option AnswerTree → Told
reason_shown place None = no_answer place
reason_shown place (Some (Sat V)) = no_answer place
reason_shown place (Some (Unsat cert)) = no_answer place
reason_shown place (Some (Unknown reason)) = Text (reason_line reason)
reason_shown place (Some (Subgoals goals)) = no_answer place
reason_shown place (Some (NoSubgoals cause)) = no_answer place

-- what `get-info` tells
abbrev pub info_shown : Info → ℕ → Option AnswerTree → Told
info_shown info.Name place shown = Text (codes "(:name \"tacsmt\")\n")
info_shown info.Version place shown = Text (codes "(:version \"1\")\n")
info_shown info.ErrorBehavior place shown = Text (codes "(:error-behavior immediate-exit)\n")
info_shown info.ReasonUnknown place shown = reason_shown place shown
info_shown info.Other place shown = Text (codes "unsupported\n")

-- what a command without other output writes
abbrev pub success_text : Truth → List ℕ
success_text on = if on then codes "success\n" else []

-- what an option writes, where success is told or not: it may be one that there isn't
abbrev pub option_text : Truth → Truth → List ℕ
option_text known on = if known then success_text on else codes "unsupported\n"

-- what `echo` writes of a string with its quotes
abbrev pub echo_text : List ℕ → List ℕ
echo_text text = text ++ 10 ∷ []

-- the line of a fault of these bytes, if there is one
unfoldable pub fault_line : List ℕ → Option ScriptError → List ℕ
fault_line bytes None = []
fault_line bytes (Some error) = error_line bytes error.what error.place
