-- Commands without terms: their arguments from left to right, then their number and kind.
use Rattle.std.specs.Prelude.{ℕ, ◌+◌, Bool, true, false, if◌then◌else◌, nat_le, List, Option, None, Some, Result, Ok, Err, ⊤}
use Rattle.qterm.specs.declared.name.Name.{Name}
use Rattle.qterm.specs.declared.name.Sort.{Sort}
use Rattle.strat_text.specs.Form.{Form, atom, list, Forms, none, more, place_of, digits_of, value_of}
use Rattle.strat_text.specs.Grammar.{Names}
use Rattle.strat_text.specs.Reading.{read_strategy}
use Rattle.strat_text.specs.declared.strategy.Strategy.{Strategy}
use Rattle.strat_text.specs.declared.strategy.TheConstants.{DEPTH}
use Rattle.strat_text.specs.declared.error.StratError.{StratError}
use Rattle.strat_text.specs.declared.error.StratError.TheVariants as strat
use Rattle.smt_theory.specs.Operator.{truth_named}
use Rattle.smt_words.specs.declared.error.ScriptError.{ScriptError}
use Rattle.smt_words.specs.declared.error.What.TheVariants.{BadShape, UnknownSymbol, BadLogic, PushTooMany, PopTooMany, UnknownReducer, UnknownProbe, UnknownParam, BadStrategy}
use Rattle.smt_words.specs.declared.error.ReadError.{ReadError}
use Rattle.smt_words.specs.declared.error.ReadError.TheVariants.{Refused, Memory}
use Rattle.smt_names.specs.Table.{Symbol}
use Rattle.smt_names.specs.Text.{name_of, keyword_of, string_of}
use Rattle.smt_names.specs.Reading.{refusal}
use Rattle.smt_names.specs.Names.{new_name}
use Rattle.smt_words.specs.declared.word.Word.{Word}
use Rattle.smt_words.specs.declared.word.Word.TheVariants as word
use Rattle.smt_words.specs.declared.word.OptionKind.{OptionKind}
use Rattle.smt_words.specs.declared.word.OptionKind.TheVariants as kind
use Rattle.smt_words.specs.Command.{CommandTree, SetLogic, PrintSuccess, SetOption, SetInfo, Declare, Push, Pop, CheckSat, CheckSatUsing, Apply, GetModel, GetProof, GetInfo, Echo, ResetAssertions, Exit}
use Rattle.smt_words.specs.Words.{is_logic, sort_named, option_kind, info_named}

-- a test, or its refusal
abbrev pub Test : Type 0 → Type 0
Test A = Result A ScriptError

-- one test after another
abbrev pub and : {A B : Type 0} → Test A → (A → Test B) → Test B
and (Ok a) next = next a
and (Err e) next = Err e

-- wrong arguments of the command at a place
abbrev pub bad : {A : Type 0} → ℕ → Test A
bad at = Err (refusal BadShape at)

-- nothing more stands here
abbrev pub only : {A : Type 0} → ℕ → Forms → A → Test A
only at none a = Ok a
only at (more form forms) a = bad at

abbrev pub nothing_more : ℕ → Forms → Test ⊤
nothing_more at none = Ok tt
nothing_more at (more form forms) = bad at

-- ---- logics, sorts and names
abbrev pub logic_in : ℕ → ℕ → Option (List ℕ) → Test ⊤
logic_in at place None = bad at
logic_in at place (Some text) = if is_logic text then Ok tt else Err (refusal BadLogic place)

abbrev pub read_logic : ℕ → Forms → Test CommandTree
read_logic at none = bad at
read_logic at (more form rest) = and (logic_in at (place_of form) (name_of form)) (λ _. only at rest SetLogic)

abbrev pub known_sort : ℕ → Option Sort → Test Sort
known_sort place None = Err (refusal UnknownSymbol place)
known_sort place (Some s) = Ok s

abbrev pub sort_in : ℕ → ℕ → Option (List ℕ) → Test Sort
sort_in at place None = bad at
sort_in at place (Some text) = known_sort place (sort_named text)

abbrev pub read_sort : ℕ → Form → Test Sort
read_sort at form = sort_in at (place_of form) (name_of form)

-- the name with a text and a sort
abbrev pub name_with : List ℕ → Sort → Name
name_with text s = record { text = text; sort = s }

-- a sort, and nothing behind it
abbrev pub declared : ℕ → Forms → List ℕ → Test CommandTree
declared at none text = bad at
declared at (more form rest) text = and (read_sort at form) (λ s. only at rest (Declare (name_with text s)))

abbrev pub read_const : List Symbol → ℕ → Forms → Test CommandTree
read_const symbols at none = bad at
read_const symbols at (more form rest) = and (new_name symbols at form) (declared at rest)

-- an empty list of sorts
abbrev pub no_sorts : ℕ → Form → Test ⊤
no_sorts at (atom is text place) = bad at
no_sorts at (list none place) = Ok tt
no_sorts at (list (more form forms) place) = bad at

abbrev pub fun_declared : ℕ → Forms → List ℕ → Test CommandTree
fun_declared at none text = bad at
fun_declared at (more form rest) text = and (no_sorts at form) (λ _. declared at rest text)

abbrev pub read_fun : List Symbol → ℕ → Forms → Test CommandTree
read_fun symbols at none = bad at
read_fun symbols at (more form rest) = and (new_name symbols at form) (fun_declared at rest)

-- ---- options
-- the truth value that a form is
abbrev pub truth_in : Option (List ℕ) → Option Bool
truth_in None = None
truth_in (Some text) = truth_named text

abbrev pub truth_of : Form → Option Bool
truth_of form = truth_in (name_of form)

abbrev pub is_there : {A : Type 0} → Option A → Bool
is_there None = false
is_there (Some a) = true

abbrev pub print_success : ℕ → Option Bool → Test CommandTree
print_success at None = bad at
print_success at (Some on) = Ok (PrintSuccess on)

-- an option with a value that is no keyword
abbrev pub option_with : ℕ → OptionKind → Form → Test CommandTree
option_with at kind.PrintSuccess value = print_success at (truth_of value)
option_with at kind.Truth value = if is_there (truth_of value) then Ok (SetOption true) else bad at
option_with at kind.Number value = if is_there (digits_of value) then Ok (SetOption true) else bad at
option_with at kind.Other value = Ok (SetOption false)

-- an option without a value
abbrev pub option_alone : ℕ → OptionKind → Test CommandTree
option_alone at kind.PrintSuccess = bad at
option_alone at kind.Truth = bad at
option_alone at kind.Number = bad at
option_alone at kind.Other = Ok (SetOption false)

-- what stands behind the key of an option
abbrev pub option_by : ℕ → OptionKind → Forms → Test CommandTree
option_by at kind none = option_alone at kind
option_by at kind (more value none) = if is_there (keyword_of value) then bad at else option_with at kind value
option_by at kind (more value (more form forms)) = bad at

abbrev pub option_keyed : ℕ → Forms → Option (List ℕ) → Test CommandTree
option_keyed at rest None = bad at
option_keyed at rest (Some key) = option_by at (option_kind key) rest

abbrev pub read_option : ℕ → Forms → Test CommandTree
read_option at none = bad at
read_option at (more key rest) = option_keyed at rest (keyword_of key)

-- what stands behind the key of an attribute
abbrev pub info_value : ℕ → Forms → Test CommandTree
info_value at none = Ok SetInfo
info_value at (more value none) = if is_there (keyword_of value) then bad at else Ok SetInfo
info_value at (more value (more form forms)) = bad at

abbrev pub read_set_info : ℕ → Forms → Test CommandTree
read_set_info at none = bad at
read_set_info at (more key rest) = if is_there (keyword_of key) then info_value at rest else bad at

abbrev pub info_keyed : ℕ → Forms → Option (List ℕ) → Test CommandTree
info_keyed at rest None = bad at
info_keyed at rest (Some key) = only at rest (GetInfo (info_named key))

abbrev pub read_get_info : ℕ → Forms → Test CommandTree
read_get_info at none = bad at
read_get_info at (more key rest) = info_keyed at rest (keyword_of key)

-- ---- levels
-- the most levels
abbrev pub most_levels : ℕ
most_levels = 65536

abbrev pub pushed : ℕ → ℕ → ℕ → Test CommandTree
pushed at levels n = if nat_le (levels + n) most_levels then Ok (Push n) else Err (refusal PushTooMany at)

abbrev pub popped : ℕ → ℕ → ℕ → Test CommandTree
popped at levels n = if nat_le n levels then Ok (Pop n) else Err (refusal PopTooMany at)

-- how many levels, 1 where nothing is said
abbrev pub counted : ℕ → Forms → Option ℕ → Test ℕ
counted at rest None = bad at
counted at rest (Some n) = only at rest n

abbrev pub read_count : ℕ → Forms → Test ℕ
read_count at none = Ok 1
read_count at (more form rest) = counted at rest (value_of (digits_of form))

-- ---- strategies
-- the refusal of a strategy
abbrev pub strategy_refusal : StratError → ScriptError
strategy_refusal (strat.UnknownReducer place) = refusal UnknownReducer place
strategy_refusal (strat.UnknownProbe place) = refusal UnknownProbe place
strategy_refusal (strat.UnknownParam place) = refusal UnknownParam place
strategy_refusal (strat.BadStrategy place) = refusal BadStrategy place
strategy_refusal (strat.Memory cause) = refusal BadStrategy 0

-- the error of the code for it
abbrev pub told_error : StratError → ReadError
told_error (strat.UnknownReducer place) = Refused (refusal UnknownReducer place)
told_error (strat.UnknownProbe place) = Refused (refusal UnknownProbe place)
told_error (strat.UnknownParam place) = Refused (refusal UnknownParam place)
told_error (strat.BadStrategy place) = Refused (refusal BadStrategy place)
told_error (strat.Memory cause) = Memory cause

abbrev pub strategy_of : Result Strategy StratError → Test Strategy
strategy_of (Ok s) = Ok s
strategy_of (Err e) = Err (strategy_refusal e)

-- the command that runs a strategy
abbrev pub using : Bool → Strategy → CommandTree
using true s = CheckSatUsing s
using false s = Apply s

-- a strategy, and nothing behind it
abbrev pub read_using : Names → Bool → ℕ → Forms → Test CommandTree
read_using names checks at none = bad at
read_using names checks at (more form rest) = and (strategy_of (read_strategy names form DEPTH)) (λ s. only at rest (using checks s))

-- ---- texts
abbrev pub echoed : ℕ → Forms → Option (List ℕ) → Test CommandTree
echoed at rest None = bad at
echoed at rest (Some text) = only at rest (Echo text)

abbrev pub read_echo : ℕ → Forms → Test CommandTree
read_echo at none = bad at
read_echo at (more form rest) = echoed at rest (string_of form)

-- ---- commands
-- A command without terms, by its word, with its arguments, the symbols in force and how many levels are open.
unfoldable pub plain_command : Names → List Symbol → ℕ → Word → ℕ → Forms → Test CommandTree
plain_command names symbols levels word.SetLogic at args = read_logic at args
plain_command names symbols levels word.SetOption at args = read_option at args
plain_command names symbols levels word.SetInfo at args = read_set_info at args
plain_command names symbols levels word.DeclareConst at args = read_const symbols at args
plain_command names symbols levels word.DeclareFun at args = read_fun symbols at args
plain_command names symbols levels word.Push at args = and (read_count at args) (pushed at levels)
plain_command names symbols levels word.Pop at args = and (read_count at args) (popped at levels)
plain_command names symbols levels word.CheckSat at args = only at args CheckSat
plain_command names symbols levels word.CheckSatUsing at args = read_using names true at args
plain_command names symbols levels word.Apply at args = read_using names false at args
plain_command names symbols levels word.GetModel at args = only at args GetModel
plain_command names symbols levels word.GetProof at args = only at args GetProof
plain_command names symbols levels word.GetInfo at args = read_get_info at args
plain_command names symbols levels word.Echo at args = read_echo at args
plain_command names symbols levels word.ResetAssertions at args = only at args ResetAssertions
plain_command names symbols levels word.Exit at args = only at args Exit
plain_command names symbols levels other at args = bad at
