-- What a form is read as: a strategy, or the first fault. The grammar and the list of faults say what that is; this is
-- the same once more, as the reader finds it.
use Rattle.std.specs.Prelude.{⊤, ℕ, zero, suc, not, if◌then◌else◌, nat_le, ℤ, List, [], ◌∷◌, ◌++◌, length, Option, None, Some, Result, Ok, Err}
use Rattle.sexp_read.specs.Lexical.{is_simple_symbol}
use Rattle.sexp_read.specs.declared.sexp.AtomKind.{AtomKind}
use Rattle.sexp_read.specs.declared.sexp.AtomKind.TheVariants as kind
use Rattle.strat_text.specs.declared.error.StratError.{StratError}
use Rattle.strat_text.specs.declared.error.StratError.TheVariants.{UnknownReducer, UnknownProbe, UnknownParam, BadStrategy}
use Rattle.strat_text.specs.declared.words.Head.{Head}
use Rattle.strat_text.specs.declared.words.Head.TheVariants as head
use Rattle.strat_text.specs.declared.words.Operator.{Operator}
use Rattle.strat_text.specs.declared.words.Operator.TheVariants as operator
use Rattle.strat_text.specs.declared.probe.ProbeExpr.{ProbeExpr}
use Rattle.strat_text.specs.declared.probe.ProbeExpr.TheVariants as probe
use Rattle.strat_text.specs.declared.strategy.ParamKey.{ParamKey}
use Rattle.strat_text.specs.declared.strategy.Strategy.{Strategy}
use Rattle.strat_text.specs.declared.strategy.Strategy.TheVariants as strategy
use Rattle.strat_text.specs.declared.strategy.TheConstants.{BRANCHES, TURNS}
use Rattle.strat_text.specs.Form.{Form, atom, list, Forms, none, more, place_of, numeral_of, numeral_value}
use Rattle.strat_text.specs.Words.{head_in, operator_in, probe_named, key_of}
use Rattle.strat_text.specs.Number.{number_of, minus_of, positive, is_wide, is_within}
use Rattle.strat_text.specs.Grammar.{Names, is_known}

-- the first fault of two readings, or what both give
abbrev pub and_then : {A B : Type 0} → Result A StratError → (A → Result B StratError) → Result B StratError
and_then (Ok a) next = next a
and_then (Err e) next = Err e

-- one more in front
abbrev pub in_front : {A : Type 0} → Result A StratError → Result (List A) StratError → Result (List A) StratError
in_front first rest = and_then first (λ a. and_then rest (λ more. Ok (a ∷ more)))

-- the one item; the two items; the items, of which there are at least so many
abbrev pub one_of : {A : Type 0} → ℕ → List A → Result A StratError
one_of at [] = Err (BadStrategy at)
one_of at (a ∷ []) = Ok a
one_of at (a ∷ b ∷ rest) = Err (BadStrategy at)

abbrev pub two_of : {A : Type 0} → ℕ → List A → Result (A × A) StratError
two_of at [] = Err (BadStrategy at)
two_of at (a ∷ []) = Err (BadStrategy at)
two_of at (a ∷ b ∷ []) = Ok (a, b)
two_of at (a ∷ b ∷ c ∷ rest) = Err (BadStrategy at)

abbrev pub least_of : {A : Type 0} → ℕ → ℕ → List A → Result (List A) StratError
least_of least at items = if nat_le least (length items) then Ok items else Err (BadStrategy at)

-- the form ends here
abbrev pub nothing : ℕ → Forms → Result ⊤ StratError
nothing at none = Ok tt
nothing at (more form forms) = Err (BadStrategy at)

abbrev pub only : {A : Type 0} → ℕ → Forms → A → Result A StratError
only at forms a = and_then (nothing at forms) (λ _. Ok a)

-- a number in its range; another one is told at a place
abbrev pub probe_number : ℕ → Option ℤ → Result ProbeExpr StratError
probe_number at None = Err (BadStrategy at)
probe_number at (Some z) = if is_wide z then Err (BadStrategy at) else Ok (probe.Num z)

-- the probe that a word is
abbrev pub probe_word : ℕ → Option ProbeExpr → Result ProbeExpr StratError
probe_word at None = Err (UnknownProbe at)
probe_word at (Some p) = Ok p

-- an atom as a probe
abbrev pub probe_atom : AtomKind → List ℕ → ℕ → Result ProbeExpr StratError
probe_atom kind.Symbol text at = probe_word at (probe_named text)
probe_atom kind.Quoted text at = Err (BadStrategy at)
probe_atom kind.Numeral text at = probe_number at (positive (numeral_value kind.Numeral text))
probe_atom kind.Decimal text at = Err (BadStrategy at)
probe_atom kind.Bits text at = Err (BadStrategy at)
probe_atom kind.Text text at = Err (BadStrategy at)
probe_atom kind.Keyword text at = Err (BadStrategy at)

-- an operator over what its arguments are read as
abbrev pub probe_combined : ℕ → Operator → List ProbeExpr → Result ProbeExpr StratError
probe_combined at operator.Minus parts = Err (BadStrategy at)
probe_combined at operator.Lt parts = and_then (two_of at parts) (λ both. Ok (probe.Lt both.0 both.1))
probe_combined at operator.Le parts = and_then (two_of at parts) (λ both. Ok (probe.Le both.0 both.1))
probe_combined at operator.Gt parts = and_then (two_of at parts) (λ both. Ok (probe.Gt both.0 both.1))
probe_combined at operator.Ge parts = and_then (two_of at parts) (λ both. Ok (probe.Ge both.0 both.1))
probe_combined at operator.Eq parts = and_then (two_of at parts) (λ both. Ok (probe.Eq both.0 both.1))
probe_combined at operator.And parts = and_then (least_of 1 at parts) (λ all. Ok (probe.And all))
probe_combined at operator.Or parts = and_then (least_of 1 at parts) (λ all. Ok (probe.Or all))
probe_combined at operator.Not parts = and_then (one_of at parts) (λ part. Ok (probe.Not part))

-- a form of a probe by its word, from its arguments and what they are read as
abbrev pub probe_form : ℕ → Forms → Result (List ProbeExpr) StratError → Option Operator → Result ProbeExpr StratError
probe_form at args parts None = Err (BadStrategy at)
probe_form at args parts (Some operator.Minus) = probe_number at (minus_of args)
probe_form at args parts (Some operator.Lt) = and_then parts (probe_combined at operator.Lt)
probe_form at args parts (Some operator.Le) = and_then parts (probe_combined at operator.Le)
probe_form at args parts (Some operator.Gt) = and_then parts (probe_combined at operator.Gt)
probe_form at args parts (Some operator.Ge) = and_then parts (probe_combined at operator.Ge)
probe_form at args parts (Some operator.Eq) = and_then parts (probe_combined at operator.Eq)
probe_form at args parts (Some operator.And) = and_then parts (probe_combined at operator.And)
probe_form at args parts (Some operator.Or) = and_then parts (probe_combined at operator.Or)
probe_form at args parts (Some operator.Not) = and_then parts (probe_combined at operator.Not)

unfoldable mutual
  -- a form as a probe
  pub read_probe : Form → Result ProbeExpr StratError
  read_probe (atom is text at) = probe_atom is text at
  read_probe (list none at) = Err (BadStrategy at)
  read_probe (list (more first args) at) = probe_form at args (read_probes args) (operator_in first)

  -- each of the forms as a probe
  pub read_probes : Forms → Result (List ProbeExpr) StratError
  read_probes none = Ok []
  read_probes (more form forms) = in_front (read_probe form) (read_probes forms)

-- one more setting in front; none where one has another shape
abbrev pub with_setting : Option (ParamKey × ℤ) → Option (List (ParamKey × ℤ)) → Option (List (ParamKey × ℤ))
with_setting None rest = None
with_setting (Some setting) None = None
with_setting (Some setting) (Some rest) = Some (setting ∷ rest)

-- the value of a parameter
abbrev pub value_read : ℕ → ParamKey → Option ℤ → Result (Option (ParamKey × ℤ)) StratError
value_read at key None = Ok None
value_read at key (Some z) = if is_within key z then Ok (Some (key, z)) else Err (BadStrategy at)

-- the parameter that a keyword is
abbrev pub key_read : ℕ → Option ParamKey → Result (Option ParamKey) StratError
key_read at None = Err (UnknownParam at)
key_read at (Some key) = Ok (Some key)

-- an atom as a parameter; none where it is no keyword
abbrev pub key_atom : AtomKind → List ℕ → ℕ → Result (Option ParamKey) StratError
key_atom kind.Symbol text at = Ok None
key_atom kind.Quoted text at = Ok None
key_atom kind.Numeral text at = Ok None
key_atom kind.Decimal text at = Ok None
key_atom kind.Bits text at = Ok None
key_atom kind.Text text at = Ok None
key_atom kind.Keyword text at = key_read at (key_of text)

-- a form as a parameter
abbrev pub read_key : Form → Result (Option ParamKey) StratError
read_key (atom is text at) = key_atom is text at
read_key (list items at) = Ok None

-- a form as the value of a parameter, where there is one
abbrev pub read_value : Form → Option ParamKey → Result (Option (ParamKey × ℤ)) StratError
read_value form None = Ok None
read_value form (Some key) = value_read (place_of form) key (number_of form)

-- a parameter and its value
abbrev pub read_setting : Form → Form → Result (Option (ParamKey × ℤ)) StratError
read_setting key value = and_then (read_key key) (read_value value)

-- the forms as settings; none where one has another shape, which is told last
unfoldable pub read_settings : Forms → Result (Option (List (ParamKey × ℤ))) StratError
read_settings none = Ok (Some [])
read_settings (more key none) = and_then (read_key key) (λ _. Ok None)
read_settings (more key (more value rest)) =
    and_then (read_setting key value) (λ setting. and_then (read_settings rest) (λ settings. Ok (with_setting setting settings)))

-- a setting as the only one
abbrev pub alone : Option (ParamKey × ℤ) → Option (List (ParamKey × ℤ))
alone None = None
alone (Some setting) = Some (setting ∷ [])

-- settings behind those so far
abbrev pub appended : Option (List (ParamKey × ℤ)) → Option (List (ParamKey × ℤ)) → Option (List (ParamKey × ℤ))
appended None rest = None
appended (Some front) None = None
appended (Some front) (Some rest) = Some (front ++ rest)

-- a strategy with settings, if there is one
abbrev pub with_settings : ℕ → Strategy → Option (List (ParamKey × ℤ)) → Result Strategy StratError
with_settings at s None = Err (BadStrategy at)
with_settings at s (Some []) = Err (BadStrategy at)
with_settings at s (Some (setting ∷ settings)) = Ok (strategy.Params s (setting ∷ settings))

-- a name as a strategy
abbrev pub name_read : Names → List ℕ → ℕ → Result Strategy StratError
name_read names text at =
    if not (is_simple_symbol text) then Err (BadStrategy at) else
    if is_known names text then Ok (strategy.Prim text) else Err (UnknownReducer at)

-- an atom as a strategy
abbrev pub strategy_atom : Names → AtomKind → List ℕ → ℕ → Result Strategy StratError
strategy_atom names kind.Symbol text at = name_read names text at
strategy_atom names kind.Quoted text at = Err (BadStrategy at)
strategy_atom names kind.Numeral text at = Err (BadStrategy at)
strategy_atom names kind.Decimal text at = Err (BadStrategy at)
strategy_atom names kind.Bits text at = Err (BadStrategy at)
strategy_atom names kind.Text text at = Err (BadStrategy at)
strategy_atom names kind.Keyword text at = Err (BadStrategy at)

-- the forms over strategies, where they have as many as they may
abbrev pub then_of : ℕ → List Strategy → Result Strategy StratError
then_of at parts = and_then (least_of 2 at parts) (λ all. Ok (strategy.Then all))

abbrev pub or_else_of : ℕ → List Strategy → Result Strategy StratError
or_else_of at parts = and_then (least_of 2 at parts) (λ all. Ok (strategy.OrElse all))

abbrev pub branches : ℕ → List Strategy → Result Strategy StratError
branches at parts = if nat_le (length parts) BRANCHES then Ok (strategy.ParOr parts) else Err (BadStrategy at)

abbrev pub par_or_of : ℕ → List Strategy → Result Strategy StratError
par_or_of at parts = and_then (least_of 2 at parts) (branches at)

abbrev pub par_then_of : ℕ → List Strategy → Result Strategy StratError
par_then_of at parts = and_then (two_of at parts) (λ both. Ok (strategy.ParThen both.0 both.1))

abbrev pub if_of : ℕ → ProbeExpr → List Strategy → Result Strategy StratError
if_of at p parts = and_then (two_of at parts) (λ both. Ok (strategy.If p both.0 both.1))

abbrev pub when_of : ℕ → ProbeExpr → List Strategy → Result Strategy StratError
when_of at p parts = and_then (one_of at parts) (λ part. Ok (strategy.When p part))

abbrev pub fail_if_of : ℕ → Forms → ProbeExpr → Result Strategy StratError
fail_if_of at args p = only at args (strategy.FailIf p)

-- a number up to another one
abbrev pub within : ℕ → ℕ → ℕ → Result ℕ StratError
within most place n = if nat_le n most then Ok n else Err (BadStrategy place)

-- a numeral up to a number
abbrev pub limited : ℕ → ℕ → Form → Option ℕ → Result ℕ StratError
limited at most form None = Err (BadStrategy at)
limited at most form (Some n) = within most (place_of form) n

-- what stands behind the strategy of a `repeat`
abbrev pub repeat_of : ℕ → Forms → Strategy → Result Strategy StratError
repeat_of at none s = Ok (strategy.Repeat s TURNS)
repeat_of at (more form forms) s = and_then (limited at 4294967295 form (numeral_of form)) (λ turns. only at forms (strategy.Repeat s turns))

-- what stands behind the strategy of a `try-for`
abbrev pub try_for_of : ℕ → Forms → Strategy → Result Strategy StratError
try_for_of at none s = Err (BadStrategy at)
try_for_of at (more form forms) s = and_then (limited at 4611686018427387904 form (numeral_of form)) (λ limit. only at forms (strategy.TryFor s limit))

-- what stands behind the strategy of a `using-params`
abbrev pub params_of : ℕ → Forms → Strategy → Result Strategy StratError
params_of at args s = and_then (read_settings args) (with_settings at s)

-- A form of a strategy by its word, from its arguments: the first one as a probe and as a strategy, the others as they stand
-- and as strategies.
abbrev pub strategy_form : ℕ → Form → Forms → Result Strategy StratError → Result (List Strategy) StratError → Option Head → Result Strategy StratError
strategy_form at arg args part parts None = Err (BadStrategy at)
strategy_form at arg args part parts (Some head.Then) = and_then (in_front part parts) (then_of at)
strategy_form at arg args part parts (Some head.OrElse) = and_then (in_front part parts) (or_else_of at)
strategy_form at arg args part parts (Some head.ParOr) = and_then (in_front part parts) (par_or_of at)
strategy_form at arg args part parts (Some head.ParThen) = and_then (in_front part parts) (par_then_of at)
strategy_form at arg args part parts (Some head.If) = and_then (read_probe arg) (λ p. and_then parts (if_of at p))
strategy_form at arg args part parts (Some head.When) = and_then (read_probe arg) (λ p. and_then parts (when_of at p))
strategy_form at arg args part parts (Some head.FailIf) = and_then (read_probe arg) (fail_if_of at args)
strategy_form at arg args part parts (Some head.Repeat) = and_then part (repeat_of at args)
strategy_form at arg args part parts (Some head.UsingParams) = and_then part (params_of at args)
strategy_form at arg args part parts (Some head.TryFor) = and_then part (try_for_of at args)

unfoldable mutual
  -- a form as a strategy, where so many forms may stand in one another
  pub read_strategy : Names → Form → ℕ → Result Strategy StratError
  read_strategy names (atom is text at) zero = Err (BadStrategy at)
  read_strategy names (atom is text at) (suc left) = strategy_atom names is text at
  read_strategy names (list items at) zero = Err (BadStrategy at)
  read_strategy names (list none at) (suc left) = Err (BadStrategy at)
  read_strategy names (list (more first none) at) (suc left) = Err (BadStrategy at)
  read_strategy names (list (more first (more arg args)) at) (suc left) =
      strategy_form at arg args (read_strategy names arg left) (read_each names args left) (head_in first)

  -- each of the forms as a strategy
  pub read_each : Names → Forms → ℕ → Result (List Strategy) StratError
  read_each names none left = Ok []
  read_each names (more form forms) left = in_front (read_strategy names form left) (read_each names forms left)

-- a form of a strategy by its word, with its arguments
abbrev pub strategy_by : Names → ℕ → Form → Forms → ℕ → Head → Result Strategy StratError
strategy_by names at arg args left word = strategy_form at arg args (read_strategy names arg left) (read_each names args left) (Some word)

-- the items of a list as a strategy, whose parts have so many levels
abbrev pub list_read : Names → ℕ → ℕ → Forms → Result Strategy StratError
list_read names at left none = Err (BadStrategy at)
list_read names at left (more first none) = Err (BadStrategy at)
list_read names at left (more first (more arg args)) = strategy_form at arg args (read_strategy names arg left) (read_each names args left) (head_in first)
