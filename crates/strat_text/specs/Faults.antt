-- What is wrong with a form, as the list of all its faults in order: of a form first its word, then its arguments from left to
-- right, then its shape. The first of them is the one that is told.
use Rattle.std.specs.Prelude.{ℕ, zero, suc, ◌-◌, ◌^◌, ◌&&◌, not, Bool, true, false, if◌then◌else◌, nat_le, nat_lt, ℤ, List, [], ◌∷◌, ◌++◌, Option, None, Some}
use Rattle.sexp_read.specs.Lexical.{is_simple_symbol}
use Rattle.sexp_read.specs.declared.sexp.AtomKind.{AtomKind}
use Rattle.sexp_read.specs.declared.sexp.AtomKind.TheVariants as kind
use Rattle.strat_text.specs.declared.error.StratError.{StratError}
use Rattle.strat_text.specs.declared.error.StratError.TheVariants.{UnknownReducer, UnknownProbe, UnknownParam, BadStrategy}
use Rattle.strat_text.specs.declared.words.Head.{Head}
use Rattle.strat_text.specs.declared.words.Head.TheVariants as head
use Rattle.strat_text.specs.declared.words.Operator.{Operator}
use Rattle.strat_text.specs.declared.words.Operator.TheVariants as operator
use Rattle.strat_text.specs.declared.probe.ProbeExpr.{ProbeExpr}
use Rattle.strat_text.specs.declared.strategy.ParamKey.{ParamKey}
use Rattle.strat_text.specs.declared.strategy.TheConstants.{BRANCHES}
use Rattle.strat_text.specs.Form.{Form, atom, list, Forms, none, more, place_of, numeral_of, numeral_value}
use Rattle.strat_text.specs.Words.{head_in, operator_in, probe_named, key_of}
use Rattle.strat_text.specs.Number.{number_of, minus_of, positive, is_wide, is_within}
use Rattle.strat_text.specs.Grammar.{Names, is_known}

-- how many forms there are
abbrev pub count : Forms → ℕ
count none = 0
count (more form forms) = suc (count forms)

-- a bad strategy at a place, unless a condition holds
abbrev pub bad_unless : Bool → ℕ → List StratError
bad_unless true at = []
bad_unless false at = BadStrategy at ∷ []

-- there is a number, in the range of 128 bits
abbrev pub is_number : Option ℤ → Bool
is_number None = false
is_number (Some z) = not (is_wide z)

-- a symbol that stands as a probe is one
abbrev pub word_faults : ℕ → Option ProbeExpr → List StratError
word_faults at None = UnknownProbe at ∷ []
word_faults at (Some p) = []

abbrev pub probe_atom_faults : AtomKind → List ℕ → ℕ → List StratError
probe_atom_faults kind.Symbol text at = word_faults at (probe_named text)
probe_atom_faults kind.Quoted text at = BadStrategy at ∷ []
probe_atom_faults kind.Numeral text at = bad_unless (is_number (positive (numeral_value kind.Numeral text))) at
probe_atom_faults kind.Decimal text at = BadStrategy at ∷ []
probe_atom_faults kind.Bits text at = BadStrategy at ∷ []
probe_atom_faults kind.Text text at = BadStrategy at ∷ []
probe_atom_faults kind.Keyword text at = BadStrategy at ∷ []

-- the form of a probe: its arguments and then their number
abbrev pub probe_form_faults : ℕ → Forms → List StratError → Option Operator → List StratError
probe_form_faults at args inner None = BadStrategy at ∷ []
probe_form_faults at args inner (Some operator.Minus) = bad_unless (is_number (minus_of args)) at
probe_form_faults at args inner (Some operator.Lt) = inner ++ bad_unless (nat_le 2 (count args) && nat_le (count args) 2) at
probe_form_faults at args inner (Some operator.Le) = inner ++ bad_unless (nat_le 2 (count args) && nat_le (count args) 2) at
probe_form_faults at args inner (Some operator.Gt) = inner ++ bad_unless (nat_le 2 (count args) && nat_le (count args) 2) at
probe_form_faults at args inner (Some operator.Ge) = inner ++ bad_unless (nat_le 2 (count args) && nat_le (count args) 2) at
probe_form_faults at args inner (Some operator.Eq) = inner ++ bad_unless (nat_le 2 (count args) && nat_le (count args) 2) at
probe_form_faults at args inner (Some operator.And) = inner ++ bad_unless (nat_le 1 (count args)) at
probe_form_faults at args inner (Some operator.Or) = inner ++ bad_unless (nat_le 1 (count args)) at
probe_form_faults at args inner (Some operator.Not) = inner ++ bad_unless (nat_le 1 (count args) && nat_le (count args) 1) at

unfoldable mutual
  -- the faults of a form that stands as a probe
  pub probe_faults : Form → List StratError
  probe_faults (atom is text at) = probe_atom_faults is text at
  probe_faults (list none at) = BadStrategy at ∷ []
  probe_faults (list (more first args) at) = probe_form_faults at args (probes_faults args) (operator_in first)

  pub probes_faults : Forms → List StratError
  probes_faults none = []
  probes_faults (more form forms) = probe_faults form ++ probes_faults forms

-- a keyword that stands as a parameter is one
abbrev pub key_known : ℕ → Option ParamKey → List StratError
key_known at None = UnknownParam at ∷ []
key_known at (Some key) = []

abbrev pub key_atom_faults : AtomKind → List ℕ → ℕ → List StratError
key_atom_faults kind.Symbol text at = []
key_atom_faults kind.Quoted text at = []
key_atom_faults kind.Numeral text at = []
key_atom_faults kind.Decimal text at = []
key_atom_faults kind.Bits text at = []
key_atom_faults kind.Text text at = []
key_atom_faults kind.Keyword text at = key_known at (key_of text)

abbrev pub key_faults : Form → List StratError
key_faults (atom is text at) = key_atom_faults is text at
key_faults (list items at) = []

-- the parameter that a form is
abbrev pub key_kind : AtomKind → List ℕ → Option ParamKey
key_kind kind.Symbol text = None
key_kind kind.Quoted text = None
key_kind kind.Numeral text = None
key_kind kind.Decimal text = None
key_kind kind.Bits text = None
key_kind kind.Text text = None
key_kind kind.Keyword text = key_of text

abbrev pub key_in : Form → Option ParamKey
key_in (atom is text at) = key_kind is text
key_in (list items at) = None

-- the number of a parameter is in its range
abbrev pub range_faults : ℕ → Option ParamKey → Option ℤ → List StratError
range_faults at None value = []
range_faults at (Some key) None = []
range_faults at (Some key) (Some z) = bad_unless (is_within key z) at

-- keys and values in turn
unfoldable pub settings_faults : Forms → List StratError
settings_faults none = []
settings_faults (more key none) = key_faults key
settings_faults (more key (more value rest)) = key_faults key ++ (range_faults (place_of value) (key_in key) (number_of value) ++ settings_faults rest)

-- a form that is a keyword
abbrev pub is_keyword_form : Form → Bool
is_keyword_form (atom kind.Symbol text at) = false
is_keyword_form (atom kind.Quoted text at) = false
is_keyword_form (atom kind.Numeral text at) = false
is_keyword_form (atom kind.Decimal text at) = false
is_keyword_form (atom kind.Bits text at) = false
is_keyword_form (atom kind.Text text at) = false
is_keyword_form (atom kind.Keyword text at) = true
is_keyword_form (list items at) = false

abbrev pub is_some_number : Option ℤ → Bool
is_some_number None = false
is_some_number (Some z) = true

-- pairs of a keyword and a number
abbrev pub are_pairs : Forms → Bool
are_pairs none = true
are_pairs (more key none) = false
are_pairs (more key (more value rest)) = is_keyword_form key && is_some_number (number_of value) && are_pairs rest

-- a name that is a simple symbol, and known
abbrev pub name_faults : Names → List ℕ → ℕ → List StratError
name_faults names text at =
    if not (is_simple_symbol text) then BadStrategy at ∷ [] else
    if is_known names text then [] else UnknownReducer at ∷ []

abbrev pub strategy_atom_faults : Names → AtomKind → List ℕ → ℕ → List StratError
strategy_atom_faults names kind.Symbol text at = name_faults names text at
strategy_atom_faults names kind.Quoted text at = BadStrategy at ∷ []
strategy_atom_faults names kind.Numeral text at = BadStrategy at ∷ []
strategy_atom_faults names kind.Decimal text at = BadStrategy at ∷ []
strategy_atom_faults names kind.Bits text at = BadStrategy at ∷ []
strategy_atom_faults names kind.Text text at = BadStrategy at ∷ []
strategy_atom_faults names kind.Keyword text at = BadStrategy at ∷ []

-- a numeral is at most a number
abbrev pub limit_faults : ℕ → ℕ → Option ℕ → List StratError
limit_faults at most None = []
limit_faults at most (Some n) = bad_unless (nat_le n most) at

abbrev pub is_numeral_form : Option ℕ → Bool
is_numeral_form None = false
is_numeral_form (Some n) = true

-- the number behind a strategy, where one stands
abbrev pub turns_faults : ℕ → Forms → List StratError
turns_faults most none = []
turns_faults most (more form forms) = limit_faults (place_of form) most (numeral_of form)

-- nothing, or one numeral
abbrev pub is_turns : Forms → Bool
is_turns none = true
is_turns (more form none) = is_numeral_form (numeral_of form)
is_turns (more form (more next rest)) = false

-- one numeral
abbrev pub is_limit : Forms → Bool
is_limit none = false
is_limit (more form none) = is_numeral_form (numeral_of form)
is_limit (more form (more next rest)) = false

-- The form of a strategy: its arguments in order, each as what stands at its place, and then its shape. `part` are the faults
-- of the first argument as a strategy, `parts` those of the others.
abbrev pub strategy_form_faults : ℕ → Form → Forms → List StratError → List StratError → Option Head → List StratError
strategy_form_faults at arg args part parts None = BadStrategy at ∷ []
strategy_form_faults at arg args part parts (Some head.Then) = (part ++ parts) ++ bad_unless (nat_le 1 (count args)) at
strategy_form_faults at arg args part parts (Some head.OrElse) = (part ++ parts) ++ bad_unless (nat_le 1 (count args)) at
strategy_form_faults at arg args part parts (Some head.ParOr) = (part ++ parts) ++ bad_unless (nat_le 1 (count args) && nat_lt (count args) BRANCHES) at
strategy_form_faults at arg args part parts (Some head.ParThen) = (part ++ parts) ++ bad_unless (nat_le 1 (count args) && nat_le (count args) 1) at
strategy_form_faults at arg args part parts (Some head.If) = probe_faults arg ++ (parts ++ bad_unless (nat_le 2 (count args) && nat_le (count args) 2) at)
strategy_form_faults at arg args part parts (Some head.When) = probe_faults arg ++ (parts ++ bad_unless (nat_le 1 (count args) && nat_le (count args) 1) at)
strategy_form_faults at arg args part parts (Some head.FailIf) = probe_faults arg ++ bad_unless (nat_le (count args) 0) at
strategy_form_faults at arg args part parts (Some head.Repeat) = part ++ (turns_faults (2 ^ 32 - 1) args ++ bad_unless (is_turns args) at)
strategy_form_faults at arg args part parts (Some head.UsingParams) = part ++ (settings_faults args ++ bad_unless (are_pairs args && nat_le 1 (count args)) at)
strategy_form_faults at arg args part parts (Some head.TryFor) = part ++ (turns_faults (2 ^ 62) args ++ bad_unless (is_limit args) at)

unfoldable mutual
  -- The faults of a form that stands as a strategy, where so many forms may stand in one another. A form that stands too deep isn't looked into.
  pub faults : Names → Form → ℕ → List StratError
  faults names (atom is text at) zero = BadStrategy at ∷ []
  faults names (atom is text at) (suc left) = strategy_atom_faults names is text at
  faults names (list items at) zero = BadStrategy at ∷ []
  faults names (list none at) (suc left) = BadStrategy at ∷ []
  faults names (list (more first none) at) (suc left) = BadStrategy at ∷ []
  faults names (list (more first (more arg args)) at) (suc left) =
      strategy_form_faults at arg args (faults names arg left) (each_faults names args left) (head_in first)

  pub each_faults : Names → Forms → ℕ → List StratError
  each_faults names none left = []
  each_faults names (more form forms) left = faults names form left ++ each_faults names forms left
