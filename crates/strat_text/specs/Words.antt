-- The words of strategies, and what they stand for.
use Rattle.std.specs.Prelude.{ℕ, if◌then◌else◌, List, Option, None, Some, codes}
use Rattle.std.specs.Str.{bytes_eq}
use Rattle.strat_text.specs.declared.words.Head.{Head}
use Rattle.strat_text.specs.declared.words.Head.TheVariants as head
use Rattle.strat_text.specs.declared.words.Operator.{Operator}
use Rattle.strat_text.specs.declared.words.Operator.TheVariants as operator
use Rattle.strat_text.specs.declared.probe.ProbeExpr.{ProbeExpr}
use Rattle.strat_text.specs.declared.probe.ProbeExpr.TheVariants as probe
use Rattle.strat_text.specs.declared.strategy.ParamKey.{ParamKey}
use Rattle.strat_text.specs.declared.strategy.ParamKey.TheVariants as key
use Rattle.strat_text.specs.Form.{Form, Forms, none, more, symbol_of}

-- the words that begin the forms of strategies
unfoldable pub head_of : List ℕ → Option Head
head_of word =
    if bytes_eq word (codes "then") then Some head.Then else
    if bytes_eq word (codes "or-else") then Some head.OrElse else
    if bytes_eq word (codes "par-or") then Some head.ParOr else
    if bytes_eq word (codes "par-then") then Some head.ParThen else
    if bytes_eq word (codes "if") then Some head.If else
    if bytes_eq word (codes "when") then Some head.When else
    if bytes_eq word (codes "fail-if") then Some head.FailIf else
    if bytes_eq word (codes "repeat") then Some head.Repeat else
    if bytes_eq word (codes "using-params") then Some head.UsingParams else
    if bytes_eq word (codes "try-for") then Some head.TryFor else None

-- the words that begin the forms of probes
unfoldable pub operator_of : List ℕ → Option Operator
operator_of word =
    if bytes_eq word (codes "-") then Some operator.Minus else
    if bytes_eq word (codes "<") then Some operator.Lt else
    if bytes_eq word (codes "<=") then Some operator.Le else
    if bytes_eq word (codes ">") then Some operator.Gt else
    if bytes_eq word (codes ">=") then Some operator.Ge else
    if bytes_eq word (codes "=") then Some operator.Eq else
    if bytes_eq word (codes "and") then Some operator.And else
    if bytes_eq word (codes "or") then Some operator.Or else
    if bytes_eq word (codes "not") then Some operator.Not else None

-- the probes that are words
unfoldable pub probe_named : List ℕ → Option ProbeExpr
probe_named word =
    if bytes_eq word (codes "size") then Some probe.Size else
    if bytes_eq word (codes "num-exprs") then Some probe.NumExprs else
    if bytes_eq word (codes "depth") then Some probe.Depth else
    if bytes_eq word (codes "num-consts") then Some probe.NumConsts else
    if bytes_eq word (codes "is-propositional") then Some probe.IsPropositional else
    if bytes_eq word (codes "is-canonical") then Some probe.IsCanonical else
    if bytes_eq word (codes "is-bounded") then Some probe.IsBounded else
    if bytes_eq word (codes "is-01") then Some probe.Is01 else
    if bytes_eq word (codes "max-bits") then Some probe.MaxBits else None

-- the parameters
unfoldable pub key_of : List ℕ → Option ParamKey
key_of word =
    if bytes_eq word (codes ":lia2pb_max_bits") then Some key.Lia2pbMaxBits else
    if bytes_eq word (codes ":add_bound_lower") then Some key.AddBoundLower else
    if bytes_eq word (codes ":add_bound_upper") then Some key.AddBoundUpper else
    if bytes_eq word (codes ":drop_wide_max") then Some key.DropWideMax else None

-- what a text stands for, where it is there
abbrev pub looked_up : {A : Type 0} → (List ℕ → Option A) → Option (List ℕ) → Option A
looked_up table None = None
looked_up table (Some text) = table text

-- the word that a form's first item is
abbrev pub head_in : Form → Option Head
head_in form = looked_up head_of (symbol_of form)

abbrev pub operator_in : Form → Option Operator
operator_in form = looked_up operator_of (symbol_of form)

-- the word that forms begin with
abbrev pub operator_before : Forms → Option Operator
operator_before none = None
operator_before (more first rest) = operator_in first
