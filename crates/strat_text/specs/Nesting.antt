-- How deep the lists of a written strategy stand in one another.
use Rattle.std.specs.Prelude.{ℕ, ◌+◌, max, ℤ, pos, negsuc, List, [], ◌∷◌}
use Rattle.strat_text.specs.declared.probe.ProbeExpr.{ProbeExpr}
use Rattle.strat_text.specs.declared.probe.ProbeExpr.TheOpen.{ProbeExpr-F}
use Rattle.strat_text.specs.declared.probe.ProbeExpr.TheFolds.{fold-ProbeExpr}
use Rattle.strat_text.specs.declared.strategy.ParamKey.{ParamKey}
use Rattle.strat_text.specs.declared.strategy.Strategy.{Strategy}
use Rattle.strat_text.specs.declared.strategy.Strategy.TheOpen.{Strategy-F}
use Rattle.strat_text.specs.declared.strategy.Strategy.TheFolds.{fold-Strategy}
use Rattle.strat_text.specs.Allowed.{greatest}

-- a number: one list where it is negative
abbrev pub number_nesting : ℤ → ℕ
number_nesting (pos n) = 0
number_nesting (negsuc n) = 1

-- the greatest of the numbers of settings
abbrev pub settings_nesting : List (ParamKey × ℤ) → ℕ
settings_nesting [] = 0
settings_nesting (setting ∷ settings) = max (number_nesting setting.1) (settings_nesting settings)

-- one level of a probe
abbrev pub probe_nesting_layer : ProbeExpr-F ℕ → ℕ
probe_nesting_layer ProbeExpr-F.Size = 0
probe_nesting_layer ProbeExpr-F.NumExprs = 0
probe_nesting_layer ProbeExpr-F.Depth = 0
probe_nesting_layer ProbeExpr-F.NumConsts = 0
probe_nesting_layer ProbeExpr-F.IsPropositional = 0
probe_nesting_layer ProbeExpr-F.IsCanonical = 0
probe_nesting_layer ProbeExpr-F.IsBounded = 0
probe_nesting_layer ProbeExpr-F.Is01 = 0
probe_nesting_layer ProbeExpr-F.MaxBits = 0
probe_nesting_layer (ProbeExpr-F.Num z) = number_nesting z
probe_nesting_layer (ProbeExpr-F.Lt a b) = 1 + max a b
probe_nesting_layer (ProbeExpr-F.Le a b) = 1 + max a b
probe_nesting_layer (ProbeExpr-F.Gt a b) = 1 + max a b
probe_nesting_layer (ProbeExpr-F.Ge a b) = 1 + max a b
probe_nesting_layer (ProbeExpr-F.Eq a b) = 1 + max a b
probe_nesting_layer (ProbeExpr-F.And parts) = 1 + greatest parts
probe_nesting_layer (ProbeExpr-F.Or parts) = 1 + greatest parts
probe_nesting_layer (ProbeExpr-F.Not a) = 1 + a

-- how many lists of the probe's text stand in one another
unfoldable pub probe_nesting : ProbeExpr → ℕ
probe_nesting = fold-ProbeExpr ℕ probe_nesting_layer

-- one level of a strategy
abbrev pub nesting_layer : Strategy-F ℕ → ℕ
nesting_layer (Strategy-F.Prim name) = 0
nesting_layer (Strategy-F.Then parts) = 1 + greatest parts
nesting_layer (Strategy-F.OrElse parts) = 1 + greatest parts
nesting_layer (Strategy-F.ParOr parts) = 1 + greatest parts
nesting_layer (Strategy-F.ParThen a b) = 1 + max a b
nesting_layer (Strategy-F.If p a b) = 1 + max (probe_nesting p) (max a b)
nesting_layer (Strategy-F.When p a) = 1 + max (probe_nesting p) a
nesting_layer (Strategy-F.FailIf p) = 1 + probe_nesting p
nesting_layer (Strategy-F.Repeat a turns) = 1 + a
nesting_layer (Strategy-F.Params a settings) = 1 + max a (settings_nesting settings)
nesting_layer (Strategy-F.TryFor a limit) = 1 + a

-- how many lists of the strategy's text stand in one another
unfoldable pub nesting : Strategy → ℕ
nesting = fold-Strategy ℕ nesting_layer
