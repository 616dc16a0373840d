-- Which strategies there are texts of: the numbers are in their ranges, the forms have as many parts as they may, the
-- names are simple symbols, and at most so many forms stand in one another.
use Rattle.std.specs.Prelude.{ℕ, ◌+◌, ◌^◌, max, Bool, true, not, ◌&&◌, nat_le, nat_lt, ℤ, List, [], ◌∷◌, length}
use Rattle.std.specs.List.{list_all}
use Rattle.sexp_read.specs.Lexical.{is_simple_symbol}
use Rattle.strat_text.specs.declared.probe.ProbeExpr.{ProbeExpr}
use Rattle.strat_text.specs.declared.probe.ProbeExpr.TheOpen.{ProbeExpr-F}
use Rattle.strat_text.specs.declared.probe.ProbeExpr.TheFolds.{fold-ProbeExpr}
use Rattle.strat_text.specs.declared.strategy.ParamKey.{ParamKey}
use Rattle.strat_text.specs.declared.strategy.Strategy.{Strategy}
use Rattle.strat_text.specs.declared.strategy.Strategy.TheOpen.{Strategy-F}
use Rattle.strat_text.specs.declared.strategy.Strategy.TheFolds.{fold-Strategy}
use Rattle.strat_text.specs.declared.strategy.TheConstants.{BRANCHES, DEPTH}
use Rattle.strat_text.specs.Number.{is_wide, is_within}

-- every one is true
abbrev pub all_true : List Bool → Bool
all_true bs = list_all (λ b. b) bs

-- one level of a probe
abbrev pub allowed_probe_layer : ProbeExpr-F Bool → Bool
allowed_probe_layer ProbeExpr-F.Size = true
allowed_probe_layer ProbeExpr-F.NumExprs = true
allowed_probe_layer ProbeExpr-F.Depth = true
allowed_probe_layer ProbeExpr-F.NumConsts = true
allowed_probe_layer ProbeExpr-F.IsPropositional = true
allowed_probe_layer ProbeExpr-F.IsCanonical = true
allowed_probe_layer ProbeExpr-F.IsBounded = true
allowed_probe_layer ProbeExpr-F.Is01 = true
allowed_probe_layer ProbeExpr-F.MaxBits = true
allowed_probe_layer (ProbeExpr-F.Num z) = not (is_wide z)
allowed_probe_layer (ProbeExpr-F.Lt a b) = a && b
allowed_probe_layer (ProbeExpr-F.Le a b) = a && b
allowed_probe_layer (ProbeExpr-F.Gt a b) = a && b
allowed_probe_layer (ProbeExpr-F.Ge a b) = a && b
allowed_probe_layer (ProbeExpr-F.Eq a b) = a && b
allowed_probe_layer (ProbeExpr-F.And parts) = nat_le 1 (length parts) && all_true parts
allowed_probe_layer (ProbeExpr-F.Or parts) = nat_le 1 (length parts) && all_true parts
allowed_probe_layer (ProbeExpr-F.Not a) = a

-- there is a text of the probe
unfoldable pub is_allowed_probe : ProbeExpr → Bool
is_allowed_probe = fold-ProbeExpr Bool allowed_probe_layer

-- the value of each parameter is in its range
abbrev pub are_settings : List (ParamKey × ℤ) → Bool
are_settings settings = list_all (λ setting. is_within setting.0 setting.1) settings

-- one level of a strategy
abbrev pub allowed_layer : Strategy-F Bool → Bool
allowed_layer (Strategy-F.Prim name) = is_simple_symbol name
allowed_layer (Strategy-F.Then parts) = nat_le 2 (length parts) && all_true parts
allowed_layer (Strategy-F.OrElse parts) = nat_le 2 (length parts) && all_true parts
allowed_layer (Strategy-F.ParOr parts) = nat_le 2 (length parts) && nat_le (length parts) BRANCHES && all_true parts
allowed_layer (Strategy-F.ParThen a b) = a && b
allowed_layer (Strategy-F.If p a b) = is_allowed_probe p && a && b
allowed_layer (Strategy-F.When p a) = is_allowed_probe p && a
allowed_layer (Strategy-F.FailIf p) = is_allowed_probe p
allowed_layer (Strategy-F.Repeat a turns) = a && nat_lt turns (2 ^ 32)
allowed_layer (Strategy-F.Params a settings) = a && nat_le 1 (length settings) && are_settings settings
allowed_layer (Strategy-F.TryFor a limit) = a && nat_le limit (2 ^ 62)

-- each form of the strategy has as many parts as it may, and each number is in its range
unfoldable pub is_formed : Strategy → Bool
is_formed = fold-Strategy Bool allowed_layer

-- the greatest of the numbers
abbrev pub greatest : List ℕ → ℕ
greatest [] = 0
greatest (n ∷ ns) = max n (greatest ns)

-- one level of a strategy
abbrev pub depth_layer : Strategy-F ℕ → ℕ
depth_layer (Strategy-F.Prim name) = 1
depth_layer (Strategy-F.Then parts) = 1 + greatest parts
depth_layer (Strategy-F.OrElse parts) = 1 + greatest parts
depth_layer (Strategy-F.ParOr parts) = 1 + greatest parts
depth_layer (Strategy-F.ParThen a b) = 1 + max a b
depth_layer (Strategy-F.If p a b) = 1 + max a b
depth_layer (Strategy-F.When p a) = 1 + a
depth_layer (Strategy-F.FailIf p) = 1
depth_layer (Strategy-F.Repeat a turns) = 1 + a
depth_layer (Strategy-F.Params a settings) = 1 + a
depth_layer (Strategy-F.TryFor a limit) = 1 + a

-- how many forms stand in one another, a name counted as one; probes don't count
unfoldable pub depth_of : Strategy → ℕ
depth_of = fold-Strategy ℕ depth_layer

-- there is a text of the strategy
unfoldable pub is_allowed : Strategy → Bool
is_allowed s = is_formed s && nat_le (depth_of s) DEPTH
