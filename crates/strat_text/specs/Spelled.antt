-- The one written spelling of strategies.
use Rattle.std.specs.Prelude.{ℕ, suc, ℤ, pos, negsuc, List, [], ◌∷◌, ◌++◌, codes, decimal}
use Rattle.strat_text.specs.declared.probe.ProbeExpr.{ProbeExpr}
use Rattle.strat_text.specs.declared.probe.ProbeExpr.TheOpen.{ProbeExpr-F}
use Rattle.strat_text.specs.declared.probe.ProbeExpr.TheFolds.{fold-ProbeExpr}
use Rattle.strat_text.specs.declared.strategy.ParamKey.{ParamKey}
use Rattle.strat_text.specs.declared.strategy.ParamKey.TheVariants as key
use Rattle.strat_text.specs.declared.strategy.Strategy.{Strategy}
use Rattle.strat_text.specs.declared.strategy.Strategy.TheOpen.{Strategy-F}
use Rattle.strat_text.specs.declared.strategy.Strategy.TheFolds.{fold-Strategy}

-- texts, a space before each
abbrev pub spaced : List (List ℕ) → List ℕ
spaced [] = []
spaced (text ∷ texts) = 32 ∷ (text ++ spaced texts)

-- a word and what stands behind it, between parentheses
abbrev pub form_text : List ℕ → List (List ℕ) → List ℕ
form_text word texts = 40 ∷ (word ++ (spaced texts ++ 41 ∷ []))

-- a number: negative ones as `(- n)`
abbrev pub number_text : ℤ → List ℕ
number_text (pos n) = decimal n
number_text (negsuc n) = form_text (codes "-") (decimal (suc n) ∷ [])

-- the keyword of a parameter
abbrev pub key_text : ParamKey → List ℕ
key_text key.Lia2pbMaxBits = codes ":lia2pb_max_bits"
key_text key.AddBoundLower = codes ":add_bound_lower"
key_text key.AddBoundUpper = codes ":add_bound_upper"
key_text key.DropWideMax = codes ":drop_wide_max"

-- keys and values in turn
abbrev pub setting_texts : List (ParamKey × ℤ) → List (List ℕ)
setting_texts [] = []
setting_texts (setting ∷ settings) = key_text setting.0 ∷ number_text setting.1 ∷ setting_texts settings

-- one level of a probe
abbrev pub probe_layer : ProbeExpr-F (List ℕ) → List ℕ
probe_layer ProbeExpr-F.Size = codes "size"
probe_layer ProbeExpr-F.NumExprs = codes "num-exprs"
probe_layer ProbeExpr-F.Depth = codes "depth"
probe_layer ProbeExpr-F.NumConsts = codes "num-consts"
probe_layer ProbeExpr-F.IsPropositional = codes "is-propositional"
probe_layer ProbeExpr-F.IsCanonical = codes "is-canonical"
probe_layer ProbeExpr-F.IsBounded = codes "is-bounded"
probe_layer ProbeExpr-F.Is01 = codes "is-01"
probe_layer ProbeExpr-F.MaxBits = codes "max-bits"
probe_layer (ProbeExpr-F.Num z) = number_text z
probe_layer (ProbeExpr-F.Lt a b) = form_text (codes "<") (a ∷ b ∷ [])
probe_layer (ProbeExpr-F.Le a b) = form_text (codes "<=") (a ∷ b ∷ [])
probe_layer (ProbeExpr-F.Gt a b) = form_text (codes ">") (a ∷ b ∷ [])
probe_layer (ProbeExpr-F.Ge a b) = form_text (codes ">=") (a ∷ b ∷ [])
probe_layer (ProbeExpr-F.Eq a b) = form_text (codes "=") (a ∷ b ∷ [])
probe_layer (ProbeExpr-F.And parts) = form_text (codes "and") parts
probe_layer (ProbeExpr-F.Or parts) = form_text (codes "or") parts
probe_layer (ProbeExpr-F.Not a) = form_text (codes "not") (a ∷ [])

-- the text of a probe
unfoldable pub spelled_probe : ProbeExpr → List ℕ
spelled_probe = fold-ProbeExpr (List ℕ) probe_layer

-- one level of a strategy
abbrev pub strategy_layer : Strategy-F (List ℕ) → List ℕ
strategy_layer (Strategy-F.Prim name) = name
strategy_layer (Strategy-F.Then parts) = form_text (codes "then") parts
strategy_layer (Strategy-F.OrElse parts) = form_text (codes "or-else") parts
strategy_layer (Strategy-F.ParOr parts) = form_text (codes "par-or") parts
strategy_layer (Strategy-F.ParThen a b) = form_text (codes "par-then") (a ∷ b ∷ [])
strategy_layer (Strategy-F.If p a b) = form_text (codes "if") (spelled_probe p ∷ a ∷ b ∷ [])
strategy_layer (Strategy-F.When p a) = form_text (codes "when") (spelled_probe p ∷ a ∷ [])
strategy_layer (Strategy-F.FailIf p) = form_text (codes "fail-if") (spelled_probe p ∷ [])
strategy_layer (Strategy-F.Repeat a turns) = form_text (codes "repeat") (a ∷ decimal turns ∷ [])
strategy_layer (Strategy-F.Params a settings) = form_text (codes "using-params") (a ∷ setting_texts settings)
strategy_layer (Strategy-F.TryFor a limit) = form_text (codes "try-for") (a ∷ decimal limit ∷ [])

-- the text of a strategy
unfoldable pub spelled : Strategy → List ℕ
spelled = fold-Strategy (List ℕ) strategy_layer
