-- The value of a probe on a goal.
use Rattle.std.specs.Prelude.{ℤ, pos, List, length, Bool as Truth, true, false, not}
use Rattle.std.specs.List.{list_all, list_any}
use Rattle.std.specs.Ordering.{int_eq}
use lib.Signed.{le_z, lt_z}
use Rattle.qterm.specs.Tree.{Tree}
use Rattle.qgoal.specs.Goal.{GoalTree}
use Rattle.strat_text.specs.declared.probe.ProbeExpr.{ProbeExpr}
use Rattle.strat_text.specs.declared.probe.ProbeExpr.TheOpen.{ProbeExpr-F}
use Rattle.strat_text.specs.declared.probe.ProbeExpr.TheFolds.{fold-ProbeExpr}
use Rattle.probe_set.specs.Measures.{num_exprs, num_consts, deepest, is_propositional, is_canonical, is_bounded, is_01, max_bits}

-- a truth value as a number, and what counts as true
abbrev pub one_if : Truth → ℤ
one_if true = pos 1
one_if false = pos 0

abbrev pub holds : ℤ → Truth
holds z = not (int_eq z (pos 0))

-- one level of a probe over formulas
abbrev pub value_layer : List Tree → ProbeExpr-F ℤ → ℤ
value_layer fs ProbeExpr-F.Size = pos (length fs)
value_layer fs ProbeExpr-F.NumExprs = pos (num_exprs fs)
value_layer fs ProbeExpr-F.Depth = pos (deepest fs)
value_layer fs ProbeExpr-F.NumConsts = pos (num_consts fs)
value_layer fs ProbeExpr-F.IsPropositional = one_if (is_propositional fs)
value_layer fs ProbeExpr-F.IsCanonical = one_if (is_canonical fs)
value_layer fs ProbeExpr-F.IsBounded = one_if (is_bounded fs)
value_layer fs ProbeExpr-F.Is01 = one_if (is_01 fs)
value_layer fs ProbeExpr-F.MaxBits = pos (max_bits fs)
value_layer fs (ProbeExpr-F.Num z) = z
value_layer fs (ProbeExpr-F.Lt a b) = one_if (lt_z a b)
value_layer fs (ProbeExpr-F.Le a b) = one_if (le_z a b)
value_layer fs (ProbeExpr-F.Gt a b) = one_if (lt_z b a)
value_layer fs (ProbeExpr-F.Ge a b) = one_if (le_z b a)
value_layer fs (ProbeExpr-F.Eq a b) = one_if (int_eq a b)
value_layer fs (ProbeExpr-F.And parts) = one_if (list_all holds parts)
value_layer fs (ProbeExpr-F.Or parts) = one_if (list_any holds parts)
value_layer fs (ProbeExpr-F.Not a) = one_if (not (holds a))

-- the value of a probe over formulas
unfoldable pub probe_value : List Tree → ProbeExpr → ℤ
probe_value fs = fold-ProbeExpr ℤ (value_layer fs)

-- the value of a probe on a goal
abbrev pub probe_of : GoalTree → ProbeExpr → ℤ
probe_of g p = probe_value g.formulas p
