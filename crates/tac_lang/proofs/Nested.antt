-- The parts of a strategy are less deep than it is.
use Rattle.std.proofs.Common.{Bool as Truth, true, false, if◌then◌else◌, ◌≡◌, ◌≤◌, ◌<◌, ◌+◌, ℕ, ℤ, suc, zero, List, [], ◌∷◌, length, get_or, max, drop, ap, subst, ◌∙◌, arith}
use Rattle.strat_text.specs.declared.probe.ProbeExpr.{ProbeExpr}
use Rattle.strat_text.specs.declared.strategy.ParamKey.{ParamKey}
use Rattle.strat_text.specs.declared.strategy.Strategy.{Strategy}
use Rattle.strat_text.specs.declared.strategy.Strategy.TheVariants as strategy
use Rattle.strat_text.specs.Allowed.{depth_of, depth_layer}
use Rattle.strat_text.proofs.Layers.{fold-Then, fold-OrElse, fold-ParOr, fold-ParThen, fold-If, fold-When, fold-Repeat, fold-Params, fold-TryFor}
use Rattle.tac_lang.specs.Nesting.{deepest}

pub deep_then : (s : Strategy) (parts : List Strategy) → s ≡ strategy.Then parts → depth_of s ≡ 1 + deepest parts
unfolding depth_of
deep_then s parts is = ap depth_of is ∙ fold-Then ℕ depth_layer parts

pub deep_or_else : (s : Strategy) (parts : List Strategy) → s ≡ strategy.OrElse parts → depth_of s ≡ 1 + deepest parts
unfolding depth_of
deep_or_else s parts is = ap depth_of is ∙ fold-OrElse ℕ depth_layer parts

pub deep_par_or : (s : Strategy) (parts : List Strategy) → s ≡ strategy.ParOr parts → depth_of s ≡ 1 + deepest parts
unfolding depth_of
deep_par_or s parts is = ap depth_of is ∙ fold-ParOr ℕ depth_layer parts

pub deep_par_then : (s a b : Strategy) → s ≡ strategy.ParThen a b → depth_of s ≡ 1 + max (depth_of a) (depth_of b)
unfolding depth_of
deep_par_then s a b is = ap depth_of is ∙ fold-ParThen ℕ depth_layer a b

pub deep_if : (s : Strategy) (p : ProbeExpr) (a b : Strategy) → s ≡ strategy.If p a b → depth_of s ≡ 1 + max (depth_of a) (depth_of b)
unfolding depth_of
deep_if s p a b is = ap depth_of is ∙ fold-If ℕ depth_layer p a b

pub deep_when : (s : Strategy) (p : ProbeExpr) (a : Strategy) → s ≡ strategy.When p a → depth_of s ≡ 1 + depth_of a
unfolding depth_of
deep_when s p a is = ap depth_of is ∙ fold-When ℕ depth_layer p a

pub deep_repeat : (s a : Strategy) (turns : ℕ) → s ≡ strategy.Repeat a turns → depth_of s ≡ 1 + depth_of a
unfolding depth_of
deep_repeat s a turns is = ap depth_of is ∙ fold-Repeat ℕ depth_layer a turns

pub deep_params : (s a : Strategy) (settings : List (ParamKey × ℤ)) → s ≡ strategy.Params a settings → depth_of s ≡ 1 + depth_of a
unfolding depth_of
deep_params s a settings is = ap depth_of is ∙ fold-Params ℕ depth_layer a settings

pub deep_try_for : (s a : Strategy) (limit : ℕ) → s ≡ strategy.TryFor a limit → depth_of s ≡ 1 + depth_of a
unfolding depth_of
deep_try_for s a limit is = ap depth_of is ∙ fold-TryFor ℕ depth_layer a limit

-- a part alone
pub deepest_one : (p : Strategy) (ps : List Strategy) → ps ≡ p ∷ [] → deepest ps ≤ depth_of p
deepest_one p ps is = rw is (omega arith)

-- none of the parts is deeper
pub deep_here : (parts : List Strategy) (k : ℕ) (p : Strategy) (rest : List Strategy) → drop k parts ≡ p ∷ rest → depth_of p ≤ deepest parts
deep_here [] zero p rest is = cc
deep_here [] (suc k) p rest is = cc
deep_here (q ∷ parts) zero p rest is = (let same : q ≡ p = cc in subst (λ x. depth_of x ≤ deepest (q ∷ parts)) same (omega arith))
deep_here (q ∷ parts) (suc k) p rest is = (let le = deep_here parts k p rest is in omega (arith, le))

pub deep_at : (parts : List Strategy) (k : ℕ) (p : Strategy) → k < length parts → p ≡ get_or parts k p → depth_of p ≤ deepest parts
deep_at [] k p lt is = absurd (omega (arith, lt))
deep_at (q ∷ parts) zero p lt is = rw is (omega arith)
deep_at (q ∷ parts) (suc k) p lt is = (let le = deep_at parts k p (omega (arith, lt)) is in omega (arith, le))

-- the part that a value chooses
pub chosen_deep : (b : Truth) (p q child : Strategy) → child ≡ (if b then p else q) → depth_of child ≤ max (depth_of p) (depth_of q)
chosen_deep true p q child is = rw is (omega arith)
chosen_deep false p q child is = rw is (omega arith)
