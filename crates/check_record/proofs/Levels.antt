-- Whether a strategy may run, by its form.
use Rattle.std.proofs.Common.{◌≡◌, ℕ, ℤ, Bool as Truth, true, ◌&&◌, List, [], ◌∷◌, map, length, nat_le, is_some, refl, ap, ap₂, ◌∙◌}
use Rattle.std.specs.List.{list_all}
use Rattle.std.proofs.lemmas.List.{length-map}
use Rattle.strat_text.specs.declared.probe.ProbeExpr.{ProbeExpr}
use Rattle.strat_text.specs.declared.strategy.ParamKey.{ParamKey}
use Rattle.strat_text.specs.declared.strategy.Strategy.{Strategy}
use Rattle.strat_text.specs.declared.strategy.Strategy.TheVariants as strategy
use Rattle.strat_text.specs.Allowed.{are_settings}
use Rattle.strat_text.proofs.Layers.{fold-Prim, fold-Then, fold-OrElse, fold-ParOr, fold-ParThen, fold-If, fold-When, fold-FailIf, fold-Repeat, fold-Params, fold-TryFor}
use Rattle.reducer_iface.specs.Names.{Names, kind_at}
use Rattle.lang_runs.specs.Strategies.{runs, runs_layer, all_true}

module _ (names : Names) where
  all_same : (ss : List Strategy) → all_true (map (runs names) ss) ≡ list_all (runs names) ss
  all_same [] = refl
  all_same (s ∷ ss) = ap (λ (b : Truth). runs names s && b) (all_same ss)

  many : (ss : List Strategy) → (nat_le 2 (length (map (runs names) ss)) && all_true (map (runs names) ss)) ≡ (nat_le 2 (length ss) && list_all (runs names) ss)
  many ss = ap₂ (λ (n : ℕ) (b : Truth). nat_le 2 n && b) (length-map ss (runs names)) (all_same ss)

  pub runs-Prim : (s : Strategy) (name : List ℕ) → s ≡ strategy.Prim name → runs names s ≡ is_some (kind_at names name)
  unfolding runs
  runs-Prim s name is = ap (runs names) is ∙ fold-Prim Truth (runs_layer names) name

  pub runs-Then : (s : Strategy) (parts : List Strategy) → s ≡ strategy.Then parts → runs names s ≡ (nat_le 2 (length parts) && list_all (runs names) parts)
  unfolding runs
  runs-Then s parts is = ap (runs names) is ∙ fold-Then Truth (runs_layer names) parts ∙ many parts

  pub runs-OrElse : (s : Strategy) (parts : List Strategy) → s ≡ strategy.OrElse parts → runs names s ≡ (nat_le 2 (length parts) && list_all (runs names) parts)
  unfolding runs
  runs-OrElse s parts is = ap (runs names) is ∙ fold-OrElse Truth (runs_layer names) parts ∙ many parts

  pub runs-ParOr : (s : Strategy) (parts : List Strategy) → s ≡ strategy.ParOr parts → runs names s ≡ (nat_le 2 (length parts) && list_all (runs names) parts)
  unfolding runs
  runs-ParOr s parts is = ap (runs names) is ∙ fold-ParOr Truth (runs_layer names) parts ∙ many parts

  pub runs-ParThen : (s a b : Strategy) → s ≡ strategy.ParThen a b → runs names s ≡ (runs names a && runs names b)
  unfolding runs
  runs-ParThen s a b is = ap (runs names) is ∙ fold-ParThen Truth (runs_layer names) a b

  pub runs-If : (s : Strategy) (p : ProbeExpr) (a b : Strategy) → s ≡ strategy.If p a b → runs names s ≡ (runs names a && runs names b)
  unfolding runs
  runs-If s p a b is = ap (runs names) is ∙ fold-If Truth (runs_layer names) p a b

  pub runs-When : (s : Strategy) (p : ProbeExpr) (a : Strategy) → s ≡ strategy.When p a → runs names s ≡ runs names a
  unfolding runs
  runs-When s p a is = ap (runs names) is ∙ fold-When Truth (runs_layer names) p a

  pub runs-FailIf : (s : Strategy) (p : ProbeExpr) → s ≡ strategy.FailIf p → runs names s ≡ true
  unfolding runs
  runs-FailIf s p is = ap (runs names) is ∙ fold-FailIf Truth (runs_layer names) p

  pub runs-Repeat : (s a : Strategy) (turns : ℕ) → s ≡ strategy.Repeat a turns → runs names s ≡ runs names a
  unfolding runs
  runs-Repeat s a turns is = ap (runs names) is ∙ fold-Repeat Truth (runs_layer names) a turns

  pub runs-Params : (s a : Strategy) (settings : List (ParamKey × ℤ)) → s ≡ strategy.Params a settings → runs names s ≡ (runs names a && are_settings settings)
  unfolding runs
  runs-Params s a settings is = ap (runs names) is ∙ fold-Params Truth (runs_layer names) a settings

  pub runs-TryFor : (s a : Strategy) (limit : ℕ) → s ≡ strategy.TryFor a limit → runs names s ≡ runs names a
  unfolding runs
  runs-TryFor s a limit is = ap (runs names) is ∙ fold-TryFor Truth (runs_layer names) a limit
