-- When a strategy may run, by its form.
use Rattle.std.proofs.Common.{◌≡◌, ℕ, ℤ, ◌≤◌, Bool as Truth, true, false, ◌&&◌, List, [], ◌∷◌, map, length, nat_le, is_some, refl, sym, ap, ◌∙◌, arith}
use Rattle.std.proofs.lemmas.List.{length-map}
use Rattle.std.proofs.lemmas.Bool.{leb-true}
use Rattle.std.proofs.lemmas.List.Elements.{All-nil, All-cons}
use Rattle.strat_text.specs.declared.probe.ProbeExpr.{ProbeExpr}
use Rattle.strat_text.specs.declared.strategy.ParamKey.{ParamKey}
use Rattle.strat_text.specs.declared.strategy.Strategy.{Strategy}
use Rattle.strat_text.specs.declared.strategy.Strategy.TheVariants as strategy
use Rattle.strat_text.specs.Allowed.{are_settings}
use Rattle.strat_text.proofs.Layers.{fold-Prim, fold-Then, fold-OrElse, fold-ParOr, fold-ParThen, fold-If, fold-When, fold-Repeat, fold-Params, fold-TryFor}
use Rattle.reducer_iface.specs.Names.{Names, kind_at}
use Rattle.lang_runs.specs.Strategies.{runs, runs_layer, all_true, AllRun}

pub both_true : (a b : Truth) → (a && b) ≡ true → (a ≡ true) × (b ≡ true)
both_true true b e = (refl, e)
both_true false b e = cc

module _ (names : Names) where
  all_run : (ss : List Strategy) → all_true (map (runs names) ss) ≡ true → AllRun names ss
  all_run [] e = All-nil (λ s. runs names s ≡ true)
  all_run (s ∷ ss) e = let both = both_true (runs names s) (all_true (map (runs names) ss)) e in All-cons (λ s. runs names s ≡ true) s ss both.0 (all_run ss both.1)

  parts_run : (ss : List Strategy) → (nat_le 2 (length (map (runs names) ss)) && all_true (map (runs names) ss)) ≡ true → AllRun names ss × (2 ≤ length ss)
  parts_run ss e =
      let both = both_true (nat_le 2 (length (map (runs names) ss))) (all_true (map (runs names) ss)) e in
      let many = leb-true 2 (length (map (runs names) ss)) both.0 in
      let same = length-map ss (runs names) in
      (all_run ss both.1, omega (arith, many, same))

  pub may_prim : (s : Strategy) (name : List ℕ) → runs names s ≡ true → s ≡ strategy.Prim name → is_some (kind_at names name) ≡ true
  unfolding runs
  may_prim s name e is = sym (ap (runs names) is ∙ fold-Prim Truth (runs_layer names) name) ∙ e

  pub may_or_else : (s : Strategy) (parts : List Strategy) → runs names s ≡ true → s ≡ strategy.OrElse parts → AllRun names parts × (2 ≤ length parts)
  unfolding runs
  may_or_else s parts e is = parts_run parts (sym (ap (runs names) is ∙ fold-OrElse Truth (runs_layer names) parts) ∙ e)

  pub may_par_or : (s : Strategy) (parts : List Strategy) → runs names s ≡ true → s ≡ strategy.ParOr parts → AllRun names parts × (2 ≤ length parts)
  unfolding runs
  may_par_or s parts e is = parts_run parts (sym (ap (runs names) is ∙ fold-ParOr Truth (runs_layer names) parts) ∙ e)

  pub may_then : (s : Strategy) (parts : List Strategy) → runs names s ≡ true → s ≡ strategy.Then parts → AllRun names parts × (2 ≤ length parts)
  unfolding runs
  may_then s parts e is = parts_run parts (sym (ap (runs names) is ∙ fold-Then Truth (runs_layer names) parts) ∙ e)

  pub may_par_then : (s a b : Strategy) → runs names s ≡ true → s ≡ strategy.ParThen a b → (runs names a ≡ true) × (runs names b ≡ true)
  unfolding runs
  may_par_then s a b e is = both_true (runs names a) (runs names b) (sym (ap (runs names) is ∙ fold-ParThen Truth (runs_layer names) a b) ∙ e)

  pub may_if : (s : Strategy) (p : ProbeExpr) (a b : Strategy) → runs names s ≡ true → s ≡ strategy.If p a b → (runs names a ≡ true) × (runs names b ≡ true)
  unfolding runs
  may_if s p a b e is = both_true (runs names a) (runs names b) (sym (ap (runs names) is ∙ fold-If Truth (runs_layer names) p a b) ∙ e)

  pub may_when : (s : Strategy) (p : ProbeExpr) (a : Strategy) → runs names s ≡ true → s ≡ strategy.When p a → runs names a ≡ true
  unfolding runs
  may_when s p a e is = sym (ap (runs names) is ∙ fold-When Truth (runs_layer names) p a) ∙ e

  pub may_repeat : (s a : Strategy) (turns : ℕ) → runs names s ≡ true → s ≡ strategy.Repeat a turns → runs names a ≡ true
  unfolding runs
  may_repeat s a turns e is = sym (ap (runs names) is ∙ fold-Repeat Truth (runs_layer names) a turns) ∙ e

  pub may_params : (s a : Strategy) (settings : List (ParamKey × ℤ)) → runs names s ≡ true → s ≡ strategy.Params a settings → (runs names a ≡ true) × (are_settings settings ≡ true)
  unfolding runs
  may_params s a settings e is = both_true (runs names a) (are_settings settings) (sym (ap (runs names) is ∙ fold-Params Truth (runs_layer names) a settings) ∙ e)

  pub may_try_for : (s a : Strategy) (limit : ℕ) → runs names s ≡ true → s ≡ strategy.TryFor a limit → runs names a ≡ true
  unfolding runs
  may_try_for s a limit e is = sym (ap (runs names) is ∙ fold-TryFor Truth (runs_layer names) a limit) ∙ e
