-- The equations of folds over probes and strategies at each form, and induction by forms.
use Rattle.std.proofs.Common.{◌≡◌, ℕ, ℤ, List, [], ◌∷◌, map, ap, sym, subst, ◌∙◌}
use Rattle.std.specs.Prelude.{⊤}
use Rattle.strat_text.specs.declared.probe.ProbeExpr.{ProbeExpr, roll-ProbeExpr}
use Rattle.strat_text.specs.declared.probe.ProbeExpr.TheVariants as probe
use Rattle.strat_text.specs.declared.probe.ProbeExpr.TheOpen.{ProbeExpr-F}
use Rattle.strat_text.specs.declared.probe.ProbeExpr.TheFolds.{ind-ProbeExpr, map-ProbeExpr, fold-ProbeExpr, fold-roll-ProbeExpr}
use Rattle.strat_text.specs.declared.strategy.ParamKey.{ParamKey}
use Rattle.strat_text.specs.declared.strategy.Strategy.{Strategy, roll-Strategy}
use Rattle.strat_text.specs.declared.strategy.Strategy.TheVariants as strategy
use Rattle.strat_text.specs.declared.strategy.Strategy.TheOpen.{Strategy-F}
use Rattle.strat_text.specs.declared.strategy.Strategy.TheFolds.{ind-Strategy, map-Strategy, fold-Strategy, fold-roll-Strategy}

module _ (A : Type 0) (step : ProbeExpr-F A → A) where
  pub fold-Size : fold-ProbeExpr A step probe.Size ≡ step ProbeExpr-F.Size
  fold-Size = ap (fold-ProbeExpr A step) (sym probe.rolls-Size) ∙ fold-roll-ProbeExpr A step ProbeExpr-F.Size

  pub fold-NumExprs : fold-ProbeExpr A step probe.NumExprs ≡ step ProbeExpr-F.NumExprs
  fold-NumExprs = ap (fold-ProbeExpr A step) (sym probe.rolls-NumExprs) ∙ fold-roll-ProbeExpr A step ProbeExpr-F.NumExprs

  pub fold-Depth : fold-ProbeExpr A step probe.Depth ≡ step ProbeExpr-F.Depth
  fold-Depth = ap (fold-ProbeExpr A step) (sym probe.rolls-Depth) ∙ fold-roll-ProbeExpr A step ProbeExpr-F.Depth

  pub fold-NumConsts : fold-ProbeExpr A step probe.NumConsts ≡ step ProbeExpr-F.NumConsts
  fold-NumConsts = ap (fold-ProbeExpr A step) (sym probe.rolls-NumConsts) ∙ fold-roll-ProbeExpr A step ProbeExpr-F.NumConsts

  pub fold-IsPropositional : fold-ProbeExpr A step probe.IsPropositional ≡ step ProbeExpr-F.IsPropositional
  fold-IsPropositional = ap (fold-ProbeExpr A step) (sym probe.rolls-IsPropositional) ∙ fold-roll-ProbeExpr A step ProbeExpr-F.IsPropositional

  pub fold-IsCanonical : fold-ProbeExpr A step probe.IsCanonical ≡ step ProbeExpr-F.IsCanonical
  fold-IsCanonical = ap (fold-ProbeExpr A step) (sym probe.rolls-IsCanonical) ∙ fold-roll-ProbeExpr A step ProbeExpr-F.IsCanonical

  pub fold-IsBounded : fold-ProbeExpr A step probe.IsBounded ≡ step ProbeExpr-F.IsBounded
  fold-IsBounded = ap (fold-ProbeExpr A step) (sym probe.rolls-IsBounded) ∙ fold-roll-ProbeExpr A step ProbeExpr-F.IsBounded

  pub fold-Is01 : fold-ProbeExpr A step probe.Is01 ≡ step ProbeExpr-F.Is01
  fold-Is01 = ap (fold-ProbeExpr A step) (sym probe.rolls-Is01) ∙ fold-roll-ProbeExpr A step ProbeExpr-F.Is01

  pub fold-MaxBits : fold-ProbeExpr A step probe.MaxBits ≡ step ProbeExpr-F.MaxBits
  fold-MaxBits = ap (fold-ProbeExpr A step) (sym probe.rolls-MaxBits) ∙ fold-roll-ProbeExpr A step ProbeExpr-F.MaxBits

  pub fold-Num : (z : ℤ) → fold-ProbeExpr A step (probe.Num z) ≡ step (ProbeExpr-F.Num z)
  fold-Num z = ap (fold-ProbeExpr A step) (sym (probe.rolls-Num z)) ∙ fold-roll-ProbeExpr A step (ProbeExpr-F.Num z)

  pub fold-Lt : (a : ProbeExpr) (b : ProbeExpr) → fold-ProbeExpr A step (probe.Lt a b) ≡ step (ProbeExpr-F.Lt (fold-ProbeExpr A step a) (fold-ProbeExpr A step b))
  fold-Lt a b = ap (fold-ProbeExpr A step) (sym (probe.rolls-Lt a b)) ∙ fold-roll-ProbeExpr A step (ProbeExpr-F.Lt a b)

  pub fold-Le : (a : ProbeExpr) (b : ProbeExpr) → fold-ProbeExpr A step (probe.Le a b) ≡ step (ProbeExpr-F.Le (fold-ProbeExpr A step a) (fold-ProbeExpr A step b))
  fold-Le a b = ap (fold-ProbeExpr A step) (sym (probe.rolls-Le a b)) ∙ fold-roll-ProbeExpr A step (ProbeExpr-F.Le a b)

  pub fold-Gt : (a : ProbeExpr) (b : ProbeExpr) → fold-ProbeExpr A step (probe.Gt a b) ≡ step (ProbeExpr-F.Gt (fold-ProbeExpr A step a) (fold-ProbeExpr A step b))
  fold-Gt a b = ap (fold-ProbeExpr A step) (sym (probe.rolls-Gt a b)) ∙ fold-roll-ProbeExpr A step (ProbeExpr-F.Gt a b)

  pub fold-Ge : (a : ProbeExpr) (b : ProbeExpr) → fold-ProbeExpr A step (probe.Ge a b) ≡ step (ProbeExpr-F.Ge (fold-ProbeExpr A step a) (fold-ProbeExpr A step b))
  fold-Ge a b = ap (fold-ProbeExpr A step) (sym (probe.rolls-Ge a b)) ∙ fold-roll-ProbeExpr A step (ProbeExpr-F.Ge a b)

  pub fold-Eq : (a : ProbeExpr) (b : ProbeExpr) → fold-ProbeExpr A step (probe.Eq a b) ≡ step (ProbeExpr-F.Eq (fold-ProbeExpr A step a) (fold-ProbeExpr A step b))
  fold-Eq a b = ap (fold-ProbeExpr A step) (sym (probe.rolls-Eq a b)) ∙ fold-roll-ProbeExpr A step (ProbeExpr-F.Eq a b)

  pub fold-And : (parts : List ProbeExpr) → fold-ProbeExpr A step (probe.And parts) ≡ step (ProbeExpr-F.And (map (fold-ProbeExpr A step) parts))
  fold-And parts = ap (fold-ProbeExpr A step) (sym (probe.rolls-And parts)) ∙ fold-roll-ProbeExpr A step (ProbeExpr-F.And parts)

  pub fold-Or : (parts : List ProbeExpr) → fold-ProbeExpr A step (probe.Or parts) ≡ step (ProbeExpr-F.Or (map (fold-ProbeExpr A step) parts))
  fold-Or parts = ap (fold-ProbeExpr A step) (sym (probe.rolls-Or parts)) ∙ fold-roll-ProbeExpr A step (ProbeExpr-F.Or parts)

  pub fold-Not : (a : ProbeExpr) → fold-ProbeExpr A step (probe.Not a) ≡ step (ProbeExpr-F.Not (fold-ProbeExpr A step a))
  fold-Not a = ap (fold-ProbeExpr A step) (sym (probe.rolls-Not a)) ∙ fold-roll-ProbeExpr A step (ProbeExpr-F.Not a)

module _ (A : Type 0) (step : Strategy-F A → A) where
  pub fold-Prim : (name : List ℕ) → fold-Strategy A step (strategy.Prim name) ≡ step (Strategy-F.Prim name)
  fold-Prim name = ap (fold-Strategy A step) (sym (strategy.rolls-Prim name)) ∙ fold-roll-Strategy A step (Strategy-F.Prim name)

  pub fold-Then : (parts : List Strategy) → fold-Strategy A step (strategy.Then parts) ≡ step (Strategy-F.Then (map (fold-Strategy A step) parts))
  fold-Then parts = ap (fold-Strategy A step) (sym (strategy.rolls-Then parts)) ∙ fold-roll-Strategy A step (Strategy-F.Then parts)

  pub fold-OrElse : (parts : List Strategy) → fold-Strategy A step (strategy.OrElse parts) ≡ step (Strategy-F.OrElse (map (fold-Strategy A step) parts))
  fold-OrElse parts = ap (fold-Strategy A step) (sym (strategy.rolls-OrElse parts)) ∙ fold-roll-Strategy A step (Strategy-F.OrElse parts)

  pub fold-ParOr : (parts : List Strategy) → fold-Strategy A step (strategy.ParOr parts) ≡ step (Strategy-F.ParOr (map (fold-Strategy A step) parts))
  fold-ParOr parts = ap (fold-Strategy A step) (sym (strategy.rolls-ParOr parts)) ∙ fold-roll-Strategy A step (Strategy-F.ParOr parts)

  pub fold-ParThen : (a : Strategy) (b : Strategy) → fold-Strategy A step (strategy.ParThen a b) ≡ step (Strategy-F.ParThen (fold-Strategy A step a) (fold-Strategy A step b))
  fold-ParThen a b = ap (fold-Strategy A step) (sym (strategy.rolls-ParThen a b)) ∙ fold-roll-Strategy A step (Strategy-F.ParThen a b)

  pub fold-If : (p : ProbeExpr) (a : Strategy) (b : Strategy) → fold-Strategy A step (strategy.If p a b) ≡ step (Strategy-F.If p (fold-Strategy A step a) (fold-Strategy A step b))
  fold-If p a b = ap (fold-Strategy A step) (sym (strategy.rolls-If p a b)) ∙ fold-roll-Strategy A step (Strategy-F.If p a b)

  pub fold-When : (p : ProbeExpr) (a : Strategy) → fold-Strategy A step (strategy.When p a) ≡ step (Strategy-F.When p (fold-Strategy A step a))
  fold-When p a = ap (fold-Strategy A step) (sym (strategy.rolls-When p a)) ∙ fold-roll-Strategy A step (Strategy-F.When p a)

  pub fold-FailIf : (p : ProbeExpr) → fold-Strategy A step (strategy.FailIf p) ≡ step (Strategy-F.FailIf p)
  fold-FailIf p = ap (fold-Strategy A step) (sym (strategy.rolls-FailIf p)) ∙ fold-roll-Strategy A step (Strategy-F.FailIf p)

  pub fold-Repeat : (a : Strategy) (turns : ℕ) → fold-Strategy A step (strategy.Repeat a turns) ≡ step (Strategy-F.Repeat (fold-Strategy A step a) turns)
  fold-Repeat a turns = ap (fold-Strategy A step) (sym (strategy.rolls-Repeat a turns)) ∙ fold-roll-Strategy A step (Strategy-F.Repeat a turns)

  pub fold-Params : (a : Strategy) (settings : List (ParamKey × ℤ)) → fold-Strategy A step (strategy.Params a settings) ≡ step (Strategy-F.Params (fold-Strategy A step a) settings)
  fold-Params a settings = ap (fold-Strategy A step) (sym (strategy.rolls-Params a settings)) ∙ fold-roll-Strategy A step (Strategy-F.Params a settings)

  pub fold-TryFor : (a : Strategy) (limit : ℕ) → fold-Strategy A step (strategy.TryFor a limit) ≡ step (Strategy-F.TryFor (fold-Strategy A step a) limit)
  fold-TryFor a limit = ap (fold-Strategy A step) (sym (strategy.rolls-TryFor a limit)) ∙ fold-roll-Strategy A step (Strategy-F.TryFor a limit)

-- it holds of each
abbrev pub EachProbe : (ProbeExpr → Type 0) → List ProbeExpr → Type 0
EachProbe Q [] = ⊤
EachProbe Q (x ∷ xs) = Q x × EachProbe Q xs

each_EachProbe : (Q : ProbeExpr → Type 0) (es : List ((x : ProbeExpr) × Q x)) → EachProbe Q (map (λ (e : (x : ProbeExpr) × Q x). e.0) es)
each_EachProbe Q [] = tt
each_EachProbe Q (e ∷ es) = (e.1, each_EachProbe Q es)

-- what holds of each form where it holds of its parts
pub record ProbeForms (Q : ProbeExpr → Type 0) : Type 0 where
  pub in_Size : Q probe.Size
  pub in_NumExprs : Q probe.NumExprs
  pub in_Depth : Q probe.Depth
  pub in_NumConsts : Q probe.NumConsts
  pub in_IsPropositional : Q probe.IsPropositional
  pub in_IsCanonical : Q probe.IsCanonical
  pub in_IsBounded : Q probe.IsBounded
  pub in_Is01 : Q probe.Is01
  pub in_MaxBits : Q probe.MaxBits
  pub in_Num : (z : ℤ) → Q (probe.Num z)
  pub in_Lt : (a : ProbeExpr) → Q a → (b : ProbeExpr) → Q b → Q (probe.Lt a b)
  pub in_Le : (a : ProbeExpr) → Q a → (b : ProbeExpr) → Q b → Q (probe.Le a b)
  pub in_Gt : (a : ProbeExpr) → Q a → (b : ProbeExpr) → Q b → Q (probe.Gt a b)
  pub in_Ge : (a : ProbeExpr) → Q a → (b : ProbeExpr) → Q b → Q (probe.Ge a b)
  pub in_Eq : (a : ProbeExpr) → Q a → (b : ProbeExpr) → Q b → Q (probe.Eq a b)
  pub in_And : (parts : List ProbeExpr) → EachProbe Q parts → Q (probe.And parts)
  pub in_Or : (parts : List ProbeExpr) → EachProbe Q parts → Q (probe.Or parts)
  pub in_Not : (a : ProbeExpr) → Q a → Q (probe.Not a)

pub by_ProbeForms : (Q : ProbeExpr → Type 0) → ProbeForms Q → (x : ProbeExpr) → Q x
by_ProbeForms Q m = ind-ProbeExpr Q (λ x y is.
    elim y as (λ z. map-ProbeExpr ((x : ProbeExpr) × Q x) ProbeExpr (λ e. e.0) z ≡ x → Q (roll-ProbeExpr x)) [
      | ProbeExpr-F.Size ↦ λ same. subst (λ z. Q (roll-ProbeExpr z)) same (subst Q (sym probe.rolls-Size) m.in_Size)
      | ProbeExpr-F.NumExprs ↦ λ same. subst (λ z. Q (roll-ProbeExpr z)) same (subst Q (sym probe.rolls-NumExprs) m.in_NumExprs)
      | ProbeExpr-F.Depth ↦ λ same. subst (λ z. Q (roll-ProbeExpr z)) same (subst Q (sym probe.rolls-Depth) m.in_Depth)
      | ProbeExpr-F.NumConsts ↦ λ same. subst (λ z. Q (roll-ProbeExpr z)) same (subst Q (sym probe.rolls-NumConsts) m.in_NumConsts)
      | ProbeExpr-F.IsPropositional ↦ λ same. subst (λ z. Q (roll-ProbeExpr z)) same (subst Q (sym probe.rolls-IsPropositional) m.in_IsPropositional)
      | ProbeExpr-F.IsCanonical ↦ λ same. subst (λ z. Q (roll-ProbeExpr z)) same (subst Q (sym probe.rolls-IsCanonical) m.in_IsCanonical)
      | ProbeExpr-F.IsBounded ↦ λ same. subst (λ z. Q (roll-ProbeExpr z)) same (subst Q (sym probe.rolls-IsBounded) m.in_IsBounded)
      | ProbeExpr-F.Is01 ↦ λ same. subst (λ z. Q (roll-ProbeExpr z)) same (subst Q (sym probe.rolls-Is01) m.in_Is01)
      | ProbeExpr-F.MaxBits ↦ λ same. subst (λ z. Q (roll-ProbeExpr z)) same (subst Q (sym probe.rolls-MaxBits) m.in_MaxBits)
      | ProbeExpr-F.Num z ↦ λ same. subst (λ z. Q (roll-ProbeExpr z)) same (subst Q (sym (probe.rolls-Num z)) (m.in_Num z))
      | ProbeExpr-F.Lt a b ↦ λ same. subst (λ z. Q (roll-ProbeExpr z)) same (subst Q (sym (probe.rolls-Lt a.0 b.0)) (m.in_Lt a.0 a.1 b.0 b.1))
      | ProbeExpr-F.Le a b ↦ λ same. subst (λ z. Q (roll-ProbeExpr z)) same (subst Q (sym (probe.rolls-Le a.0 b.0)) (m.in_Le a.0 a.1 b.0 b.1))
      | ProbeExpr-F.Gt a b ↦ λ same. subst (λ z. Q (roll-ProbeExpr z)) same (subst Q (sym (probe.rolls-Gt a.0 b.0)) (m.in_Gt a.0 a.1 b.0 b.1))
      | ProbeExpr-F.Ge a b ↦ λ same. subst (λ z. Q (roll-ProbeExpr z)) same (subst Q (sym (probe.rolls-Ge a.0 b.0)) (m.in_Ge a.0 a.1 b.0 b.1))
      | ProbeExpr-F.Eq a b ↦ λ same. subst (λ z. Q (roll-ProbeExpr z)) same (subst Q (sym (probe.rolls-Eq a.0 b.0)) (m.in_Eq a.0 a.1 b.0 b.1))
      | ProbeExpr-F.And parts ↦ λ same. subst (λ z. Q (roll-ProbeExpr z)) same (subst Q (sym (probe.rolls-And (map (λ (e : (x : ProbeExpr) × Q x). e.0) parts))) (m.in_And (map (λ (e : (x : ProbeExpr) × Q x). e.0) parts) (each_EachProbe Q parts)))
      | ProbeExpr-F.Or parts ↦ λ same. subst (λ z. Q (roll-ProbeExpr z)) same (subst Q (sym (probe.rolls-Or (map (λ (e : (x : ProbeExpr) × Q x). e.0) parts))) (m.in_Or (map (λ (e : (x : ProbeExpr) × Q x). e.0) parts) (each_EachProbe Q parts)))
      | ProbeExpr-F.Not a ↦ λ same. subst (λ z. Q (roll-ProbeExpr z)) same (subst Q (sym (probe.rolls-Not a.0)) (m.in_Not a.0 a.1))
    ] is)

-- it holds of each
abbrev pub EachStrategy : (Strategy → Type 0) → List Strategy → Type 0
EachStrategy Q [] = ⊤
EachStrategy Q (x ∷ xs) = Q x × EachStrategy Q xs

each_EachStrategy : (Q : Strategy → Type 0) (es : List ((x : Strategy) × Q x)) → EachStrategy Q (map (λ (e : (x : Strategy) × Q x). e.0) es)
each_EachStrategy Q [] = tt
each_EachStrategy Q (e ∷ es) = (e.1, each_EachStrategy Q es)

-- what holds of each form where it holds of its parts
pub record StrategyForms (Q : Strategy → Type 0) : Type 0 where
  pub in_Prim : (name : List ℕ) → Q (strategy.Prim name)
  pub in_Then : (parts : List Strategy) → EachStrategy Q parts → Q (strategy.Then parts)
  pub in_OrElse : (parts : List Strategy) → EachStrategy Q parts → Q (strategy.OrElse parts)
  pub in_ParOr : (parts : List Strategy) → EachStrategy Q parts → Q (strategy.ParOr parts)
  pub in_ParThen : (a : Strategy) → Q a → (b : Strategy) → Q b → Q (strategy.ParThen a b)
  pub in_If : (p : ProbeExpr) → (a : Strategy) → Q a → (b : Strategy) → Q b → Q (strategy.If p a b)
  pub in_When : (p : ProbeExpr) → (a : Strategy) → Q a → Q (strategy.When p a)
  pub in_FailIf : (p : ProbeExpr) → Q (strategy.FailIf p)
  pub in_Repeat : (a : Strategy) → Q a → (turns : ℕ) → Q (strategy.Repeat a turns)
  pub in_Params : (a : Strategy) → Q a → (settings : List (ParamKey × ℤ)) → Q (strategy.Params a settings)
  pub in_TryFor : (a : Strategy) → Q a → (limit : ℕ) → Q (strategy.TryFor a limit)

pub by_StrategyForms : (Q : Strategy → Type 0) → StrategyForms Q → (x : Strategy) → Q x
by_StrategyForms Q m = ind-Strategy Q (λ x y is.
    elim y as (λ z. map-Strategy ((x : Strategy) × Q x) Strategy (λ e. e.0) z ≡ x → Q (roll-Strategy x)) [
      | Strategy-F.Prim name ↦ λ same. subst (λ z. Q (roll-Strategy z)) same (subst Q (sym (strategy.rolls-Prim name)) (m.in_Prim name))
      | Strategy-F.Then parts ↦ λ same. subst (λ z. Q (roll-Strategy z)) same (subst Q (sym (strategy.rolls-Then (map (λ (e : (x : Strategy) × Q x). e.0) parts))) (m.in_Then (map (λ (e : (x : Strategy) × Q x). e.0) parts) (each_EachStrategy Q parts)))
      | Strategy-F.OrElse parts ↦ λ same. subst (λ z. Q (roll-Strategy z)) same (subst Q (sym (strategy.rolls-OrElse (map (λ (e : (x : Strategy) × Q x). e.0) parts))) (m.in_OrElse (map (λ (e : (x : Strategy) × Q x). e.0) parts) (each_EachStrategy Q parts)))
      | Strategy-F.ParOr parts ↦ λ same. subst (λ z. Q (roll-Strategy z)) same (subst Q (sym (strategy.rolls-ParOr (map (λ (e : (x : Strategy) × Q x). e.0) parts))) (m.in_ParOr (map (λ (e : (x : Strategy) × Q x). e.0) parts) (each_EachStrategy Q parts)))
      | Strategy-F.ParThen a b ↦ λ same. subst (λ z. Q (roll-Strategy z)) same (subst Q (sym (strategy.rolls-ParThen a.0 b.0)) (m.in_ParThen a.0 a.1 b.0 b.1))
      | Strategy-F.If p a b ↦ λ same. subst (λ z. Q (roll-Strategy z)) same (subst Q (sym (strategy.rolls-If p a.0 b.0)) (m.in_If p a.0 a.1 b.0 b.1))
      | Strategy-F.When p a ↦ λ same. subst (λ z. Q (roll-Strategy z)) same (subst Q (sym (strategy.rolls-When p a.0)) (m.in_When p a.0 a.1))
      | Strategy-F.FailIf p ↦ λ same. subst (λ z. Q (roll-Strategy z)) same (subst Q (sym (strategy.rolls-FailIf p)) (m.in_FailIf p))
      | Strategy-F.Repeat a turns ↦ λ same. subst (λ z. Q (roll-Strategy z)) same (subst Q (sym (strategy.rolls-Repeat a.0 turns)) (m.in_Repeat a.0 a.1 turns))
      | Strategy-F.Params a settings ↦ λ same. subst (λ z. Q (roll-Strategy z)) same (subst Q (sym (strategy.rolls-Params a.0 settings)) (m.in_Params a.0 a.1 settings))
      | Strategy-F.TryFor a limit ↦ λ same. subst (λ z. Q (roll-Strategy z)) same (subst Q (sym (strategy.rolls-TryFor a.0 limit)) (m.in_TryFor a.0 a.1 limit))
    ] is)
