-- What remains of a chain, by its form.
use Rattle.std.proofs.Common.{◌≡◌, ◌≤◌, ◌<◌, ◌-◌, ◌∷◌, [], ℕ, suc, zero, List, length, drop, Option, Some, None, Bool as Truth, true, false, sym, ap, subst, ◌∙◌, arith}
use Rattle.std.specs.Prelude.{IsSome, is_some}
use Rattle.std.proofs.lemmas.List.Elements.{All-nil, All-cons, All-head, All-tail}
use Rattle.qterm.specs.Tree.{Tree}
use Rattle.qterm.specs.Store.{Extends}
use Rattle.qgoal.specs.Goal.{GoalTree}
use Rattle.strat_text.specs.declared.strategy.Strategy.{Strategy}
use Rattle.strat_text.specs.declared.strategy.Strategy.TheVariants as strategy
use Rattle.deriv.specs.declared.params.Params.{Params}
use Rattle.deriv.specs.Outcome.{goal_trees}
use Rattle.deriv.specs.Derives.{Chains, by_then, by_repeat, GoesOn}
use Rattle.deriv.proofs.Seeing.{goals_kept}
use Rattle.reducer_iface.specs.Names.{Names}
use Rattle.lang_runs.specs.declared.ran.Ran.{Ran}
use Rattle.lang_runs.specs.Strategies.{runs, AllRun}
use Rattle.lang_runs.specs.Runs.{Setting, IsRun}
use Rattle.lang_rows.proofs.Staying.{run_has}
use Rattle.tac_lang.specs.Chain.{rest_of}

-- the part that remains alone
pub rest_one : (ps qs : List Strategy) (p : Strategy) (t : Option ℕ) → ps ≡ p ∷ qs → length qs ≡ 0 → t ≡ None → rest_of ps t ≡ p
rest_one ps [] p t is none no_turn = ap (λ (xs : List Strategy). rest_of xs t) is ∙ ap (λ (x : Option ℕ). rest_of (p ∷ []) x) no_turn
rest_one ps (q ∷ qs) p t is none no_turn = absurd (omega (arith, none))

-- no turn is left
pub rest_none : (ps qs : List Strategy) (p : Strategy) (t : Option ℕ) (k : ℕ) → ps ≡ p ∷ qs → t ≡ Some k → k ≡ 0 → rest_of ps t ≡ strategy.Repeat p 0
rest_none ps qs p t k is some no_turn = ap (λ (xs : List Strategy). rest_of xs t) is ∙ ap (λ (x : Option ℕ). rest_of (p ∷ qs) x) some ∙ ap (λ (x : ℕ). strategy.Repeat p x) no_turn

pub chains_repeat : (ps qs : List Strategy) (p : Strategy) (t : Option ℕ) (k : ℕ) → ps ≡ p ∷ qs → t ≡ Some k → 0 < k → Chains (rest_of ps t) p (rest_of ps (Some (k - 1))) true
chains_repeat ps qs p t k is some left =
    subst (λ (x : Strategy). Chains (rest_of ps t) p x true) (sym (ap (λ (xs : List Strategy). rest_of xs (Some (k - 1))) is))
    (by_repeat p k (ap (λ (xs : List Strategy). rest_of xs t) is ∙ ap (λ (x : Option ℕ). rest_of (p ∷ qs) x) some) left)

pub chains_then : (ps qs : List Strategy) (p : Strategy) (t : Option ℕ) → ps ≡ p ∷ qs → 1 ≤ length qs → t ≡ None → Chains (rest_of ps t) p (rest_of qs None) false
chains_then ps [] p t is some no_turn = absurd (omega (arith, some))
chains_then ps (q ∷ qs) p t is some no_turn = by_then p q qs (ap (λ (xs : List Strategy). rest_of xs t) is ∙ ap (λ (x : Option ℕ). rest_of (p ∷ q ∷ qs) x) no_turn)

-- a chain that may rest is a repeat with a turn left
pub is_repeat : (s p r : Strategy) (b : Truth) → b ≡ true → Chains s p r b → (k : ℕ) × (s ≡ strategy.Repeat p k) × (0 < k)
is_repeat s p r b may (by_then q q' qs is) = absurd (cc)
is_repeat s p r b may (by_repeat q k is left) = (k, is, left)

pub some_is : (t : Option ℕ) → IsSome t → is_some t ≡ true
some_is t is = is

-- the parts of a chain run
pub part_runs : (names : Names) (parts : List Strategy) (k : ℕ) (p : Strategy) (rest : List Strategy) → AllRun names parts → drop k parts ≡ p ∷ rest → runs names p ≡ true
part_runs names [] zero p rest all is = cc
part_runs names [] (suc k) p rest all is = cc
part_runs names (q ∷ parts) zero p rest all is = (let same : q ≡ p = cc in subst (λ (x : Strategy). runs names x ≡ true) same (All-head (λ (s : Strategy). runs names s ≡ true) q parts all))
part_runs names (q ∷ parts) (suc k) p rest all is = part_runs names parts k p rest (All-tail (λ (s : Strategy). runs names s ≡ true) q parts all) is

-- what goes on goes on over a later store
pub goes_later : (c : Setting) (top : ℕ) (ts us : List Tree) (b : Truth) (g : GoalTree) (s : Strategy) (l : Option ℕ) (ps : Params) (n : ℕ) (r : Ran) (h k : GoalTree) → Extends ts us → IsRun c top ts s g l ps n r → h ≡ k → GoesOn b h (goal_trees ts r.goals) → GoesOn b k (goal_trees us r.goals)
goes_later c top ts us false g s l ps n r h k e run same goes = tt
goes_later c top ts us true g s l ps n r h k e run same goes = λ alone. goes (sym (goals_kept ts us e r.goals (run_has c top ts s g l ps n r run)) ∙ alone ∙ ap (λ (x : GoalTree). x ∷ []) (sym same))

-- the strategies that a chain begins as
pub then_is : (s : Strategy) (parts ps : List Strategy) → s ≡ strategy.Then parts → 2 ≤ length parts → ps ≡ parts → rest_of ps None ≡ s
then_is s [] ps is many same = absurd (omega arith)
then_is s (p ∷ []) ps is many same = absurd (omega arith)
then_is s (p ∷ q ∷ parts) ps is many same = ap (λ (xs : List Strategy). rest_of xs None) same ∙ sym is

pub repeat_is : (s p : Strategy) (t : ℕ) (ps : List Strategy) → s ≡ strategy.Repeat p t → ps ≡ p ∷ [] → rest_of ps (Some t) ≡ s
repeat_is s p t ps is same = ap (λ (xs : List Strategy). rest_of xs (Some t)) same ∙ sym is

pub alone_runs : (names : Names) (p : Strategy) (ps : List Strategy) → ps ≡ p ∷ [] → runs names p ≡ true → AllRun names ps
alone_runs names p ps is one = subst (λ (xs : List Strategy). AllRun names xs) (sym is) (All-cons (λ (s : Strategy). runs names s ≡ true) p [] one (All-nil (λ (s : Strategy). runs names s ≡ true)))
