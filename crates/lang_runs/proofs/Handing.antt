-- A run that hands on the goals and converters of another one on the same goal.
use Rattle.std.proofs.Common.{◌≡◌, ◌⊎◌, ℕ, true, List, map, length, Option, sym, ap, subst, ◌∙◌}
use Rattle.std.specs.Option.{is_some}
use Rattle.qterm.specs.Tree.{Tree}
use Rattle.qgoal.specs.declared.goal.Goal.{Goal}
use Rattle.qgoal.specs.Goal.{GoalTree}
use Rattle.strat_text.specs.declared.strategy.Strategy.{Strategy}
use Rattle.deriv.specs.declared.params.Params.{Params}
use Rattle.deriv.specs.declared.outcome.Outcome.TheVariants as outcome
use Rattle.deriv.specs.declared.deriv.Deriv.{Deriv}
use Rattle.deriv.specs.Outcome.{goal_trees}
use Rattle.deriv.specs.Above.{lifts, splits}
use Rattle.deriv.specs.Honest.{SomeGoal, IsOpen}
use Rattle.proof_conv.specs.Conv.{Converter}
use Rattle.proof_conv.specs.Leads.{Leads, NestAtMost}
use Rattle.reducer_iface.specs.Depths.{AllShallow}
use Rattle.lang_runs.specs.declared.ran.Ran.{Ran}
use Rattle.lang_runs.specs.Nodes.{HandsOn}
use Rattle.lang_runs.specs.Runs.{Setting, IsKept, IsRun}

-- what a run says of its goals and converters, for the goals gs and the converter p
abbrev Closing : List Tree → List Goal → Converter → Type 0
Closing ts gs p = (is_some p.0 ≡ true) ⊎ SomeGoal IsOpen (goal_trees ts gs)

abbrev Leading : List Tree → GoalTree → List Goal → Converter → Type 0
Leading ts g gs p = Leads ts p.0 g.formulas (map (λ h. h.formulas) (goal_trees ts gs))

pub handed_on : (c : Setting) (top : ℕ) (ts : List Tree) (s p : Strategy) (g : GoalTree) (l l' : Option ℕ) (ps ps' : Params) (n n' : ℕ) (child ran : Ran) (d : Deriv) (k : IsKept c top ts s g l ps n d) (run : IsRun c top ts p g l' ps' n' child)
    → d.out ≡ child.deriv.out → splits c.kinds k.tree ≡ splits c.kinds run.kept.tree → lifts k.tree ≡ lifts run.kept.tree → HandsOn d child ran → IsRun c top ts s g l ps n ran
handed_on c top ts s p g l l' ps ps' n n' child ran d k run out same_splits same_lifts is =
    subst (λ (x : Deriv). IsRun c top ts s g l ps n (record { goals = ran.goals; above = ran.above; models = ran.models; proofs = ran.proofs; deriv = x })) (sym is.deriv) (record {
      kept = k;
      goals = out ∙ run.goals ∙ ap outcome.Done (sym is.goals);
      shallow = subst (λ (gs : List Goal). AllShallow (goal_trees ts gs)) (sym is.goals) run.shallow;
      above = is.above ∙ run.above ∙ sym same_splits;
      models = is.models ∙ run.models ∙ sym same_lifts;
      subgoals = ap (λ (x : Converter). x.1) is.proofs ∙ run.subgoals ∙ ap length (sym is.goals);
      closes = subst (λ (gs : List Goal). Closing ts gs ran.proofs) (sym is.goals) (subst (λ (x : Converter). Closing ts child.goals x) (sym is.proofs) run.closes);
      leads = subst (λ (gs : List Goal). Leading ts g gs ran.proofs) (sym is.goals) (subst (λ (x : Converter). Leading ts g child.goals x) (sym is.proofs) run.leads);
      nests = subst (λ (ns : List ℕ). NestAtMost ran.proofs.0 ns) (sym is.above) (subst (λ (x : Converter). NestAtMost x.0 child.above) (sym is.proofs) run.nests);
    })
