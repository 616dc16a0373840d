-- The successes in the words of the row of sat.
use Rattle.std.proofs.Common.{◌≡◌, ℕ, Bool as Truth, List, [], ◌∷◌, ◌++◌, length, All, inl, inr, refl, sym, ap, subst, ◌∙◌, arith}
use Rattle.std.specs.Option.{is_some}
use Rattle.std.proofs.lemmas.List.Elements.{All-cons, All-nil}
use Rattle.qterm.specs.declared.name.Sort.TheVariants as sort
use Rattle.qterm.specs.Tree.{Tree, False}
use Rattle.qterm.specs.Store.{trees_of, HasSort, Extends}
use Rattle.qeval.specs.Value.{Valuation, IsSorted}
use Rattle.qsubst.specs.Names.{names_of}
use Rattle.qgoal.specs.declared.goal.Goal.{Goal}
use Rattle.qgoal.specs.Goal.{HasGoal}
use Rattle.qgoal.specs.Meaning.{IsModel}
use Rattle.model_conv.specs.Lift.{lifted}
use Rattle.deriv.specs.Outcome.{goal_trees}
use Rattle.goal_depth.specs.Depths.{IsShallow, deepest, deepest_counted}
use Rattle.tac_cert.specs.declared.cert.Step.{Step}
use Rattle.tac_cert.specs.declared.cert.Step.TheVariants as step
use Rattle.tac_cert.specs.Accepts.{as_items}
use Rattle.proof_conv.specs.Leaves.{StepsLeave}
use Rattle.proof_conv.proofs.Fuel.{steps_then}
use Rattle.proof_conv.proofs.Staying.{steps_stay}
use Rattle.reducer_iface.specs.declared.applied.Applied.{Applied}
use Rattle.reducer_iface.specs.SatRow.{sets}
use Rattle.sat_answers.specs.Answers.{IsOne, IsAnswered}

has_one : (ts : List Tree) (gs : List Goal) (h : Goal) → gs ≡ h ∷ [] → HasGoal ts h → All (HasGoal ts) gs
has_one ts gs h e k = subst (All (HasGoal ts)) (sym e) (All-cons (HasGoal ts) h [] k (All-nil (HasGoal ts)))

-- ---- found
keeps_none : (ts fs cs : List Tree) (steps all : List Step) → StepsLeave ts (as_items fs) steps (as_items cs) → all ≡ steps ++ step.Keep [] ∷ [] → StepsLeave ts (as_items fs) all (as_items [])
keeps_none ts fs cs steps all h e =
    let last : StepsLeave ts (as_items cs) (step.Keep [] ∷ []) (as_items []) = record { there = (tt, tt); run = ([], refl, refl) } in
    subst (λ ss. StepsLeave ts (as_items fs) ss (as_items [])) (sym e) (steps_then ts (as_items fs) (as_items cs) (as_items []) steps (step.Keep [] ∷ []) h last)

pub found_answered : (ts fs cs : List Tree) (h : Goal) (values : List Truth) (steps all : List Step) (n : ℕ) (a : Applied) → h.formulas ≡ [] → IsOne h (sets (names_of cs) values) all n a → length values ≡ length (names_of cs)
    → ((V : Valuation) → IsSorted V → IsModel (lifted (sets (names_of cs) values) V) cs) → StepsLeave ts (as_items fs) steps (as_items cs) → all ≡ steps ++ step.Keep [] ∷ [] → IsAnswered ts fs cs h.precision n a
found_answered ts fs cs h values steps all n a none one each model leads more = record {
  formulas = [];
  goals = ap (goal_trees ts) one.goals ∙ ap (λ is. record { formulas = trees_of ts is; precision = h.precision } ∷ []) none;
  answer = inl (record { values = values; each = each; model = model; formulas = refl; steps = one.models });
  one = ap length one.goals;
  has = has_one ts a.goals h one.goals (subst (All (HasSort sort.Bool ts)) (sym none) (All-nil (HasSort sort.Bool ts)));
  shallow = tt;
  models = ap length one.models;
  closes = ap is_some one.proofs.0;
  proofs = one.proofs.1;
  leads = one.leads ts fs [] (keeps_none ts fs cs steps all leads more);
  nests = one.nests;
  lemmas = one.lemmas;
}

-- ---- refuted
false_shallow : IsShallow False
unfolding deepest deepest_counted
false_shallow = record { deep = omega arith; counts = omega arith }

pub refuted_answered : (ts ss us fs cs : List Tree) (h : Goal) (steps last all : List Step) (n : ℕ) (a : Applied) → Extends ts us → Extends ss us → trees_of us h.formulas ≡ False ∷ [] → HasGoal us h → IsOne h [] all n a → ((V : Valuation) → IsModel V cs → ⊥)
    → StepsLeave ts (as_items fs) steps (as_items cs) → StepsLeave ss (as_items cs) last (as_items (False ∷ [])) → all ≡ steps ++ last → IsAnswered us fs cs h.precision n a
refuted_answered ts ss us fs cs h steps last all n a from_ts from_ss is has one nowhere leads more whole = record {
  formulas = False ∷ [];
  goals = ap (goal_trees us) one.goals ∙ ap (λ fs. record { formulas = fs; precision = h.precision } ∷ []) is;
  answer = inr (record { nowhere = nowhere; formulas = refl; steps = one.models });
  one = ap length one.goals;
  has = has_one us a.goals h one.goals has;
  shallow = (false_shallow, tt);
  models = ap length one.models;
  closes = ap is_some one.proofs.0;
  proofs = one.proofs.1;
  leads = one.leads us fs (False ∷ []) (subst (λ xs. StepsLeave us (as_items fs) xs (as_items (False ∷ []))) (sym whole) (steps_then us (as_items fs) (as_items cs) (as_items (False ∷ [])) steps last (steps_stay ts us (as_items fs) steps (as_items cs) from_ts leads) (steps_stay ss us (as_items cs) last (as_items (False ∷ [])) from_ss more)));
  nests = one.nests;
  lemmas = one.lemmas;
}
