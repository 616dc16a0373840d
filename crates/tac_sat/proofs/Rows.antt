-- The answers are ones that the row of sat allows.
use Rattle.std.proofs.Common.{◌≡◌, ◌<◌, ◌^◌, ℕ, List, [], ◌∷◌, map, length, Some, Err, refl, sym, subst, ◌∙◌, arith}
use Rattle.qterm.specs.Tree.{Tree}
use Rattle.qsubst.specs.Names.{names_of}
use Rattle.qlist_laws.specs.Law.{KeepsModels}
use Rattle.qgoal.specs.declared.goal.Goal.{Goal}
use Rattle.qgoal.specs.declared.precision.Precision.TheVariants as precision
use Rattle.qgoal.specs.Goal.{GoalTree}
use Rattle.race_word.specs.declared.place.Place.{Place}
use Rattle.race_word.specs.declared.view.View.{View}
use Rattle.deriv.specs.declared.kind.Kind.TheVariants as kinds
use Rattle.deriv.specs.declared.cause.Cause.TheVariants as cause
use Rattle.deriv.specs.Outcome.{IsOutcome, Done, goal_trees}
use Rattle.proof_conv.specs.Leads.{Leads, NestAtMost, for_each}
use Rattle.reducer_iface.specs.declared.env.Env.{Env}
use Rattle.reducer_iface.specs.declared.applied.Applied.{Applied}
use Rattle.reducer_iface.specs.Depths.{AllShallow}
use Rattle.reducer_iface.specs.Listed.{most_clausal, IsListed}
use Rattle.reducer_iface.specs.Lemmas.{first_other, AreClauses}
use Rattle.reducer_iface.specs.SatRow.{InLimit, IsDecided}
use Rattle.reducer_iface.specs.Allowed.{IsSuccess, IsFailure, IsAllowed}
use Rattle.reducer_iface.proofs.RowsLaws.{honest_decided}
use Rattle.reduce_base.specs.declared.fault.Fault.{Fault}
use Rattle.reduce_base.specs.declared.fault.Fault.TheVariants.{TooWide, TooLarge, Memory}
use Rattle.reduce_base.specs.Fault.{IsFault, stop_of}
use Rattle.sat_answers.specs.Answers.{IsAnswered}

-- ---- a success
zeros : (gs : List Goal) → length gs ≡ 1 → 0 ∷ [] ≡ for_each 0 gs
zeros [] e = absurd (omega (arith, e))
zeros (g ∷ []) e = refl
zeros (g ∷ h ∷ gs) e = absurd (omega (arith, e))

pub answered : KeepsModels → (ts : List Tree) (g : GoalTree) (cs : List Tree) (env : Env) (top n : ℕ) (a : Applied) → IsListed most_clausal g.formulas cs → AreClauses cs → IsAnswered ts g.formulas cs g.precision n a → InLimit env.limit n → n < 3 ^ length (names_of cs) → IsSuccess kinds.Sat ts g env top a
answered keeps ts g cs env top n a listed clauses one limit few =
    let row : IsDecided g env.limit (goal_trees ts a.goals) a.models a.lemmas = record {
      list = cs;
      listed = listed;
      clauses = clauses;
      formulas = one.formulas;
      goals = one.goals;
      answer = one.answer;
      in_limit = subst (InLimit env.limit) (sym one.lemmas) limit;
      few = subst (λ k. k < 3 ^ length (names_of cs)) (sym one.lemmas) few;
    } in
    record {
      has = one.has;
      some = subst (λ hs. IsOutcome (Done hs)) (sym one.goals) (omega arith, omega arith);
      shallow = subst AllShallow (sym one.goals) (one.shallow, tt);
      row = λ drawn l. row;
      models = one.models ∙ sym one.one;
      proofs = one.proofs ∙ sym one.one;
      step = precision.Precise;
      called = refl;
      honest = honest_decided keeps g env.limit (goal_trees ts a.goals) a.models a.lemmas row;
      closes = λ e. one.closes;
      leads = subst (λ (hs : List GoalTree). Leads ts a.proofs.0 g.formulas (map (λ h. h.formulas) hs)) (sym one.goals) one.leads;
      nests = subst (NestAtMost a.proofs.0) (zeros a.goals one.one) one.nests;
    }

-- ---- failures
pub fault_allowed : (ts : List Tree) (g : GoalTree) (env : Env) (chain : List Place) (v : View) (fault : Fault) → IsFault most_clausal ts g.formulas fault → IsAllowed kinds.Sat ts g env chain v (Err (stop_of fault))
fault_allowed ts g env chain v (TooWide t) h = record { has = h.0; row = λ drawn l. ((h.1, refl), refl) }
fault_allowed ts g env chain v (TooLarge n) h = record { has = tt; row = λ drawn l. ((h, refl), refl) }
fault_allowed ts g env chain v (Memory e) h = tt

pub other_fails : (ts : List Tree) (g : GoalTree) (cs : List Tree) (env : Env) (top i : ℕ) → IsListed most_clausal g.formulas cs → first_other 1 cs ≡ Some i → IsFailure kinds.Sat ts g env top (cause.NotClausal i) 0
other_fails ts g cs env top i listed first = record { has = tt; row = λ drawn l. ((record { list = cs; listed = listed; first = first }, refl), refl) }
