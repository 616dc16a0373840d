-- The model of an answer makes the assertions true: it is lifted from a goal that is sat.
use Rattle.std.proofs.Common.{◌≡◌, ℕ, true, List, [], Option, None, length, get_or, refl, sym, subst, arith}
use Rattle.qterm.specs.Tree.{Tree}
use Rattle.qeval.specs.Value.{Valuation}
use Rattle.qgoal.specs.Precision.{is_up}
use Rattle.qgoal.specs.Goal.{GoalTree}
use Rattle.qgoal.specs.Meaning.{IsModel}
use Rattle.model_conv.specs.declared.step.LiftStep.{LiftStep}
use Rattle.model_conv.specs.Lift.{lifted, wide_at}
use Rattle.strat_text.specs.declared.strategy.Strategy.{Strategy}
use Rattle.deriv.specs.declared.params.Params.{Params}
use Rattle.deriv.specs.Outcome.{CauseTree, OutTree, Done, Failed, Verdict, SatAt, AllUnsat, Open, verdict}
use Rattle.deriv.specs.Trees.{Lists, Der, out_of}
use Rattle.deriv.specs.Above.{lifts}
use Rattle.deriv.specs.Derives.{World, Derives}
use Rattle.deriv.specs.Laws.{AllAlong, LiftsBack, RowsLift}
use Rattle.deriv.proofs.Lifts.{derivations_lift}
use Rattle.deriv.proofs.Ways.{along_at}
use Rattle.check_answer.specs.declared.answers.Answer.{Answer}
use Rattle.check_answer.specs.declared.answers.Answer.TheVariants as answers
use Rattle.check_answer.specs.Answers.{IsLifted, IsRefuted, IsUndecided, IsFailed, Decides, DecidesOut, IsAnswer, IfSat}
use Rattle.check_answer.proofs.Verdicts.{sat_first, first_is_sat, sat_empty, sat_up}

-- nothing has to be true
empty_model : (fs : List Tree) → fs ≡ [] → IsModel [] fs
empty_model fs e = record { sorted = tt; holds = λ f c. absurd (let x = c.1 in let none : length fs ≡ 0 = (rw e refl) in omega (arith, x, none)) }

-- the empty model, carried back from a goal that is sat
lifted_model : (g h : GoalTree) (steps : List LiftStep) (m : Valuation) → LiftsBack g h steps → h.formulas ≡ [] → is_up h.precision ≡ true → wide_at steps [] ≡ None → m ≡ lifted steps [] → IsModel m g.formulas
lifted_model g h steps m back empty up narrow is = subst (λ (V : Valuation). IsModel V g.formulas) (sym is) (back.back up [] (empty_model h.formulas empty) tt narrow)

module _ (g : GoalTree) where
  abbrev HasModel : Answer → Type 0
  HasModel it = IfSat (λ m. IsModel m g.formulas) it

  lifted_has : (h : GoalTree) (steps : List LiftStep) → LiftsBack g h steps → h.formulas ≡ [] → is_up h.precision ≡ true → (it : Answer) → IsLifted steps it → HasModel it
  lifted_has h steps back empty up (answers.Sat m) is = lifted_model g h steps m back empty up is.0 is.1
  lifted_has h steps back empty up (answers.Unsat c) is = tt
  lifted_has h steps back empty up (answers.Unknown w) is = tt
  lifted_has h steps back empty up (answers.Subgoals gs) is = tt
  lifted_has h steps back empty up (answers.NoSubgoals w) is = tt

  refuted_has : (ts : List Tree) (number : ℕ) (asserts : List Tree) (it : Answer) → IsRefuted ts number asserts it → HasModel it
  refuted_has ts number asserts (answers.Sat m) is = absurd is
  refuted_has ts number asserts (answers.Unsat c) is = tt
  refuted_has ts number asserts (answers.Unknown w) is = tt
  refuted_has ts number asserts (answers.Subgoals gs) is = tt
  refuted_has ts number asserts (answers.NoSubgoals w) is = tt

  undecided_has : (ts : List Tree) (hs : List GoalTree) (it : Answer) → IsUndecided ts hs it → HasModel it
  undecided_has ts hs (answers.Sat m) is = absurd is
  undecided_has ts hs (answers.Unsat c) is = tt
  undecided_has ts hs (answers.Unknown w) is = tt
  undecided_has ts hs (answers.Subgoals gs) is = tt
  undecided_has ts hs (answers.NoSubgoals w) is = tt

  failed_has : (ts : List Tree) (c : CauseTree) (it : Answer) → IsFailed ts c it → HasModel it
  failed_has ts c (answers.Sat m) is = absurd is
  failed_has ts c (answers.Unsat x) is = tt
  failed_has ts c (answers.Unknown w) is = tt
  failed_has ts c (answers.Subgoals gs) is = tt
  failed_has ts c (answers.NoSubgoals w) is = tt

  decided_has : (ts : List Tree) (number : ℕ) (asserts : List Tree) (hs : List GoalTree) (lists : Lists) → AllAlong LiftsBack g hs lists → (v : Verdict) → verdict hs ≡ v → (it : Answer) → Decides ts number asserts hs lists v it → HasModel it
  decided_has ts number asserts hs lists all (SatAt i) e it is =
      let at = first_is_sat hs i (sat_first hs i e) in
      lifted_has at.goal (get_or lists i []) (along_at LiftsBack g hs lists i at.goal [] all at.there) (sat_empty at.goal at.sat) (sat_up at.goal at.sat) it is
  decided_has ts number asserts hs lists all AllUnsat e it is = refuted_has ts number asserts it is
  decided_has ts number asserts hs lists all Open e it is = undecided_has ts hs it is

  out_has : (ts : List Tree) (number : ℕ) (asserts : List Tree) (lists : Lists) (out : OutTree) → ((hs : List GoalTree) → out ≡ Done hs → AllAlong LiftsBack g hs lists) → (it : Answer) → DecidesOut ts number asserts lists out it → HasModel it
  out_has ts number asserts lists (Done hs) all it is = decided_has ts number asserts hs lists (all hs refl) (verdict hs) refl it is
  out_has ts number asserts lists (Failed c) all it is = failed_has ts c it is

-- the model of an answer makes the formulas of the derivation's goal true, where what the rows allow lifts back
pub answer_model : (K : World) → RowsLift K → (ts : List Tree) (number : ℕ) (asserts : List Tree) (d : Der) (s : Strategy) (g : GoalTree) (l : Option ℕ) (ps : Params) (n : ℕ) → Derives K d s g l ps n → (it : Answer) → IsAnswer ts number asserts d it → IfSat (λ m. IsModel m g.formulas) it
answer_model K rows ts number asserts d s g l ps n run it is = out_has g ts number asserts (lifts d) (out_of d) (λ hs e. derivations_lift K rows d s g l ps n hs run e) it is
