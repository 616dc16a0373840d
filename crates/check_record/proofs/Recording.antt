-- Records keep what was told, and what follows of their answers.
use Rattle.std.proofs.Common.{◌≡◌, ◌↔◌, ℕ, List, Option, None, Some, Result, Ok, Err, IfOk, MatchResult, refl, sym, subst}
use Rattle.std.specs.declared.alloc.AllocError.{AllocError}
use Rattle.qterm.specs.Tree.{Tree}
use Rattle.qgoal.specs.Meaning.{IsModel}
use Rattle.strat_text.specs.declared.strategy.Strategy.{Strategy}
use Rattle.tac_cert.specs.declared.cert.Cert.{Cert}
use Rattle.tac_cert.specs.Accepts.{Accepts}
use Rattle.deriv.specs.Params.{defaults}
use Rattle.deriv.specs.declared.deriv.Deriv.{Deriv}
use Rattle.deriv.specs.Trees.{Der}
use Rattle.deriv.specs.Derives.{World}
use Rattle.deriv.specs.Laws.{RowsLift}
use Rattle.check_answer.specs.declared.answers.Answer.{Answer}
use Rattle.check_answer.specs.declared.answers.Answer.TheVariants as answers
use Rattle.check_answer.specs.declared.answers.Why.TheVariants as why
use Rattle.check_answer.specs.Answers.{IsAnswer, IfSat, IfUnsat}
use Rattle.check_answer.proofs.Models.{answer_model}
use Rattle.check_answer.proofs.Accepted.{answer_accepted}
use Rattle.check_record.specs.declared.kept.Told.{Told}
use Rattle.check_record.specs.Records.{precise, IsAllowed, Tells}

-- a record of what was told, or of want of memory
pub recorded_tells : (K : World) (ts asserts : List Tree) (s : Strategy) (allows : Der → Answer → Type 0) (memory it : Answer) (o : Option Deriv) (told : Result Told AllocError) → IfOk told (λ t. IsAllowed K ts asserts s allows t.deriv t.answer) → MatchResult told (λ t. o ≡ Some t.deriv) (λ _. o ≡ None) → MatchResult told (λ t. it ≡ t.answer) (λ _. it ≡ memory) → Tells K ts asserts s allows memory o it
recorded_tells K ts asserts s allows memory it o (Ok t) allowed deriv is =
    subst (λ (x : Option Deriv). Tells K ts asserts s allows memory x it) (sym deriv) (subst (λ (x : Answer). IsAllowed K ts asserts s allows t.deriv x) (sym is) allowed)
recorded_tells K ts asserts s allows memory it o (Err e) allowed deriv is = subst (λ (x : Option Deriv). Tells K ts asserts s allows memory x it) (sym deriv) is

-- there is no derivation exactly where there was no memory
pub tells_memory : (K : World) (ts asserts : List Tree) (s : Strategy) (allows : Der → Answer → Type 0) (memory it : Answer) (o : Option Deriv) → ((d : Der) → allows d memory → ⊥) → Tells K ts asserts s allows memory o it → (o ≡ None) ↔ (it ≡ memory)
tells_memory K ts asserts s allows memory it None never tells = (λ _. tells, λ _. refl)
tells_memory K ts asserts s allows memory it (Some d) never tells = (λ e. cc, λ e. absurd (never tells.had.tree (subst (λ (x : Answer). allows tells.had.tree x) e tells.answer)))

-- the model of a check's record
pub tells_model : (K : World) → RowsLift K → (ts : List Tree) (number : ℕ) (asserts : List Tree) (s : Strategy) (it : Answer) (o : Option Deriv) → Tells K ts asserts s (IsAnswer ts number asserts) (answers.Unknown why.Memory) o it → IfSat (λ m. IsModel m asserts) it
tells_model K rows ts number asserts s it None tells = subst (λ (x : Answer). IfSat (λ m. IsModel m asserts) x) (sym tells) tt
tells_model K rows ts number asserts s it (Some d) tells = answer_model K rows ts number asserts tells.had.tree s (precise asserts) None defaults 1 tells.had.derives it tells.answer

-- its certificate
pub tells_accepted : (K : World) (ts : List Tree) (number : ℕ) (asserts : List Tree) (s : Strategy) (it : Answer) (o : Option Deriv) → Tells K ts asserts s (IsAnswer ts number asserts) (answers.Unknown why.Memory) o it → IfUnsat (λ cert. (cert.check ≡ number) × Accepts ts cert asserts) it
tells_accepted K ts number asserts s it None tells = subst (λ (x : Answer). IfUnsat (λ cert. (cert.check ≡ number) × Accepts ts cert asserts) x) (sym tells) tt
tells_accepted K ts number asserts s it (Some d) tells = answer_accepted ts number asserts tells.had.tree it tells.answer

pub unsat_head : (ts : List Tree) (number : ℕ) (asserts : List Tree) (it : Answer) → IfUnsat (λ cert. (cert.check ≡ number) × Accepts ts cert asserts) it → IfUnsat (λ cert. cert.check ≡ number) it
unsat_head ts number asserts (answers.Sat m) is = tt
unsat_head ts number asserts (answers.Unsat c) is = is.0
unsat_head ts number asserts (answers.Unknown w) is = tt
unsat_head ts number asserts (answers.Subgoals gs) is = tt
unsat_head ts number asserts (answers.NoSubgoals w) is = tt

pub unsat_accepted : (ts : List Tree) (number : ℕ) (asserts : List Tree) (it : Answer) → IfUnsat (λ cert. (cert.check ≡ number) × Accepts ts cert asserts) it → IfUnsat (λ cert. Accepts ts cert asserts) it
unsat_accepted ts number asserts (answers.Sat m) is = tt
unsat_accepted ts number asserts (answers.Unsat c) is = is.1
unsat_accepted ts number asserts (answers.Unknown w) is = tt
unsat_accepted ts number asserts (answers.Subgoals gs) is = tt
unsat_accepted ts number asserts (answers.NoSubgoals w) is = tt

-- what holds of the certificate that was told holds of the record's
pub recorded_unsat : (P : Cert → Type 0) (it : Answer) (told : Result Told AllocError) → IfOk told (λ t. IfUnsat P t.answer) → MatchResult told (λ t. it ≡ t.answer) (λ _. it ≡ answers.Unknown why.Memory) → IfUnsat P it
recorded_unsat P it (Ok t) holds is = subst (λ (x : Answer). IfUnsat P x) (sym is) holds
recorded_unsat P it (Err e) holds is = subst (λ (x : Answer). IfUnsat P x) (sym is) tt
