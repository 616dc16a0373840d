-- Records as checks, and runs of strategies alone, hand them over.
use Rattle.std.proofs.Common.{◌≡◌, ◌^◌, ℕ, List, All, Option, None, Some, sym, subst}
use Rattle.qterm.specs.declared.name.Sort.TheVariants as sort
use Rattle.qterm.specs.Tree.{Tree}
use Rattle.qterm.specs.Store.{Has, HasSort, Extends, trees_of}
use Rattle.qterm.proofs.Alls.{All-weaker}
use Rattle.qterm.proofs.Fitting.{Has_extends}
use Rattle.qgoal.specs.Goal.{GoalTree}
use Rattle.qgoal.specs.Meaning.{IsModel}
use Rattle.tac_cert.specs.Accepts.{CertFits}
use Rattle.cert_items.specs.Truth.{Unsatisfiable}
use Rattle.strat_text.specs.declared.strategy.Strategy.{Strategy}
use Rattle.deriv.specs.declared.deriv.Deriv.{Deriv}
use Rattle.deriv.specs.Outcome.{OutTree, Done, Failed, Verdict, SatAt, AllUnsat, Open, verdict}
use Rattle.deriv.specs.Trees.{Lists, out_of}
use Rattle.deriv.specs.Above.{lifts}
use Rattle.deriv.specs.Derives.{World}
use Rattle.reducer_iface.specs.Names.{Names}
use Rattle.check_answer.specs.declared.answers.Answer.{Answer}
use Rattle.check_answer.specs.declared.answers.Answer.TheVariants as answers
use Rattle.check_answer.specs.declared.answers.Why.TheVariants as why
use Rattle.check_answer.specs.Answers as allowed
use Rattle.check_record.specs.declared.kept.CheckRecord.{CheckRecord}
use Rattle.check_record.specs.Records.{Tells, IsChecked, IsApplied}
use Rattle.script_text.specs.Session.{IsOfCheck, IsOfApply}
use Rattle.script_shown.specs.Trees.{answer_tree, HasAnswer}
use Rattle.script_run.specs.Records.{HasRecord, IsRight, MadeBy, IsMade}

-- ---- checks
decided_kind : (ts : List Tree) (number : ℕ) (asserts : List Tree) (hs : List GoalTree) (lists : Lists) (v : Verdict) (it : Answer)
    → allowed.Decides ts number asserts hs lists v it → IsOfCheck (answer_tree ts it)
decided_kind ts number asserts hs lists v (answers.Sat model) h = tt
decided_kind ts number asserts hs lists v (answers.Unsat cert) h = tt
decided_kind ts number asserts hs lists v (answers.Unknown reason) h = tt
decided_kind ts number asserts hs lists (SatAt i) (answers.Subgoals goals) h = absurd h
decided_kind ts number asserts hs lists AllUnsat (answers.Subgoals goals) h = absurd h
decided_kind ts number asserts hs lists Open (answers.Subgoals goals) h = absurd h
decided_kind ts number asserts hs lists (SatAt i) (answers.NoSubgoals reason) h = absurd h
decided_kind ts number asserts hs lists AllUnsat (answers.NoSubgoals reason) h = absurd h
decided_kind ts number asserts hs lists Open (answers.NoSubgoals reason) h = absurd h

answer_kind : (ts : List Tree) (number : ℕ) (asserts : List Tree) (lists : Lists) (out : OutTree) (it : Answer)
    → allowed.DecidesOut ts number asserts lists out it → IsOfCheck (answer_tree ts it)
answer_kind ts number asserts lists (Done hs) it h = decided_kind ts number asserts hs lists (verdict hs) it h
answer_kind ts number asserts lists (Failed c) (answers.Sat model) h = tt
answer_kind ts number asserts lists (Failed c) (answers.Unsat cert) h = tt
answer_kind ts number asserts lists (Failed c) (answers.Unknown reason) h = tt
answer_kind ts number asserts lists (Failed c) (answers.Subgoals goals) h = absurd h
answer_kind ts number asserts lists (Failed c) (answers.NoSubgoals reason) h = absurd h

told_kind : (K : World) (ts asserts : List Tree) (s : Strategy) (number : ℕ) (d : Option Deriv) (it : Answer)
    → Tells K ts asserts s (allowed.IsAnswer ts number asserts) (answers.Unknown why.Memory) d it → IsOfCheck (answer_tree ts it)
told_kind K ts asserts s number None it is = rw is tt
told_kind K ts asserts s number (Some d) it h = answer_kind ts number asserts (lifts h.had.tree) (out_of h.had.tree) it h.answer

-- a check has the answer of one
pub checked_kind : (names : Names) (ts : List Tree) (r : CheckRecord) → IsChecked names ts r → IsOfCheck (answer_tree ts r.answer)
checked_kind names ts r h = told_kind _ ts (trees_of ts r.asserts) r.strategy r.number r.deriv r.answer h

made_by : (names : Names) (ts : List Tree) (r : CheckRecord) (it : Answer) → IsOfCheck (answer_tree ts it) → IsChecked names ts r → MadeBy names ts r it
made_by names ts r (answers.Sat model) kind h = h
made_by names ts r (answers.Unsat cert) kind h = h
made_by names ts r (answers.Unknown reason) kind h = h
made_by names ts r (answers.Subgoals goals) kind h = absurd kind
made_by names ts r (answers.NoSubgoals reason) kind h = absurd kind

pub made_checked : (names : Names) (ts : List Tree) (r : CheckRecord) → IsChecked names ts r → r.workers ≡ 1 → r.pool ≡ 2 ^ 62 → IsMade names ts r
made_checked names ts r h workers pool = record { made = made_by names ts r r.answer (checked_kind names ts r h) h; workers = workers; pool = pool }

has_answer_checked : (ts : List Tree) (it : Answer) → IsOfCheck (answer_tree ts it) → allowed.IfUnsat (CertFits ts) it → HasAnswer ts it
has_answer_checked ts (answers.Sat model) kind fits = tt
has_answer_checked ts (answers.Unsat cert) kind fits = fits
has_answer_checked ts (answers.Unknown reason) kind fits = tt
has_answer_checked ts (answers.Subgoals goals) kind fits = absurd kind
has_answer_checked ts (answers.NoSubgoals reason) kind fits = absurd kind

has_asserts : (old ts : List Tree) (asserts ids : List ℕ) → Extends old ts → All (HasSort sort.Bool old) asserts → ids ≡ asserts → All (Has ts) ids
has_asserts old ts asserts ids e h is = subst (All (Has ts)) (sym is) (All-weaker (HasSort sort.Bool old) (Has ts) asserts (λ i sorted. Has_extends old ts i e sorted.0) h)

pub has_checked : (names : Names) (old ts : List Tree) (asserts : List ℕ) (r : CheckRecord) → Extends old ts → All (HasSort sort.Bool old) asserts → r.asserts ≡ asserts
    → IsChecked names ts r → allowed.IfUnsat (CertFits ts) r.answer → HasRecord ts r
has_checked names old ts asserts r e h is made fits = record {
  asserts = has_asserts old ts asserts r.asserts e h is;
  answer = has_answer_checked ts r.answer (checked_kind names ts r made) fits;
}

pub right_checked : (ts : List Tree) (asserts : List ℕ) (r : CheckRecord) → r.asserts ≡ asserts
    → allowed.IfSat (λ model. IsModel model (trees_of ts asserts)) r.answer → allowed.IfUnsat (λ cert. Unsatisfiable (trees_of ts asserts)) r.answer → IsRight ts r
right_checked ts asserts r is sat unsat = record {
  sat = subst (λ ids. allowed.IfSat (λ model. IsModel model (trees_of ts ids)) r.answer) (sym is) sat;
  unsat = subst (λ ids. allowed.IfUnsat (λ cert. Unsatisfiable (trees_of ts ids)) r.answer) (sym is) unsat;
}

-- ---- runs of strategies alone
applied_out : (ts : List Tree) (out : OutTree) (it : Answer) → allowed.TellsOut ts out it → IsOfApply (answer_tree ts it)
applied_out ts (Done hs) (answers.Sat model) h = absurd h
applied_out ts (Failed c) (answers.Sat model) h = absurd h
applied_out ts (Done hs) (answers.Unsat cert) h = absurd h
applied_out ts (Failed c) (answers.Unsat cert) h = absurd h
applied_out ts (Done hs) (answers.Unknown reason) h = absurd h
applied_out ts (Failed c) (answers.Unknown reason) h = absurd h
applied_out ts out (answers.Subgoals goals) h = tt
applied_out ts out (answers.NoSubgoals reason) h = tt

applied_told : (K : World) (ts asserts : List Tree) (s : Strategy) (d : Option Deriv) (it : Answer)
    → Tells K ts asserts s (allowed.IsApplied ts) (answers.NoSubgoals why.Memory) d it → IsOfApply (answer_tree ts it)
applied_told K ts asserts s None it is = rw is tt
applied_told K ts asserts s (Some d) it h = applied_out ts (out_of h.had.tree) it h.answer

-- an `apply` has the answer of one
pub applied_kind : (names : Names) (ts : List Tree) (r : CheckRecord) → IsApplied names ts r → IsOfApply (answer_tree ts r.answer)
applied_kind names ts r h = applied_told _ ts (trees_of ts r.asserts) r.strategy r.deriv r.answer h

run_by : (names : Names) (ts : List Tree) (r : CheckRecord) (it : Answer) → IsOfApply (answer_tree ts it) → IsApplied names ts r → MadeBy names ts r it
run_by names ts r (answers.Sat model) kind h = absurd kind
run_by names ts r (answers.Unsat cert) kind h = absurd kind
run_by names ts r (answers.Unknown reason) kind h = absurd kind
run_by names ts r (answers.Subgoals goals) kind h = h
run_by names ts r (answers.NoSubgoals reason) kind h = h

pub made_applied : (names : Names) (ts : List Tree) (r : CheckRecord) → IsApplied names ts r → r.workers ≡ 1 → r.pool ≡ 2 ^ 62 → IsMade names ts r
made_applied names ts r h workers pool = record { made = run_by names ts r r.answer (applied_kind names ts r h) h; workers = workers; pool = pool }

has_out : (ts : List Tree) (out : OutTree) (it : Answer) → allowed.TellsOut ts out it → HasAnswer ts it
has_out ts (Done hs) (answers.Sat model) h = tt
has_out ts (Failed c) (answers.Sat model) h = tt
has_out ts (Done hs) (answers.Unsat cert) h = absurd h
has_out ts (Failed c) (answers.Unsat cert) h = absurd h
has_out ts out (answers.Unknown reason) h = tt
has_out ts (Done hs) (answers.Subgoals goals) h = h.0
has_out ts (Failed c) (answers.Subgoals goals) h = absurd h
has_out ts out (answers.NoSubgoals reason) h = tt

has_told : (K : World) (ts asserts : List Tree) (s : Strategy) (d : Option Deriv) (it : Answer)
    → Tells K ts asserts s (allowed.IsApplied ts) (answers.NoSubgoals why.Memory) d it → HasAnswer ts it
has_told K ts asserts s None it is = rw is tt
has_told K ts asserts s (Some d) it h = has_out ts (out_of h.had.tree) it h.answer

pub has_applied : (names : Names) (old ts : List Tree) (asserts : List ℕ) (r : CheckRecord) → Extends old ts → All (HasSort sort.Bool old) asserts → r.asserts ≡ asserts
    → IsApplied names ts r → HasRecord ts r
has_applied names old ts asserts r e h is made = record {
  asserts = has_asserts old ts asserts r.asserts e h is;
  answer = has_told _ ts (trees_of ts r.asserts) r.strategy r.deriv r.answer made;
}

right_by : (ts : List Tree) (fs : List Tree) (it : Answer) → IsOfApply (answer_tree ts it) → allowed.IfSat (λ model. IsModel model fs) it × allowed.IfUnsat (λ cert. Unsatisfiable fs) it
right_by ts fs (answers.Sat model) kind = absurd kind
right_by ts fs (answers.Unsat cert) kind = absurd kind
right_by ts fs (answers.Unknown reason) kind = (tt, tt)
right_by ts fs (answers.Subgoals goals) kind = (tt, tt)
right_by ts fs (answers.NoSubgoals reason) kind = (tt, tt)

pub right_applied : (names : Names) (ts : List Tree) (r : CheckRecord) → IsApplied names ts r → IsRight ts r
right_applied names ts r h =
    let both = right_by ts (trees_of ts r.asserts) r.answer (applied_kind names ts r h) in
    record { sat = both.0; unsat = both.1 }
