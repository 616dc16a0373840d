-- A record from the run that it came of.
use Rattle.std.proofs.Common.{◌≡◌, ℕ, List, All, Option, None, Some, Result, Ok, Err, IfOk, MatchResult, sym, ap, subst}
use Rattle.std.specs.declared.alloc.AllocError.{AllocError}
use Rattle.qterm.specs.declared.name.Sort.TheVariants as sort
use Rattle.qterm.specs.Tree.{Tree}
use Rattle.qterm.specs.Store.{trees_of, HasSort, Extends}
use Rattle.qterm.proofs.Extending.{trees_of_extends}
use Rattle.strat_text.specs.declared.strategy.Strategy.{Strategy}
use Rattle.deriv.specs.declared.deriv.Deriv.{Deriv}
use Rattle.reducer_iface.specs.Names.{Names}
use Rattle.lang_runs.specs.declared.ran.Ran.{Ran}
use Rattle.lang_runs.specs.declared.ran.RunStop.{RunStop}
use Rattle.lang_runs.specs.Runs.{Setting, world_at}
use Rattle.check_answer.specs.declared.answers.Answer.{Answer}
use Rattle.check_answer.specs.declared.answers.Answer.TheVariants as answers
use Rattle.check_answer.specs.declared.answers.Why.TheVariants as why
use Rattle.check_answer.specs.Answers as allowed
use Rattle.check_record.specs.declared.kept.Told.{Told}
use Rattle.check_record.specs.declared.kept.CheckRecord.{CheckRecord}
use Rattle.check_record.specs.Records.{precise, setting_of, IsAllowed, Tells, IsChecked, IsApplied}
use Rattle.check_record.specs.Ends.{HasEnded, IsTold, IsHandedOn}
use Rattle.check_record.proofs.Ending.{ended_of}
use Rattle.check_record.proofs.Telling.{told_is, handed_is}
use Rattle.check_record.proofs.Recording.{recorded_tells}

-- the goal of the assertions over the store that the run left
pub ended_now : (c : Setting) (ts us : List Tree) (s : Strategy) (ids : List ℕ) (drawn : ℕ) (x : Result Ran RunStop) → Extends ts us → All (HasSort sort.Bool ts) ids → HasEnded c us s (precise (trees_of ts ids)) drawn x → HasEnded c us s (precise (trees_of us ids)) drawn x
ended_now c ts us s ids drawn x e has ended = ended_of c us s (precise (trees_of ts ids)) (precise (trees_of us ids)) drawn x (ap precise (sym (trees_of_extends ts us ids e (λ k d lt. (has k d lt).0)))) ended

module _ (names : Names) (us : List Tree) (s : Strategy) (ids : List ℕ) (workers pool drawn : ℕ) (x : Result Ran RunStop) (ended : HasEnded (setting_of names workers pool) us s (precise (trees_of us ids)) drawn x) where
  told_all : (number : ℕ) (told : Result Told AllocError) → IfOk told (λ t. IsTold us number (trees_of us ids) x t) → IfOk told (λ t. IsAllowed (world_at (setting_of names workers pool) drawn) us (trees_of us ids) s (allowed.IsAnswer us number (trees_of us ids)) t.deriv t.answer)
  told_all number (Ok t) is = told_is (setting_of names workers pool) us s (trees_of us ids) drawn number x t ended is
  told_all number (Err e) is = tt

  handed_all : (told : Result Told AllocError) → IfOk told (λ t. IsHandedOn x t) → IfOk told (λ t. IsAllowed (world_at (setting_of names workers pool) drawn) us (trees_of us ids) s (allowed.IsApplied us) t.deriv t.answer)
  handed_all (Ok t) is = handed_is (setting_of names workers pool) us s (trees_of us ids) drawn x t ended is
  handed_all (Err e) is = tt

  pub check_tells : (number : ℕ) (told : Result Told AllocError) (o : Option Deriv) (it : Answer) → IfOk told (λ t. IsTold us number (trees_of us ids) x t) → MatchResult told (λ t. o ≡ Some t.deriv) (λ _. o ≡ None) → MatchResult told (λ t. it ≡ t.answer) (λ _. it ≡ answers.Unknown why.Memory) → Tells (world_at (setting_of names workers pool) drawn) us (trees_of us ids) s (allowed.IsAnswer us number (trees_of us ids)) (answers.Unknown why.Memory) o it
  check_tells number told o it is deriv answer =
      recorded_tells (world_at (setting_of names workers pool) drawn) us (trees_of us ids) s (allowed.IsAnswer us number (trees_of us ids)) (answers.Unknown why.Memory) it o told (told_all number told is) deriv answer

  pub apply_tells : (told : Result Told AllocError) (o : Option Deriv) (it : Answer) → IfOk told (λ t. IsHandedOn x t) → MatchResult told (λ t. o ≡ Some t.deriv) (λ _. o ≡ None) → MatchResult told (λ t. it ≡ t.answer) (λ _. it ≡ answers.NoSubgoals why.Memory) → Tells (world_at (setting_of names workers pool) drawn) us (trees_of us ids) s (allowed.IsApplied us) (answers.NoSubgoals why.Memory) o it
  apply_tells told o it is deriv answer =
      recorded_tells (world_at (setting_of names workers pool) drawn) us (trees_of us ids) s (allowed.IsApplied us) (answers.NoSubgoals why.Memory) it o told (handed_all told is) deriv answer

-- in terms of the record's own fields
module _ (names : Names) (us : List Tree) where
  abbrev checks : ℕ → List ℕ → Strategy → ℕ → ℕ → ℕ → Option Deriv → Answer → Type 0
  checks number ids s workers pool drawn o it = Tells (world_at (setting_of names workers pool) drawn) us (trees_of us ids) s (allowed.IsAnswer us number (trees_of us ids)) (answers.Unknown why.Memory) o it

  pub checked_of : (r : CheckRecord) (number workers pool drawn : ℕ) (ids : List ℕ) (s : Strategy) → r.number ≡ number → r.asserts ≡ ids → r.strategy ≡ s → r.workers ≡ workers → r.pool ≡ pool → r.drawn ≡ drawn → checks number ids s workers pool drawn r.deriv r.answer → IsChecked names us r
  checked_of r number workers pool drawn ids s n a t w p d tells =
      subst (λ (x : ℕ). checks x r.asserts r.strategy r.workers r.pool r.drawn r.deriv r.answer) (sym n)
      (subst (λ (x : List ℕ). checks number x r.strategy r.workers r.pool r.drawn r.deriv r.answer) (sym a)
      (subst (λ (x : Strategy). checks number ids x r.workers r.pool r.drawn r.deriv r.answer) (sym t)
      (subst (λ (x : ℕ). checks number ids s x r.pool r.drawn r.deriv r.answer) (sym w)
      (subst (λ (x : ℕ). checks number ids s workers x r.drawn r.deriv r.answer) (sym p)
      (subst (λ (x : ℕ). checks number ids s workers pool x r.deriv r.answer) (sym d) tells)))))

  abbrev applies : List ℕ → Strategy → ℕ → ℕ → ℕ → Option Deriv → Answer → Type 0
  applies ids s workers pool drawn o it = Tells (world_at (setting_of names workers pool) drawn) us (trees_of us ids) s (allowed.IsApplied us) (answers.NoSubgoals why.Memory) o it

  pub applied_of : (r : CheckRecord) (workers pool drawn : ℕ) (ids : List ℕ) (s : Strategy) → r.asserts ≡ ids → r.strategy ≡ s → r.workers ≡ workers → r.pool ≡ pool → r.drawn ≡ drawn → applies ids s workers pool drawn r.deriv r.answer → IsApplied names us r
  applied_of r workers pool drawn ids s a t w p d tells =
      subst (λ (x : List ℕ). applies x r.strategy r.workers r.pool r.drawn r.deriv r.answer) (sym a)
      (subst (λ (x : Strategy). applies ids x r.workers r.pool r.drawn r.deriv r.answer) (sym t)
      (subst (λ (x : ℕ). applies ids s x r.pool r.drawn r.deriv r.answer) (sym w)
      (subst (λ (x : ℕ). applies ids s workers x r.drawn r.deriv r.answer) (sym p)
      (subst (λ (x : ℕ). applies ids s workers pool x r.deriv r.answer) (sym d) tells))))
