-- The same for the names of a registry, which a strategy that may run by them gives.
use Rattle.std.proofs.Common.{◌≡◌, ◌≤◌, ℕ, ℤ, true, List, [], All, Option, None, Some, Result, IfOk, MatchResult}
use Rattle.std.specs.declared.alloc.AllocError.{AllocError}
use Rattle.qterm.specs.declared.name.Sort.TheVariants as sort
use Rattle.qterm.specs.Tree.{Tree}
use Rattle.qterm.specs.Store.{trees_of, HasSort, Extends}
use Rattle.qgoal.specs.Goal.{GoalTree}
use Rattle.qgoal.specs.Meaning.{IsModel}
use Rattle.strat_text.specs.declared.probe.ProbeExpr.{ProbeExpr}
use Rattle.strat_text.specs.declared.strategy.Strategy.{Strategy}
use Rattle.race_word.specs.declared.place.Place.{Place}
use Rattle.race_word.specs.declared.view.View.{View}
use Rattle.deriv.specs.declared.kind.Kind.{Kind}
use Rattle.deriv.specs.declared.params.Params.{Params}
use Rattle.deriv.specs.Params.{defaults}
use Rattle.deriv.specs.declared.deriv.Deriv.{Deriv}
use Rattle.deriv.specs.Derives.{world}
use Rattle.deriv.specs.Laws.{RowsLift}
use Rattle.reducer_iface.specs.Names.{Names, kind_at}
use Rattle.reducer_iface.specs.Rows.{rows}
use Rattle.probe_set.specs.Probe.{probe_of}
use Rattle.lang_runs.specs.declared.ran.Ran.{Ran}
use Rattle.lang_runs.specs.declared.ran.RunStop.{RunStop}
use Rattle.lang_runs.specs.Runs.{world_at, HasRun}
use Rattle.lang_runs.specs.Strategies.{runs}
use Rattle.check_answer.specs.declared.answers.Answer.{Answer}
use Rattle.check_answer.specs.declared.answers.Answer.TheVariants as answers
use Rattle.check_answer.specs.declared.answers.Why.TheVariants as why
use Rattle.check_answer.specs.Answers.{IfSat}
use Rattle.check_answer.specs.Reached.{IsReached}
use Rattle.check_record.specs.declared.kept.Told.{Told}
use Rattle.check_record.specs.declared.kept.CheckRecord.{CheckRecord}
use Rattle.check_record.specs.Records.{precise, setting_of, IsChecked, IsApplied}
use Rattle.check_record.specs.Ends.{HasEnded, IsTold, IsHandedOn, reached_of}
use Rattle.check_record.proofs.Ending.{closed_run, ended_reached}
use Rattle.check_record.proofs.Recording.{tells_model}
use Rattle.check_record.proofs.Whole.{ended_now, check_tells, apply_tells, checked_of, applied_of}

pub race_ended : (names : Names) (s : Strategy) → runs names s ≡ true → (ts : List Tree) (g : GoalTree) (workers pool : ℕ) (ps : Params) (chain : List Place) (v : View) (drawn : ℕ) (x : Result Ran RunStop) → ps ≡ defaults → chain ≡ [] → v.top ≤ drawn → HasRun (setting_of names workers pool) ts s g None ps 1 chain v x → HasEnded (setting_of names workers pool) ts s g drawn x
race_ended names s may ts g workers pool ps chain v drawn x is empty most run = closed_run (setting_of names workers pool) ts s g ps chain v drawn x is empty most run

pub reached_now : (names : Names) (s : Strategy) → runs names s ≡ true → (ts us : List Tree) (ids : List ℕ) (workers pool drawn : ℕ) (x : Result Ran RunStop) → ((probe : GoalTree → ProbeExpr → ℤ) (kinds : List ℕ → Option Kind) (w p d : ℕ) → RowsLift (world rows probe kinds w p d)) → Extends ts us → All (HasSort sort.Bool ts) ids → HasEnded (setting_of names workers pool) us s (precise (trees_of ts ids)) drawn x → IfOk x (λ r. IsReached us (trees_of us ids) (reached_of r))
reached_now names s may ts us ids workers pool drawn x lift e has ended =
    ended_reached (setting_of names workers pool) us s (precise (trees_of us ids)) drawn (lift probe_of (kind_at names) workers pool drawn) x (ended_now (setting_of names workers pool) ts us s ids drawn x e has ended)

pub checked_now : (names : Names) (s : Strategy) → runs names s ≡ true → (ts us : List Tree) (ids : List ℕ) (number workers pool drawn : ℕ) (x : Result Ran RunStop) (told : Result Told AllocError) (r : CheckRecord) → Extends ts us → All (HasSort sort.Bool ts) ids → HasEnded (setting_of names workers pool) us s (precise (trees_of ts ids)) drawn x → IfOk told (λ t. IsTold us number (trees_of us ids) x t) →
    r.number ≡ number → r.asserts ≡ ids → r.strategy ≡ s → r.workers ≡ workers → r.pool ≡ pool → r.drawn ≡ drawn → MatchResult told (λ t. r.deriv ≡ Some t.deriv) (λ _. r.deriv ≡ None) → MatchResult told (λ t. r.answer ≡ t.answer) (λ _. r.answer ≡ answers.Unknown why.Memory) → IsChecked names us r
checked_now names s may ts us ids number workers pool drawn x told r e has ended is n a t w p d deriv answer =
    checked_of names us r number workers pool drawn ids s n a t w p d
    (check_tells names us s ids workers pool drawn x (ended_now (setting_of names workers pool) ts us s ids drawn x e has ended) number told r.deriv r.answer is deriv answer)

pub model_now : (names : Names) (s : Strategy) → runs names s ≡ true → (ts us : List Tree) (ids : List ℕ) (number workers pool drawn : ℕ) (x : Result Ran RunStop) (told : Result Told AllocError) (o : Option Deriv) (it : Answer) → ((probe : GoalTree → ProbeExpr → ℤ) (kinds : List ℕ → Option Kind) (w p d : ℕ) → RowsLift (world rows probe kinds w p d)) → Extends ts us → All (HasSort sort.Bool ts) ids → HasEnded (setting_of names workers pool) us s (precise (trees_of ts ids)) drawn x → IfOk told (λ t. IsTold us number (trees_of us ids) x t) →
    MatchResult told (λ t. o ≡ Some t.deriv) (λ _. o ≡ None) → MatchResult told (λ t. it ≡ t.answer) (λ _. it ≡ answers.Unknown why.Memory) → IfSat (λ m. IsModel m (trees_of us ids)) it
model_now names s may ts us ids number workers pool drawn x told o it lift e has ended is deriv answer =
    tells_model (world_at (setting_of names workers pool) drawn) (lift probe_of (kind_at names) workers pool drawn) us number (trees_of us ids) s it o
    (check_tells names us s ids workers pool drawn x (ended_now (setting_of names workers pool) ts us s ids drawn x e has ended) number told o it is deriv answer)

pub applied_now : (names : Names) (s : Strategy) → runs names s ≡ true → (ts us : List Tree) (ids : List ℕ) (workers pool drawn : ℕ) (x : Result Ran RunStop) (told : Result Told AllocError) (r : CheckRecord) → Extends ts us → All (HasSort sort.Bool ts) ids → HasEnded (setting_of names workers pool) us s (precise (trees_of ts ids)) drawn x → IfOk told (λ t. IsHandedOn x t) →
    r.asserts ≡ ids → r.strategy ≡ s → r.workers ≡ workers → r.pool ≡ pool → r.drawn ≡ drawn → MatchResult told (λ t. r.deriv ≡ Some t.deriv) (λ _. r.deriv ≡ None) → MatchResult told (λ t. r.answer ≡ t.answer) (λ _. r.answer ≡ answers.NoSubgoals why.Memory) → IsApplied names us r
applied_now names s may ts us ids workers pool drawn x told r e has ended is a t w p d deriv answer =
    applied_of names us r workers pool drawn ids s a t w p d
    (apply_tells names us s ids workers pool drawn x (ended_now (setting_of names workers pool) ts us s ids drawn x e has ended) told r.deriv r.answer is deriv answer)
