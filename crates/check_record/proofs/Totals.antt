-- How many lemmas were drawn in all.
use Rattle.std.proofs.Common.{◌≡◌, ◌≤◌, ◌+◌, ℕ, List, Option, None, Some, Result, Ok, Err, IfOk, MatchResult, refl, sym, ap, subst, ◌∙◌, arith}
use Rattle.std.specs.Prelude.{◌<◌, IfSome}
use Rattle.std.specs.declared.alloc.AllocError.{AllocError}
use Rattle.qterm.specs.Tree.{Tree}
use Rattle.race_word.specs.declared.view.View.{View}
use Rattle.deriv.specs.declared.deriv.Deriv.{Deriv}
use Rattle.deriv.specs.Spent.{all_spent, pool_ends}
use Rattle.lang_runs.specs.declared.ran.Ran.{Ran}
use Rattle.lang_runs.specs.declared.ran.RunStop.{RunStop}
use Rattle.lang_runs.specs.declared.ran.RunStop.TheVariants as stops
use Rattle.lang_runs.specs.Drawn.{ShowsDrawn, HasDrawn}
use Rattle.lang_runs.proofs.Tallying.{drawn_lesser}
use Rattle.check_record.specs.declared.kept.Told.{Told}
use Rattle.check_record.specs.Records.{IsTotal}
use Rattle.check_record.specs.Ends.{IsTold, IsHandedOn, HasTotal}

-- of a racer that had drawn nothing, and drew alone
module _ (pool drawn : ℕ) (old new : View) (first : old.draws ≡ 0) (mine : drawn ≡ new.draws) (most : drawn ≤ pool + 1) (ended : IfSome new.end (λ ticket. (pool ≤ ticket) × (ticket < drawn))) where
  derived_total : (d : Deriv) → ShowsDrawn old new d → IsTotal pool drawn d
  derived_total d shows ts tree sees = drawn_lesser pool drawn (all_spent tree) (pool_ends tree) old new (shows ts tree sees) first mine most ended

  pub run_total : (x : Result Ran RunStop) → HasDrawn old new x → HasTotal pool drawn x
  run_total (Ok r) shows = derived_total r.deriv shows
  run_total (Err (stops.Failed d)) shows = derived_total d shows
  run_total (Err (stops.Cancelled seen)) shows = tt
  run_total (Err stops.Memory) shows = tt

-- in the terms of the table that was made for the pool and one worker
pub total_most : (pool workers p w drawn : ℕ) → p ≡ pool → w ≡ workers → workers ≡ 1 → drawn ≤ p + w → drawn ≤ pool + 1
total_most pool workers p w drawn same back one most = omega (arith, same, back, one, most)

pub total_ended : (p pool drawn : ℕ) (end : Option ℕ) → p ≡ pool → IfSome end (λ ticket. (p ≤ ticket) × (ticket < drawn)) → IfSome end (λ ticket. (pool ≤ ticket) × (ticket < drawn))
total_ended p pool drawn end same past = subst (λ (n : ℕ). IfSome end (λ ticket. (n ≤ ticket) × (ticket < drawn))) same past

-- of what is told of the run
module _ (pool drawn : ℕ) where
  same_total : (d e : Deriv) → e ≡ d → IsTotal pool drawn d → IsTotal pool drawn e
  same_total d e same total = subst (λ (x : Deriv). IsTotal pool drawn x) (sym same) total

  told_total : (ts : List Tree) (number : ℕ) (asserts : List Tree) (x : Result Ran RunStop) (t : Told) → HasTotal pool drawn x → IsTold ts number asserts x t → IsTotal pool drawn t.deriv
  told_total ts number asserts (Ok r) t total told = same_total r.deriv t.deriv told.0 total
  told_total ts number asserts (Err (stops.Failed d)) t total told = same_total d t.deriv told.0 total
  told_total ts number asserts (Err (stops.Cancelled seen)) t total told = absurd told
  told_total ts number asserts (Err stops.Memory) t total told = absurd told

  handed_total : (x : Result Ran RunStop) (t : Told) → HasTotal pool drawn x → IsHandedOn x t → IsTotal pool drawn t.deriv
  handed_total (Ok r) t total told = same_total r.deriv t.deriv told.0 total
  handed_total (Err (stops.Failed d)) t total told = same_total d t.deriv told.0 total
  handed_total (Err (stops.Cancelled seen)) t total told = absurd told
  handed_total (Err stops.Memory) t total told = absurd told

  recorded_total : (o : Option Deriv) (told : Result Told AllocError) → IfOk told (λ t. IsTotal pool drawn t.deriv) → MatchResult told (λ t. o ≡ Some t.deriv) (λ _. o ≡ None) → IfSome o (IsTotal pool drawn)
  recorded_total o (Ok t) total is = subst (λ (x : Option Deriv). IfSome x (IsTotal pool drawn)) (sym is) total
  recorded_total o (Err e) total is = subst (λ (x : Option Deriv). IfSome x (IsTotal pool drawn)) (sym is) tt

  all_told : (ts : List Tree) (number : ℕ) (asserts : List Tree) (x : Result Ran RunStop) (told : Result Told AllocError) → HasTotal pool drawn x → IfOk told (λ t. IsTold ts number asserts x t) → IfOk told (λ t. IsTotal pool drawn t.deriv)
  all_told ts number asserts x (Ok t) total is = told_total ts number asserts x t total is
  all_told ts number asserts x (Err e) total is = tt

  all_handed : (x : Result Ran RunStop) (told : Result Told AllocError) → HasTotal pool drawn x → IfOk told (λ t. IsHandedOn x t) → IfOk told (λ t. IsTotal pool drawn t.deriv)
  all_handed x (Ok t) total is = handed_total x t total is
  all_handed x (Err e) total is = tt

  -- of the record's fields
  as_drawn : (now : ℕ) (o : Option Deriv) → now ≡ drawn → IfSome o (IsTotal pool drawn) → IfSome o (IsTotal pool now)
  as_drawn now o is total = subst (λ (n : ℕ). IfSome o (IsTotal pool n)) (sym is) total

  pub check_total : (ts : List Tree) (number : ℕ) (asserts : List Tree) (x : Result Ran RunStop) (told : Result Told AllocError) (o : Option Deriv) (now : ℕ) → HasTotal pool drawn x → IfOk told (λ t. IsTold ts number asserts x t) → MatchResult told (λ t. o ≡ Some t.deriv) (λ _. o ≡ None) → now ≡ drawn → IfSome o (IsTotal pool now)
  check_total ts number asserts x told o now total is deriv same = as_drawn now o same (recorded_total o told (all_told ts number asserts x told total is) deriv)

  pub apply_total : (x : Result Ran RunStop) (told : Result Told AllocError) (o : Option Deriv) (now : ℕ) → HasTotal pool drawn x → IfOk told (λ t. IsHandedOn x t) → MatchResult told (λ t. o ≡ Some t.deriv) (λ _. o ≡ None) → now ≡ drawn → IfSome o (IsTotal pool now)
  apply_total x told o now total is deriv same = as_drawn now o same (recorded_total o told (all_handed x told total is) deriv)
