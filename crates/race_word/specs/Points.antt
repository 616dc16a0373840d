-- The rule of the race table, in its six points: what is so of the words and of the views of all seats at every moment.
use Rattle.std.specs.Prelude.{ℕ, ◌+◌, ◌≡◌, ◌<◌, ◌≤◌, ◌↔◌, min, slice_index, Some, is_some}
use mathlib.Core.Option.{some}
use lib.ListN.{get_elem?}
use Rattle.race_word.specs.declared.view.View.{View}
use Rattle.race_word.specs.declared.view.Terms.{Terms}
use Rattle.race_word.specs.Has.{HasBranch, HasWon, HasSeen}
use Rattle.race_word.specs.Rule.{Table, total, when, word_of, size_of}

-- the seat of that number has this view
abbrev pub Sits : Table → ℕ → View → Type 0
Sits s id v = get_elem? s.views id ≡ some v

-- exactly one view has the branch
pub record IsInOne (s : Table) (race size branch : ℕ) : Type 0 where
  pub seat : ℕ
  pub view : View
  pub sits : Sits s seat view
  pub has : HasBranch view race size branch
  pub alone : (id : ℕ) (v : View) → Sits s id v → HasBranch v race size branch → id ≡ seat

pub record Points (terms : Terms) (s : Table) : Type 0 where
  -- 1. The workers of all views sum to the workers at the start
  pub workers : total (λ v. v.workers) s.views ≡ terms.workers
  -- 2. Word 0 is the number of opens of all views, and at most 4,095 plus the workers of the views marked "refused"
  pub opens : slice_index s.words 0 ≡ total (λ v. v.races) s.views
  pub opens_most : slice_index s.words 0 ≤ 4095 + total (λ v. when v.refused v.workers) s.views
  -- 3. Word 1 is the number of draws of all views, and at most the pool plus the workers of the views with a pool end. A ticket that was noted as the pool's end is at least the pool and below its view's top, and no top is above word 1
  pub draws : slice_index s.words 1 ≡ total (λ v. v.draws) s.views
  pub draws_most : slice_index s.words 1 ≤ terms.pool + total (λ v. when (is_some v.end) v.workers) s.views
  pub ended : (id : ℕ) (v : View) (ticket : ℕ) → Sits s id v → v.end ≡ Some ticket → (terms.pool ≤ ticket) × (ticket < v.top)
  pub top : (id : ℕ) (v : View) → Sits s id v → v.top ≤ slice_index s.words 1
  -- 4. A race that was drawn has at least one branch. A race has its branches from 0 on, each in exactly one view, and no view has another of it. Its word is 0 or one of them plus 1. A race that wasn't drawn has no branches, and the word 0
  pub drawn : (r : ℕ) → 0 < r → r ≤ min (slice_index s.words 0) 4095 → 0 < size_of s.views r
  pub branches : (r b : ℕ) → b < size_of s.views r → IsInOne s r (size_of s.views r) b
  pub only : (id : ℕ) (v : View) (r size b : ℕ) → Sits s id v → HasBranch v r size b → (size ≡ size_of s.views r) × (b < size)
  pub word : (r : ℕ) → word_of s.words r ≤ size_of s.views r
  pub not_drawn : (r : ℕ) → min (slice_index s.words 0) 4095 < r → (size_of s.views r ≡ 0) × (word_of s.words r ≡ 0)
  -- 5. Where a race's word names a branch, exactly the view that has that branch has the win; where it is 0, none has one
  pub winner : (id : ℕ) (v : View) (r size b : ℕ) → Sits s id v → HasBranch v r size b → HasWon v r size b ↔ (word_of s.words r ≡ b + 1)
  pub none_won : (id : ℕ) (v : View) (r size b : ℕ) → Sits s id v → word_of s.words r ≡ 0 → ¬ HasWon v r size b
  -- 6. A winner that a view has seen is the word's winner
  pub seen : (id : ℕ) (v : View) (r w : ℕ) → Sits s id v → HasSeen v r w → word_of s.words r ≡ w + 1
