-- The rule of the race table, as facts on the words and the views of all seats. specs/Points.antt says it in its six points.
use Rattle.std.specs.Prelude.{ℕ, zero, suc, ◌+◌, ◌^◌, ◌≡◌, ◌<◌, ◌≤◌, Bool, true, false, cond, eqb, ltb, List, [], ◌∷◌, length, slice_index, Option, Some, None, is_some}
use mathlib.Core.Option.{some}
use lib.ListN.{get_elem?}
use Rattle.atomic_table.specs.Table.{State}
use Rattle.race_word.specs.declared.view.Held.{Held}
use Rattle.race_word.specs.declared.view.View.{View}
use Rattle.race_word.specs.declared.view.Terms.{Terms}
use Rattle.race_word.specs.Views.{bit, same_bool, count, of_race}
use Rattle.race_word.specs.Has.{Noted}

-- the words, and the view of each seat; the table has no slots
abbrev pub Table : Type 0
Table = State (Unit {0}) View

-- the sum over the views
abbrev pub total : (View → ℕ) → List View → ℕ
total f [] = 0
total f (v ∷ vs) = f v + total f vs

-- n if the test is true, and else 0
abbrev pub when : Bool → ℕ → ℕ
when true n = n
when false n = 0

-- the word of race r
abbrev pub word_of : List ℕ → ℕ → ℕ
word_of words zero = 0
word_of words (suc k) = slice_index words (k + 2)

-- how many branches race r has: as many as are in the views
abbrev pub size_of : List View → ℕ → ℕ
size_of views r = total (λ v. of_race r v.parts) views

-- how often t is in the views, where its race has that size and that word
abbrev pub owed : ℕ → ℕ → Held → ℕ
owed size word t = cond (eqb t.of size) (cond (ltb t.branch size) (bit (same_bool t.won (eqb word (t.branch + 1)))) 0) 0

-- a ticket that was noted as the pool's end is past the pool and below the top
abbrev pub Ended : ℕ → ℕ → Option ℕ → Type 0
Ended most top None = Unit {0}
Ended most top (Some t) = (most ≤ t) × (t < top)

-- what a seat knows is so
pub record Knows (most : ℕ) (words : List ℕ) (v : View) : Type 0 where
  pub same_pool : 0 < v.workers → v.pool ≡ most
  pub idle : v.workers ≡ 0 → (v.races ≡ 0) × (v.draws ≡ 0)
  pub below : v.top ≤ slice_index words 1
  pub ended : Ended most v.top v.end
  pub noted : (r w : ℕ) → Noted r (w + 1) v.seen → word_of words r ≡ w + 1

-- the rule: each count is the sum over the views, each branch of a race is in the views as often as it is owed, and each view knows what is so
pub record Holds (terms : Terms) (s : Table) : Type 0 where
  pub fits : (terms.workers ≤ 64) × (terms.pool ≤ 2 ^ 62)
  pub long : length s.words ≡ 4097
  pub shared_out : total (λ v. v.workers) s.views ≡ terms.workers
  pub races : total (λ v. v.races) s.views ≡ slice_index s.words 0
  pub races_most : slice_index s.words 0 ≤ 4095 + total (λ v. when v.refused v.workers) s.views
  pub lemmas : total (λ v. v.draws) s.views ≡ slice_index s.words 1
  pub lemmas_most : slice_index s.words 1 ≤ terms.pool + total (λ v. when (is_some v.end) v.workers) s.views
  pub drawn : (r : ℕ) → 0 < size_of s.views r → (0 < r) × (r ≤ 4095) × (r ≤ slice_index s.words 0)
  pub sized : (r : ℕ) → 0 < r → r ≤ 4095 → r ≤ slice_index s.words 0 → 0 < size_of s.views r
  pub small : (r : ℕ) → size_of s.views r ≤ 65536
  pub parts : (t : Held) → total (λ v. count t v.parts) s.views ≡ owed (size_of s.views t.race) (word_of s.words t.race) t
  pub in_range : (r : ℕ) → word_of s.words r ≤ size_of s.views r
  pub knows : (id : ℕ) (v : View) → get_elem? s.views id ≡ some v → Knows terms.pool s.words v
