-- What levels have left falls with each turn.
use Rattle.std.proofs.Common.{◌≡◌, ◌≤◌, ◌<◌, ◌+◌, ◌-◌, ◌*◌, ◌++◌, ◌∷◌, [], ℕ, suc, zero, List, length, reverse, Ok, Err, ap, ◌∙◌, arith}
use Rattle.std.proofs.lemmas.Nat.{mul-le}
use Rattle.qgoal.specs.declared.goal.Goal.{Goal}
use Rattle.lang_runs.specs.declared.ran.Ran.{Ran}
use Rattle.lang_runs.specs.declared.ran.RunStop.TheVariants as stops
use Rattle.lang_rows.specs.Rows.{IsNext}
use Rattle.tac_lang.specs.declared.level.Level.{Level}
use Rattle.tac_lang.specs.declared.level.Turn.{Turn}
use Rattle.tac_lang.specs.declared.level.Turn.TheVariants as turn
use Rattle.tac_lang.specs.Levels.{IsResumed, IsUnder, ahead, turns_in, turns_at, left_in, left_under}
use Rattle.tac_lang.proofs.Resting.{within}
use Rattle.tac_lang.proofs.Waiting.{innermost}

-- one run more leaves one less
one_less : (n k j u : ℕ) → j ≡ k + 1 → 1 + (n - j) * u < 2 + ((n - k) - 1) * u
one_less n k j u is = (let same : n - j ≡ (n - k) - 1 = omega (arith, is) in rw same (omega arith))

-- the turns of a goal
with_goal : (a u : ℕ) → 1 ≤ a → a * u ≡ u + (a - 1) * u
with_goal zero u some = absurd (omega (arith, some))
with_goal (suc a) u some = (let same : suc a - 1 ≡ a = omega arith in rw same (omega arith))

turns_least : (k : ℕ) → 3 ≤ turns_in k
unfolding turns_in
turns_least zero = omega arith
turns_least (suc k) = omega arith

-- a goal less, and a level more with as many goals as there may be
more_less : (a b d : ℕ) → 1 ≤ a → b ≤ 65536 → d + 1 ≤ 2048 → 1 + b * turns_in (2048 - (d + 1)) + (2 + (a - 1) * turns_in (2048 - d)) < 1 + a * turns_in (2048 - d)
unfolding turns_in
more_less a b d some few room =
    let k = 2048 - (d + 1) in
    let next : 2048 - d ≡ suc k = omega (arith, room) in
    let whole = with_goal a (turns_in (2048 - d)) some in
    let bound = mul-le b (turns_in k) 65536 (turns_in k) few (omega arith) in
    let here : turns_in (2048 - d) ≡ 3 + 65536 * turns_in k = ap turns_in next in
    omega (arith, whole, bound, here)

-- a level goes on, or ended
pub resumed_less : (level : Level) (now : Turn) → IsResumed level now → left_in now < 2 + (ahead level - 1) * turns_at level
resumed_less level (turn.Ended answer) is = omega arith
resumed_less level (turn.Down more) (depth, first, longer) =
    let less = one_less (length level.row.first.goals) (length level.row.derivs) (length more.row.derivs) (turns_at level) longer in
    let goals : length more.row.first.goals ≡ length level.row.first.goals = ap (λ (r : Ran). length r.goals) first in
    let turns : turns_at more ≡ turns_at level = ap (λ (n : ℕ). turns_in (2048 - n)) depth in
    rw (goals, turns) less

-- a goal is next
pub some_ahead : (level : Level) (next : Goal) → IsNext level.row next → 1 ≤ ahead level
some_ahead level next is = (let lt = within level.row.first.goals (length level.row.derivs) next is in omega (arith, lt))

-- after a goal of the level
pub resumed_falls : (level : Level) (next : Goal) (now : Turn) (k : ℕ) → IsNext level.row next → IsResumed level now → left_in now + k < left_in (turn.Down level) + k
resumed_falls level next now k is_next is =
    let less = resumed_less level now is in
    let whole = with_goal (ahead level) (turns_at level) (some_ahead level next is_next) in
    let least = turns_least (2048 - level.depth) in
    omega (arith, less, whole, least)

-- a level more
pub under_falls : (level inner : Level) (next : Goal) (k : ℕ) → IsNext level.row next → inner.depth ≡ level.depth + 1 → inner.depth ≤ 2048 → length inner.row.first.goals ≤ 65536
    → left_in (turn.Down inner) + (2 + (ahead level - 1) * turns_at level + k) < left_in (turn.Down level) + k
under_falls level inner next k is_next deeper room few =
    let less = more_less (ahead level) (ahead inner) level.depth (some_ahead level next is_next) (omega (arith, few)) (omega (arith, deeper, room)) in
    let same : turns_at inner ≡ turns_in (2048 - (level.depth + 1)) = ap (λ (n : ℕ). turns_in (2048 - n)) deeper in
    rw same (omega (arith, less))

-- a level more waits, or memory was short
pub under_less : (level below : Level) (next : Goal) (old new : List Level) (now : Turn) → IsUnder level below old new now → IsNext level.row next → below.depth ≡ level.depth + 1 → below.depth ≤ 2048 → length below.row.first.goals ≤ 65536
    → left_in now + left_under (reverse new) < left_in (turn.Down level) + left_under (reverse old)
unfolding left_under
under_less level below next old new (turn.Down now) (same, grows) is_next deeper room few =
    let falls = under_falls level below next (left_under (reverse old)) is_next deeper room few in
    let under : left_under (reverse new) ≡ 2 + (ahead level - 1) * turns_at level + left_under (reverse old) = ap (λ xs. left_under xs) (ap reverse grows ∙ innermost old level) in
    rw (same, under) falls
under_less level below next old new (turn.Ended (Err stops.Memory)) same is_next deeper room few = rw same (omega arith)
under_less level below next old new (turn.Ended (Err (stops.Failed d))) never is_next deeper room few = absurd never
under_less level below next old new (turn.Ended (Err (stops.Cancelled seen))) never is_next deeper room few = absurd never
under_less level below next old new (turn.Ended (Ok r)) never is_next deeper room few = absurd never

-- the innermost level goes on
pub taken_less : (level : Level) (all rest : List Level) (now : Turn) → all ≡ rest ++ level ∷ [] → IsResumed level now → left_in now + left_under (reverse rest) < 0 + left_under (reverse all)
unfolding left_under
taken_less level all rest now taken is =
    let less = resumed_less level now is in
    let under : left_under (reverse all) ≡ 2 + (ahead level - 1) * turns_at level + left_under (reverse rest) = ap (λ xs. left_under xs) (ap reverse taken ∙ innermost rest level) in
    rw under (omega (arith, less))
