use Rattle.std.proofs.Common.{◌≡◌, ◌≤◌, ◌++◌, ◌∷◌, ℕ, List, length, All, map, drop}
use Rattle.strat_text.specs.Spelled.{spaced}
use Rattle.answer_text.specs.Terms.{text_at}
use Rattle.answer_text.specs.Waiting.{waiting, IsPart}
use Rattle.answer_text.proofs.term.begin_form.Given as goal

-- the last children wait, and behind them the closing parenthesis
abbrev pub invariant-loop-at : goal.invariant-loop-at
invariant-loop-at l = record {
  within : l.at ≤ length l.children;
  waits : (after : List ℕ) → waiting l.store l.parts.items after ≡ spaced (map (text_at l.store) (drop l.at l.children)) ++ 41 ∷ waiting l.store l.fn.parts.items after;
  parts : All (IsPart l.store) l.parts.items;
}

abbrev pub decreases-loop-at : goal.decreases-loop-at
decreases-loop-at l = l.at
