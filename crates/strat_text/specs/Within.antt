-- Which strategies there are texts of that nest no deeper than a limit.
use Rattle.std.specs.Prelude.{ℕ, Bool, ◌&&◌, nat_le}
use Rattle.strat_text.specs.declared.strategy.Strategy.{Strategy}
use Rattle.strat_text.specs.Allowed.{is_formed, depth_of}

-- each form has as many parts as it may, each number is in its range, and at most so many forms stand in one another
unfoldable pub fits : Strategy → ℕ → Bool
fits s left = is_formed s && nat_le (depth_of s) left
