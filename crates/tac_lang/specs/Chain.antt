-- What remains of a chain of strategies, of which each runs on the goals of the one before.
use Rattle.std.specs.Prelude.{ℕ, List, [], ◌∷◌, Option, Some, None}
use Rattle.strat_text.specs.declared.strategy.Strategy.{Strategy}
use Rattle.strat_text.specs.declared.strategy.Strategy.TheVariants as strategy
use Rattle.deriv.specs.Derives.{remaining}

-- the remaining parts of a then, or a repeat of the first with so many turns left
abbrev pub rest_of : List Strategy → Option ℕ → Strategy
rest_of [] turns = strategy.Then []
rest_of (p ∷ ps) None = remaining p ps
rest_of (p ∷ ps) (Some turns) = strategy.Repeat p turns
