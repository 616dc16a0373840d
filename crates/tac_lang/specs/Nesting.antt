-- How deep the forms of parts stand in one another.
use Rattle.std.specs.Prelude.{ℕ, List, map}
use Rattle.strat_text.specs.declared.strategy.Strategy.{Strategy}
use Rattle.strat_text.specs.Allowed.{depth_of, greatest}

abbrev pub deepest : List Strategy → ℕ
deepest parts = greatest (map depth_of parts)
