-- Goals within the limits on the depth of their formulas.
use Rattle.std.specs.Prelude.{List, [], ◌∷◌}
use Rattle.qgoal.specs.Goal.{GoalTree}
use Rattle.goal_depth.specs.Depths.{AreShallow}

-- each formula of the goal is within the limits
abbrev pub IsShallow : GoalTree → Type 0
IsShallow g = AreShallow g.formulas

-- each of the goals is
abbrev pub AllShallow : List GoalTree → Type 0
AllShallow [] = Unit {0}
AllShallow (h ∷ hs) = IsShallow h × AllShallow hs
