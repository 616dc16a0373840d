use Rattle.std.proofs.Common.{length}
use Rattle.sat_lines.proofs.Building.{SoFar}
use Rattle.sat_lines.proofs.lines.line_steps.Given as goal

abbrev pub invariant-loop-line : goal.invariant-loop-line
invariant-loop-line l = SoFar l.numbers l.fn.lines.items l.left l.fn.store l.store l.steps

abbrev pub decreases-loop-line : goal.decreases-loop-line
decreases-loop-line l = length l.left
