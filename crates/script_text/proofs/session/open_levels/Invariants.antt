use Rattle.std.proofs.Common.{◌≡◌, ◌++◌, replicate}
use Rattle.script_text.proofs.session.open_levels.Given as goal

abbrev pub invariant-loop-at : goal.invariant-loop-at
invariant-loop-at l = l.marks ≡ l.fn.marks ++ replicate l._at l.mark
