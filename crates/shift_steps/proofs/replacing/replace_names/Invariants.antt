use Rattle.std.proofs.Common.{take, List, [], ◌∷◌}
use Rattle.std.specs.HashMap.{get}
use Rattle.qterm.specs.Tree.{Tree}
use Rattle.qterm.specs.Store.{tree_at}
use Rattle.qwalk.specs.Walk.{same_id}
use Rattle.qsubst.specs.Names.{names_of}
use Rattle.shift_lists.specs.declared.shifting.Shift.{Shift}
use Rattle.shift_steps.specs.Replacing.{AreReady, IsReady}
use Rattle.shift_steps.proofs.Moving.{PartWay}
use Rattle.shift_steps.proofs.replacing.replace_names.Given as goal

abbrev pub invariant-loop-name : goal.invariant-loop-name
invariant-loop-name l = (fs : List Tree) (ss : List Shift) → AreReady l.store fs ss (get same_id l.turns) → IsReady (tree_at l.store l.fn.formula) →
    PartWay l.store fs ss l.initial.trace l.trace l.number l.last (tree_at l.store l.fn.formula) (take l.name-index (names_of (tree_at l.store l.fn.formula ∷ [])))
