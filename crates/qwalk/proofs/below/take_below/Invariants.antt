use Rattle.std.proofs.Common.{◌≤◌, ◌-◌, ◌++◌, length}
use Rattle.qwalk.specs.Count.{HasRoots, IsFound, IsClosed}
use Rattle.qwalk.proofs.Seeing.{IsFront}
use Rattle.qwalk.proofs.below.take_below.Given as goal

abbrev pub invariant-loop-next : goal.invariant-loop-next
invariant-loop-next l = record {
  found : IsFound l.store (l.fn.found.keys ++ l.roots) l.found.keys;
  roots : HasRoots l.store (l.fn.found.keys ++ l.roots) l.found.keys;
  closed : IsClosed l.store l.found.keys l.next;
  front : IsFront l.initial.found.keys l.found.keys;
  few : length l.found.keys ≤ l.most;
  next : l.next ≤ length l.found.keys;
}

abbrev pub decreases-loop-next : goal.decreases-loop-next
decreases-loop-next l = l.most - l.next
