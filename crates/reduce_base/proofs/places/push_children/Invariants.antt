use Rattle.std.proofs.Common.{◌≡◌, ◌++◌, take, map}
use Rattle.reduce_base.specs.Trace.{LeadsOn, ArePlaced}
use Rattle.reduce_base.proofs.places.push_children.Given as goal

abbrev pub invariant-loop-at : goal.invariant-loop-at
invariant-loop-at l = record {
  items : l.trace.items.items ≡ l.initial.trace.items.items ++ take l.at l.children;
  leads : LeadsOn l.store l.initial.trace l.trace;
  parts : map (λ p. p.id) l.places.items ≡ map (λ p. p.id) l.initial.places.items ++ take l.at l.children;
  placed : ArePlaced l.trace.items.items l.places.items;
}
