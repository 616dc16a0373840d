use Rattle.std.proofs.Common.{◌≡◌, ◌++◌, ℕ, List, drop, map, All}
use Rattle.qterm.specs.Store.{trees_of, Has}
use Rattle.qlin.specs.CanonList.{spread}
use Rattle.reduce_base.specs.Trace.{LeadsOn, ArePlaced}
use Rattle.reduce_base.proofs.places.place_all.Given as goal

abbrev pub invariant-loop-at : goal.invariant-loop-at
invariant-loop-at l = record {
  items : (more : List ℕ) × (l.trace.items.items ≡ l.initial.trace.items.items ++ more);
  leads : LeadsOn l.store l.initial.trace l.trace;
  parts : trees_of l.store (map (λ p. p.id) l.places.items) ++ spread (trees_of l.store (drop l.at l.forms)) ≡ spread (trees_of l.store l.forms);
  placed : ArePlaced l.trace.items.items l.places.items;
  known : All (Has l.store) (map (λ p. p.id) l.places.items);
}
