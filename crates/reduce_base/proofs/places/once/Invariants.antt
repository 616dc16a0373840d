use Rattle.std.proofs.Common.{◌≡◌, ℕ, List, [], drop, map}
use Rattle.indexmap.specs.IndexSet.{insert_all}
use Rattle.qwalk.specs.Walk.{same_id}
use Rattle.reduce_base.specs.Trace.{ArePlaced}
use Rattle.reduce_base.proofs.places.once.Given as goal

abbrev pub invariant-loop-place : goal.invariant-loop-place
invariant-loop-place l = record {
  same : l.seen.keys ≡ map (λ p. p.id) l.kept.items;
  ahead : insert_all same_id (map (λ p. p.id) l.kept.items) (map (λ p. p.id) (drop l.place-index l.places)) ≡ insert_all same_id [] (map (λ p. p.id) l.places);
  placed : (is : List ℕ) → ArePlaced is l.places → ArePlaced is l.kept.items;
}
