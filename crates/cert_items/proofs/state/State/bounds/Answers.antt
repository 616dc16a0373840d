use Rattle.std.proofs.Common.{◌∙◌}
use Rattle.cert_items.specs.Bounded.{bounds_in}
use Rattle.cert_items.proofs.States.{state_noted, noted_bounds}
use Rattle.cert_items.proofs.state.State.bounds.Goals as goal

pub returns : goal.returns
returns c =
    let s = c.args.self.now in
    let n = state_noted c.args.store.now s.items s.seen (bounds_in s.bounds) s.marks.items c.requires.state in
    λ x e. c.look.ensures ∙ noted_bounds c.args.store.now s.items s.seen (bounds_in s.bounds) c.args.id c.is_distinct.ensures n c.requires.has x e
