-- The terms below the items don't have the name.
use Rattle.std.proofs.Common.{[], ◌∷◌}
use Rattle.cert_items.specs.Bounded.{bounds_in}
use Rattle.cert_items.proofs.Naming.{seen_apart}
use Rattle.cert_items.proofs.States.{state_noted}
use Rattle.cert_items.proofs.state.occurs_in.Goals as goal

pub occurs_below-requires-clause-apart : goal.occurs_below-requires-clause-apart
occurs_below-requires-clause-apart c =
    let ts = c.args.store.now in
    let s = c.args.state.now in
    seen_apart (c.args.name.now ∷ []) ts s.items s.seen (state_noted ts s.items s.seen (bounds_in s.bounds) s.marks.items c.requires.state).seen c.requires.apart
