use Rattle.std.proofs.Common.{subst, sym}
use Rattle.reduce_base.specs.Trace.{ArePlaced}
use Rattle.reduce_base.proofs.Pushing.{placed_push}
use Rattle.reduce_base.proofs.places.push_new.Goals as goal

pub returns-clause-placed : goal.returns-clause-placed
returns-clause-placed c is h at = subst (ArePlaced is) (sym c.in_ok-push.ensures.items) (placed_push is c.args.kept.now.items c.args.place h at)
