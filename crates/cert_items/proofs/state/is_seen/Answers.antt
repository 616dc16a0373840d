use Rattle.cert_items.proofs.Naming.{has_same}
use Rattle.cert_items.proofs.state.is_seen.Goals as goal

pub returns : goal.returns
returns c = has_same c.args.seen.now c.args.id c.has.result c.has.ensures
