use Rattle.qwalk.proofs.Seeing.{AreSubterms-whole}
use Rattle.walk_tables.proofs.walks.seen.Goals as goal

pub see-requires-clause-whole : goal.see-requires-clause-whole
see-requires-clause-whole c = AreSubterms-whole c.args.store.now c.args.first.now c.in_ok-seen.seen c.in_ok-seen.ensures
