use Rattle.std.proofs.Common.{◌++◌, sym, subst}
use Rattle.qwalk.specs.Seen.{AreSubterms}
use Rattle.qwalk.proofs.Seeing.{AreSubterms-none}
use Rattle.qwalk.proofs.seen.subterms.Goals as goal

pub see-requires : goal.see-requires
see-requires c = record { has = c.requires.has; whole = subst (λ us. AreSubterms c.args.store.now us us) (sym c.new-seen.ensures) (AreSubterms-none c.args.store.now) }

pub returns : goal.returns
returns c = subst (λ us. AreSubterms c.args.store.now (us ++ c.args.ids.now) c.see.new.self) c.new-seen.ensures c.in_ok-see.ensures.seen
