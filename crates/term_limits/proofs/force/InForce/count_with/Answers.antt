use Rattle.std.proofs.Common.{sym, ap, subst, ◌∙◌}
use Rattle.qterm.specs.Store.{trees_of}
use Rattle.qwalk.proofs.Seeing.{AreSubterms-whole}
use Rattle.term_limits.specs.Limits.{Counted, IsCounted, subterms_with}
use Rattle.term_limits.proofs.Counting.{count_found}
use Rattle.term_limits.proofs.force.InForce.count_with.Goals as goal

pub see-requires-clause-whole : goal.see-requires-clause-whole
see-requires-clause-whole c = AreSubterms-whole c.args.store.now c.self.inside.ids.items c.self.inside.seen (subst (λ (k : Counted). IsCounted c.args.store.now k) (sym c.self.view_is) c.requires.counted).found

pub returns-clause-count : goal.returns-clause-count
returns-clause-count c =
    c.len-count.ensures
    ∙ count_found c.args.store.now (record { ids = c.self.inside.ids.items; seen = c.self.inside.seen; before = c.self.inside.before.items }) c.args.read.now c.see.new.self c.is_distinct.ensures (subst (λ (k : Counted). IsCounted c.args.store.now k) (sym c.self.view_is) c.requires.counted) c.in_ok-see.ensures.seen
    ∙ ap (λ (k : Counted). subterms_with (trees_of c.args.store.now k.ids) (trees_of c.args.store.now c.args.read.now)) c.self.view_is
