use Rattle.std.proofs.Common.{ℕ, ◌∷◌, ◌++◌, [], refl, sym, ap, subst, ◌∙◌}
use Rattle.qwalk.proofs.Seeing.{AreSubterms-whole}
use Rattle.term_limits.specs.Limits.{Counted, IsCounted}
use Rattle.term_limits.proofs.Counting.{as_counted, pushed_counted}
use Rattle.term_limits.proofs.force.InForce.push.Goals as goal

pub see-requires-clause-whole : goal.see-requires-clause-whole
see-requires-clause-whole c = AreSubterms-whole c.args.store.now c.self.inside.ids.items c.self.inside.seen (subst (λ (k : Counted). IsCounted c.args.store.now k) (sym c.self.view_is) c.requires.counted).found

pub returns-clause-counted : goal.returns-clause-counted
returns-clause-counted c =
    as_counted c.args.store.now _ _ _ _ _ _ c.in_ok-push-2.ensures.items refl (c.in_ok-push.ensures.items ∙ ap (λ (n : ℕ). c.self.inside.before.items ++ n ∷ []) c.len-before.ensures)
    (pushed_counted c.args.store.now (record { ids = c.self.inside.ids.items; seen = c.self.inside.seen; before = c.self.inside.before.items })
    (subst (λ (k : Counted). IsCounted c.args.store.now k) (sym c.self.view_is) c.requires.counted) c.args.id c.requires.has c.see.new.self c.in_ok-see.ensures.seen c.in_ok-see.ensures.front)
