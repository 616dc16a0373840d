use Rattle.std.proofs.Common.{◌≡◌, ◌≤◌, ◌<◌, ◌++◌, Bool, true, false, length, refl, sym, subst, arith}
use Rattle.qwalk.specs.Seen.{AreSubterms}
use Rattle.qwalk.proofs.Seeing.{few_apart}
use Rattle.qwalk.proofs.seen.Seen.see.Goals as goal

pub take_below-requires : goal.take_below-requires
take_below-requires c =
    let ts = c.args.store.now in
    let ks = c.self.inside.found.keys in
    let whole : AreSubterms ts ks ks = subst (λ us. AreSubterms ts us us) (sym c.self.view_is) c.requires.whole in
    let few : length ks ≤ c.size.result = omega (arith, few_apart ts ks c.is_distinct.ensures whole.has whole.apart, c.size.ensures.size) in
    record { has = c.requires.has; few = few; whole = whole }

-- there are no more than the store has
pub returns-clause-seen : goal.returns-clause-seen
returns-clause-seen c = by c.in_ok-take_below.field-0 refl
  where
    by : (b : Bool) → c.in_ok-take_below.field-0 ≡ b → AreSubterms c.args.store.now (c.args.self.now ++ c.args.roots.now) c.take_below.new.found.keys
    by true e = subst (λ us. AreSubterms c.args.store.now (us ++ c.args.roots.now) c.take_below.new.found.keys) c.self.view_is (c.in_ok-take_below.ensures.all e)
    by false e =
        let found = c.in_ok-take_below.ensures.found in
        let many : c.size.result < length c.take_below.new.found.keys = c.in_ok-take_below.ensures.many e in
        absurd (omega (arith, many, few_apart c.args.store.now c.take_below.new.found.keys c.is_distinct.ensures found.has found.apart, c.size.ensures.size))
