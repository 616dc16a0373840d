use Rattle.std.proofs.Common.{◌≡◌, ◌++◌, [], length, sym, ap, subst, arith, rules}
use Rattle.qterm.specs.Store.{trees_of}
use Rattle.qwalk.specs.Count.{IsFound}
use Rattle.qwalk.specs.Seen.{AreSubterms}
use Rattle.qwalk.proofs.Finding.{HasMoreSubterms-found}
use Rattle.qwalk.proofs.Counts.{HasMoreSubterms-above}
use Rattle.qwalk.proofs.Seeing.{AreSubterms-none, AreSubterms-count}
use Rattle.qwalk.proofs.seen.count_subterms.Goals as goal

pub take_below-requires : goal.take_below-requires
take_below-requires c =
    let none : c.new-found.result.keys ≡ [] = search rules in
    record { has = c.requires.has; few = omega (arith, ap length none); whole = subst (λ us. AreSubterms c.args.store.now us us) (sym none) (AreSubterms-none c.args.store.now) }

pub returns-then-branch-clause-count : goal.returns-then-branch-clause-count
returns-then-branch-clause-count c =
    let ts = c.args.store.now in
    let none : c.new-found.result.keys ≡ [] = search rules in
    let new = c.take_below.new.found.keys in
    AreSubterms-count ts c.args.ids.now new c.len.result c.is_distinct.ensures (subst (λ us. AreSubterms ts (us ++ c.args.ids.now) new) none (c.in_ok-take_below.ensures.all c.if-branch.true)) c.len.ensures.len

pub returns-clause-more : goal.returns-clause-more
returns-clause-more c =
    let ts = c.args.store.now in
    let none : c.new-found.result.keys ≡ [] = search rules in
    let new = c.take_below.new.found.keys in
    HasMoreSubterms-found ts c.args.ids.now new c.args.most c.is_distinct.ensures (subst (λ us. IsFound ts (us ++ c.args.ids.now) new) none c.in_ok-take_below.ensures.found) (c.in_ok-take_below.ensures.many c.if-branch.false)

pub returns-clause-above : goal.returns-clause-above
returns-clause-above c =
    let ts = c.args.store.now in
    let none : c.new-found.result.keys ≡ [] = search rules in
    let new = c.take_below.new.found.keys in
    λ n h. HasMoreSubterms-above (trees_of ts c.args.ids.now) c.args.most n
    (HasMoreSubterms-found ts c.args.ids.now new c.args.most c.is_distinct.ensures (subst (λ us. IsFound ts (us ++ c.args.ids.now) new) none c.in_ok-take_below.ensures.found) (c.in_ok-take_below.ensures.many c.if-branch.false)) h
