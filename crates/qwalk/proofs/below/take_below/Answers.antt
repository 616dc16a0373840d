use Rattle.std.proofs.Common.{◌≡◌, ◌<◌, ◌≤◌, ◌∙◌, ◌++◌, length, get_or, ap, arith, rules}
use Rattle.qterm.specs.Kids.{ids}
use Rattle.qterm.proofs.Fitting.{Fits-ids}
use Rattle.qwalk.proofs.Finding.{IsFound-has, IsFound-children, IsClosed-next}
use Rattle.qwalk.proofs.Seeing.{IsFront-itself, IsFront-takes, Takes-front, IsFound-roots, HasRoots-taken, HasRoots-stays, IsClosed-before, AreSubterms-found}
use Rattle.qwalk.proofs.below.take_below.Goals as goal

pub loop-next-init : goal.loop-next-init
loop-next-init c =
    let ts = c.args.store.now in
    let rs = c.args.roots.now in
    let old = c.args.found.now.keys in
    let new = c.take_all.new.found.keys in
    let t = c.in_ok-take_all.ensures.takes in
    let few : length new ≤ c.args.most = search rules in
    record {
      found = IsFound-roots ts old rs old new c.requires.has c.requires.whole t;
      roots = HasRoots-taken ts old rs old new c.requires.whole t (search rules);
      closed = IsClosed-before ts old old rs new c.len-next.result c.len-next.ensures.len c.requires.whole t;
      front = IsFront-itself new;
      few = few;
      next = omega (arith, c.len-next.ensures.len, t.longer);
    }

pub view-term-requires : goal.view-term-requires
view-term-requires c =
    let ks = c.loop-next.found.keys in
    let n = c.loop-next.next in
    let i = c.index-as_slice-next.result in
    let l : n < length ks = omega (arith, c.loop-next-test.true, c.len.ensures.len) in
    let a : i ≡ get_or ks n i = c.index-as_slice-next.is ∙ ap (λ us. get_or us n i) c.as_slice.ensures.keys in
    record { has = IsFound-has c.args.store.now (c.args.found.now.keys ++ c.args.roots.now) ks n i c.loop-next.invariant.found l a }

pub loop-next-preserved : goal.loop-next-preserved
loop-next-preserved c =
    let ts = c.args.store.now in
    let rs = c.args.found.now.keys ++ c.args.roots.now in
    let ks = c.loop-next.found.keys in
    let new = c.take_children.new.found.keys in
    let n = c.loop-next.next in
    let i = c.index-as_slice-next.result in
    let l : n < length ks = omega (arith, c.loop-next-test.true, c.len.ensures.len) in
    let a : i ≡ get_or ks n i = c.index-as_slice-next.is ∙ ap (λ us. get_or us n i) c.as_slice.ensures.keys in
    let e = c.view-term.ensures in
    let term = c.view-term.result.now in
    let so = c.loop-next.invariant in
    let t = c.in_ok-take_children.ensures.takes in
    let few : length new ≤ c.args.most = search rules in
    record {
      found = IsFound-children ts rs ks new n i term so.found l a e.tree (Fits-ids ts term e.fits) t;
      roots = HasRoots-stays ts rs ks (ids term) new so.roots t;
      closed = IsClosed-next ts ks new n i term so.closed l a e.tree t (search rules);
      front = IsFront-takes c.take_all.new.found.keys ks (ids term) new so.front t;
      few = few;
      next = omega (arith, l, t.longer);
    }

pub returns-then-not-branch-clause-found : goal.returns-then-not-branch-clause-found
returns-then-not-branch-clause-found c =
    IsFound-roots c.args.store.now c.args.found.now.keys c.args.roots.now c.args.found.now.keys c.take_all.new.found.keys c.requires.has c.requires.whole c.in_ok-take_all.ensures.takes

pub returns-then-not-branch-clause-front : goal.returns-then-not-branch-clause-front
returns-then-not-branch-clause-front c =
    Takes-front c.args.found.now.keys c.args.roots.now c.take_all.new.found.keys c.take_all.new.found.keys c.in_ok-take_all.ensures.takes (IsFront-itself c.take_all.new.found.keys)

pub returns-then-not-branch-2-clause-found : goal.returns-then-not-branch-2-clause-found
returns-then-not-branch-2-clause-found c =
    let ts = c.args.store.now in
    let rs = c.args.found.now.keys ++ c.args.roots.now in
    let ks = c.loop-next.found.keys in
    let n = c.loop-next.next in
    let i = c.index-as_slice-next.result in
    let l : n < length ks = omega (arith, c.loop-next-test.true, c.len.ensures.len) in
    let a : i ≡ get_or ks n i = c.index-as_slice-next.is ∙ ap (λ us. get_or us n i) c.as_slice.ensures.keys in
    let e = c.view-term.ensures in
    let term = c.view-term.result.now in
    IsFound-children ts rs ks c.take_children.new.found.keys n i term c.loop-next.invariant.found l a e.tree (Fits-ids ts term e.fits) c.in_ok-take_children.ensures.takes

pub returns-then-not-branch-2-clause-front : goal.returns-then-not-branch-2-clause-front
returns-then-not-branch-2-clause-front c =
    let old = c.take_all.new.found.keys in
    let ks = c.loop-next.found.keys in
    let new = c.take_children.new.found.keys in
    Takes-front c.args.found.now.keys c.args.roots.now old new c.in_ok-take_all.ensures.takes (IsFront-takes old ks (ids c.view-term.result.now) new c.loop-next.invariant.front c.in_ok-take_children.ensures.takes)

pub returns-clause-all : goal.returns-clause-all
returns-clause-all c =
    let so = c.loop-next.invariant in
    λ t. AreSubterms-found c.args.store.now (c.args.found.now.keys ++ c.args.roots.now) c.loop-next.found.keys c.loop-next.next so.found so.roots so.closed (omega (arith, c.loop-next-test.false, c.len.ensures.len))

pub returns-clause-front : goal.returns-clause-front
returns-clause-front c =
    Takes-front c.args.found.now.keys c.args.roots.now c.take_all.new.found.keys c.loop-next.found.keys c.in_ok-take_all.ensures.takes c.loop-next.invariant.front
