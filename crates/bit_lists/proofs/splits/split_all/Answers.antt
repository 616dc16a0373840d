use Rattle.std.proofs.Common.{◌≤◌, ◌+◌, length, take, ap, sym, subst, arith}
use Rattle.std.specs.HashMap.{get}
use Rattle.qwalk.specs.Walk.{same_id}
use Rattle.qterm.specs.Store.{Has}
use Rattle.qsubst.specs.Names.{names_of}
use Rattle.name_bounds.specs.Ranges.{range_of}
use Rattle.name_bounds.proofs.Lacking.{name_at_place, as_many_names}
use Rattle.bit_lists.proofs.Making.{has_more, splits_all}
use Rattle.bit_lists.proofs.splits.split_all.Goals as goal

pub loop-name-preserved : goal.loop-name-preserved
loop-name-preserved c fs e r =
    let S = c.args.store.now in
    let ns = c.args.names.now in
    let k = c.loop-name.name-index in
    let i = c.name-item.result in
    let n = name_at_place S ns (names_of fs) k i e c.loop-name-test.true c.name-item.is in
    let h : Has S i = subst (Has S) (sym c.name-item.is) (c.requires.has k i c.loop-name-test.true) in
    has_more c.args.taken.now c.loop-name.taken c.split_name.new.taken fs (take k (names_of fs)) (take (k + 1) (names_of fs)) n.name (range_of (get same_id c.args.table.now i)).up c.loop-name.splits.items c.split_name.new.splits.items n.taken
    (ap (λ q. q.up) (r i n.name h n.is)) (c.in_ok-split_name.ensures n.name n.is) (c.loop-name.invariant fs e r)

pub returns : goal.returns
returns c = record {
  splits =
      λ fs e r.
      let l : length (names_of fs) ≤ c.loop-name.name-index = omega (arith, c.loop-name-test.false, as_many_names c.args.store.now c.args.names.now (names_of fs) e) in
      splits_all c.args.taken.now fs c.loop-name.name-index c.loop-name.taken c.loop-name.splits.items l (c.loop-name.invariant fs e r);
}
