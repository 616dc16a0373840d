use Rattle.qterm.specs.Store.{tree_at, trees_of}
use Rattle.bit_lists.specs.Row.{unbounded}
use Rattle.bit_lists.proofs.Looping.{next, unbounded_cons}
use Rattle.bit_lists.proofs.row.unbounded.Goals as goal

pub loop-formula-preserved : goal.loop-formula-preserved
loop-formula-preserved c =
    let S = c.args.store.now in
    record {
      sorts = c.in_ok-keep.ensures.formulas;
      so_far =
          λ ss h. next (λ is. unbounded ss (trees_of S is)) c.args.list.now c.loop-formula.formula-index c.formula-item.result _ (trees_of S c.loop-formula.kept.items) (trees_of S c.keep.new.kept.items) (unbounded ss (trees_of S c.args.list.now))
          (λ rest. unbounded_cons ss (tree_at S c.formula-item.result) (trees_of S rest)) c.loop-formula-test.true c.formula-item.is (c.in_ok-keep.ensures.kept ss h) (c.loop-formula.invariant.so_far ss h);
    }
