use Rattle.qterm.specs.declared.name.Sort.TheVariants.{Int}
use Rattle.qterm.proofs.Extending.{Extends_trans}
use Rattle.qterm.proofs.Fitting.{All_HasSort_extends}
use Rattle.smt_theory.specs.Plain.{negated, IsPlain, IsInt}
use Rattle.qterm.specs.Store.{tree_at}
use Rattle.std.proofs.Common.{Some}
use Rattle.smt_theory.proofs.Growing.{have, sorts-pushed}
use Rattle.smt_theory.proofs.Steps.{negate_step}
use Rattle.smt_theory.proofs.arithmetic.negate_all.Goals as goal

pub loop-arg-preserved : goal.loop-arg-preserved
loop-arg-preserved c =
    let now = c.loop-arg in
    let us = c.negated.new.store in
    let plain : IsPlain us (negated (tree_at now.store c.arg-item.result)) (Some c.in-Some.id) = rw c.in-Some.is at c.in_ok-negated.ensures.plain in
    let int : IsInt us (Some c.in-Some.id) = rw c.in-Some.is at c.in_ok-negated.ensures.int in
    let extends = c.in_ok-negated.ensures.extends in
    record {
      told = rw c.in_ok-push-in-Some.ensures.items
          (negate_step now.store us now.parts.items c.args.args.now now.arg-index c.arg-item.result c.in-Some.id _ extends (have Int now.store now.parts.items now.invariant.ints) (have Int now.store c.args.args.now now.invariant.args)
          c.loop-arg-test.true c.arg-item.is plain now.invariant.told);
      ints = rw c.in_ok-push-in-Some.ensures.items (sorts-pushed Int now.store us now.parts.items c.in-Some.id extends now.invariant.ints int);
      args = All_HasSort_extends Int now.store us c.args.args.now extends now.invariant.args;
      extends = Extends_trans c.args.store.now now.store us now.invariant.extends extends;
    }
