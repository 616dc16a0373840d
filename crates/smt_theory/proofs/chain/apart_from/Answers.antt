use Rattle.qterm.specs.declared.name.Sort.TheVariants.{Bool}
use Rattle.qterm.proofs.Extending.{Extends_trans}
use Rattle.qterm.proofs.Fitting.{All_HasSort_extends, HasSort_extends}
use Rattle.smt_theory.specs.Sorts.{side}
use Rattle.smt_theory.proofs.Growing.{have, sorts-pushed}
use Rattle.smt_theory.proofs.Steps.{apart_from_step}
use Rattle.smt_theory.proofs.chain.apart_from.Goals as goal

pub loop-b-preserved : goal.loop-b-preserved
loop-b-preserved c =
    let now = c.loop-b in
    let us = c.linked.new.store in
    let vs = c.not.new.store in
    let s = side c.args.link in
    let e = c.in_ok-equal.ensures.extends in
    let f = c.in_ok-id.ensures.extends in
    let g = Extends_trans now.store us vs e f in
    record {
      told = rw c.in_ok-push.ensures.items
          (apart_from_step c.args.link now.store us vs now.out.items c.args.others.now now.b-index c.args.a c.b-item.result c.in_ok-equal.equal c.in_ok-id.id _ e f now.invariant.a.0
          (have Bool now.store now.out.items now.invariant.formulas) (have s now.store c.args.others.now now.invariant.others) c.loop-b-test.true c.b-item.is c.in_ok-equal.ensures.shows c.in_ok-id.ensures.shows now.invariant.told);
      a = HasSort_extends s now.store vs c.args.a g now.invariant.a;
      others = All_HasSort_extends s now.store vs c.args.others.now g now.invariant.others;
      formulas = rw c.in_ok-push.ensures.items (sorts-pushed Bool now.store vs now.out.items c.in_ok-id.id g now.invariant.formulas c.in_ok-id.ensures.formula);
      extends = Extends_trans c.args.store.now now.store vs now.invariant.extends g;
    }
