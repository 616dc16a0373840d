use Rattle.std.proofs.Common.{false, length}
use Rattle.qterm.specs.declared.name.Sort.TheVariants as sort
use Rattle.qterm.proofs.Extending.{Extends_trans}
use Rattle.qterm.proofs.Fitting.{All_HasSort_extends}
use Rattle.sat_lines.proofs.Building.{below_item, sorts_more, trees_more, stand_extends}
use Rattle.sat_lines.proofs.terms.literals.Goals as goal

pub lit_term-requires-clause-vars : goal.lit_term-requires-clause-vars
lit_term-requires-clause-vars c = All_HasSort_extends sort.Bool c.args.store.now c.loop-lit.store c.args.numbers.now c.loop-lit.invariant.extends c.requires.vars

pub lit_term-requires-clause-below : goal.lit_term-requires-clause-below
lit_term-requires-clause-below c = below_item (length c.args.numbers.now) c.args.clause.now c.loop-lit.lit-index (record { var = 0; positive = false }) c.requires.below c.loop-lit-test.true

pub loop-lit-preserved : goal.loop-lit-preserved
loop-lit-preserved c =
    let first = c.args.store.now in
    let ts = c.loop-lit.store in
    let us = c.lit_term.new.store in
    let e = c.in_ok-push.ensures.items in
    let i = c.loop-lit.invariant in
    record {
      extends = Extends_trans first ts us i.extends c.in_ok-id.ensures.extends;
      sorts = sorts_more ts us c.loop-lit.ids.items c.push.new.self.items c.in_ok-id.id c.in_ok-id.ensures.extends i.sorts c.in_ok-id.ensures.sort e;
      trees = λ f s. trees_more f ts us c.loop-lit.ids.items c.push.new.self.items c.in_ok-id.id c.args.clause.now c.loop-lit.lit-index (record { var = 0; positive = false }) c.in_ok-id.ensures.extends i.sorts (i.trees f s) c.loop-lit-test.true
          (c.in_ok-id.ensures.shows f (stand_extends first ts c.args.numbers.now f i.extends s)) e;
    }
