use Rattle.reduce_base.proofs.Rewriting.{rewrite_next, form_has, items_more}
use Rattle.reduce_base.proofs.trace.rewrite_all.Goals as goal

pub push-requires-clause-fits : goal.push-requires-clause-fits
push-requires-clause-fits c = form_has c.args.store.now c.args.goal.now c.args.forms.now c.loop-at.at c.index-forms-at.result c.requires.forms c.loop-at-test.true c.index-forms-at.is

pub push-requires-clause-gives : goal.push-requires-clause-gives
push-requires-clause-gives c =
    rewrite_next c.args.store.now c.args.goal.now c.args.forms.now c.loop-at.trace.items.items c.loop-at.at c.in_ok-item.item c.index-forms-at.result c.is_lawful.ensures c.requires.formulas c.requires.shallow c.requires.forms c.loop-at-test.true
    c.index-forms-at.is c.in_ok-item.ensures c.loop-at.invariant.items

pub loop-at-preserved : goal.loop-at-preserved
loop-at-preserved c = record {
  items = items_more c.args.goal.now c.args.forms.now c.loop-at.trace.items.items c.push.new.trace.items.items c.loop-at.at c.index-forms-at.result c.loop-at-test.true c.index-forms-at.is c.loop-at.invariant.items c.in_ok-push.ensures.items;
  leads = λ G h. c.in_ok-push.ensures.leads G (c.loop-at.invariant.leads G h);
}
