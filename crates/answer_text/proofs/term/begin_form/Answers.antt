use Rattle.std.proofs.Common.{◌-◌, arith, rules}
use Rattle.answer_text.specs.declared.term.Part.TheVariants.{Next, Close}
use Rattle.answer_text.proofs.Writing.{close_waits, child_waits, form_begins, parts_push, all_wait}
use Rattle.answer_text.proofs.term.begin_form.Goals as goal

pub loop-at-init : goal.loop-at-init
loop-at-init c = record {
  within = omega arith;
  waits = close_waits c.args.store.now c.args.parts.now.items c.push-2.new.self.items c.args.children.now c.in_ok-push-2.ensures.items;
  parts = parts_push c.args.store.now c.args.parts.now.items c.push-2.new.self.items Close c.in_ok-push-2.ensures.items c.requires.parts tt;
}

pub loop-at-preserved : goal.loop-at-preserved
loop-at-preserved c = record {
  within = grind arith;
  waits = child_waits c.args.store.now c.args.parts.now.items c.loop-at.parts.items c.push-in-loop-at.new.self.items c.args.children.now c.loop-at.at (c.loop-at.at - 1) c.index-children-at.result
      c.loop-at.invariant.waits c.in_ok-push-3.ensures.items (grind arith) (grind arith) c.index-children-at.is;
  parts = parts_push c.args.store.now c.loop-at.parts.items c.push-in-loop-at.new.self.items (Next c.index-children-at.result) c.in_ok-push-3.ensures.items c.loop-at.invariant.parts (search (rules, c.requires.children));
}

pub returns-clause-text : goal.returns-clause-text
returns-clause-text c =
    form_begins c.args.store.now c.args.text.now.items c.push.new.self.items c.put.new.text.items c.args.word.now c.args.parts.now.items c.loop-at.parts.items c.args.children.now
    c.in_ok-push.ensures.items c.in_ok-put.ensures.text (all_wait c.args.store.now c.args.parts.now.items c.loop-at.parts.items c.args.children.now c.loop-at.at c.loop-at-test.false c.loop-at.invariant.waits)
