use Rattle.std.proofs.Common.{arith}
use Rattle.answer_text.specs.Terms.{text_at}
use Rattle.answer_text.proofs.Writing.{start_writes, turn_writes, turn_less, all_written}
use Rattle.answer_text.proofs.term.push_term.Goals as goal

pub loop-part-init : goal.loop-part-init
loop-part-init c = record {
  text = start_writes c.args.store.now c.args.text.now.items c.begin.new.text.items (text_at c.args.store.now c.args.id) c.new-parts.result.items c.begin.new.parts.items c.new-parts.ensures.items c.in_ok-begin.ensures.text;
  parts = c.in_ok-begin.ensures.parts;
}

pub loop-part-smaller : goal.loop-part-smaller
loop-part-smaller c =
    turn_less c.args.store.now c.loop-part.text.items c.turn.new.text.items c.loop-part.parts.items c.pop.new.self.items c.turn.new.parts.items c.in-Some.part
    c.in-Some.ensures.items c.in_ok-turn.ensures.longer c.in_ok-turn.ensures.text

pub loop-part-preserved : goal.loop-part-preserved
loop-part-preserved c = record {
  text = turn_writes c.args.store.now c.loop-part.text.items c.turn.new.text.items c.args.text.now.items (text_at c.args.store.now c.args.id) c.loop-part.parts.items c.pop.new.self.items c.turn.new.parts.items c.in-Some.part
      c.in-Some.ensures.items c.loop-part.invariant.text c.in_ok-turn.ensures.text;
  parts = c.in_ok-turn.ensures.parts;
}

pub returns : goal.returns
returns c = all_written c.args.store.now c.loop-part.text.items c.args.text.now.items (text_at c.args.store.now c.args.id) c.loop-part.parts.items (grind arith) c.loop-part.invariant.text
