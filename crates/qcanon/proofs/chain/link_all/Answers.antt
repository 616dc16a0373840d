use Rattle.qterm.proofs.Extending.{Extends_trans}
use Rattle.qcanon.proofs.Nesting.{links_more, sound_extends}
use Rattle.qcanon.proofs.chain.link_all.Goals as goal

pub loop-answer-preserved : goal.loop-answer-preserved
loop-answer-preserved c =
    let ts = c.args.store.now in
    let us = c.loop-answer.store in
    let vs = c.link.new.store in
    let so = c.loop-answer.invariant in
    let e = c.in_ok-out.ensures in
    record {
      sound = sound_extends us vs c.args.answers.now e.extends so.sound;
      settled = e.settled;
      links = links_more ts us vs c.args.below c.args.answers.now c.loop-answer.answer-index c.answer-item.result c.loop-answer.outs.items c.push.new.self.items c.in_ok-out.out so.extends e.extends so.links c.loop-answer-test.true c.answer-item.is e.links
          c.in_ok-push.ensures.items;
      extends = Extends_trans ts us vs so.extends e.extends;
    }
