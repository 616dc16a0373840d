use Rattle.std.proofs.Common.{All, take}
use Rattle.std.specs.List.{AllZip}
use Rattle.qterm.specs.Store.{Extends}
use Rattle.qcanon.specs.Chain.{IsSound, Links, AreSettled}
use Rattle.qcanon.proofs.chain.link_all.Given as goal

abbrev pub invariant-loop-answer : goal.invariant-loop-answer
invariant-loop-answer l = record {
  sound : All (IsSound l.store) l.answers;
  settled : AreSettled l.store l.settled;
  links : AllZip (Links l.initial.store l.store l.below) (take l.answer-index l.answers) l.outs.items;
  extends : Extends l.initial.store l.store;
}
