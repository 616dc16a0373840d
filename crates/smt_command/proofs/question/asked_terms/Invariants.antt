use Rattle.std.proofs.Common.{◌≡◌, [], drop, map}
use Rattle.smt_words.specs.Command.{asked_tree}
use Rattle.smt_names.specs.Given.{Goes, scopes_in, seen}
use Rattle.smt_command.specs.Given.{AreAsked}
use Rattle.smt_command.specs.Terms.{asked_from}
use Rattle.smt_command.proofs.question.asked_terms.Given as goal

-- what is left of the row, behind the terms so far, gives what all of it gives
abbrev pub invariant-loop-at : goal.invariant-loop-at
invariant-loop-at l = record {
  told : asked_from (scopes_in l.store l.state.scopes) l.bytes (drop l.at l.items) (map (asked_tree l.store) l.asked.items) (seen l.store l.state)
      ≡ asked_from (scopes_in l.fn.store l.fn.state.scopes) l.bytes l.items [] (seen l.fn.store l.fn.state);
  has : AreAsked l.store l.asked.items;
  scopes : l.state.scopes ≡ l.fn.state.scopes;
  goes : Goes l.fn.store l.fn.state l.store l.state;
}
