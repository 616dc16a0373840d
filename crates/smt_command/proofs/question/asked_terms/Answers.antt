use Rattle.std.proofs.Common.{◌∙◌, ◌+◌, ap, drop, map}
use Rattle.smt_words.specs.Command.{asked_tree}
use Rattle.smt_names.specs.Given.{scopes_in, seen}
use Rattle.smt_names.proofs.Readings.{scopes_extends, goes_trans}
use Rattle.smt_command.specs.Terms.{asked_from}
use Rattle.smt_command.proofs.Questions.{row_step, row_fault, row_done}
use Rattle.smt_command.proofs.question.asked_terms.Goals as goal

pub returns-in_err-ask-clause-read : goal.returns-in_err-ask-clause-read
returns-in_err-ask-clause-read c =
    let now = c.loop-at in
    let us = c.ask.new.store in
    row_fault (scopes_in now.store now.state.scopes) c.args.bytes.now c.args.items.now now.at c.index-items-at.result c.loop-at-test.true c.index-items-at.is (map (asked_tree now.store) now.asked.items) (seen now.store now.state) _ now.invariant.told
    (map (asked_tree us)) us c.ask.new.state c.in_err-ask.field-0.0 c.from_residual.result c.from_residual.ensures.1 c.in_err-ask.ensures.read

pub loop-at-preserved : goal.loop-at-preserved
loop-at-preserved c =
    let now = c.loop-at in
    let us = c.ask.new.store in
    let u = c.ask.new.state in
    let given = c.in_ok-ask.ensures in
    record {
      told =
          ap (λ S. asked_from S c.args.bytes.now (drop (now.at + 1) c.args.items.now) (map (asked_tree us) c.ask.new.asked.items) (seen us u))
          (ap (scopes_in us) given.scopes ∙ scopes_extends now.store us now.state.scopes given.goes.extends now.invariant.goes.there.scopes)
          ∙ row_step (scopes_in now.store now.state.scopes) c.args.bytes.now c.args.items.now now.at c.index-items-at.result c.loop-at-test.true c.index-items-at.is (map (asked_tree now.store) now.asked.items) (seen now.store now.state) _ now.invariant.told
          (map (asked_tree us) c.ask.new.asked.items) (seen us u) given.read;
      has = given.has;
      scopes = given.scopes ∙ now.invariant.scopes;
      goes = goes_trans c.args.store.now now.store us c.args.state.now now.state u now.invariant.goes given.goes;
    }

pub returns-clause-read : goal.returns-clause-read
returns-clause-read c =
    let now = c.loop-at in
    rw c.from_vec.ensures (row_done (scopes_in now.store now.state.scopes) c.args.bytes.now c.args.items.now now.at (map (asked_tree now.store) now.asked.items) (seen now.store now.state) _ c.loop-at-test.false now.invariant.told)
