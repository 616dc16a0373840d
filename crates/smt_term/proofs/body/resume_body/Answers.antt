use Rattle.std.proofs.Common.{◌∙◌, sym}
use Rattle.qterm.specs.Store.{tree_at}
use Rattle.smt_names.specs.Given.{seen}
use Rattle.smt_term.proofs.Answered.{goes_left}
use Rattle.smt_term.proofs.Begun.{only_some}
use Rattle.smt_term.proofs.body.resume_body.Goals as goal

pub returns-then-not-is_empty-clause-turns : goal.returns-then-not-is_empty-clause-turns
returns-then-not-is_empty-clause-turns c = λ bytes ts has.
    rw c.refused.ensures (only_some bytes c.args.rest.now c.args.at (tree_at ts c.args.id) (seen ts c.args.state.now) (sym c.is_empty.ensures ∙ c.if-not-is_empty.true))

pub returns-then-not-is_empty-clause-goes : goal.returns-then-not-is_empty-clause-goes
returns-then-not-is_empty-clause-goes c = λ ts there. goes_left ts c.args.state.now c.leave.new.self there c.leave.ensures

pub returns-clause-goes : goal.returns-clause-goes
returns-clause-goes c = λ ts there. goes_left ts c.args.state.now c.leave.new.self there c.leave.ensures
