use Rattle.cert_read.specs.Lines.{last_number}
use Rattle.cert_read.proofs.Passing.{line_here, line_passed}
use Rattle.cert_read.proofs.text.Text.line.Goals as goal

pub returns-in-Some-clause-behind : goal.returns-in-Some-clause-behind
unfolding last_number
returns-in-Some-clause-behind c text behind =
    line_passed text c.args.self.now.left.now c.in-Some.line.now c.in-Some.left.now c.args.self.now.number c.saturating_add-self.result behind c.in-Some.ensures.one c.in-Some.ensures.cut c.saturating_add-self.ensures

pub returns-in-Some-clause-number : goal.returns-in-Some-clause-number
unfolding last_number
returns-in-Some-clause-number c text behind = line_here text c.args.self.now.left.now c.args.self.now.number c.saturating_add-self.result behind c.saturating_add-self.ensures

pub returns-in-None-clause-number : goal.returns-in-None-clause-number
unfolding last_number
returns-in-None-clause-number c text behind = line_here text c.args.self.now.left.now c.args.self.now.number c.saturating_add-self.result behind c.saturating_add-self.ensures
