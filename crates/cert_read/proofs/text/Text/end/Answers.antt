use Rattle.cert_read.specs.Lines.{last_number}
use Rattle.cert_read.proofs.Passing.{line_here}
use Rattle.cert_read.proofs.text.Text.end.Goals as goal

pub returns-clause-number : goal.returns-clause-number
unfolding last_number
returns-clause-number c text behind here = line_here text c.args.self.now.left.now c.args.self.now.number c.saturating_add-self.result behind c.saturating_add-self.ensures
