use Rattle.sexp_read.proofs.Opened.{read_end_none, read_end_some}
use Rattle.sexp_read.proofs.parsing.at_end.Goals as goal

pub returns-in-empty-clause-value : goal.returns-in-empty-clause-value
returns-in-empty-clause-value c = read_end_none c.args.frames.now c.in-empty.len_below

pub returns-in-len1-up-clause-value : goal.returns-in-len1-up-clause-value
returns-in-len1-up-clause-value c = rw c.bad.ensures.value (read_end_some c.args.frames.now c.first-item.result c.in-len1-up.len_at_least c.first-item.is)
