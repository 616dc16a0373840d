use Rattle.std.proofs.Common.{◌∙◌, sym}
use Rattle.smt_command.proofs.Keeping.{same_bool}
use Rattle.smt_command.proofs.assertion.formula.Goals as goal

pub returns-clause-in_store : goal.returns-clause-in_store
returns-clause-in_store c = (c.requires.has, sym c.sort.ensures ∙ same_bool c.sort.result (sym c.is_bool.ensures ∙ c.if-not-is_bool.false))
