use Rattle.std.proofs.Common.{refl, sym, ◌∙◌}
use Rattle.cert_read.proofs.Symbols.{plain_itself}
use Rattle.cert_read.proofs.names.text_of.Goals as goal

pub returns-then-is_plain-clause-read : goal.returns-then-is_plain-clause-read
returns-then-is_plain-clause-read c text e = (refl, plain_itself c.args.word.now text (sym c.is_plain.ensures ∙ c.if-is_plain.true) e)
