use Rattle.std.proofs.Common.{sym, subst}
use Rattle.strat_text.specs.Form.{forms_of}
use Rattle.smt_command.proofs.Tests.{args_of}
use Rattle.smt_words.specs.Command.{command_tree}
use Rattle.smt_command.specs.Given.{Tells}
use Rattle.smt_command.specs.Reading.{only}
use Rattle.smt_command.proofs.Tests.{forms_split}
use Rattle.smt_words.specs.Command.{Echo}
use Rattle.smt_command.proofs.using.read_echo.Goals as goal

pub returns-in_ok-echoed-in-Some : goal.returns-in_ok-echoed-in-Some
returns-in_ok-echoed-in-Some c = λ ts. rw (forms_split c.args.bytes.now c.args.args.now c.text-item.result c.in-len1-up.len_at_least c.text-item.is, sym c.in-Some.ensures) (subst (λ t. Tells (command_tree ts) c.only.result (only c.args.at (forms_of c.args.bytes.now (args_of c.args.args.now)) (Echo t))) c.in_ok-echoed-in-Some.ensures (c.only.ensures ts))
