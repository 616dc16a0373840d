use Rattle.std.proofs.Common.{refl, Ok}
use Rattle.strat_text.specs.Form.{form_of}
use Rattle.smt_names.specs.Table.{symbols_in}
use Rattle.smt_names.specs.Names.{new_name}
use Rattle.smt_command.proofs.Tests.{refuses_and}
use Rattle.smt_command.proofs.definition.is_new.Goals as goal

pub returns-in-Ok : goal.returns-in-Ok
returns-in-Ok c = λ ts. rw (c.in-Ok.ensures.name ts) refl

pub returns-in-Err : goal.returns-in-Err
returns-in-Err c = λ ts. refuses_and c.in-Err.error (new_name (symbols_in ts c.args.symbols.now) c.args.at (form_of c.args.bytes.now c.args.sexp.now)) (λ _. Ok tt) (c.in-Err.ensures.name ts)
