use Rattle.std.specs.Option.{option_copied}
use Rattle.strat_text.specs.Form.{form_of}
use Rattle.strat_text.specs.declared.strategy.TheConstants.{DEPTH}
use Rattle.strat_text.proofs.Laws.{answer_spelled, answer_complete}
use Rattle.strat_text.proofs.FirstFault.{answer_tells}
use Rattle.strat_text.proofs.Permitted.{answer_allowed, answer_known}
use Rattle.strat_text.proofs.read.read_strategy.Goals as goal

pub returns-clause-spelled : goal.returns-clause-spelled
returns-clause-spelled c = answer_spelled (option_copied c.args.reducers) (form_of c.args.bytes.now c.args.sexp.now) DEPTH c.read_at.result c.read_at.ensures.strategy

pub returns-clause-complete : goal.returns-clause-complete
returns-clause-complete c = λ s spells. answer_complete (option_copied c.args.reducers) (form_of c.args.bytes.now c.args.sexp.now) DEPTH c.read_at.result s c.read_at.ensures.strategy spells

pub returns-clause-told : goal.returns-clause-told
returns-clause-told c = answer_tells (option_copied c.args.reducers) (form_of c.args.bytes.now c.args.sexp.now) DEPTH c.read_at.result c.read_at.ensures.strategy

pub returns-clause-allowed : goal.returns-clause-allowed
returns-clause-allowed c =
    let names = option_copied c.args.reducers in
    let form = form_of c.args.bytes.now c.args.sexp.now in
    answer_allowed names form c.read_at.result (answer_spelled names form DEPTH c.read_at.result c.read_at.ensures.strategy)

pub returns-clause-known : goal.returns-clause-known
returns-clause-known c =
    let names = option_copied c.args.reducers in
    let form = form_of c.args.bytes.now c.args.sexp.now in
    answer_known names form DEPTH c.read_at.result (answer_spelled names form DEPTH c.read_at.result c.read_at.ensures.strategy)
