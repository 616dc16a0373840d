use Rattle.std.proofs.Common.{Ok, refl}
use Rattle.strat_text.specs.Form.{form_of}
use Rattle.smt_names.specs.Table.{symbols_in}
use Rattle.smt_names.specs.Annotated.{pair_of}
use Rattle.smt_names.specs.Names.{bound_name}
use Rattle.smt_command.specs.GivenParameters.{parameters_in}
use Rattle.smt_command.specs.Parameters.{pair_read, with_parameter}
use Rattle.smt_command.specs.Reading.{and, read_sort}
use Rattle.smt_command.proofs.Tests.{tells_handed}
use Rattle.smt_command.proofs.parameter.read_one.Goals as goal

pub returns-in_err-name-clause-read : goal.returns-in_err-name-clause-read
returns-in_err-name-clause-read c = λ vs.
    let ts = c.args.store.now in
    let ps = c.args.parameters.now in
    tells_handed (λ _. parameters_in ts ps) c.in_err-name.field-0.0 (pair_of (form_of c.args.bytes.now c.args.sexp.now) c.args.place) (pair_read (symbols_in vs c.args.symbols.now) (parameters_in ts ps)) c.from_residual.result c.from_residual.ensures.1
    (c.in_err-name.ensures.parts c.args.bytes.now)

pub returns-in_err-text-clause-read : goal.returns-in_err-text-clause-read
returns-in_err-text-clause-read c = λ vs.
    let ts = c.args.store.now in
    let ps = c.args.parameters.now in
    let bytes = c.args.bytes.now in
    rw (c.in_ok-name.ensures.parts bytes)
    (tells_handed (λ _. parameters_in ts ps) c.in_err-text.field-0.0 (bound_name (symbols_in ts ps.scope) c.in_ok-name.field-0.place (form_of bytes c.in_ok-name.field-0.name.now))
    (λ text. and (read_sort c.in_ok-name.field-0.place (form_of bytes c.in_ok-name.field-0.value.now)) (λ s. Ok (with_parameter (symbols_in vs c.args.symbols.now) text (parameters_in ts ps) s)))
    c.from_residual-in_err-text.result c.from_residual-in_err-text.ensures.1 (c.in_err-text.ensures.name ts))

pub returns-in_err-sort-clause-read : goal.returns-in_err-sort-clause-read
returns-in_err-sort-clause-read c = λ vs.
    let ts = c.args.store.now in
    let ps = c.args.parameters.now in
    let bytes = c.args.bytes.now in
    rw (c.in_ok-name.ensures.parts bytes, c.in_ok-text.ensures.name ts)
    (tells_handed (λ _. parameters_in ts ps) c.in_err-sort.field-0.0 (read_sort c.in_ok-name.field-0.place (form_of bytes c.in_ok-name.field-0.value.now))
    (λ s. Ok (with_parameter (symbols_in vs c.args.symbols.now) c.in_ok-text.text.now (parameters_in ts ps) s))
    c.from_residual-in_err-sort.result c.from_residual-in_err-sort.ensures.1 c.in_err-sort.ensures)

pub returns-clause-read : goal.returns-clause-read
returns-clause-read c = λ vs.
    let ts = c.args.store.now in
    rw (c.in_ok-name.ensures.parts c.args.bytes.now, c.in_ok-text.ensures.name ts, c.in_ok-sort.ensures, c.in_ok-add.ensures.added vs) refl
