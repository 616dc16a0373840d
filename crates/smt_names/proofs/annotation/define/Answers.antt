use Rattle.std.proofs.Common.{Ok, ap, sym, ◌∙◌}
use Rattle.strat_text.specs.Form.{form_of}
use Rattle.smt_names.specs.Annotated.{define}
use Rattle.smt_names.specs.Reading.{tested}
use Rattle.smt_names.specs.Names.{new_name}
use Rattle.smt_names.specs.Table.{meaning_in}
use Rattle.smt_names.specs.Given.{seen}
use Rattle.smt_names.proofs.Readings.{refuses_tested}
use Rattle.smt_names.proofs.Pushing.{seen_named}
use Rattle.smt_names.proofs.annotation.define.Goals as goal

pub returns-in-Err-clause-read : goal.returns-in-Err-clause-read
returns-in-Err-clause-read c = λ ts.
    let s = seen ts c.args.state.now in
    refuses_tested c.in-Err.fault (new_name s.symbols c.args.at (form_of c.args.bytes.now c.args.name.now)) (define (meaning_in ts c.args.meaning)) s (c.in-Err.ensures.name ts)

pub returns-in_ok-add-in-Ok-clause-read : goal.returns-in_ok-add-in-Ok-clause-read
returns-in_ok-add-in-Ok-clause-read c = λ ts.
    let s = c.args.state.now in
    ap (λ r. tested r (define (meaning_in ts c.args.meaning)) (seen ts s)) (c.in-Ok.ensures.name ts)
    ∙ ap (λ u. Ok (tt {0}, u)) (sym (seen_named ts s c.in-Ok.name.now c.args.meaning) ∙ ap (λ es. seen ts (record s { symbols = es })) (sym c.in_ok-add-in-Ok.ensures.ok))
