use Rattle.std.proofs.Common.{sym, ◌∙◌}
use Rattle.strat_text.specs.Form.{form_of, place_of}
use Rattle.smt_names.specs.Text.{name_of}
use Rattle.smt_names.specs.Names.{is_bound}
use Rattle.smt_names.specs.Table.{symbols_in}
use Rattle.smt_names.proofs.Names.{free_taken, free_free}
use Rattle.smt_names.proofs.Lookups.{meaning_some}
use Rattle.smt_names.proofs.naming.bound_name.Goals as goal

pub returns-then-has-clause-name : goal.returns-then-has-clause-name
returns-then-has-clause-name c = λ ts.
    let form = form_of c.args.bytes.now c.args.sexp.now in
    let name = c.in-Some.name.now in
    rw (c.refused-then-has.ensures, c.place.ensures)
    (free_taken c.args.at (place_of form) (is_bound (symbols_in ts c.args.scope.now)) (name_of form) name c.in-Some.ensures (sym c.is_name_text.ensures.test ∙ c.if-not-is_name_text.false)
    (meaning_some ts c.args.scope.now name ∙ sym c.has.ensures ∙ c.if-has.true))

pub returns-else-has-clause-name : goal.returns-else-has-clause-name
returns-else-has-clause-name c = λ ts.
    let form = form_of c.args.bytes.now c.args.sexp.now in
    let name = c.in-Some.name.now in
    free_free c.args.at (place_of form) (is_bound (symbols_in ts c.args.scope.now)) (name_of form) name c.in-Some.ensures (sym c.is_name_text.ensures.test ∙ c.if-not-is_name_text.false)
    (meaning_some ts c.args.scope.now name ∙ sym c.has.ensures ∙ c.if-has.false)
