use Rattle.std.proofs.Common.{sym, ◌∙◌}
use Rattle.strat_text.specs.Form.{form_of, place_of}
use Rattle.smt_names.specs.Text.{name_of}
use Rattle.smt_names.specs.Names.{is_taken}
use Rattle.smt_names.specs.Table.{symbols_in}
use Rattle.smt_names.proofs.Names.{free_taken, free_free}
use Rattle.smt_names.proofs.naming.new_name.Goals as goal

pub returns-then-is_taken-clause-name : goal.returns-then-is_taken-clause-name
returns-then-is_taken-clause-name c = λ ts.
    let form = form_of c.args.bytes.now c.args.sexp.now in
    rw (c.refused-then-is_taken.ensures, c.place.ensures)
    (free_taken c.args.at (place_of form) (is_taken (symbols_in ts c.args.symbols.now)) (name_of form) c.in-Some.name.now c.in-Some.ensures (sym c.is_name_text.ensures.test ∙ c.if-not-is_name_text.false)
    (sym (c.is_taken.ensures.taken ts) ∙ c.if-is_taken.true))

pub returns-else-is_taken-clause-name : goal.returns-else-is_taken-clause-name
returns-else-is_taken-clause-name c = λ ts.
    let form = form_of c.args.bytes.now c.args.sexp.now in
    free_free c.args.at (place_of form) (is_taken (symbols_in ts c.args.symbols.now)) (name_of form) c.in-Some.name.now c.in-Some.ensures (sym c.is_name_text.ensures.test ∙ c.if-not-is_name_text.false)
    (sym (c.is_taken.ensures.taken ts) ∙ c.if-is_taken.false)
