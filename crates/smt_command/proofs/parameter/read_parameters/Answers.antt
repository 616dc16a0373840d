use Rattle.std.proofs.Common.{◌≡◌, ◌∙◌, ap, sym, subst}
use Rattle.strat_text.specs.Form.{Form, list, form_of, forms_of}
use Rattle.strat_text.proofs.Levels.{form_of_list}
use Rattle.smt_names.specs.Table.{symbols_in}
use Rattle.smt_command.specs.Given.{Tells}
use Rattle.smt_command.specs.GivenParameters.{parameters_in}
use Rattle.smt_command.specs.Parameters.{read_parameters}
use Rattle.smt_command.proofs.parameter.read_parameters.Goals as goal

pub returns-in-List-clause-read : goal.returns-in-List-clause-read
returns-in-List-clause-read c = λ ts.
    let bytes = c.args.bytes.now in
    let is : form_of bytes c.args.sexp.now ≡ list (forms_of bytes c.as_slice.result.now) c.in-List.start =
    ap (form_of bytes) c.in-List.is ∙ form_of_list bytes c.in-List.items c.in-List.start c.in-List.end ∙ ap (λ items. list (forms_of bytes items) c.in-List.start) (sym c.as_slice.ensures) in
    subst (λ (F : Form). Tells (parameters_in c.read_all.new.store) c.read_all.result (read_parameters (symbols_in ts c.args.symbols.now) c.args.at F)) (sym is) (c.read_all.ensures.read ts)
