use Rattle.std.proofs.Common.{sym, ap, subst, ◌∙◌}
use Rattle.strat_text.specs.Form.{form_of, forms_of}
use Rattle.smt_words.specs.Command.{command_tree}
use Rattle.smt_names.specs.Reading.{tested}
use Rattle.smt_names.specs.Table.{symbols_in}
use Rattle.smt_names.specs.Given.{Gives, scopes_in, seen}
use Rattle.smt_names.proofs.Readings.{scopes_extends, seen_extends, IsIn_extends, goes_stays, goes_trans}
use Rattle.smt_command.specs.GivenParameters.{parameters_in}
use Rattle.smt_command.specs.Parameters.{read_parameters}
use Rattle.smt_command.specs.Terms.{behind_name, with_parameters}
use Rattle.smt_command.proofs.Tests.{args_of, forms_split, tested_handed}
use Rattle.smt_command.proofs.definition.behind_name.Goals as goal

pub returns-in_err-parameters-in-len1-up-clause-read : goal.returns-in_err-parameters-in-len1-up-clause-read
returns-in_err-parameters-in-len1-up-clause-read c =
    let ts = c.args.store.now in
    let us = c.read_parameters.new.store in
    let s = c.args.state.now in
    let bytes = c.args.bytes.now in
    rw (forms_split bytes c.args.rest.now c.parameters-item.result c.in-len1-up.len_at_least c.parameters-item.is)
    (tested_handed (command_tree us) us s c.in_err-parameters-in-len1-up.field-0.0 (read_parameters (symbols_in ts s.symbols) c.args.at (form_of bytes c.parameters-item.result))
    (with_parameters (scopes_in ts s.scopes) c.args.at (form_of bytes c.args.name.now) (forms_of bytes (args_of c.args.rest.now)))
    (seen ts s) c.from_residual.result c.from_residual.ensures.1 (c.in_err-parameters-in-len1-up.ensures.read ts))

pub with_parameters-requires-clause-there : goal.with_parameters-requires-clause-there
with_parameters-requires-clause-there c = IsIn_extends c.args.store.now c.read_parameters.new.store c.args.state.now c.read_parameters.ensures.extends c.requires.there

pub returns-in_ok-parameters-in-len1-up-clause-read : goal.returns-in_ok-parameters-in-len1-up-clause-read
returns-in_ok-parameters-in-len1-up-clause-read c =
    let ts = c.args.store.now in
    let us = c.read_parameters.new.store in
    let s = c.args.state.now in
    let bytes = c.args.bytes.now in
    let S = scopes_in ts s.scopes in
    let name = form_of bytes c.args.name.now in
    let rest = forms_of bytes (args_of c.args.rest.now) in
    let ps = parameters_in us c.in_ok-parameters-in-len1-up.parameters in
    subst (Gives (command_tree c.with_parameters.new.store) c.with_parameters.new.store c.with_parameters.new.state c.with_parameters.result)
    (sym (ap (λ fs. behind_name S c.args.at name fs (seen ts s)) (forms_split bytes c.args.rest.now c.parameters-item.result c.in-len1-up.len_at_least c.parameters-item.is)
    ∙ ap (λ r. tested r (with_parameters S c.args.at name rest) (seen ts s)) (c.in_ok-parameters-in-len1-up.ensures.read ts)
    ∙ (λ i. with_parameters (sym (scopes_extends ts us s.scopes c.read_parameters.ensures.extends c.requires.there.scopes) i) c.args.at name rest ps (sym (seen_extends ts us s c.read_parameters.ensures.extends c.requires.there) i))))
    c.with_parameters.ensures.read

pub returns-in_ok-parameters-in-len1-up-clause-goes : goal.returns-in_ok-parameters-in-len1-up-clause-goes
returns-in_ok-parameters-in-len1-up-clause-goes c =
    let ts = c.args.store.now in
    let us = c.read_parameters.new.store in
    let s = c.args.state.now in
    goes_trans ts us c.with_parameters.new.store s s c.with_parameters.new.state (goes_stays ts us s c.read_parameters.ensures.extends c.requires.there) c.with_parameters.ensures.goes
