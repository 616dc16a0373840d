use Rattle.std.proofs.Common.{◌∙◌, sym, ap, subst}
use Rattle.strat_text.specs.Form.{form_of, forms_of, place_of}
use Rattle.qterm.specs.Store.{tree_at}
use Rattle.smt_term.specs.Term.{read_term}
use Rattle.smt_words.specs.Command.{command_tree}
use Rattle.smt_names.specs.Given.{Gives, scopes_in, seen}
use Rattle.smt_names.specs.Reading.{and_then}
use Rattle.smt_names.proofs.Readings.{gives_handed}
use Rattle.smt_command.specs.Terms.{meant, defined}
use Rattle.smt_command.proofs.Tests.{args_of, forms_split}
use Rattle.smt_command.proofs.definition.meant.Goals as goal

pub returns-in_err-id-in-len1-up-clause-read : goal.returns-in_err-id-in-len1-up-clause-read
returns-in_err-id-in-len1-up-clause-read c =
    let ts = c.args.store.now in
    let s = c.args.state.now in
    let us = c.read_term.new.store in
    let bytes = c.args.bytes.now in
    let form = form_of bytes c.form-item.result in
    rw (forms_split bytes c.args.rest.now c.form-item.result c.in-len1-up.len_at_least c.form-item.is)
    (gives_handed (command_tree us) us c.read_term.new.state c.in_err-id-in-len1-up.field-0.0 (read_term (scopes_in ts s.scopes) form c.args.at (seen ts s))
    (defined c.args.at (form_of bytes c.args.name.now) c.args.params c.args.sort (place_of form) (forms_of bytes (args_of c.args.rest.now))) c.from_residual.result c.from_residual.ensures.1 c.in_err-id-in-len1-up.ensures.read)

pub returns-in_ok-id-in-len1-up-clause-read : goal.returns-in_ok-id-in-len1-up-clause-read
returns-in_ok-id-in-len1-up-clause-read c =
    let ts = c.args.store.now in
    let s = c.args.state.now in
    let us = c.read_term.new.store in
    let bytes = c.args.bytes.now in
    let S = scopes_in ts s.scopes in
    let name = form_of bytes c.args.name.now in
    let rest = forms_of bytes (args_of c.args.rest.now) in
    let t = tree_at us c.in_ok-id-in-len1-up.id in
    subst (Gives (command_tree us) us c.defined.new.state c.defined.result)
    (sym (ap (λ fs. meant S c.args.at name c.args.params c.args.sort fs (seen ts s)) (forms_split bytes c.args.rest.now c.form-item.result c.in-len1-up.len_at_least c.form-item.is)
    ∙ ap (λ r. and_then r (defined c.args.at name c.args.params c.args.sort (place_of (form_of bytes c.form-item.result)) rest)) c.in_ok-id-in-len1-up.ensures.read
    ∙ ap (λ p. defined c.args.at name c.args.params c.args.sort p rest t (seen us c.read_term.new.state)) (sym c.place-place.ensures)))
    c.defined.ensures.read
