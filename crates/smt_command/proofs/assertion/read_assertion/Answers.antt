use Rattle.std.proofs.Common.{◌∙◌, sym, ap, subst}
use Rattle.strat_text.specs.Form.{form_of, forms_of, place_of}
use Rattle.qterm.specs.Store.{tree_at}
use Rattle.smt_term.specs.Term.{read_term}
use Rattle.smt_names.specs.Given.{Gives, scopes_in, seen}
use Rattle.smt_names.proofs.Readings.{gives_handed}
use Rattle.smt_words.specs.Command.{command_tree}
use Rattle.smt_command.specs.Terms.{stays, formula}
use Rattle.smt_command.proofs.Tests.{args_of, forms_split}
use Rattle.smt_command.proofs.ByWords.{tells_gives, asserted}
use Rattle.smt_command.proofs.assertion.read_assertion.Goals as goal

pub returns-in_err-id-in-len1-up-clause-read : goal.returns-in_err-id-in-len1-up-clause-read
returns-in_err-id-in-len1-up-clause-read c =
    let ts = c.args.store.now in
    let s = c.args.state.now in
    let us = c.read_term.new.store in
    let form = form_of c.args.bytes.now c.form-item.result in
    rw (forms_split c.args.bytes.now c.args.args.now c.form-item.result c.in-len1-up.len_at_least c.form-item.is)
    (gives_handed (command_tree us) us c.read_term.new.state c.in_err-id-in-len1-up.field-0.0 (read_term (scopes_in ts s.scopes) form c.args.at (seen ts s))
    (λ t. stays (formula c.args.at (place_of form) (forms_of c.args.bytes.now (args_of c.args.args.now)) t)) c.from_residual.result c.from_residual.ensures.1 c.in_err-id-in-len1-up.ensures.read)

pub returns-in_ok-id-in-len1-up-clause-read : goal.returns-in_ok-id-in-len1-up-clause-read
returns-in_ok-id-in-len1-up-clause-read c =
    let ts = c.args.store.now in
    let s = c.args.state.now in
    let us = c.read_term.new.store in
    let u = c.read_term.new.state in
    let form = form_of c.args.bytes.now c.form-item.result in
    let rest = forms_of c.args.bytes.now (args_of c.args.args.now) in
    let t = tree_at us c.in_ok-id-in-len1-up.id in
    subst (Gives (command_tree us) us u c.formula.result)
    (sym (asserted (scopes_in ts s.scopes) c.args.at c.args.bytes.now c.args.args.now c.form-item.result (seen ts s) (seen us u) t c.in-len1-up.len_at_least c.form-item.is c.in_ok-id-in-len1-up.ensures.read
    ∙ ap (λ p. stays (formula c.args.at p rest t) (seen us u)) (sym c.place.ensures)))
    (tells_gives us u c.formula.result (formula c.args.at c.place.result rest t) c.formula.ensures.read)
