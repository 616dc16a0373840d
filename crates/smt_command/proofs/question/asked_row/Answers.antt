use Rattle.std.proofs.Common.{◌∙◌, [], ap, map, sym, subst}
use Rattle.strat_text.specs.Form.{forms_of}
use Rattle.smt_words.specs.Command.{command_tree, asked_tree}
use Rattle.smt_names.specs.Reading.{and_then}
use Rattle.smt_names.specs.Given.{Gives, scopes_in, seen}
use Rattle.smt_names.proofs.Readings.{gives_handed}
use Rattle.smt_command.specs.Terms.{stays, asked_from, all_asked}
use Rattle.smt_command.proofs.ByWords.{tells_gives}
use Rattle.smt_command.proofs.Opening.{row_empty, row_some}
use Rattle.smt_command.proofs.question.asked_row.Goals as goal

pub returns-in-empty-clause-read : goal.returns-in-empty-clause-read
returns-in-empty-clause-read c =
    let ts = c.args.store.now in
    let s = c.args.state.now in
    rw c.bad.ensures (row_empty (scopes_in ts s.scopes) c.args.bytes.now c.args.at (seen ts s) c.args.place (forms_of c.args.bytes.now c.args.rest.now) c.args.items.now c.in-empty.len_below)

pub returns-in_err-asked-in-len1-up-clause-read : goal.returns-in_err-asked-in-len1-up-clause-read
returns-in_err-asked-in-len1-up-clause-read c =
    let ts = c.args.store.now in
    let s = c.args.state.now in
    let us = c.asked_terms.new.store in
    let bytes = c.args.bytes.now in
    let items = c.args.items.now in
    let rest = forms_of bytes c.args.rest.now in
    subst (Gives (command_tree us) us c.asked_terms.new.state c.from_residual.result) (sym (row_some (scopes_in ts s.scopes) bytes c.args.at (seen ts s) c.args.place rest items c.in-len1-up.len_at_least))
    (gives_handed (command_tree us) us c.asked_terms.new.state c.in_err-asked-in-len1-up.field-0.0 (asked_from (scopes_in ts s.scopes) bytes items [] (seen ts s)) (λ terms. stays (all_asked c.args.at c.args.place (forms_of bytes items) rest terms))
    c.from_residual.result c.from_residual.ensures.1 c.in_err-asked-in-len1-up.ensures.read)

pub returns-in_ok-asked-in-len1-up-clause-read : goal.returns-in_ok-asked-in-len1-up-clause-read
returns-in_ok-asked-in-len1-up-clause-read c =
    let ts = c.args.store.now in
    let s = c.args.state.now in
    let us = c.asked_terms.new.store in
    let u = c.asked_terms.new.state in
    let bytes = c.args.bytes.now in
    let items = c.args.items.now in
    let rest = forms_of bytes c.args.rest.now in
    let row = forms_of bytes items in
    let asked = c.in_ok-asked-in-len1-up.asked in
    subst (Gives (command_tree us) us u c.all_asked.result)
    (sym (row_some (scopes_in ts s.scopes) bytes c.args.at (seen ts s) c.args.place rest items c.in-len1-up.len_at_least
    ∙ ap (λ r. and_then r (λ terms. stays (all_asked c.args.at c.args.place row rest terms))) c.in_ok-asked-in-len1-up.ensures.read))
    (tells_gives us u c.all_asked.result (all_asked c.args.at c.args.place row rest (map (asked_tree us) asked)) (c.all_asked.ensures.read us))
