use Rattle.std.proofs.Common.{◌≡◌, ◌∙◌, ap, sym, subst, arith}
use Rattle.strat_text.specs.Form.{Form, atom, list, form_of, forms_of}
use Rattle.strat_text.proofs.Levels.{form_of_atom, form_of_list}
use Rattle.smt_names.specs.Atoms.{read_atom}
use Rattle.smt_names.specs.Given.{scopes_in, seen}
use Rattle.smt_term.specs.Frames.{weight}
use Rattle.smt_term.specs.Term.{read_term}
use Rattle.smt_term.specs.Turns.{Turns}
use Rattle.smt_term.proofs.Answered.{turns_done}
use Rattle.smt_term.proofs.list.start.Goals as goal

pub returns-in-Atom-clause-turns : goal.returns-in-Atom-clause-turns
unfolding read_term weight
returns-in-Atom-clause-turns c =
    let bytes = c.args.bytes.now in
    let ts = c.args.store.now in
    let us = c.atom.new.store in
    let s = c.args.state.now in
    let S = scopes_in ts s.scopes in
    let is : form_of bytes c.args.sexp.now ≡ atom c.in-Atom.kind c.text_at.result.now c.in-Atom.start =
    ap (form_of bytes) c.in-Atom.is ∙ form_of_atom bytes c.in-Atom.kind c.in-Atom.start c.in-Atom.end ∙ ap (λ text. atom c.in-Atom.kind text c.in-Atom.start) (sym c.text_at.ensures) in
    subst (λ (F : Form). Turns bytes s.scopes (weight F) us s (read_term S F c.args.at (seen ts s)) c.done.result) (sym is)
    (subst (λ answer. Turns bytes s.scopes 2 us s (read_atom S c.args.at c.in-Atom.kind c.text_at.result.now c.in-Atom.start (seen ts s)) answer) (sym c.done.ensures)
    (turns_done bytes 2 ts us s c.atom.result (read_atom S c.args.at c.in-Atom.kind c.text_at.result.now c.in-Atom.start) (omega arith) c.atom.ensures.extends c.requires.there c.atom.ensures.read))

pub returns-in-List-clause-turns : goal.returns-in-List-clause-turns
unfolding read_term weight
returns-in-List-clause-turns c =
    let bytes = c.args.bytes.now in
    let ts = c.args.store.now in
    let s = c.args.state.now in
    let us = c.start_list.new.store in
    let t = c.start_list.new.state in
    let S = scopes_in ts s.scopes in
    let is : form_of bytes c.args.sexp.now ≡ list (forms_of bytes c.as_slice.result.now) c.in-List.start =
    ap (form_of bytes) c.in-List.is ∙ form_of_list bytes c.in-List.items c.in-List.start c.in-List.end ∙ ap (λ items. list (forms_of bytes items) c.in-List.start) (sym c.as_slice.ensures) in
    subst (λ (F : Form). Turns bytes s.scopes (weight F) us t (read_term S F c.args.at (seen ts s)) c.start_list.result) (sym is) c.start_list.ensures.turns
