use Rattle.std.proofs.Common.{◌∙◌, ◌+◌, ◌++◌, ◌∷◌, [], List, ap, sym, subst}
use Rattle.qterm.specs.Tree.{Tree}
use Rattle.qterm.specs.Store.{tree_at}
use Rattle.strat_text.specs.Form.{forms_of}
use Rattle.smt_names.specs.declared.meaning.Meaning.TheVariants as meaning
use Rattle.smt_names.specs.Given.{scopes_in, seen}
use Rattle.smt_names.specs.Reading.{Reader, and_then}
use Rattle.smt_names.specs.Table.{Entry, Symbol, Defined, symbols_in}
use Rattle.smt_names.proofs.Pushing.{with_name_in}
use Rattle.smt_term.specs.Frames.{bind_rest, weights}
use Rattle.smt_term.specs.Turns.{Turns}
use Rattle.smt_term.proofs.Answered.{turns_same}
use Rattle.smt_term.proofs.bindings.resume_binding.Goals as goal

pub returns-clause-turns : goal.returns-clause-turns
returns-clause-turns c = λ ts there has.
    let bytes = c.args.bytes.now in
    let old = c.args.state.now in
    let b = c.args.bindings in
    let body = forms_of bytes b.body.now in
    let rest = forms_of bytes b.rest.now in
    let t = seen ts c.bind.new.state in
    let bound = 1 + (1 + (weights rest + weights body)) in
    let new : Symbol = (b.name.now, Defined (tree_at ts c.args.id)) in
    let K : List (List Symbol) → Symbol → Reader Tree = λ S symbol. bind_rest S b.at b.list_at body rest (symbols_in ts b.scope ++ symbol ∷ []) in
    turns_same bytes old.scopes bound ts _ _ _ c.next_binding.result
    (ap (λ r. and_then r (K (scopes_in ts old.scopes))) (c.in_ok-bind.ensures.read ts))
    (subst (λ (R : List (List Entry)). Turns bytes R bound ts c.next_binding.new.state (K (scopes_in ts R) new t) c.next_binding.result) (ap (λ u. u.scopes) c.in_ok-bind.ensures.state)
    (turns_same bytes c.bind.new.state.scopes bound ts _ _ _ c.next_binding.result
    (ap (λ scope. bind_rest (scopes_in ts c.bind.new.state.scopes) b.at b.list_at body rest scope t) (sym (ap (symbols_in ts) c.in_ok-bind.ensures.scope ∙ with_name_in ts b.scope b.name.now (meaning.Defined c.args.id))))
    (c.next_binding.ensures.turns ts (c.in_ok-bind.ensures.there ts has there))))
