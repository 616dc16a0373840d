use Rattle.std.proofs.Common.{◌≡◌, ap, sym, ◌∙◌, rules, SFits, codes}
use Rattle.std.specs.Int.{w128}
use Rattle.std.proofs.lemmas.Int.{to_z-of_z}
use Rattle.strat_text.specs.Spelled.{number_text}
use Rattle.symbol_text.specs.Symbols.{symbol_text}
use Rattle.qterm.specs.Store.{grow}
use Rattle.qterm.specs.declared.term.Term.TheVariants as term
use Rattle.answer_text.specs.Terms.{term_text, form_or}
use Rattle.answer_text.proofs.Writing.{writes, writes_same, texts_at}
use Rattle.answer_text.proofs.term.begin.Goals as goal

pub returns-in-True-clause-text : goal.returns-in-True-clause-text
unfolding term_text
returns-in-True-clause-text c =
    let is : c.view.result.now ≡ term.True = c.in-True.is in
    writes_same _ c.args.store.now c.args.text.now.items c.put.new.text.items (codes "true") _ c.args.parts.now.items c.args.parts.now.items
    (ap term_text (c.view.ensures.tree ∙ ap (grow c.args.store.now) is))
    (writes _ c.args.store.now c.args.text.now.items c.put.new.text.items (codes "true") c.args.parts.now.items c.put.ensures.text)

pub returns-in-False-clause-text : goal.returns-in-False-clause-text
unfolding term_text
returns-in-False-clause-text c =
    let is : c.view.result.now ≡ term.False = c.in-False.is in
    writes_same _ c.args.store.now c.args.text.now.items c.put-in-False.new.text.items (codes "false") _ c.args.parts.now.items c.args.parts.now.items
    (ap term_text (c.view.ensures.tree ∙ ap (grow c.args.store.now) is))
    (writes _ c.args.store.now c.args.text.now.items c.put-in-False.new.text.items (codes "false") c.args.parts.now.items c.put-in-False.ensures.text)

pub returns-in-Var-clause-text : goal.returns-in-Var-clause-text
unfolding term_text
returns-in-Var-clause-text c =
    let is : c.view.result.now ≡ term.Var c.in-Var.name = c.in-Var.is in
    writes_same _ c.args.store.now c.args.text.now.items c.push_symbol.new.text.items (symbol_text c.text.result.now) _ c.args.parts.now.items c.args.parts.now.items
    (ap term_text (c.view.ensures.tree ∙ ap (grow c.args.store.now) is) ∙ ap symbol_text (sym c.text.ensures.text))
    (writes _ c.args.store.now c.args.text.now.items c.push_symbol.new.text.items (symbol_text c.text.result.now) c.args.parts.now.items c.push_symbol.ensures)

pub returns-in-Num-clause-text : goal.returns-in-Num-clause-text
unfolding term_text
returns-in-Num-clause-text c =
    let is : c.view.result.now ≡ term.Num c.in-Num.number = c.in-Num.is in
    let fits : SFits w128 c.in-Num.number = search rules in
    writes_same _ c.args.store.now c.args.text.now.items c.push_number.new.text.items _ _ c.args.parts.now.items c.args.parts.now.items
    (ap term_text (c.view.ensures.tree ∙ ap (grow c.args.store.now) is) ∙ ap number_text (sym (to_z-of_z w128 c.in-Num.number fits)))
    (writes _ c.args.store.now c.args.text.now.items c.push_number.new.text.items _ c.args.parts.now.items c.push_number.ensures)

pub returns-in-Sum-clause-text : goal.returns-in-Sum-clause-text
unfolding term_text
returns-in-Sum-clause-text c =
    let is : c.view.result.now ≡ term.Sum c.as_slice.result.now = cc in
    writes_same _ c.args.store.now c.args.text.now.items c.begin_row.new.text.items _ _ c.begin_row.new.parts.items c.args.parts.now.items
    (ap term_text (c.view.ensures.tree ∙ ap (grow c.args.store.now) is) ∙ ap (form_or (codes "+") (codes "0")) (texts_at c.args.store.now c.as_slice.result.now))
    c.begin_row.ensures.text

pub returns-in-And-clause-text : goal.returns-in-And-clause-text
unfolding term_text
returns-in-And-clause-text c =
    let is : c.view.result.now ≡ term.And c.as_slice-in-And.result.now = cc in
    writes_same _ c.args.store.now c.args.text.now.items c.begin_row-in-And.new.text.items _ _ c.begin_row-in-And.new.parts.items c.args.parts.now.items
    (ap term_text (c.view.ensures.tree ∙ ap (grow c.args.store.now) is) ∙ ap (form_or (codes "and") (codes "true")) (texts_at c.args.store.now c.as_slice-in-And.result.now))
    c.begin_row-in-And.ensures.text

pub returns-in-Or-clause-text : goal.returns-in-Or-clause-text
unfolding term_text
returns-in-Or-clause-text c =
    let is : c.view.result.now ≡ term.Or c.as_slice-in-Or.result.now = cc in
    writes_same _ c.args.store.now c.args.text.now.items c.begin_row-in-Or.new.text.items _ _ c.begin_row-in-Or.new.parts.items c.args.parts.now.items
    (ap term_text (c.view.ensures.tree ∙ ap (grow c.args.store.now) is) ∙ ap (form_or (codes "or") (codes "false")) (texts_at c.args.store.now c.as_slice-in-Or.result.now))
    c.begin_row-in-Or.ensures.text
