use Rattle.std.proofs.Common.{◌∙◌, ◌+◌, ap, sym, subst, refl, arith}
use Rattle.qterm.specs.Store.{trees_of}
use Rattle.strat_text.specs.Form.{form_of, forms_of}
use Rattle.smt_names.specs.Given.{scopes_in, seen}
use Rattle.smt_term.specs.Callee.{over_all}
use Rattle.smt_term.specs.Frames.{IsTermFirst, over_rest, weights}
use Rattle.smt_term.specs.Turns.{Turns, callee_in, done_with}
use Rattle.smt_term.proofs.Answered.{turns_given, turns_same}
use Rattle.smt_term.proofs.Begun.{behind_item, forms_none, forms_more, weights_items, over_from, over_none, over_more}
use Rattle.smt_term.proofs.argument.next_argument.Goals as goal

pub returns-in-empty-clause-turns : goal.returns-in-empty-clause-turns
returns-in-empty-clause-turns c =
    let bytes = c.args.bytes.now in
    let ts = c.args.store.now in
    let us = c.applied.new.store in
    let s = c.args.state.now in
    let t = c.applied.new.state in
    let S = scopes_in ts s.scopes in
    let a = c.args.application in
    let callee = callee_in a.callee in
    let args = forms_of bytes a.args.now in
    let rest = c.from_term.result.now in
    let front = trees_of ts a.ids.items in
    let bound = 1 + (1 + weights (forms_of bytes a.rest.now)) in
    turns_same bytes s.scopes bound us t (over_all callee a.at args front (seen ts s)) _ c.done.result
    (over_from S callee a.at args (forms_of bytes a.rest.now) (forms_of bytes rest) front (seen ts s) (c.from_term.ensures.reads S (seen ts s))
    ∙ ap (λ fs. over_rest S callee a.at args fs front (seen ts s)) (forms_none bytes rest c.in-empty.len_below) ∙ over_none S callee a.at args front (seen ts s))
    (subst (λ answer. Turns bytes s.scopes bound us t (over_all callee a.at args front (seen ts s)) answer) (sym c.done.ensures)
    (subst (λ ids. Turns bytes s.scopes bound us t (over_all callee a.at args (trees_of ts ids) (seen ts s)) (done_with c.applied.result)) c.deref.ensures.value
    (turns_given bytes s.scopes bound us t c.applied.result (over_all callee a.at args (trees_of ts c.deref.result.now) (seen ts s)) (omega arith) c.applied.ensures.scopes c.applied.ensures.has c.applied.ensures.read)))

pub returns-clause-turns : goal.returns-clause-turns
returns-clause-turns c =
    let bytes = c.args.bytes.now in
    let ts = c.args.store.now in
    let s = c.args.state.now in
    let S = scopes_in ts s.scopes in
    let a = c.args.application in
    let callee = callee_in a.callee in
    let args = forms_of bytes a.args.now in
    let rest = c.from_term.result.now in
    let front = trees_of ts a.ids.items in
    let x = c.sexp-item.result in
    let more_forms = forms_more bytes rest x c.in-len1-up.len_at_least c.sexp-item.is in
    let all = weights_items bytes rest x c.in-len1-up.len_at_least c.sexp-item.is in
    let fewer = c.from_term.ensures.fewer in
    record {
      reads = over_from S callee a.at args (forms_of bytes a.rest.now) (forms_of bytes rest) front (seen ts s) (c.from_term.ensures.reads S (seen ts s))
          ∙ ap (λ fs. over_rest S callee a.at args fs front (seen ts s)) more_forms
          ∙ over_more S callee a.at args (form_of bytes x) (forms_of bytes (behind_item rest)) front (seen ts s) (subst IsTermFirst more_forms c.from_term.ensures.term);
      scopes = refl;
      has = c.requires.ids;
      below = omega (arith, all, fewer);
    }
