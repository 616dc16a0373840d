use Rattle.std.proofs.Common.{◌∙◌, ap, sym, List, map}
use Rattle.cert_items.specs.Bounded.{bounds_in}
use Rattle.cert_items.specs.declared.held.Held.{Held}
use Rattle.cert_items.specs.Held.{item, formula_of}
use Rattle.cert_items.proofs.States.{state_noted}
use Rattle.cert_items.proofs.Growing.{formula_in, formula_none, formula_some}
use Rattle.tac_cert.specs.Clauses.{lits_at}
use Rattle.tac_cert.specs.Rup.{status_of}
use Rattle.cert_rules.specs.Named.{named}
use Rattle.cert_rules.proofs.propagation.hint_status.Goals as goal

pub term_status-requires-clause-has : goal.term_status-requires-clause-has
term_status-requires-clause-has c =
    let s = c.args.state.now in
    let n = state_noted c.args.store.now s.items s.seen (bounds_in s.bounds) s.marks.items c.requires.state in
    let h = formula_in c.args.store.now s.items c.args.hint c.in-Some.id c.formula_at.result n.items (c.formula_at.ensures ∙ ap (λ (hs : List Held). formula_of (item hs c.args.hint)) c.items.ensures) c.in-Some.is in
    h.0

pub returns-in-None-clause-status : goal.returns-in-None-clause-status
returns-in-None-clause-status c =
    let s = c.args.state.now in
    sym (ap (λ o. status_of (map (named c.args.store.now) c.args.trues.now) (lits_at o)) (formula_none c.args.store.now s.items c.args.hint c.formula_at.result (c.formula_at.ensures ∙ ap (λ (hs : List Held). formula_of (item hs c.args.hint)) c.items.ensures) c.in-None.is))

pub returns-in_ok-status-in-Some-clause-status : goal.returns-in_ok-status-in-Some-clause-status
returns-in_ok-status-in-Some-clause-status c =
    let s = c.args.state.now in
    c.in_ok-status-in-Some.ensures.status
    ∙ sym (ap (λ o. status_of (map (named c.args.store.now) c.args.trues.now) (lits_at o)) (formula_some c.args.store.now s.items c.args.hint c.in-Some.id c.formula_at.result (c.formula_at.ensures ∙ ap (λ (hs : List Held). formula_of (item hs c.args.hint)) c.items.ensures) c.in-Some.is))
