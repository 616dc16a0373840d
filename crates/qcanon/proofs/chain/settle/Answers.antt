use Rattle.std.proofs.Common.{◌∙◌, sym, ap, []}
use Rattle.qterm.specs.Store.{HasSort}
use Rattle.qterm.specs.declared.name.Sort.TheVariants.{Bool}
use Rattle.qterm.proofs.Alls.{All-nil, All-cons}
use Rattle.qterm.proofs.Fitting.{Has_extends}
use Rattle.qlin.specs.Canon.{canon}
use Rattle.qcanon.proofs.Nesting.{flat_form, AreSettled_extends, AreSettled-note, AreSettled-same}
use Rattle.qcanon.proofs.chain.settle.Goals as goal

pub flatten-requires : goal.flatten-requires
flatten-requires c = record { formulas = All-cons (HasSort Bool c.args.store.now) c.args.chain.now.id [] c.requires.chain.formula (All-nil (HasSort Bool c.args.store.now)) }

pub returns-in-Some-clause-canonical : goal.returns-in-Some-clause-canonical
returns-in-Some-clause-canonical c = let r = c.requires.settled.right c.args.chain.now.id c.in-Some.form (sym (c.copied.ensures ∙ c.get.ensures.value) ∙ c.in-Some.is) in (r.1, r.2)

pub returns-in_err-form-clause-settled : goal.returns-in_err-form-clause-settled
returns-in_err-form-clause-settled c = AreSettled_extends c.args.store.now c.flatten.new.store c.args.settled.now c.flatten.ensures.extends c.requires.settled

pub returns-in_err-note-clause-settled : goal.returns-in_err-note-clause-settled
returns-in_err-note-clause-settled c =
    let us = c.flatten.new.store in
    AreSettled-same us c.args.settled.now c.note.new.self (AreSettled_extends c.args.store.now us c.args.settled.now c.in_ok-form.ensures.extends c.requires.settled) c.in_err-note.ensures.err

pub returns-clause-canonical : goal.returns-clause-canonical
returns-clause-canonical c = flat_form c.args.store.now c.flatten.new.store c.args.chain.now.is_and c.args.chain.now.id c.in_ok-form.form c.requires.chain c.in_ok-form.ensures.shows

pub returns-clause-settled : goal.returns-clause-settled
returns-clause-settled c =
    let ts = c.args.store.now in
    let us = c.flatten.new.store in
    let i = c.args.chain.now.id in
    let e = c.in_ok-form.ensures.extends in
    let has = c.requires.chain.formula.0 in
    let r = flat_form ts us c.args.chain.now.is_and i c.in_ok-form.form c.requires.chain c.in_ok-form.ensures.shows in
    AreSettled-note us c.args.settled.now c.note.new.self i c.in_ok-form.form (Has_extends ts us i e has) r.0 (ap canon (e.same i has) ∙ r.1) (AreSettled_extends ts us c.args.settled.now e c.requires.settled) c.in_ok-note.ensures.ok
