use Rattle.std.proofs.Common.{None, refl, subst, sym}
use Rattle.std.specs.List.{AllZip}
use Rattle.qterm.specs.Store.{tree_at}
use Rattle.qterm.specs.Kids.{kids, listed}
use Rattle.qcanon.specs.Walk.{IsFound}
use Rattle.qcanon.proofs.Nesting.{AreSettled_extends, kids_sound, all_linked}
use Rattle.qcanon.proofs.Known.{AreForms_with, AreForms_settled}
use Rattle.qcanon.proofs.walk.answer.Goals as goal

pub settle_all-requires-clause-sound : goal.settle_all-requires-clause-sound
settle_all-requires-clause-sound c = kids_sound c.args.store.now (listed (kids (tree_at c.args.store.now c.args.id))) c.args.answers.now c.requires.children

pub find-requires-clause-children : goal.find-requires-clause-children
find-requires-clause-children c =
    let ts = c.args.store.now in
    let us = c.settle_all.new.store in
    let os = c.in_ok-outs-in-None.outs.items in
    let z : AllZip (IsFound us) (listed (kids (tree_at ts c.args.id))) os = all_linked ts us None (λ x. x) (listed (kids (tree_at ts c.args.id))) c.args.answers.now os c.requires.children c.in_ok-outs-in-None.ensures.links in
    subst (AllZip (IsFound us) (listed (kids (tree_at us c.args.id)))) (sym c.as_slice.ensures.value) (subst (λ t. AllZip (IsFound us) (listed (kids t)) os) (sym (c.in_ok-outs-in-None.ensures.extends.same c.args.id c.requires.has)) z)

pub returns-in_err-found-in-None-clause-forms : goal.returns-in_err-found-in-None-clause-forms
returns-in_err-found-in-None-clause-forms c =
    let e = c.find.ensures in
    let us = c.settle_all.new.store in
    let f = c.settle_all.new.self in
    let g = c.in_ok-outs-in-None.ensures.forms in
    AreForms_with us c.find.new.store f _ e.extends g refl e.table (AreSettled_extends us c.find.new.store f.settled e.extends g.settled)

pub returns-in_ok-found-in-None-clause-forms : goal.returns-in_ok-found-in-None-clause-forms
returns-in_ok-found-in-None-clause-forms c =
    let e = c.in_ok-found-in-None.ensures in
    let us = c.settle_all.new.store in
    let f = c.settle_all.new.self in
    let g = c.in_ok-outs-in-None.ensures.forms in
    AreForms_with us c.find.new.store f _ e.extends g refl e.table (AreSettled_extends us c.find.new.store f.settled e.extends g.settled)

pub returns-in_err-found-in-Some-clause-forms : goal.returns-in_err-found-in-Some-clause-forms
returns-in_err-found-in-Some-clause-forms c = AreForms_settled c.args.store.now c.join.new.store c.args.forms.now _ c.join.ensures.extends c.requires.forms refl refl c.join.ensures.settled

pub returns-in_ok-found-in-Some-clause-forms : goal.returns-in_ok-found-in-Some-clause-forms
returns-in_ok-found-in-Some-clause-forms c = AreForms_settled c.args.store.now c.join.new.store c.args.forms.now _ c.in_ok-found-in-Some.ensures.extends c.requires.forms refl refl c.in_ok-found-in-Some.ensures.settled
