use Rattle.std.proofs.Common.{◌∙◌, map, Some, ap, sym}
use Rattle.qterm.specs.Tree.{True}
use Rattle.qterm.specs.Store.{tree_at, trees_at}
use Rattle.qterm.specs.Kids.{kids, listed}
use Rattle.qcanon.specs.Walk.{id_of, first_fault}
use Rattle.qcanon.proofs.Nesting.{kids_sound, all_linked}
use Rattle.qcanon.proofs.Joining.{stands_linked, joined_fault, joined_nested, joined_form}
use Rattle.qcanon.proofs.chain.join.Goals as goal

pub link_all-requires-clause-sound : goal.link_all-requires-clause-sound
link_all-requires-clause-sound c = kids_sound c.args.store.now (listed (kids (tree_at c.args.store.now c.args.id))) c.args.answers.now c.requires.children

pub returns-in-Some-clause-right : goal.returns-in-Some-clause-right
returns-in-Some-clause-right c =
    let ts = c.args.store.now in
    let us = c.link_all.new.store in
    let t = tree_at ts c.args.id in
    let os = c.in_ok-outs.outs.items in
    joined_fault us c.args.is_and t (trees_at ts c.requires.connective.0) os c.in-Some.fault c.requires.connective.1 (c.is_lawful.ensures c.args.id True c.requires.has)
    (all_linked ts us (Some c.args.is_and) (λ x. x) (listed (kids t)) c.args.answers.now os c.requires.children c.in_ok-outs.ensures.links) (ap first_fault (sym c.as_slice.ensures.value) ∙ sym c.in-Some.ensures)

pub nest-requires : goal.nest-requires
nest-requires c =
    let ts = c.args.store.now in
    let s = stands_linked ts c.link_all.new.store c.args.is_and (tree_at ts c.args.id) (trees_at ts c.requires.connective.0) c.args.answers.now c.in_ok-outs.outs.items c.in_ok-ids.ids.items c.requires.connective.1
    (c.is_lawful.ensures c.args.id True c.requires.has) c.requires.children c.in_ok-outs.ensures.links (ap first_fault (sym c.as_slice.ensures.value) ∙ sym c.in_default.ensures) (c.in_ok-ids.ensures ∙ ap (map id_of) c.as_slice-2.ensures.value) in
    record { formulas = s.formulas }

pub returns-then-is_light-clause-right : goal.returns-then-is_light-clause-right
returns-then-is_light-clause-right c =
    let ts = c.args.store.now in
    let us = c.link_all.new.store in
    let t = tree_at ts c.args.id in
    let s = stands_linked ts us c.args.is_and t (trees_at ts c.requires.connective.0) c.args.answers.now c.in_ok-outs.outs.items c.in_ok-ids.ids.items c.requires.connective.1
    (c.is_lawful.ensures c.args.id True c.requires.has) c.requires.children c.in_ok-outs.ensures.links (ap first_fault (sym c.as_slice.ensures.value) ∙ sym c.in_default.ensures) (c.in_ok-ids.ensures ∙ ap (map id_of) c.as_slice-2.ensures.value) in
    joined_nested us c.nest.new.store t c.in_ok-ids.ids.items (record { id = c.in_ok-id.id; is_and = c.args.is_and; load = c.link_all.new.load }) s c.in_ok-id.ensures.shows

pub flatten-requires : goal.flatten-requires
flatten-requires c =
    let ts = c.args.store.now in
    let s = stands_linked ts c.link_all.new.store c.args.is_and (tree_at ts c.args.id) (trees_at ts c.requires.connective.0) c.args.answers.now c.in_ok-outs.outs.items c.as_slice-3.result.now c.requires.connective.1
    (c.is_lawful.ensures c.args.id True c.requires.has) c.requires.children c.in_ok-outs.ensures.links (ap first_fault (sym c.as_slice.ensures.value) ∙ sym c.in_default.ensures)
    (c.as_slice-3.ensures.value ∙ c.in_ok-ids.ensures ∙ ap (map id_of) c.as_slice-2.ensures.value) in
    record { formulas = s.formulas }

pub returns-clause-right : goal.returns-clause-right
returns-clause-right c =
    let ts = c.args.store.now in
    let us = c.link_all.new.store in
    let t = tree_at ts c.args.id in
    let s = stands_linked ts us c.args.is_and t (trees_at ts c.requires.connective.0) c.args.answers.now c.in_ok-outs.outs.items c.as_slice-3.result.now c.requires.connective.1
    (c.is_lawful.ensures c.args.id True c.requires.has) c.requires.children c.in_ok-outs.ensures.links (ap first_fault (sym c.as_slice.ensures.value) ∙ sym c.in_default.ensures)
    (c.as_slice-3.ensures.value ∙ c.in_ok-ids.ensures ∙ ap (map id_of) c.as_slice-2.ensures.value) in
    joined_form us c.flatten.new.store c.args.is_and t c.as_slice-3.result.now c.in_ok-form.form s c.in_ok-form.ensures.shows
