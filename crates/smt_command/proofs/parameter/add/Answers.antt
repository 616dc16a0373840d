use Rattle.std.proofs.Common.{◌≡◌, ◌++◌, ◌∷◌, [], ap, ◌∙◌}
use Rattle.smt_names.specs.declared.meaning.Meaning.TheVariants.{Defined}
use Rattle.smt_command.specs.declared.parameter.Parameters.{Parameters}
use Rattle.smt_command.proofs.Parameters.{added_there, added_seen}
use Rattle.smt_command.proofs.parameter.add.Goals as goal

pub returns-clause-added : goal.returns-clause-added
returns-clause-added c = λ vs.
    let old = c.args.parameters.now in
    let own = c.in_ok-own.own.items in
    let id = c.in_ok-id.id in
    let new : Parameters = record { scope = c.add.new.self; texts = c.add-2.new.self; names = c.push.new.self } in
    let texts : c.add-2.new.self ≡ old.texts ++ (own, Defined id) ∷ [] = c.in_ok-add-2.ensures.ok ∙ ap (λ t. old.texts ++ (t, Defined id) ∷ []) c.deref-2.ensures.value in
    added_seen c.args.store.now c.variable.new.store c.in_ok-id.ensures.extends old new c.requires.there c.args.text.now own c.in_ok-name.name id c.in_ok-id.ensures.shows c.in_ok-add.ensures.ok texts c.in_ok-push.ensures
    vs c.args.symbols.now c.args.sort c.in_ok-own.ensures.fresh (c.in_ok-name.ensures.text ∙ c.deref.ensures.value) c.in_ok-name.ensures.sort

pub returns-clause-there : goal.returns-clause-there
returns-clause-there c =
    let old = c.args.parameters.now in
    let own = c.in_ok-own.own.items in
    let id = c.in_ok-id.id in
    let new : Parameters = record { scope = c.add.new.self; texts = c.add-2.new.self; names = c.push.new.self } in
    let texts : c.add-2.new.self ≡ old.texts ++ (own, Defined id) ∷ [] = c.in_ok-add-2.ensures.ok ∙ ap (λ t. old.texts ++ (t, Defined id) ∷ []) c.deref-2.ensures.value in
    added_there c.args.store.now c.variable.new.store c.in_ok-id.ensures.extends old new c.requires.there c.args.text.now own c.in_ok-name.name id c.in_ok-id.ensures.shows c.in_ok-add.ensures.ok texts c.in_ok-push.ensures
