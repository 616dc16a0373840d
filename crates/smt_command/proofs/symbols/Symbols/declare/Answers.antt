use Rattle.std.proofs.Common.{◌≡◌, ◌∙◌, ◌++◌, ◌∷◌, []}
use Rattle.smt_names.specs.declared.meaning.Meaning.TheVariants.{Declared}
use Rattle.smt_command.proofs.Declared.{declared_there}
use Rattle.smt_command.proofs.symbols.Symbols.declare.Goals as goal

pub returns-clause-there : goal.returns-clause-there
returns-clause-there c =
    let old = c.args.self.now.state.symbols in
    let id = c.in_ok-id.id in
    let is : c.add.new.self ≡ old ++ (c.args.name.now.text, Declared id c.args.name.now.sort) ∷ [] =
    c.in_ok-add.ensures.ok ∙ (λ x. old ++ (c.text.ensures.text x, Declared id (c.sort.ensures x)) ∷ []) in
    declared_there c.args.store.now c.variable.new.store c.args.name.now old c.add.new.self id c.in_ok-id.ensures.extends c.requires.there c.in_ok-id.ensures.shows is
