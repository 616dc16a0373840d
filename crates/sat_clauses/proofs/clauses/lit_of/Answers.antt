use Rattle.std.proofs.Common.{◌∙◌, ap, subst}
use Rattle.qterm.specs.Store.{tree_at, grow}
use Rattle.sat_clauses.specs.Coding.{HasNamesOf}
use Rattle.sat_clauses.proofs.Naming.{not_names}
use Rattle.sat_clauses.proofs.clauses.lit_of.Goals as goal

pub negated_lit-requires-clause-names : goal.negated_lit-requires-clause-names
negated_lit-requires-clause-names c =
    let ts = c.args.store.now in
    not_names ts c.args.numbers.now (tree_at ts c.in-Not.inner) (subst (HasNamesOf ts c.args.numbers.now) (c.view.ensures.tree ∙ ap (grow ts) c.in-Not.is) c.requires.names)
