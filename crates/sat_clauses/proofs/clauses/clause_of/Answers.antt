use Rattle.std.proofs.Common.{◌∙◌, ap, sym, subst, All}
use Rattle.qterm.specs.Store.{tree_at, grow}
use Rattle.sat_clauses.specs.Coding.{HasNamesOf}
use Rattle.sat_clauses.proofs.Naming.{or_names}
use Rattle.sat_clauses.proofs.clauses.clause_of.Goals as goal

pub lits_in-requires-clause-names : goal.lits_in-requires-clause-names
lits_in-requires-clause-names c =
    let ts = c.args.store.now in
    let vars = c.args.numbers.now in
    subst (All (λ id. HasNamesOf ts vars (tree_at ts id))) (sym c.as_slice.ensures)
    (or_names ts vars c.in-Or.all (subst (HasNamesOf ts vars) (c.view.ensures.tree ∙ ap (grow ts) c.in-Or.is) c.requires.names))
