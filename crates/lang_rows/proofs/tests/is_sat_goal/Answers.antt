use Rattle.std.proofs.Common.{◌∙◌, sym, subst, Bool as Truth, IsTrue}
use Rattle.std.proofs.lemmas.Bool.{false≢true}
use Rattle.lang_rows.proofs.Testing.{formula_unsat}
use Rattle.lang_rows.proofs.tests.is_sat_goal.Goals as goal

pub returns-else-is_empty : goal.returns-else-is_empty
returns-else-is_empty c = λ ts.
    c.if-is_empty.false ∙ sym (formula_unsat ts c.args.goal.now.formulas c.args.goal.now.precision (λ e. false≢true (subst (λ (b : Truth). IsTrue b) c.if-is_empty.false (c.is_empty.ensures.1 e))))
