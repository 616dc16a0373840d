use Rattle.std.proofs.Common.{sym, subst, ap, ◌∙◌, length, List}
use Rattle.qterm.specs.Store.{Shows}
use Rattle.qterm.proofs.Extending.{Extends_trans}
use Rattle.rup.specs.declared.literal.Lit.{Lit}
use Rattle.sat_core.specs.declared.solver.RupLine.{RupLine}
use Rattle.sat_clauses.specs.Coding.{name_at, AreBelow}
use Rattle.sat_lines.specs.Terms.{clause_tree}
use Rattle.sat_lines.proofs.Building.{stand_extends}
use Rattle.sat_answers.proofs.Coding.{are_formulas}
use Rattle.sat_answers.proofs.Within.{line_at, has_more, terms_more}
use Rattle.sat_answers.proofs.lemmas.lemma_terms.Goals as goal

pub clause_term-requires-clause-vars : goal.clause_term-requires-clause-vars
clause_term-requires-clause-vars c =
    let first = c.args.store.now in
    let ts = c.loop-line.store in
    let f = name_at first c.args.numbers.now in
    are_formulas ts c.args.numbers.now f (stand_extends first ts c.args.numbers.now f c.loop-line.invariant.extends c.requires.stand)

pub clause_term-requires-clause-below : goal.clause_term-requires-clause-below
clause_term-requires-clause-below c =
    let v = length c.args.numbers.now in
    subst (AreBelow v) (sym (c.lits.ensures ∙ ap (λ (line : RupLine). line.clause) c.line-item.is)) (line_at v c.args.lines.now c.loop-line.line-index c.line-item.result c.loop-line-test.true c.requires.below)

pub loop-line-preserved : goal.loop-line-preserved
loop-line-preserved c =
    let first = c.args.store.now in
    let ts = c.loop-line.store in
    let us = c.clause_term.new.store in
    let vars = c.args.numbers.now in
    let f = name_at first vars in
    let i = c.loop-line.invariant in
    let e = c.in_ok-push.ensures.items in
    let shows = subst (λ (lits : List Lit). Shows us c.in_ok-id.id (clause_tree f lits)) (c.lits.ensures ∙ ap (λ (line : RupLine). line.clause) c.line-item.is) (c.in_ok-id.ensures.shows f (stand_extends first ts vars f i.extends c.requires.stand)) in
    record {
      extends = Extends_trans first ts us i.extends c.in_ok-id.ensures.extends;
      has = has_more ts us c.loop-line.ids.items c.push.new.self.items c.in_ok-id.id c.in_ok-id.ensures.extends i.has shows.has e;
      trees = terms_more f ts us c.loop-line.ids.items c.push.new.self.items c.in_ok-id.id c.args.lines.now c.loop-line.line-index c.line-item.result c.in_ok-id.ensures.extends i.has i.trees c.loop-line-test.true shows e;
    }
