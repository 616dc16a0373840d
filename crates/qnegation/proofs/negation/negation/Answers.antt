use Rattle.std.proofs.Common.{sym, IfOk, ◌∙◌, ◌∷◌, [], ap, subst, false, true}
use Rattle.std.specs.List.{AllZip}
use Rattle.std.specs.Option.{option_map}
use Rattle.qterm.specs.Tree.{IsLawful, Iff, Ite}
use Rattle.qterm.specs.Store.{Fits, grow, tree_at, trees_at}
use Rattle.qterm.specs.Kids.{kids, listed}
use Rattle.qlin.specs.Linear.{and_then}
use Rattle.qlin.specs.Junction.{sorted, joined}
use Rattle.qnegation.specs.Answer.{Answers}
use Rattle.qnegation.specs.Negation.{IsFormula, IsNegation, shown, shown_all}
use Rattle.qnegation.proofs.Negated.{ok_both, children_formulas, second, third, is_iff, is_ite, is_and, is_or}
use Rattle.qnegation.proofs.negation.negation.Goals as goal

pub joined-requires : goal.joined-requires
joined-requires c = record { formulas = children_formulas c.args.store.now (listed (kids (tree_at c.args.store.now c.args.id))) c.args.outs.now c.requires.children }

pub joined-requires-in-Or : goal.joined-requires-in-Or
joined-requires-in-Or c = record { formulas = children_formulas c.args.store.now (listed (kids (tree_at c.args.store.now c.args.id))) c.args.outs.now c.requires.children }

pub negated_bound-requires : goal.negated_bound-requires
negated_bound-requires c =
    let ts = c.args.store.now in
    let fits = subst (Fits ts) c.in-Le.is c.view.ensures.fits in
    record { left = fits.0; right = fits.1; lawful = subst IsLawful (c.view.ensures.tree ∙ ap (grow ts) c.in-Le.is) c.view.ensures.lawful }

pub returns-in-Le-clause-right : goal.returns-in-Le-clause-right
returns-in-Le-clause-right c =
    let ts = c.args.store.now in
    subst (λ t. IfOk c.negated_bound.result (IsNegation c.negated_bound.new.store t)) (sym (c.view.ensures.tree ∙ ap (grow ts) c.in-Le.is)) c.negated_bound.ensures.right

pub returns-in-Iff-clause-right : goal.returns-in-Iff-clause-right
returns-in-Iff-clause-right c =
    let ts = c.args.store.now in
    let us = c.negated_iff.new.store in
    let t = tree_at ts c.args.id in
    let a = tree_at ts c.in-Iff.left in
    let b = tree_at ts c.in-Iff.field-1 in
    let q = c.index-outs-1.result in
    let e = c.view.ensures.tree ∙ ap (grow ts) c.in-Iff.is in
    let z = subst (λ x. AllZip (IsNegation ts) (listed (kids x)) c.args.outs.now) e c.requires.children in
    ok_both (Answers us (option_map (Iff a) (shown ts q))) (IsFormula us) (IsNegation us t) c.negated_iff.result
    (λ o h f. is_iff ts us t a b q o c.view.ensures.lawful e f (second ts [] a b c.args.outs.now q z c.index-outs-1.is) h) c.negated_iff.ensures.answers c.negated_iff.ensures.formula

pub returns-in-Ite-clause-right : goal.returns-in-Ite-clause-right
returns-in-Ite-clause-right c =
    let ts = c.args.store.now in
    let us = c.negated_ite.new.store in
    let t = tree_at ts c.args.id in
    let d = tree_at ts c.in-Ite.condition in
    let a = tree_at ts c.in-Ite.field-1 in
    let b = tree_at ts c.in-Ite.field-2 in
    let p = c.index-outs-1-in-Ite.result in
    let q = c.index-outs-2.result in
    let e = c.view.ensures.tree ∙ ap (grow ts) c.in-Ite.is in
    let z = subst (λ x. AllZip (IsNegation ts) (listed (kids x)) c.args.outs.now) e c.requires.children in
    ok_both (Answers us (and_then (shown ts p) (λ x. option_map (Ite d x) (shown ts q)))) (IsFormula us) (IsNegation us t) c.negated_ite.result
    (λ o h f. is_ite ts us t d a b p q o c.view.ensures.lawful e f (second ts (b ∷ []) d a c.args.outs.now p z c.index-outs-1-in-Ite.is) (third ts [] d a b c.args.outs.now q z c.index-outs-2.is) h) c.negated_ite.ensures.answers c.negated_ite.ensures.formula

pub returns-in-And-clause-right : goal.returns-in-And-clause-right
returns-in-And-clause-right c =
    let ts = c.args.store.now in
    let us = c.joined.new.store in
    let t = tree_at ts c.args.id in
    let os = c.args.outs.now in
    let e = c.view.ensures.tree ∙ ap (grow ts) c.in-And.is in
    let z = subst (λ x. AllZip (IsNegation ts) (listed (kids x)) os) e c.requires.children in
    ok_both (Answers us (option_map (λ ns. joined false (sorted ns)) (shown_all ts os))) (IsFormula us) (IsNegation us t) c.joined.result
    (λ o h f. is_and ts us t (trees_at ts c.in-And.field-0) os o c.view.ensures.lawful e f z h) c.joined.ensures.answers c.joined.ensures.formula

pub returns-in-Or-clause-right : goal.returns-in-Or-clause-right
returns-in-Or-clause-right c =
    let ts = c.args.store.now in
    let us = c.joined-in-Or.new.store in
    let t = tree_at ts c.args.id in
    let os = c.args.outs.now in
    let e = c.view.ensures.tree ∙ ap (grow ts) c.in-Or.is in
    let z = subst (λ x. AllZip (IsNegation ts) (listed (kids x)) os) e c.requires.children in
    ok_both (Answers us (option_map (λ ns. joined true (sorted ns)) (shown_all ts os))) (IsFormula us) (IsNegation us t) c.joined-in-Or.result
    (λ o h f. is_or ts us t (trees_at ts c.in-Or.field-0) os o c.view.ensures.lawful e f z h) c.joined-in-Or.ensures.answers c.joined-in-Or.ensures.formula
