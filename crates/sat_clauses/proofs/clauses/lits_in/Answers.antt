use Rattle.std.proofs.Common.{◌≡◌, ◌∙◌, ap, sym, subst, arith, length, List, [], map, rules}
use Rattle.qterm.specs.Store.{tree_at, trees_at}
use Rattle.rup.specs.declared.literal.Lit.{Lit}
use Rattle.tac_cert.specs.Clauses.{lits_in}
use Rattle.sat_clauses.specs.Coding.{name_at, lit_with, AreBelow, HasNamesOf}
use Rattle.sat_clauses.proofs.Literals.{joined_lits, joined_none, lits_more, lits_stop, lits_all, below_push, some_below, some_of}
use Rattle.sat_clauses.proofs.clauses.lits_in.Goals as goal

pub loop-id-init : goal.loop-id-init
loop-id-init c =
    let e : c.in_ok-lits.lits.items ≡ [] = search rules in
    let f = name_at c.args.store.now c.args.numbers.now in
    let all = lits_in (trees_at c.args.store.now c.args.ids.now) in
    record {
      below = subst (AreBelow (length c.args.numbers.now)) (sym e) tt;
      lits = ap (λ (xs : List Lit). joined_lits (map (lit_with f) xs) all) e ∙ joined_none all;
    }

pub lit_of-requires-clause-names : goal.lit_of-requires-clause-names
lit_of-requires-clause-names c =
    let ts = c.args.store.now in
    subst (λ i. HasNamesOf ts c.args.numbers.now (tree_at ts i)) (sym c.id-item.is) (c.requires.names c.loop-id.id-index c.id-item.result c.loop-id-test.true)

pub returns-in-None-clause-lits : goal.returns-in-None-clause-lits
returns-in-None-clause-lits c =
    sym (lits_stop (name_at c.args.store.now c.args.numbers.now) c.args.store.now c.loop-id.lits.items c.args.ids.now c.loop-id.id-index c.id-item.result c.lit_of.result c.loop-id-test.true c.id-item.is c.lit_of.ensures.lit c.in-None.is) ∙ c.loop-id.invariant.lits

pub loop-id-preserved : goal.loop-id-preserved
loop-id-preserved c =
    let e = c.in_ok-push-in-Some.ensures.items in
    let v = length c.args.numbers.now in
    record {
      below = subst (AreBelow v) (sym e) (below_push v c.loop-id.lits.items c.in-Some.l c.loop-id.invariant.below (some_below v c.lit_of.result c.in-Some.l c.lit_of.ensures.below c.in-Some.is));
      lits = lits_more (name_at c.args.store.now c.args.numbers.now) c.args.store.now c.loop-id.lits.items c.push.new.self.items c.args.ids.now c.loop-id.id-index c.id-item.result c.lit_of.result c.in-Some.l c.loop-id-test.true c.id-item.is c.lit_of.ensures.lit c.in-Some.is e ∙ c.loop-id.invariant.lits;
    }

pub returns-clause-lits : goal.returns-clause-lits
returns-clause-lits c =
    let f = name_at c.args.store.now c.args.numbers.now in
    ap (λ (xs : List Lit). some_of (map (lit_with f) xs)) c.from_vec.ensures
    ∙ sym (lits_all f c.args.store.now c.loop-id.lits.items c.args.ids.now c.loop-id.id-index (omega (arith, c.loop-id-test.false, c.loop-id.auto.id-index-end))) ∙ c.loop-id.invariant.lits
