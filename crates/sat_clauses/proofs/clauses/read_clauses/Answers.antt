use Rattle.std.proofs.Common.{◌∙◌, ◌+◌, ap, sym, subst, length}
use Rattle.qterm.specs.Store.{tree_at}
use Rattle.sat_clauses.specs.Coding.{name_at, HasNamesOf}
use Rattle.sat_clauses.proofs.Reading.{read_more, below_more, other_at}
use Rattle.sat_clauses.proofs.clauses.read_clauses.Goals as goal

pub clause_of-requires-clause-names : goal.clause_of-requires-clause-names
clause_of-requires-clause-names c =
    let ts = c.args.store.now in
    subst (λ i. HasNamesOf ts c.args.numbers.now (tree_at ts i)) (sym c.id-item.is) (c.requires.names c.loop-id.id-index c.id-item.result c.loop-id-test.true)

pub returns-in-None : goal.returns-in-None
returns-in-None c =
    let ts = c.args.store.now in
    other_at (name_at ts c.args.numbers.now) ts c.args.formulas.now c.loop-id.id-index c.id-item.result c.in_ok-next.next c.loop-id.found.items c.in_ok-read.read c.loop-id-test.true c.id-item.is
    (c.in_ok-next.ensures ∙ ap (λ n. n + 1) c.loop-id.invariant.number) c.loop-id.invariant.read c.in_ok-read.ensures.lits c.in-None.is

pub loop-id-preserved : goal.loop-id-preserved
loop-id-preserved c =
    let ts = c.args.store.now in
    let e = c.in_ok-push-in-Some.ensures.items in
    record {
      number = c.in_ok-next.ensures ∙ ap (λ n. n + 1) c.loop-id.invariant.number;
      read = read_more (name_at ts c.args.numbers.now) ts c.args.formulas.now c.loop-id.id-index c.id-item.result c.loop-id.found.items c.push.new.self.items c.in_ok-read.read c.in-Some.clause c.loop-id-test.true c.id-item.is
          c.loop-id.invariant.read c.in_ok-read.ensures.lits c.in-Some.is e;
      below = below_more (length c.args.numbers.now) c.loop-id.found.items c.push.new.self.items c.in_ok-read.read c.in-Some.clause c.loop-id.invariant.below c.in_ok-read.ensures.below c.in-Some.is e;
    }
