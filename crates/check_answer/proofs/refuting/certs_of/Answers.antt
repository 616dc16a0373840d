use Rattle.check_answer.proofs.Refutations.{unsat_at, closed_more}
use Rattle.check_answer.proofs.refuting.certs_of.Goals as goal

pub cert_of-requires-clause-unsat : goal.cert_of-requires-clause-unsat
cert_of-requires-clause-unsat c = unsat_at c.args.store.now c.args.goals.now c.loop-goal.goal-index c.goal-item.result c.loop-goal-test.true c.goal-item.is c.requires.unsat

pub loop-goal-preserved : goal.loop-goal-preserved
loop-goal-preserved c =
    closed_more c.args.store.now c.args.goals.now c.loop-goal.goal-index c.loop-goal.certs.items c.push.new.self.items c.goal-item.result c.in_ok-cert_of.field-0
    c.loop-goal.invariant c.loop-goal-test.true c.goal-item.is c.in_ok-cert_of.ensures.accepted c.in_ok-cert_of.ensures.terms c.in_ok-cert_of.ensures.flat c.in_ok-push.ensures.items
