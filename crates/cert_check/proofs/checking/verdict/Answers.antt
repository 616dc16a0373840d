use Rattle.std.proofs.Common.{◌≡◌, sym, ap, length, arith}
use Rattle.cert_items.specs.State.{items_of}
use Rattle.cert_check.specs.declared.verdict.Verdict.TheVariants as verdict
use Rattle.cert_check.specs.Walking.{verdict_of}
use Rattle.cert_check.proofs.Heading.{walk_told}
use Rattle.cert_check.proofs.checking.verdict.Goals as goal

pub returns-in-Closed-clause-first : goal.returns-in-Closed-clause-first
returns-in-Closed-clause-first c =
    let ts = c.args.store.now in
    let same : c.args.cert.now.asserts ≡ length c.args.asserts.now = omega (arith, c.if-cert-asserts.false) in
    walk_told ts c.args.cert.now c.args.asserts.now (items_of ts c.in_ok-state.state) c.in_ok-walk.field-0 verdict.Accepted same c.in_ok-state.ensures.items c.in_ok-walk.ensures.walk (sym (ap verdict_of c.in-Closed.is))

pub returns-clause-first : goal.returns-clause-first
returns-clause-first c =
    let ts = c.args.store.now in
    let same : c.args.cert.now.asserts ≡ length c.args.asserts.now = omega (arith, c.if-cert-asserts.false) in
    walk_told ts c.args.cert.now c.args.asserts.now (items_of ts c.in_ok-state.state) c.in_ok-walk.field-0 (verdict.Refused c.in-Refused.step c.in-Refused.rule) same c.in_ok-state.ensures.items c.in_ok-walk.ensures.walk (sym (ap verdict_of c.in-Refused.is))

pub walk-requires-clause-tables : goal.walk-requires-clause-tables
walk-requires-clause-tables c = c.new-tables.ensures c.args.store.now
