use Rattle.std.proofs.Common.{◌∙◌, sym, arith}
use Rattle.smt_term.proofs.Begun.{skip_one, skip_weights}
use Rattle.smt_term.proofs.argument.from_term.Goals as goal

pub loop-at-preserved : goal.loop-at-preserved
loop-at-preserved c =
    let bytes = c.args.bytes.now in
    let items = c.args.args.now in
    let at = c.loop-at.at in
    let x = c.index-args-at.result in
    let past = skip_weights bytes items at x c.loop-at-test.true c.index-args-at.is in
    record {
      within = omega arith;
      reads = λ scopes s. c.loop-at.invariant.reads scopes s ∙ skip_one bytes items at x c.loop-at-test.true c.index-args-at.is (sym c.may_be_term.ensures ∙ c.if-not-may_be_term.true) scopes s;
      fewer = omega (arith, past);
    }
