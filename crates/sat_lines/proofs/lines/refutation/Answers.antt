use Rattle.std.proofs.Common.{◌≡◌, length, arith, rules}
use Rattle.sat_lines.proofs.Refuting.{refuted}
use Rattle.sat_lines.proofs.lines.refutation.Goals as goal

pub returns-clause-leads : goal.returns-clause-leads
returns-clause-leads c f cs known stand different count read below refutes =
    let size : c.len-size.result ≡ length c.args.lines.items = search rules in
    let last = c.in_ok-last.ensures in
    refuted c.line_steps.new.store f (length c.args.numbers.now) cs known c.args.lines.items c.in_ok-steps.steps c.keep_alone.new.steps c.in_ok-last.last different stand.bool read below c.requires.below refutes
    (c.in_ok-steps.ensures.steps f stand) (omega (arith, last, size, count)) c.in_ok-keep_alone.ensures
