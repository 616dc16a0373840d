use Rattle.std.proofs.Common.{length}
use Rattle.qterm.specs.declared.name.Sort.TheVariants as sort
use Rattle.qterm.proofs.Extending.{Extends_trans}
use Rattle.qterm.proofs.Fitting.{All_HasSort_extends}
use Rattle.sat_lines.proofs.Building.{so_more, line_below}
use Rattle.sat_lines.proofs.lines.line_steps.Goals as goal

pub line_step-requires : goal.line_step-requires
line_step-requires c = record {
  vars = All_HasSort_extends sort.Bool c.args.store.now c.loop-line.store c.args.numbers.now c.loop-line.invariant.extends c.requires.vars;
  below = line_below (length c.args.numbers.now) c.args.numbers.now c.args.lines.items c.loop-line.left c.pop.new.self c.in-Some.line c.args.store.now c.loop-line.store c.loop-line.steps c.in-Some.ensures c.loop-line.invariant c.requires.below;
}

pub loop-line-preserved : goal.loop-line-preserved
loop-line-preserved c =
    let first = c.args.store.now in
    let ts = c.loop-line.store in
    let us = c.line_step.new.store in
    so_more c.args.numbers.now c.args.lines.items c.loop-line.left c.pop.new.self c.in-Some.line first ts us c.loop-line.steps c.push.new.self c.in_ok-step.step c.in-Some.ensures c.loop-line.invariant
    (Extends_trans first ts us c.loop-line.invariant.extends c.in_ok-step.ensures.extends) c.in_ok-step.ensures.extends c.in_ok-step.ensures.step c.in_ok-push.ensures.ok
