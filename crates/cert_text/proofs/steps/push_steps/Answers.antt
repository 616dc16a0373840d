use Rattle.std.proofs.Common.{◌++◌, ap, sym, refl, ◌∙◌}
use Rattle.qterm.specs.Store.{trees_of}
use Rattle.cert_text.proofs.Written.{step_text_taken, step_known_taken, steps_done}
use Rattle.cert_text.proofs.steps.push_steps.Goals as goal

pub loop-step-init : goal.loop-step-init
loop-step-init c = record { text = λ rest. refl; known = λ rest. refl; lines = c.requires.lines }

pub loop-step-preserved : goal.loop-step-preserved
loop-step-preserved c =
    let ts = c.args.store.now in
    let known = trees_of ts c.loop-step.lines in
    let now = trees_of ts c.push_step.new.lines in
    record {
      text = λ rest. step_text_taken ts known now c.args.steps.now c.loop-step.step-index c.step-item.result c.loop-step.text.items c.push_step.new.text.items _ rest c.loop-step-test.true c.step-item.is
          c.in_ok-push_step.ensures.text c.in_ok-push_step.ensures.known (c.loop-step.invariant.text rest);
      known = λ rest. step_known_taken ts known now _ c.args.steps.now c.loop-step.step-index c.step-item.result rest c.loop-step-test.true c.step-item.is c.in_ok-push_step.ensures.known (c.loop-step.invariant.known rest);
      lines = c.in_ok-push_step.ensures.lines;
    }

pub returns : goal.returns
returns c =
    let ts = c.args.store.now in
    let known = trees_of ts c.loop-step.lines in
    record {
      text = λ rest. ap (λ w. c.loop-step.text.items ++ w.text) (sym (steps_done ts known c.args.steps.now c.loop-step.step-index rest c.loop-step-test.false)) ∙ c.loop-step.invariant.text rest;
      known = λ rest. ap (λ w. w.known) (sym (steps_done ts known c.args.steps.now c.loop-step.step-index rest c.loop-step-test.false)) ∙ c.loop-step.invariant.known rest;
      lines = c.loop-step.invariant.lines;
    }
