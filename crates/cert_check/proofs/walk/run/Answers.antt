use Rattle.std.proofs.Common.{◌≡◌, ◌∙◌, ap, sym, subst, Some, None, drop, ◌+◌}
use Rattle.qterm.proofs.Extending.{Extends_trans}
use Rattle.cert_items.specs.State.{items_of}
use Rattle.cert_check.specs.Tables.{given}
use Rattle.tac_cert.specs.Gives.{StepFits, gives as gives_at}
use Rattle.cert_check.specs.Walking.{Stopped, word_of, run, is_keep}
use Rattle.tac_cert.proofs.Staying.{step_stays}
use Rattle.cert_check.proofs.Running.{run_next, run_stops, steps_get}
use Rattle.cert_check.proofs.Parting.{grows_then, no_keep_at}
use Rattle.cert_check.proofs.walk.run.Goals as goal

pub give-requires-clause-fits : goal.give-requires-clause-fits
give-requires-clause-fits c =
    let k = c.loop-step.step-index in
    subst (StepFits c.loop-step.store) (sym c.step-item.is) (step_stays c.args.store.now c.loop-step.store _ c.loop-step.invariant.extends (steps_get c.args.store.now c.args.steps.now k c.step-item.result c.requires.fits c.loop-step-test.true))

pub returns-then-not-branch-clause-run : goal.returns-then-not-branch-clause-run
returns-then-not-branch-clause-run c =
    let k = c.loop-step.step-index in
    let d = c.step-item.result in
    let e = sym (ap (λ b. given b (items_of c.give.new.store c.give.new.state)) c.if-not-branch.true) ∙ c.in_ok-give.ensures.gives in
    let r = run_stops c.args.store.now c.loop-step.store (items_of c.loop-step.store c.loop-step.state) c.loop-step.line c.args.steps.now k d c.loop-step.invariant.extends c.requires.fits c.loop-step-test.true (subst (λ s. None ≡ gives_at c.loop-step.store (items_of c.loop-step.store c.loop-step.state) s) c.step-item.is e) in
    sym (c.loop-step.invariant.runs ∙ r ∙ ap (λ s. Stopped c.loop-step.line (word_of s)) (sym c.step-item.is) ∙ ap (Stopped c.loop-step.line) (sym c.word_of.ensures))

pub loop-step-preserved : goal.loop-step-preserved
loop-step-preserved c =
    let k = c.loop-step.step-index in
    let d = c.step-item.result in
    let us = c.loop-step.store in
    let e = sym (ap (λ b. given b (items_of c.give.new.store c.give.new.state)) c.if-not-branch.false) ∙ c.in_ok-give.ensures.gives in
    let r = run_next c.args.store.now us (items_of us c.loop-step.state) (items_of c.give.new.store c.give.new.state) c.loop-step.line c.args.steps.now k d c.loop-step.invariant.extends c.requires.fits c.loop-step-test.true (subst (λ s. Some (items_of c.give.new.store c.give.new.state) ≡ gives_at us (items_of us c.loop-step.state) s) c.step-item.is e) in
    record {
      extends = Extends_trans c.args.store.now us c.give.new.store c.loop-step.invariant.extends c.in_ok-give.ensures.extends;
      state = c.in_ok-give.ensures.state;
      tables = c.in_ok-give.ensures.tables;
      grows = λ h. grows_then c.args.state.now.items c.loop-step.state.items c.give.new.state.items (c.loop-step.invariant.grows h) (c.in_ok-give.ensures.grows (ap is_keep c.step-item.is ∙ no_keep_at c.args.steps.now k d c.loop-step-test.true h));
      runs = c.loop-step.invariant.runs ∙ r ∙ ap (λ n. run c.args.store.now (items_of c.give.new.store c.give.new.state) n (drop (k + 1) c.args.steps.now)) (sym c.saturating_add-line.ensures);
    }
