use Rattle.std.proofs.Common.{◌≡◌, get_or, ap, ◌∙◌, ◌<◌, ◌+◌, length, arith, false}
use Rattle.qeval.specs.declared.model.Value.TheVariants.{Bool}
use Rattle.model_conv.specs.declared.step.LiftStep.TheVariants.{Set}
use Rattle.sat_clauses.specs.Coding.{name_at}
use Rattle.sat_answers.proofs.Setting.{sets_more, lawful_more}
use Rattle.sat_answers.proofs.sets.set_steps.Goals as goal

pub overflow_add-number : goal.overflow_add-number
overflow_add-number c =
    let n = c.loop-value.invariant.number in
    let e = c.requires.each in
    let m = c.count-count.ensures in
    omega (arith, n, e, m, c.loop-value-test.true)

pub loop-value-preserved : goal.loop-value-preserved
loop-value-preserved c =
    let ts = c.args.store.now in
    let vars = c.args.numbers.now in
    let f = name_at ts vars in
    let i = c.loop-value.invariant in
    let at = c.loop-value.value-index in
    let e = c.in_ok-push.ensures.ok in
    let is : c.in_ok-step.step ≡ Set (f at) (Bool (get_or c.args.values.now at false)) = c.in_ok-step.ensures ∙ ap (λ n. Set (f n) (Bool (get_or c.args.values.now at false))) i.number in
    let each = c.requires.each in
    let within : at < length vars = omega (arith, each, c.loop-value-test.true) in
    record {
      number = ap (λ n. n + 1) i.number;
      steps = λ ns are size. sets_more f ns c.args.values.now c.loop-value.steps c.push.new.self c.in_ok-step.step at false are (omega (arith, size, within)) c.loop-value-test.true (i.steps ns are size) is e;
      lawful = lawful_more (f at) (get_or c.args.values.now at false) c.loop-value.steps c.push.new.self c.in_ok-step.step (c.requires.stand.bool at within) i.lawful is e;
    }
