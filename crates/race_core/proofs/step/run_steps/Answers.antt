use Rattle.std.proofs.Common.{arith, ◌≡◌, ◌+◌, ◌^◌, ◌<◌, ℕ, suc, ◌∷◌, List, drop, get_or, Some, sym, ap, ◌∙◌, subst}
use Rattle.std.proofs.Math.Seq.{drop-cons}
use Rattle.std.specs.Option.{option_and_then}
use Rattle.race_core.specs.declared.machine.Place.TheVariants.{Root}
use Rattle.race_core.specs.declared.machine.RaceKind.TheVariants.{Begin}
use Rattle.race_core.specs.declared.machine.RaceState.{RaceState}
use Rattle.race_core.specs.declared.machine.RaceStep.{RaceStep}
use Rattle.race_core.specs.Machine.{step, run}
use Rattle.race_core.specs.Lawful.{IsLawful}
use Rattle.race_core.proofs.Lawful.{kept, was_taken}
use Rattle.race_core.proofs.step.run_steps.Goals as goal

pub loop-step-init : goal.loop-step-init
loop-step-init c = let e : c.in_ok-state.state ≡ c.args.start.now = c.in_ok-state.ensures in record {
  races = subst (λ (s : RaceState). IsLawful s.races) (sym e) c.requires.races;
  lemmas = (let f = ap (λ s. s.lemmas) e in let g = c.requires.lemmas in omega arith);
  runs = ap (λ s. run s c.args.steps.now) e;
}

pub loop-step-preserved : goal.loop-step-preserved
loop-step-preserved c =
    let d : RaceStep = record { kind = Begin; actor = Root; race = 0; branch = 0 } in let n : ℕ = c.loop-step.step-index in let x : RaceStep = get_or c.args.steps.now n d in let i = c.loop-step.invariant in
    let next : RaceState = c.take_step.new.state in
    let took : step c.loop-step.state x ≡ Some next = was_taken c.in_ok-is_taken.is_taken next (step c.loop-step.state x) c.if-not-is_taken.false c.in_ok-is_taken.ensures in
    let fits : x.branch < 2 ^ 32 = omega arith in
    let k = kept c.loop-step.state next x i.races fits took in
    let e : suc n ≡ n + 1 = omega arith in
    let first : drop n c.args.steps.now ≡ x ∷ drop (n + 1) c.args.steps.now = drop-cons c.args.steps.now n d c.loop-step-test.true ∙ (λ j. x ∷ drop (e j) c.args.steps.now) in
    let one : run c.loop-step.state (drop n c.args.steps.now) ≡ run next (drop (n + 1) c.args.steps.now) = ap (λ (l : List RaceStep). run c.loop-step.state l) first ∙ ap (option_and_then (λ t. run t (drop (n + 1) c.args.steps.now))) took in
    record { races = k.0; lemmas = (let a = k.1 in let b = i.lemmas in omega arith); runs = sym one ∙ i.runs }
