use Rattle.std.proofs.Common.{arith, ◌≡◌, ◌^◌, ◌<◌, Some, subst, sym}
use Rattle.race_core.specs.declared.machine.RaceState.{RaceState}
use Rattle.race_core.specs.Machine.{step}
use Rattle.race_core.specs.Lawful.{IsLawful}
use Rattle.race_core.proofs.Lawful.{kept, was_taken}
use Rattle.race_core.proofs.step.apply_step.Goals as goal

pub take_step-requires-clause-races : goal.take_step-requires-clause-races
take_step-requires-clause-races c = subst (λ (s : RaceState). IsLawful s.races) (sym c.in_ok-next.ensures) c.requires.races

pub returns-then-is_taken-clause-lawful : goal.returns-then-is_taken-clause-lawful
returns-then-is_taken-clause-lawful c =
    let races : IsLawful c.in_ok-next.next.races = subst (λ (s : RaceState). IsLawful s.races) (sym c.in_ok-next.ensures) c.requires.races in
    let took : step c.in_ok-next.next c.args.step.now ≡ Some c.take_step.new.state = was_taken c.in_ok-is_taken.is_taken c.take_step.new.state (step c.in_ok-next.next c.args.step.now) c.if-is_taken.true c.in_ok-is_taken.ensures in
    let fits : c.args.step.now.branch < 2 ^ 32 = omega arith in
    (kept c.in_ok-next.next c.take_step.new.state c.args.step.now races fits took).0
