use Rattle.std.proofs.Common.{[], ◌∷◌, ap, subst, sym, refl, ◌∙◌}
use Rattle.qterm.specs.Store.{trees_of}
use Rattle.tac_cert.specs.Accepts.{as_items}
use Rattle.proof_conv.specs.Conv.{IsOpen}
use Rattle.proof_conv.specs.Leaves.{StepsLeave}
use Rattle.race_word.proofs.Racers.{keeps_refl}
use Rattle.tac_basic.proofs.Alone.{skipped, same_goal}
use Rattle.tac_basic.proofs.skip.SkipReducer.apply.Goals as goal

pub returns-clause-allowed : goal.returns-clause-allowed
returns-clause-allowed c =
    let ts = c.args._store.now in
    let g = c.args.goal.now in
    let a = c.in_ok-applied.applied in
    let e = c.in_ok-applied.ensures in
    let items = as_items (trees_of ts g.formulas) in
    skipped ts g c.args._env.now _ a c.requires.goal c.requires.shallow (e.goals ∙ ap (λ x. x ∷ []) (same_goal c.in_ok-same.same g c.in_ok-same.ensures.cases.0 c.in_ok-same.ensures.cases.1)) e.models (subst (λ ss. IsOpen ss a.proofs) c.new.ensures e.proofs)
    (e.leads ts (trees_of ts g.formulas) (trees_of ts g.formulas) (subst (λ ss. StepsLeave ts items ss items) (sym c.new.ensures) (record { there = tt; run = refl }))) e.nests e.lemmas

pub returns-clause-racer : goal.returns-clause-racer
returns-clause-racer c = keeps_refl c.args._racer.now
