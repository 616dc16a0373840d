use Rattle.script_run.proofs.Made.{made_applied, applied_kind, has_applied, right_applied}
use Rattle.script_run.proofs.checks.RegistryDecider.applied.Goals as goal

pub returns-clause-made : goal.returns-clause-made
returns-clause-made g c = let e = c.in_ok-made.ensures in made_applied _ _ _ e.applied e.workers e.pool

pub returns-clause-kind : goal.returns-clause-kind
returns-clause-kind g c = applied_kind _ _ c.in_ok-made.made c.in_ok-made.ensures.applied

pub returns-clause-has : goal.returns-clause-has
returns-clause-has g c =
    let e = c.in_ok-made.ensures in
    has_applied _ c.args.store.now _ c.args.session.now.asserts _ e.store c.requires.sound.asserts (rw c.as_slice-asserts.ensures at e.asserts) e.applied

pub returns-clause-right : goal.returns-clause-right
returns-clause-right g c = right_applied _ _ _ c.in_ok-made.ensures.applied
