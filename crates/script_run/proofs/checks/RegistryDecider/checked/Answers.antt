use Rattle.script_run.proofs.Made.{made_checked, checked_kind, has_checked, right_checked}
use Rattle.script_run.proofs.checks.RegistryDecider.checked.Goals as goal

pub returns-clause-made : goal.returns-clause-made
returns-clause-made g c = let e = c.in_ok-made.ensures in made_checked _ _ _ e.decided e.workers e.pool

pub returns-clause-kind : goal.returns-clause-kind
returns-clause-kind g c = checked_kind _ _ _ c.in_ok-made.ensures.decided

pub returns-clause-has : goal.returns-clause-has
returns-clause-has g c =
    let e = c.in_ok-made.ensures in
    has_checked _ c.args.store.now _ c.args.session.now.asserts _ e.store c.requires.sound.asserts (rw c.as_slice-asserts.ensures at e.asserts) e.decided e.terms

pub returns-clause-right : goal.returns-clause-right
returns-clause-right g c =
    let e = c.in_ok-made.ensures in
    right_checked c.check.new.store c.args.session.now.asserts _ (rw c.as_slice-asserts.ensures at e.asserts) (rw c.as_slice-asserts.ensures at e.sat) (rw c.as_slice-asserts.ensures at e.unsat)
