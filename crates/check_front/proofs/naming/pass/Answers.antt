use Rattle.std.proofs.Common.{None}
use Rattle.script_text.proofs.Levels.{session_asserted, session_pushed, session_popped}
use Rattle.check_front.proofs.Passed.{on_ok, formulas_closed}
use Rattle.check_front.proofs.naming.pass.Goals as goal

pub returns-in-Assert-clause-after : goal.returns-in-Assert-clause-after
returns-in-Assert-clause-after c ts =
    let s = c.args.session.now in
    let new = c.assert_formula.new.session in
    on_ok c.assert_formula.result (λ is. rw c.in-Assert.is (session_asserted ts None s new c.in-Assert.id is)) c.assert_formula.ensures

pub returns-in-Push-clause-after : goal.returns-in-Push-clause-after
returns-in-Push-clause-after c ts =
    let s = c.args.session.now in
    let new = c.push_levels.new.session in
    on_ok c.push_levels.result (λ is. rw c.in-Push.is (session_pushed ts None s new c.in-Push.levels is)) c.push_levels.ensures

pub returns-in-Pop-clause-after : goal.returns-in-Pop-clause-after
returns-in-Pop-clause-after c ts =
    rw c.in-Pop.is (session_popped ts None c.args.session.now c.pop_levels.new.session c.in-Pop.levels c.pop_levels.ensures)

pub returns-in-Pop-clause-formulas : goal.returns-in-Pop-clause-formulas
returns-in-Pop-clause-formulas c ts within all =
    formulas_closed ts c.args.session.now c.pop_levels.new.session c.in-Pop.levels c.pop_levels.ensures all
