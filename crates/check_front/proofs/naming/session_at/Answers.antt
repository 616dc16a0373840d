use Rattle.std.proofs.Common.{◌∙◌, None, sym, subst}
use Rattle.smt_words.specs.declared.script.Placed.{Placed}
use Rattle.smt_words.specs.Command.{placed_tree}
use Rattle.script_text.specs.Session.{session_tree}
use Rattle.check_front.specs.Named.{IsFormulaIn}
use Rattle.check_front.proofs.Passed.{finds, goes_on, finds_none}
use Rattle.check_front.proofs.naming.session_at.Goals as goal

pub returns-then-is_named-clause-found : goal.returns-then-is_named-clause-found
returns-then-is_named-clause-found c =
    let ts = c.args.store.now in
    let items = c.as_slice-placed-items.ensures in
    let within = rw items at c.loop-placed-test.true in
    let is = rw items at c.placed-item.is in
    finds (placed_tree ts) c.args.script.now.commands c.loop-placed.placed-index c.placed-item.result c.loop-placed.left (session_tree ts None c.loop-placed.session) _ within is c.loop-placed.invariant.found (sym (c.is_named.ensures ts) ∙ c.if-is_named.true)

pub loop-placed-preserved : goal.loop-placed-preserved
loop-placed-preserved c =
    let ts = c.args.store.now in
    let p = c.placed-item.result in
    let i = c.loop-placed.placed-index in
    let items = c.as_slice-placed-items.ensures in
    let within = rw items at c.loop-placed-test.true in
    let is = rw items at c.placed-item.is in
    let on = goes_on (placed_tree ts) c.args.script.now.commands i p c.loop-placed.left (session_tree ts None c.loop-placed.session) _ within is c.loop-placed.invariant.found (sym (c.is_named.ensures ts) ∙ c.if-is_named.false) in
    let formula = subst (λ (q : Placed). IsFormulaIn ts q.command) (sym is) (c.requires.within i p within) in
    record {
      found = rw (c.left_after-left.ensures ts, c.in_ok-pass.ensures.after ts) on;
      formulas = c.in_ok-pass.ensures.formulas ts formula c.loop-placed.invariant.formulas;
    }

pub returns-clause-found : goal.returns-clause-found
returns-clause-found c =
    let ts = c.args.store.now in
    let over = rw c.as_slice-placed-items.ensures at c.loop-placed-test.false in
    finds_none (placed_tree ts) c.args.script.now.commands c.loop-placed.placed-index c.loop-placed.left (session_tree ts None c.loop-placed.session) _ over c.loop-placed.invariant.found
