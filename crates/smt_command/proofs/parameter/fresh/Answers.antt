use Rattle.std.proofs.Common.{◌≡◌, ◌<◌, ◌+◌, ◌-◌, ℕ, List, true, false, length, sym, ap, subst, ◌∙◌}
use Rattle.qterm.specs.Name.{IsNameText}
use Rattle.smt_command.specs.Parameters.{total, is_used}
use Rattle.smt_command.proofs.FreshTexts.{IsOnWay, way_begins, way_further, way_ends, way_falls, mark_allowed}
use Rattle.smt_command.proofs.parameter.fresh.Goals as goal

pub loop-own-init : goal.loop-own-init
loop-own-init c =
    let is = c.in_ok-own.ensures.items in
    record {
      way = subst (IsOnWay c.args.symbols.now c.args.texts.now c.args.text.now) (sym is) (way_begins c.args.symbols.now c.args.texts.now c.args.text.now);
      allowed = subst IsNameText (sym is) c.requires.text;
    }

pub loop-own-smaller : goal.loop-own-smaller
loop-own-smaller c =
    let symbols = c.args.symbols.now in
    let texts = c.args.texts.now in
    let own = c.loop-own.own.items in
    let used : is_used symbols texts own ≡ true = ap (is_used symbols texts) (sym c.deref.ensures.value) ∙ sym c.is_used.ensures ∙ c.loop-own-test.true in
    subst (λ (l : List ℕ). 1 + (total symbols + total texts) - length l < 1 + (total symbols + total texts) - length own) (sym c.in_ok-push.ensures.items) (way_falls symbols texts own used)

pub loop-own-preserved : goal.loop-own-preserved
loop-own-preserved c =
    let symbols = c.args.symbols.now in
    let texts = c.args.texts.now in
    let own = c.loop-own.own.items in
    let used : is_used symbols texts own ≡ true = ap (is_used symbols texts) (sym c.deref.ensures.value) ∙ sym c.is_used.ensures ∙ c.loop-own-test.true in
    let is = c.in_ok-push.ensures.items in
    record {
      way = subst (IsOnWay symbols texts c.args.text.now) (sym is) (way_further symbols texts c.args.text.now own used c.loop-own.invariant.way);
      allowed = subst IsNameText (sym is) (mark_allowed own c.loop-own.invariant.allowed);
    }

pub returns-clause-fresh : goal.returns-clause-fresh
returns-clause-fresh c =
    let symbols = c.args.symbols.now in
    let texts = c.args.texts.now in
    let own = c.loop-own.own.items in
    let unused : is_used symbols texts own ≡ false = ap (is_used symbols texts) (sym c.deref.ensures.value) ∙ sym c.is_used.ensures ∙ c.loop-own-test.false in
    way_ends symbols texts c.args.text.now own unused c.loop-own.invariant.way
