use Rattle.std.proofs.Common.{◌≡◌, ◌-◌, ◌++◌, ◌∷◌, drop, true, false, is_some, ap, sym, refl, ◌∙◌, arith, rules}
use Rattle.qterm.specs.Kids.{kids, ids}
use Rattle.qterm.proofs.KidsLaws.{kids_grow}
use Rattle.cert_text.specs.declared.terms.Task.TheVariants.{Line}
use Rattle.cert_text.specs.Waiting.{visits, passed, begun}
use Rattle.cert_text.proofs.Places.{line_any}
use Rattle.cert_text.proofs.Stack.{visits_next, visits_first, visits_all}
use Rattle.cert_text.proofs.terms.visit.Goals as goal

pub returns-then-is_some : goal.returns-then-is_some
returns-then-is_some c =
    let found : is_some c.place.result ≡ true = search rules in
    passed (line_any c.args.store.now c.is_distinct.ensures c.args.id c.requires.has c.args.lines.now c.requires.lines ∙ sym c.place.ensures.found ∙ found) refl

pub loop-at-init : goal.loop-at-init
loop-at-init c = record {
  within = omega (arith, c.count-at.ensures);
  visits = visits_first c.args.tasks.now.items c.push.new.self.items c.args.id c.count-at.result (ids c.view-term.result.now) c.in_ok-push.ensures.items c.count-at.ensures;
}

pub loop-at-preserved : goal.loop-at-preserved
loop-at-preserved c = record {
  within = grind arith;
  visits = visits_next c.args.tasks.now.items c.args.id (c.loop-at.at - 1) c.child.result (ids c.view-term.result.now) c.loop-at.tasks.items c.push-in-loop-at.new.self.items
      (c.loop-at.invariant.visits ∙ ap (λ n. c.args.tasks.now.items ++ (Line c.args.id ∷ visits (drop n (ids c.view-term.result.now)))) (grind arith)) c.in_ok-push-2.ensures.items (grind arith) (search rules);
}

pub returns : goal.returns
returns c =
    let found : is_some c.place.result ≡ false = search rules in
    begun (line_any c.args.store.now c.is_distinct.ensures c.args.id c.requires.has c.args.lines.now c.requires.lines ∙ sym c.place.ensures.found ∙ found)
    (ids c.view-term.result.now) (sym (ap kids c.view-term.ensures.tree ∙ kids_grow c.args.store.now c.view-term.result.now)) (search rules)
    (c.loop-at.invariant.visits ∙ visits_all c.args.tasks.now.items c.args.id c.loop-at.at (ids c.view-term.result.now) (grind arith))
