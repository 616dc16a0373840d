use Rattle.std.proofs.Common.{◌≡◌, ◌<◌, ◌≤◌, ℕ, ◌∙◌, sym, ap, subst, take, length, get_or, add-one, rules, arith}
use Rattle.std.specs.Map.{lookup}
use Rattle.qterm.specs.declared.name.Name.{Name}
use Rattle.qeval.specs.Value.{same_name}
use Rattle.smt_expand.specs.Walk.{pairs}
use Rattle.smt_expand.proofs.Pairing.{lookup_behind, pair_taken, pairs_all, their_sort}
use Rattle.smt_expand.proofs.arguments.images_of.Goals as goal
use Rattle.smt_expand.proofs.arguments.images_of.Goals.{then-loop-at-test+else-at-args, else-loop-at-test}

pub loop-at-preserved : goal.loop-at-preserved
loop-at-preserved c =
    let ps = c.args.params.now in
    let ids = c.args.args.now in
    let at = c.loop-at.at in
    let p = c.in_ok-clone.field-0 in
    let id = c.index-args-at.result in
    let same : p ≡ c.index-params-at.result = search rules in
    let is : p ≡ get_or ps at p = subst (λ (n : Name). n ≡ get_or ps at n) (sym same) c.index-params-at.is in
    record {
      looks = λ n.
          c.in_ok-put.ensures.looks n
          ∙ lookup_behind (same_name n) c.loop-at.images (take at (pairs ps ids)) _ (c.loop-at.invariant.looks n)
          ∙ sym (rw add-one (ap (lookup (same_name n)) (pair_taken ps ids at p id c.loop-at-test.true c.if-at-args.true is c.index-args-at.is)));
      sorts = λ ts h s. c.in_ok-put.ensures.sorts ts (c.loop-at.invariant.sorts ts h s) (their_sort ts ps ids at p id c.loop-at-test.true c.if-at-args.true is c.index-args-at.is h s);
    }

pub returns-clause-looks : goal.returns-clause-looks
returns-clause-looks c = λ n.
    let ps = c.args.params.now in
    let ids = c.args.args.now in
    let at = c.loop-at.at in
    let ended : at < length ps → at < length ids → ⊥ =
    elim c.loop-at-test.branch [ then-loop-at-test+else-at-args w ↦ (λ l k. let past = w.if-at-args.false in absurd (omega (arith, k, past))) | else-loop-at-test w ↦ (λ l k. let past = w.loop-at-test.false in absurd (omega (arith, l, past))) ] in
    c.loop-at.invariant.looks n ∙ ap (lookup (same_name n)) (pairs_all ps ids at ended)
