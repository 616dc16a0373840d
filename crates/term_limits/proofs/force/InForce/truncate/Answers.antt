use Rattle.std.proofs.Common.{ℕ, take, refl, sym, ap, subst, ◌∙◌, arith}
use Rattle.term_limits.specs.Limits.{Counted, IsCounted}
use Rattle.term_limits.proofs.Counting.{as_counted, all_counted, fewer_counted, same_or}
use Rattle.term_limits.proofs.force.InForce.truncate.Goals.{then-count-len, else-count-len}
use Rattle.term_limits.proofs.force.InForce.truncate.Goals as goal

pub returns-clause-counted : goal.returns-clause-counted
returns-clause-counted c ts is =
    let whole : Counted = record { ids = c.self.inside.ids.items; seen = c.self.inside.seen; before = c.self.inside.before.items } in
    let counted : IsCounted ts whole = subst (λ (k : Counted). IsCounted ts k) (sym c.self.view_is) is in
    elim c.if-count-len.branch [
      | then-count-len w ↦
          let same = w.self-inside-is in
          as_counted ts _ _ _ _ _ _
          (c.truncate-3.ensures.items ∙ ap (λ i. take c.args.count i.ids.items) same)
          (ap (λ i. i.seen) same ∙ w.truncate.ensures ∙ ap (λ (n : ℕ). take n c.self.inside.seen) (w.index.ensures ∙ same_or c.self.inside.before.items c.args.count w.index.result.now 0 (let l = c.len.ensures in let t = w.if-count-len.true in omega (arith, l, t))))
          (c.truncate-2.ensures.items ∙ ap (λ i. take c.args.count i.before.items) same)
          (fewer_counted ts whole counted c.args.count (let m = counted.marked in let l = c.len.ensures in let t = w.if-count-len.true in omega (arith, m, l, t)))
      | else-count-len w ↦
          let same = w.self-inside-is in
          as_counted ts _ _ _ _ _ _ refl (ap (λ i. i.seen) same) refl
          (all_counted ts whole counted c.args.count _ _
          (c.truncate-3.ensures.items ∙ ap (λ i. take c.args.count i.ids.items) same)
          (c.truncate-2.ensures.items ∙ ap (λ i. take c.args.count i.before.items) same)
          (let m = counted.marked in let l = c.len.ensures in let f = w.if-count-len.false in omega (arith, m, l, f)))
    ]
