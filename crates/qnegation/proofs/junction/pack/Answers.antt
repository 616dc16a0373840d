use Rattle.std.proofs.Common.{◌∙◌, sym, ap, subst, IfOk, length}
use Rattle.qterm.specs.Tree.{And, Or}
use Rattle.qterm.specs.Store.{trees_at, Shows}
use Rattle.qlin.specs.Junction.{joined}
use Rattle.qnegation.proofs.Junctions.{packed_more}
use Rattle.qnegation.proofs.junction.pack.Goals as goal

pub returns-then-is_and-clause-shows : goal.returns-then-is_and-clause-shows
returns-then-is_and-clause-shows c =
    let ts = c.args.store.now in
    let e = ap (trees_at ts) c.from_vec-ids.ensures in
    let p = ap And e ∙ ap (λ k. joined k (trees_at ts c.args.ids.items)) (sym c.if-is_and.true) ∙ packed_more c.args.is_and ts c.args.ids.items (λ h. c.if-count-eq0.false (ap length c.as_slice-count.ensures.value ∙ h)) (λ h. c.if-count-eq1.false (ap length c.as_slice-count.ensures.value ∙ h)) in
    subst (λ t. IfOk c.intern.result (λ id. Shows c.intern.new.self id t)) p c.intern.ensures.shows

pub returns-else-is_and-clause-shows : goal.returns-else-is_and-clause-shows
returns-else-is_and-clause-shows c =
    let ts = c.args.store.now in
    let e = ap (trees_at ts) c.from_vec-ids.ensures in
    let p = ap Or e ∙ ap (λ k. joined k (trees_at ts c.args.ids.items)) (sym c.if-is_and.false) ∙ packed_more c.args.is_and ts c.args.ids.items (λ h. c.if-count-eq0.false (ap length c.as_slice-count.ensures.value ∙ h)) (λ h. c.if-count-eq1.false (ap length c.as_slice-count.ensures.value ∙ h)) in
    subst (λ t. IfOk c.intern-else-is_and.result (λ id. Shows c.intern-else-is_and.new.self id t)) p c.intern-else-is_and.ensures.shows
