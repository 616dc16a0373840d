use Rattle.std.proofs.Common.{◌∙◌, ap, take}
use Rattle.cert_items.specs.Bounded.{bounds_in}
use Rattle.cert_items.proofs.States.{popped_state}
use Rattle.cert_items.proofs.state.State.pop.Goals as goal

pub returns-in_ok-restore-in-Some-clause-state : goal.returns-in_ok-restore-in-Some-clause-state
returns-in_ok-restore-in-Some-clause-state c =
    let s = c.args.self.now in
    let e = c.in_ok-restore-in-Some.ensures in
    popped_state c.args.store.now s.items c.restore.new.self.items s.seen c.truncate.new.self (bounds_in s.bounds) (bounds_in c.restore.new.self.bounds) s.marks.items c.pop.new.self.items c.restore.new.self.marks.items c.in-Some.mark
    c.requires.state c.in-Some.ensures.items e.bounds (e.items ∙ c.drop_last.ensures) (c.truncate.ensures ∙ ap (take c.in-Some.mark.seen) e.seen) (ap (λ x. x.items) e.marks)
