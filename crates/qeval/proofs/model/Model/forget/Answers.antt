use Rattle.std.proofs.Common.{sym, subst}
use Rattle.qeval.specs.Value.{IsSorted}
use Rattle.qeval.proofs.Valuations.{IsSorted-without}
use Rattle.qeval.proofs.model.Model.forget.Goals as goal

pub invariant_of-self : goal.invariant_of-self
invariant_of-self c =
    subst IsSorted (sym c.shift_remove.ensures.entries) (IsSorted-without c.self.inside.values.entries c.args.name.now c.self.invariant)
