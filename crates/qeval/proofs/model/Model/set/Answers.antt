use Rattle.std.proofs.Common.{sym, subst}
use Rattle.qeval.specs.Value.{IsSorted}
use Rattle.qeval.proofs.Valuations.{IsSorted-with_value}
use Rattle.qeval.proofs.model.Model.set.Goals as goal

pub invariant_of-self-2 : goal.invariant_of-self-2
invariant_of-self-2 c =
    subst IsSorted (sym c.in_ok-insert.ensures.entries) (IsSorted-with_value c.self.inside.values.entries c.args.name c.args.value c.self.invariant c.requires.sort)
