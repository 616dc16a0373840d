use Rattle.std.proofs.Common.{◌≡◌, sym, subst, rules}
use Rattle.qeval.specs.Value.{value_of, HasSort}
use Rattle.qeval.proofs.Valuations.{HasSort-value_of}
use Rattle.qeval.proofs.model.Model.get.Goals as goal

pub returns-in-Some-clause-sort : goal.returns-in-Some-clause-sort
returns-in-Some-clause-sort c =
    let e : c.copied.result ≡ value_of c.self.inside.values.entries c.args.name.now = search rules in
    subst (HasSort c.args.name.now.sort) (sym e) (HasSort-value_of c.self.inside.values.entries c.args.name.now c.self.invariant)
