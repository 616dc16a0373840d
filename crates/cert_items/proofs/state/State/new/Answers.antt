use Rattle.cert_items.specs.Bounded.{bounds_in}
use Rattle.cert_items.proofs.States.{state_new}
use Rattle.cert_items.proofs.state.State.new.Goals as goal

pub returns-clause-state : goal.returns-clause-state
returns-clause-state c = λ ts. state_new ts c.new.result c.new-2.result (bounds_in c.new-3.result) c.new-4.result.items c.new.ensures c.new-2.ensures c.new-3.ensures c.new-4.ensures.items
