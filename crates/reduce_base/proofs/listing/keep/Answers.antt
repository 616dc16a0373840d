use Rattle.std.proofs.Common.{◌∙◌}
use Rattle.reduce_base.proofs.Leading.{keep_leads}
use Rattle.reduce_base.proofs.listing.keep.Goals as goal

pub returns-clause-leads : goal.returns-clause-leads
returns-clause-leads c =
    keep_leads c.args._store.now c.args.trace c.args.places.now c.from_vec.result c.in_ok-numbers.numbers c.push.new.self c.requires.placed (c.from_vec.ensures ∙ c.in_ok-ids.ensures) c.in_ok-numbers.ensures c.in_ok-push.ensures.ok
