-- The bounds that were looked up are those among the items before the store grew.
use Rattle.std.proofs.Common.{◌&&◌, sym, ◌∙◌}
use Rattle.std.specs.Int.{w128}
use Rattle.std.proofs.lemmas.Int.{to_z-of_z}
use Rattle.qeval.specs.Bounds.{at_least, at_most}
use Rattle.cert_words.proofs.Giving.{bounds_before}
use Rattle.cert_words.proofs.bounded.bounded.Goals as goal

pub returns-then-are_within-clause-bounded : goal.returns-then-are_within-clause-bounded
returns-then-are_within-clause-bounded c = (
  c.in_ok-id.ensures.shows,
  sym (bounds_before c.args.store.now c.var.new.store c.args.state.now c.in_ok-id.id c.args.name.now c.bounds-found.result c.args.low c.args.up c.are_within.result c.var.ensures.extends c.requires.state
      c.in_ok-id.ensures.shows c.bounds-found.ensures (c.are_within.ensures ∙ (λ i. at_least (to_z-of_z w128 c.args.low c.ranges.low i) c.bounds-found.result.low && at_most (to_z-of_z w128 c.args.up c.ranges.up i) c.bounds-found.result.up))) ∙ c.if-are_within.true,
)

pub returns-else-are_within-clause-bounded : goal.returns-else-are_within-clause-bounded
returns-else-are_within-clause-bounded c =
    sym (bounds_before c.args.store.now c.var.new.store c.args.state.now c.in_ok-id.id c.args.name.now c.bounds-found.result c.args.low c.args.up c.are_within.result c.var.ensures.extends c.requires.state
    c.in_ok-id.ensures.shows c.bounds-found.ensures (c.are_within.ensures ∙ (λ i. at_least (to_z-of_z w128 c.args.low c.ranges.low i) c.bounds-found.result.low && at_most (to_z-of_z w128 c.args.up c.ranges.up i) c.bounds-found.result.up))) ∙ c.if-are_within.false
