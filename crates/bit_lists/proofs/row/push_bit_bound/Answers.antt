use Rattle.std.proofs.Common.{◌≡◌, rules}
use Rattle.bit_lists.proofs.Looping.{two_bounds}
use Rattle.bit_lists.proofs.row.push_bit_bound.Goals as goal

pub returns-clause-bounds : goal.returns-clause-bounds
returns-clause-bounds c =
    let same : c.in_ok-clone.field-0 ≡ c.args.bit.now = search rules in
    two_bounds c.args.store.now c.intern.new.self c.at_least_zero.new.store c.at_most.new.store c.args.formulas.now.items c.push.new.self.items c.push-2.new.self.items c.in_ok-var.var c.in_ok-low.low c.in_ok-up.up c.args.bit.now c.in_ok-clone.field-0 c.intern.ensures.extends
    c.at_least_zero.ensures.extends c.at_most.ensures.extends c.requires.formulas same c.in_ok-var.ensures.shows c.in_ok-low.ensures.shows c.in_ok-low.ensures.sort c.in_ok-push.ensures.items c.in_ok-up.ensures.shows c.in_ok-push-2.ensures.items
