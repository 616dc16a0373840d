use Rattle.std.proofs.Common.{◌∙◌}
use Rattle.cert_items.specs.Bounded.{bounds_in}
use Rattle.qterm.specs.Tree.{Var}
use Rattle.qterm.specs.declared.name.Sort.TheVariants.{Bool}
use Rattle.qterm.proofs.Extending.{Extends_trans, Shows_extends}
use Rattle.cert_items.specs.Truth.{with_sort}
use Rattle.cert_items.proofs.Naming.{occurs_by_ids}
use Rattle.cert_items.proofs.States.{state_noted}
use Rattle.cert_items.proofs.state.occurs.Goals as goal

pub returns-clause-value : goal.returns-clause-value
returns-clause-value c =
    let ts = c.args.store.now in
    let us = c.var.new.store in
    let vs = c.var-2.new.store in
    let s = c.args.state.now in
    let n = state_noted ts s.items s.seen (bounds_in s.bounds) s.marks.items c.requires.state in
    let e = c.in_ok-int.ensures.extends in
    c.is_either_seen-found.ensures
    ∙ occurs_by_ids ts vs s.items s.seen c.args.name.now c.in_ok-plain.plain c.in_ok-int.int (Extends_trans ts us vs c.in_ok-plain.ensures.extends e) c.is_distinct.ensures n.seen
    (Shows_extends us vs c.in_ok-plain.plain (Var (with_sort c.args.name.now Bool)) e c.in_ok-plain.ensures.shows) c.in_ok-int.ensures.shows
