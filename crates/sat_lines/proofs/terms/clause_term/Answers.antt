use Rattle.std.proofs.Common.{◌≤◌, length, arith}
use Rattle.sat_lines.proofs.Building.{more_term}
use Rattle.sat_lines.proofs.terms.clause_term.Goals as goal

pub returns-clause-shows : goal.returns-clause-shows
returns-clause-shows c f s =
    let some : 1 ≤ length c.args.clause.now = grind arith in
    more_term f c.args.clause.now c.literals.new.store _ c.in_ok-ids.ids.items _ c.in_ok-whole.whole some (c.in_ok-ids.ensures.trees f s) c.from_vec.ensures c.in_ok-whole.ensures.shows
