use Rattle.std.proofs.Common.{◌≡◌, sym, subst, length, true}
use Rattle.sat_core.specs.Clauses.{all_below}
use Rattle.tac_sat.proofs.Below.{clauses_below}
use Rattle.tac_sat.proofs.deciding.decide_numbered.Goals as goal

pub new-requires : goal.new-requires
new-requires c = record { in_range = subst (λ v. all_below v c.args.clauses.items ≡ true) (sym c.count.ensures) (clauses_below (length c.args.numbers.now) c.args.clauses.items c.requires.below) }
