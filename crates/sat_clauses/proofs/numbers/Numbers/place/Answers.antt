use Rattle.std.proofs.Common.{sym, ap, ◌∙◌, get_or}
use Rattle.sat_clauses.proofs.Places.{place_is}
use Rattle.sat_clauses.proofs.numbers.Numbers.place.Goals as goal

pub returns-clause-place : goal.returns-clause-place
returns-clause-place c =
    ap (λ ks. get_or ks c.in-Some.place 0) (sym c.self.view_is) ∙ place_is c.self.inside.vars.keys c.args.id c.in-Some.place (sym c.in-Some.ensures.found) c.in-Some.ensures.index
