use Rattle.std.proofs.Common.{◌∙◌, sym, ap, length}
use Rattle.std.specs.List.{list_all}
use Rattle.sat_core.specs.declared.solver.RupLine.{RupLine}
use Rattle.sat_core.specs.Clauses.{below}
use Rattle.sat_answers.proofs.Within.{lines_of}
use Rattle.sat_answers.proofs.lemmas.check_within.Goals as goal

pub returns-then-are_within : goal.returns-then-are_within
returns-then-are_within c =
    let v = length c.args.numbers.now in
    let ls = c.args.lines.now in
    lines_of v ls (ap (λ n. list_all (λ (line : RupLine). below n line.clause) ls) (sym c.count.ensures) ∙ sym c.are_within.ensures ∙ c.if-are_within.true)
