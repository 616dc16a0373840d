use Rattle.std.proofs.Common.{◌≡◌, ◌∙◌, ap, pos, [], ◌∷◌, ◌++◌, get_or, map, to_z, of_z, arith}
use mir.Syntax.{w32}
use Rattle.std.proofs.lemmas.List.{take_more}
use Rattle.std.proofs.lemmas.Int.{ints}
use Rattle.clause_bench.specs.Written.{number, written}
use Rattle.clause_bench.proofs.dimacs.clauses_of.Goals as goal

pub loop-n-preserved : goal.loop-n-preserved
loop-n-preserved c =
    let x = get_or c.args.numbers.now c.loop-n.n-index (pos 0) in
    let same : to_z w32 (of_z w32 x) ≡ x = omega (arith, ints) in
    rw (take_more c.args.numbers.now c.loop-n.n-index (pos 0) c.loop-n-test.true)
    (c.in_ok-lits.ensures
    ∙ ap (λ z. (written c.loop-n.clauses.items ++ map number c.loop-n.lits.items) ++ z ∷ []) same
    ∙ ap (λ ns. ns ++ x ∷ []) c.loop-n.invariant)
