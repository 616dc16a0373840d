use Rattle.std.proofs.Common.{arith, ◌+◌, ◌≤◌, ◌++◌, length, take}
use Rattle.std.proofs.KnownBytes.{Consumes-trans}
use Rattle.std.proofs.lemmas.Grind.{common_steps}
use Rattle.sexp_read.proofs.reading.read_all.Goals as goal

-- what was held and the piece that had no room
pub returns-in_err-extend_from_slice-clause-front : goal.returns-in_err-extend_from_slice-clause-front
returns-in_err-extend_from_slice-clause-front g c =
    let piece = take c.in_ok-count.count c.read.new.into in
    let short : length (c.loop-chunk.bytes.items ++ piece) ≤ c.args.most + 1 = grind (arith, common_steps) in
    (c.loop-chunk.bytes.items ++ piece, short, Consumes-trans _ _ _ _ _ c.loop-chunk.invariant.so_far c.in_ok-count.ensures.bytes.0)
