use Rattle.std.proofs.Common.{rules, arith, ◌<◌, length, min, Contains, inl, inr, refl}
use Rattle.sexp_read.specs.Memory.{taken_of, FailsWrite}
use Rattle.sexp_read.proofs.memory.MemSinkSink.write.Goals as goal
use Rattle.sexp_read.proofs.memory.MemSinkSink.write.Goals.{then-listed-via-then-listed, then-listed-via-else-listed+then-count-min}

pub returns-then-listed-clause-fails : goal.returns-then-listed-clause-fails
returns-then-listed-clause-fails c =
    let fails : FailsWrite c.args.self.now c.saturating_add-self.result c.args.piece.now = elim c.then-listed.branch [
      | then-listed-via-then-listed w ↦ let listed : Contains c.args.self.now.failing.items c.saturating_add-self.result = search rules in inl listed
      | then-listed-via-else-listed+then-count-min w ↦ let full : taken_of c.args.self.now c.args.piece.now < min 1 (length c.args.piece.now) = grind arith in inr full
    ] in
    ((λ yes. fails), (λ failed. refl))
