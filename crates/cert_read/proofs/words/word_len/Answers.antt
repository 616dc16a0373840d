use Rattle.std.proofs.Common.{◌++◌, ◌∷◌, [], arith}
use Rattle.cert_read.specs.Words.{plain, quoted}
use Rattle.cert_read.proofs.Ends.{front_ends, begins}
use Rattle.cert_read.proofs.words.word_len.Goals as goal
use Rattle.cert_read.proofs.words.word_len.Goals.{in_default-via-then-line-lt1, in_default-via-else-line-lt1+in_default-1}

pub returns-in_default-clause-word : goal.returns-in_default-clause-word
returns-in_default-clause-word c word rest (plain without first) next is =
    front_ends c.args.line.now word rest 32 c.len_before.result is c.len_before.ensures.within c.len_before.ensures.before c.len_before.ensures.found without next
returns-in_default-clause-word c word rest (quoted text without e) next is =
    let first = begins c.args.line.now word rest (text ++ 124 ∷ []) 124 is e in
    elim c.in_default.branch [ in_default-via-then-line-lt1 w ↦ grind arith | in_default-via-else-line-lt1+in_default-1 w ↦ grind arith ]
