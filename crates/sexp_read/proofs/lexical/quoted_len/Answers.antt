use Rattle.std.proofs.Common.{ap, sym, ◌∙◌}
use Rattle.sexp_read.specs.Lexical.{ahead}
use Rattle.sexp_read.proofs.Ends.{ahead-ahead, quoted_len-bar, quoted_len-more, quoted_len-wrong, quoted_len-end}
use Rattle.sexp_read.proofs.lexical.quoted_len.Goals as goal

pub returns-then-byte-eq124-clause-len : goal.returns-then-byte-eq124-clause-len
returns-then-byte-eq124-clause-len c =
    let bar = quoted_len-bar c.args.bytes.now c.loop-at.at c.loop-at-test.true c.if-byte-eq124.true in
    ap (ahead c.loop-at.at) (sym bar) ∙ c.loop-at.invariant

pub returns-then-not-is_quoted_byte-clause-len : goal.returns-then-not-is_quoted_byte-clause-len
returns-then-not-is_quoted_byte-clause-len c =
    let wrong = quoted_len-wrong c.args.bytes.now c.loop-at.at c.loop-at-test.true c.if-byte-eq124.false (sym c.is_quoted_byte.ensures ∙ c.if-not-is_quoted_byte.true) in
    ap (ahead c.loop-at.at) (sym wrong) ∙ c.loop-at.invariant

pub loop-at-preserved : goal.loop-at-preserved
loop-at-preserved c =
    let more = quoted_len-more c.args.bytes.now c.loop-at.at c.loop-at-test.true c.if-byte-eq124.false (sym c.is_quoted_byte.ensures ∙ c.if-not-is_quoted_byte.false) in
    sym (ahead-ahead c.loop-at.at 1 _) ∙ ap (ahead c.loop-at.at) (sym more) ∙ c.loop-at.invariant

pub returns-clause-len : goal.returns-clause-len
returns-clause-len c =
    let none = quoted_len-end c.args.bytes.now c.loop-at.at c.loop-at-test.false in
    ap (ahead c.loop-at.at) (sym none) ∙ c.loop-at.invariant
