use Rattle.std.proofs.Common.{arith, ap, sym, ◌∙◌}
use Rattle.sexp_read.specs.Lexical.{ahead}
use Rattle.sexp_read.proofs.Ends.{ahead-ahead, text_len-last, text_len-lone, text_len-pair, text_len-more, text_len-wrong, text_len-end}
use Rattle.sexp_read.proofs.lexical.text_len.Goals as goal
use Rattle.sexp_read.proofs.lexical.text_len.Goals.{then-at-bytes-via-then-at-bytes, then-at-bytes-via-else-at-bytes+then-bytes-at-ne34}

pub returns-then-at-bytes-clause-len : goal.returns-then-at-bytes-clause-len
returns-then-at-bytes-clause-len c =
    elim c.then-at-bytes.branch [
      | then-at-bytes-via-then-at-bytes w ↦
          ap (ahead c.loop-at.at) (sym (text_len-last c.args.bytes.now c.loop-at.at c.loop-at-test.true c.if-byte-eq34.true w.if-at-bytes.true)) ∙ c.loop-at.invariant.told
      | then-at-bytes-via-else-at-bytes+then-bytes-at-ne34 w ↦
          ap (ahead c.loop-at.at) (sym (text_len-lone c.args.bytes.now c.loop-at.at w.if-at-bytes.false c.if-byte-eq34.true w.if-bytes-at-ne34.true)) ∙ c.loop-at.invariant.told
    ]

pub loop-at-preserved-then-byte-eq34 : goal.loop-at-preserved-then-byte-eq34
loop-at-preserved-then-byte-eq34 c =
    let pair = text_len-pair c.args.bytes.now c.loop-at.at c.if-at-bytes.false c.if-byte-eq34.true c.if-bytes-at-ne34.false in
    record {
      within = omega arith;
      told = sym (ahead-ahead c.loop-at.at 2 _) ∙ ap (ahead c.loop-at.at) (sym pair) ∙ c.loop-at.invariant.told;
    }

pub loop-at-preserved : goal.loop-at-preserved
loop-at-preserved c =
    let more = text_len-more c.args.bytes.now c.loop-at.at c.loop-at-test.true c.if-byte-eq34.false (sym c.is_text_byte.ensures ∙ c.if-is_text_byte.true) in
    record {
      within = omega arith;
      told = sym (ahead-ahead c.loop-at.at 1 _) ∙ ap (ahead c.loop-at.at) (sym more) ∙ c.loop-at.invariant.told;
    }

pub returns-else-is_text_byte-clause-len : goal.returns-else-is_text_byte-clause-len
returns-else-is_text_byte-clause-len c =
    let wrong = text_len-wrong c.args.bytes.now c.loop-at.at c.loop-at-test.true c.if-byte-eq34.false (sym c.is_text_byte.ensures ∙ c.if-is_text_byte.false) in
    ap (ahead c.loop-at.at) (sym wrong) ∙ c.loop-at.invariant.told

pub returns-clause-len : goal.returns-clause-len
returns-clause-len c =
    let none = text_len-end c.args.bytes.now c.loop-at.at c.loop-at-test.false in
    ap (ahead c.loop-at.at) (sym none) ∙ c.loop-at.invariant.told
