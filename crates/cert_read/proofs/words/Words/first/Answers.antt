use Rattle.std.proofs.Common.{◌∙◌}
use Rattle.cert_read.proofs.Ends.{cut_at}
use Rattle.cert_read.proofs.words.Words.first.Goals as goal

pub returns-clause-word : goal.returns-clause-word
returns-clause-word c word rest is_word is_rest is =
    let cut = cut_at c.args.line.now word rest c.word_len.result is (c.word_len.ensures.word word rest is_word is_rest is) in
    (c.split_at.ensures.front ∙ cut.0, c.split_at.ensures.back ∙ cut.1)
