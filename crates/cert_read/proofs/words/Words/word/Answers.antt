use Rattle.std.proofs.Common.{◌≡◌, ◌-◌, ◌++◌, ◌∙◌, take, drop, length, ap, refl}
use Rattle.std.proofs.lemmas.List.{take_rest}
use Rattle.cert_read.proofs.Ends.{cut_at}
use Rattle.cert_read.proofs.words.Words.word.Goals as goal

pub returns-in-32-clause-word : goal.returns-in-32-clause-word
returns-in-32-clause-word c word rest is_word is_rest is =
    let whole = c.args.self.now.rest.now in
    let line = take (length whole - 1) (drop 1 whole) in
    let is_line : line ≡ word ++ rest = take_rest whole 1 ∙ ap (drop 1) is in
    let cut = cut_at line word rest c.word_len.result is_line (c.word_len.ensures.word word rest is_word is_rest is_line) in
    (refl, c.split_at.ensures.front ∙ cut.0, c.split_at.ensures.back ∙ cut.1)
