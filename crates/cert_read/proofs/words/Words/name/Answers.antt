use Rattle.std.proofs.Common.{◌≡◌, true, false}
use Rattle.symbol_text.specs.Symbols.{symbol_text}
use Rattle.cert_read.proofs.Symbols.{symbol_word}
use Rattle.cert_read.proofs.words.Words.name.Goals as goal

pub returns-in_err-word-clause-read : goal.returns-in_err-word-clause-read
returns-in_err-word-clause-read c text rest all is_rest e =
    let word = c.in_err-word.ensures.word (symbol_text text) rest (symbol_word text all) is_rest e in
    let bad : false ≡ true = word.0 in
    cc

pub returns-clause-read : goal.returns-clause-read
returns-clause-read c text rest all is_rest e =
    let word = c.in_ok-word.ensures.word (symbol_text text) rest (symbol_word text all) is_rest e in
    let named = c.named.ensures.read text all word.1 in
    (named.0, named.1, word.2)
