use Rattle.std.proofs.Common.{sym, ◌∙◌}
use Rattle.std.proofs.lemmas.List.{take_rest}
use Rattle.sexp_read.proofs.Tokens.{token-word}
use Rattle.sexp_read.proofs.token.token.Goals as goal

pub returns-then-is_word_byte-clause-kind : goal.returns-then-is_word_byte-clause-kind
returns-then-is_word_byte-clause-kind c =
    c.word_kind.ensures ∙ token-word c.args.bytes.now c.args.at c.word_len.result c.requires (sym c.is_blank.ensures ∙ c.if-is_blank.false) c.if-byte-eq59.false c.if-byte-eq40.false c.if-byte-eq41.false c.if-byte-eq34.false c.if-byte-eq124.false (sym c.is_word_byte.ensures ∙ c.if-is_word_byte.true) (rw take_rest at c.word_len.ensures.len)
