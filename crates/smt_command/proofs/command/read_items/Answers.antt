use Rattle.std.proofs.Common.{sym, subst}
use Rattle.std.specs.Option.{option_copied}
use Rattle.smt_names.specs.Given.{Gives, scopes_in, seen}
use Rattle.smt_words.specs.Command.{command_tree}
use Rattle.smt_command.proofs.ByWords.{list_named}
use Rattle.smt_command.proofs.command.read_items.Goals as goal

pub returns-in-Some-word_named-clause-read : goal.returns-in-Some-word_named-clause-read
returns-in-Some-word_named-clause-read c =
    let ts = c.args.store.now in
    let s = c.args.state.now in
    let us = c.by_word.new.store in
    subst (Gives (command_tree us) us c.by_word.new.state c.by_word.result)
    (sym (list_named (option_copied c.args.reducers) (scopes_in ts s.scopes) c.args.levels c.args.bytes.now c.args.items.now c.first-item.result c.args.at (seen ts s) c.in-Some.text.now c.in-Some-word_named.word c.in-len1-up.len_at_least c.first-item.is
    c.in-Some.ensures c.in-Some-word_named.ensures))
    c.by_word.ensures.read
