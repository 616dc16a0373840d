use Rattle.cert_text.specs.TermLines.{name_text}
use Rattle.cert_text.proofs.Growing.{row_word}
use Rattle.cert_text.proofs.words.push_names.Goals as goal

pub loop-name-preserved : goal.loop-name-preserved
loop-name-preserved c =
    row_word name_text c.args.names.now c.loop-name.name-index c.name-item.result c.args.text.now.items c.loop-name.text.items c.push_name.new.text.items c.loop-name-test.true c.name-item.is c.loop-name.invariant c.in_ok-push_name.ensures
