use Rattle.std.proofs.Common.{decimal, arith, rules}
use Rattle.cert_text.proofs.Growing.{row_word}
use Rattle.cert_text.proofs.words.push_counts.Goals as goal

pub loop-count-preserved : goal.loop-count-preserved
loop-count-preserved c =
    row_word decimal c.args.counts.now c.loop-count.count-index _ c.args.text.now.items c.loop-count.text.items c.push_count.new.text.items (grind arith) (search rules) c.loop-count.invariant c.in_ok-push_count.ensures
