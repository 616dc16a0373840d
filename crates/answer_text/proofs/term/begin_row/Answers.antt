use Rattle.std.proofs.Common.{arith}
use Rattle.answer_text.specs.Terms.{text_at}
use Rattle.answer_text.proofs.Writing.{writes, writes_same, form_none}
use Rattle.answer_text.proofs.term.begin_row.Goals as goal

pub returns-then-is_empty-clause-text : goal.returns-then-is_empty-clause-text
returns-then-is_empty-clause-text c =
    writes_same _ c.args.store.now c.args.text.now.items c.put.new.text.items c.args.empty.now _ c.args.parts.now.items c.args.parts.now.items
    (form_none c.args.word.now c.args.empty.now (text_at c.args.store.now) c.args.children.now (grind arith))
    (writes _ c.args.store.now c.args.text.now.items c.put.new.text.items c.args.empty.now c.args.parts.now.items c.put.ensures.text)
