use Rattle.std.proofs.Common.{◌∙◌, All, ap, map, subst, sym}
use Rattle.smt_words.specs.Command.{asked_tree}
use Rattle.answer_text.specs.Values.{IsWithin, values_text}
use Rattle.script_text.specs.Shown.{Text, values_or}
use Rattle.script_text.proofs.AskedRows.{rows_asked, rows_within}
use Rattle.script_text.proofs.asking.write_asked.Goals as goal

pub write_values-requires : goal.write_values-requires
write_values-requires c =
    let rows = c.as_slice.ensures.value ∙ c.in_ok-rows.ensures.rows in
    record { within = subst (All (IsWithin c.args.bytes.now)) (sym rows) (rows_within c.args.bytes.now c.args.model.now c.args.store.now c.args.asked.now c.requires.within) }

pub returns-clause-text : goal.returns-clause-text
returns-clause-text c =
    let bytes = c.args.bytes.now in
    let V = c.args.model.now in
    let ts = c.args.store.now in
    let asked = c.args.asked.now in
    let rows = c.as_slice.ensures.value ∙ c.in_ok-rows.ensures.rows ∙ rows_asked V ts asked in
    ap (values_or bytes V (map (asked_tree ts) asked)) c.in_ok-rows.ensures.narrow ∙ ap Text (ap (values_text bytes) (sym rows) ∙ sym c.in_ok-text.ensures)
