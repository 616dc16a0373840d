use Rattle.std.proofs.Common.{sym}
use Rattle.strat_text.proofs.Levels.{form_of_list}
use Rattle.strat_text.proofs.form.number.Goals as goal

pub returns-in-List : goal.returns-in-List
returns-in-List c = rw (c.in-List.is, form_of_list c.args.bytes.now c.in-List.items c.in-List.start c.in-List.end, sym c.as_slice.ensures) (c.signed.ensures c.in-List.start)
