use Rattle.std.proofs.Common.{subst}
use Rattle.lang_rows.specs.declared.row.Row.{Row}
use Rattle.lang_rows.specs.Rows.{IsRow}
use Rattle.lang_rows.proofs.Growing.{ok_row, row_grows, row_longer}
use Rattle.lang_rows.proofs.Drawing.{row_tally}
use Rattle.lang_rows.proofs.row.Row.with.Goals as goal

pub returns-clause-row : goal.returns-clause-row
returns-clause-row c = λ s top ts p r g l ps n goal is next run unsat more same.
    subst (λ (x : Row). IsRow s top ts p r g l ps n x) (ok_row c.in_ok-more.more more same) (row_grows s top ts p r g l ps n c.args.self c.in_ok-more.more c.args.ran goal c.in_ok-more.ensures.grown is next run unsat)

pub returns-clause-grows : goal.returns-clause-grows
returns-clause-grows c = λ more same. row_longer c.args.self c.in_ok-more.more more c.args.ran c.in_ok-more.ensures.grown (ok_row c.in_ok-more.more more same)

pub returns-clause-draws : goal.returns-clause-draws
returns-clause-draws c = λ before old new tally one more same. row_tally before old new c.args.self c.in_ok-more.more more c.args.ran c.in_ok-more.ensures.grown same tally one
