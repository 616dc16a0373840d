use Rattle.std.proofs.Common.{◌∙◌}
use Rattle.smt_names.proofs.Forms.{place_at_form, place_at_past}
use Rattle.smt_names.proofs.application.place_at.Goals as goal

pub returns-then-at-items : goal.returns-then-at-items
returns-then-at-items c = c.place.ensures ∙ place_at_form c.args.bytes.now c.args.items.now c.args.at c.index-items-at.result c.if-at-items.true c.index-items-at.is

pub returns-else-at-items : goal.returns-else-at-items
returns-else-at-items c = place_at_past c.args.bytes.now c.args.items.now c.args.at c.if-at-items.false
