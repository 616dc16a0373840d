use Rattle.std.proofs.Common.{◌∙◌, ap, sym}
use Rattle.bit_lists.specs.Row.{is_split, bounds_split}
use Rattle.bit_lists.proofs.Looping.{not_scale}
use Rattle.bit_lists.proofs.row.bounds_split.Goals as goal

pub returns-in_default : goal.returns-in_default
returns-in_default c ss h =
    let e = c.view.ensures.tree in
    c.is_split-in_default.ensures ss h ∙ ap (is_split ss) e ∙ not_scale c.args.store.now c.view.result.now ss c.args.number c.in_default.not-Scale ∙ ap (λ t. bounds_split ss t c.args.number) (sym e)
