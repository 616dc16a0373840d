use Rattle.std.proofs.Common.{◌≡◌, ◌∙◌, ap, sym, false, if◌then◌else◌}
use Rattle.qterm.specs.Store.{grow}
use Rattle.qeval.specs.Bounds.{low_of, up_of}
use Rattle.probe_set.specs.Measures as measure
use Rattle.probe_set.proofs.names.width_at.Goals as goal

pub returns-else-is_bool : goal.returns-else-is_bool
returns-else-is_bool c fs r =
    let x = c.in-Var.name in
    let at = c.view.ensures.tree ∙ ap (grow c.args.store.now) c.in-Var.is in
    let is = c.range_at.ensures ∙ r c.args.id x c.requires.has at in
    let int : measure.is_bool x.sort ≡ false = ap measure.is_bool (sym c.sort.ensures) ∙ sym c.is_bool.ensures ∙ c.if-is_bool.false in
    c.range_width.ensures ∙ ap (λ s. measure.range_width s.low s.up) is ∙ ap (λ b. if b then 0 else measure.range_width (low_of x fs) (up_of x fs)) (sym int) ∙ ap (measure.bits_at fs) (sym at)
