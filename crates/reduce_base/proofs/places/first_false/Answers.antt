use Rattle.std.proofs.Common.{length, refl, sym, ◌∙◌, true}
use Rattle.std.proofs.lemmas.Option.{slice_get_read}
use Rattle.reduce_base.proofs.Choosing.{false_here}
use Rattle.reduce_base.proofs.places.first_false.Goals as goal

pub returns-then-is_false : goal.returns-then-is_false
returns-then-is_false c =
    let at = c.loop-at.at in
    let ids = c.args.ids.now in
    let i = c.index-ids-at.result in
    let no = c.is_false.ensures.0 c.if-is_false.true in
    (i, slice_get_read ids (length ids) at i refl c.loop-at-test.true c.index-ids-at.is, no, sym c.loop-at.invariant ∙ false_here c.args.store.now ids at i c.loop-at-test.true c.index-ids-at.is no)
