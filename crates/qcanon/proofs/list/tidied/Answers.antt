use Rattle.std.proofs.Common.{◌≡◌, ◌∙◌, All, ap, subst, sym}
use Rattle.qterm.specs.Store.{Has, trees_of}
use Rattle.qlin.specs.CanonList.{tidied}
use Rattle.qcanon.proofs.Listing.{tidied_once}
use Rattle.qcanon.proofs.list.tidied.Goals as goal

done : (c : goal.After-drop-parts-2) → (trees_of c.args.store.now c.in_ok-kept.kept.items ≡ tidied (trees_of c.args.store.now c.args.ids.now)) × All (Has c.args.store.now) c.in_ok-kept.kept.items
done c =
    let ts = c.args.store.now in
    let parts = c.as_slice.result.now in
    let v = c.as_slice.ensures.value in
    tidied_once ts c.args.ids.now parts c.in_ok-kept.kept.items c.is_distinct.ensures (subst (All (Has ts)) (sym v) c.in_ok-parts.ensures.has) c.in_default.ensures (ap (trees_of ts) v ∙ c.in_ok-parts.ensures.same) c.in_ok-kept.ensures

pub returns-clause-same : goal.returns-clause-same
returns-clause-same c = (done c).0

pub returns-clause-has : goal.returns-clause-has
returns-clause-has c = (done c).1
