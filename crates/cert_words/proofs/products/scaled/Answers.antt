-- The numbers of the product have 128 bits.
use Rattle.std.specs.Int.{w128}
use Rattle.std.proofs.lemmas.Int.{to_z-of_z}
use Rattle.cert_words.proofs.Producing.{scaled_product}
use Rattle.cert_words.proofs.products.scaled.Goals as goal

pub returns-in-Ok : goal.returns-in-Ok
returns-in-Ok c =
    let e = c.in-Ok.ensures c.args.store.now c.requires.form in
    scaled_product c.args.store.now c.args.form.now c.in-Ok.product c.args.by _ (to_z-of_z w128 c.args.by c.ranges.by) (e.0, e.1) c.narrow_form.ensures
