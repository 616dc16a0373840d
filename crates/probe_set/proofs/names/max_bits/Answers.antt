use Rattle.std.proofs.Common.{◌∙◌, ap, map}
use Rattle.qterm.specs.Store.{trees_of}
use Rattle.probe_set.specs.Measures as measure
use Rattle.probe_set.proofs.Counting.{found_has, bits_found}
use Rattle.probe_set.proofs.names.max_bits.Goals as goal

pub greatest_width-n-requires : goal.greatest_width-n-requires
greatest_width-n-requires c = record { has = found_has c.args.store.now c.args.formulas.now c.in_ok-found.found c.ids.result.now c.ids.ensures c.in_ok-found.ensures }

pub returns : goal.returns
returns c =
    c.greatest_width-n.ensures (trees_of c.args.store.now c.args.formulas.now) c.in_ok-table.ensures ∙ ap (λ ks. measure.greatest (map (measure.bits_at (trees_of c.args.store.now c.args.formulas.now)) (trees_of c.args.store.now ks))) c.ids.ensures ∙ bits_found c.args.store.now c.args.formulas.now c.in_ok-found.found c.in_ok-found.ensures
