use Rattle.std.proofs.Common.{◌∙◌, ap}
use Rattle.qterm.specs.Store.{trees_of}
use Rattle.std.specs.List.{list_all}
use Rattle.probe_set.specs.Measures as measure
use Rattle.probe_set.proofs.Counting.{found_has, bounded_found}
use Rattle.probe_set.proofs.names.is_bounded.Goals as goal

pub are_bounded-b-requires : goal.are_bounded-b-requires
are_bounded-b-requires c = record { has = found_has c.args.store.now c.args.formulas.now c.in_ok-found.found c.ids.result.now c.ids.ensures c.in_ok-found.ensures }

pub returns : goal.returns
returns c =
    c.are_bounded-b.ensures (trees_of c.args.store.now c.args.formulas.now) c.in_ok-table.ensures ∙ ap (λ ks. list_all (measure.each_int measure.are_there (trees_of c.args.store.now c.args.formulas.now)) (trees_of c.args.store.now ks)) c.ids.ensures ∙ bounded_found c.args.store.now c.args.formulas.now c.in_ok-found.found c.in_ok-found.ensures
