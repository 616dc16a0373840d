use Rattle.std.proofs.Common.{◌∙◌, ap}
use Rattle.qterm.specs.Store.{trees_of}
use Rattle.std.specs.List.{list_all}
use Rattle.probe_set.specs.Measures as measure
use Rattle.probe_set.proofs.Counting.{found_has, from_0_to_1_found}
use Rattle.probe_set.proofs.names.is_01.Goals as goal

pub are_all_01-b-requires : goal.are_all_01-b-requires
are_all_01-b-requires c = record { has = found_has c.args.store.now c.args.formulas.now c.in_ok-found.found c.ids.result.now c.ids.ensures c.in_ok-found.ensures }

pub returns : goal.returns
returns c =
    c.are_all_01-b.ensures (trees_of c.args.store.now c.args.formulas.now) c.in_ok-table.ensures ∙ ap (λ ks. list_all (measure.each_int measure.are_01 (trees_of c.args.store.now c.args.formulas.now)) (trees_of c.args.store.now ks)) c.ids.ensures ∙ from_0_to_1_found c.args.store.now c.args.formulas.now c.in_ok-found.found c.in_ok-found.ensures
