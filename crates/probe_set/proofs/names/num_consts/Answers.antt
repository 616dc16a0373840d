use Rattle.std.proofs.Common.{◌∙◌, ap, length}
use Rattle.qterm.specs.Store.{trees_of}
use Rattle.std.specs.List.{filter}
use Rattle.probe_set.specs.Measures as measure
use Rattle.probe_set.proofs.Counting.{found_has, consts_found}
use Rattle.probe_set.proofs.names.num_consts.Goals as goal

pub count_names-n-requires : goal.count_names-n-requires
count_names-n-requires c = record { has = found_has c.args.store.now c.args.formulas.now c.in_ok-found.found c.ids.result.now c.ids.ensures c.in_ok-found.ensures }

pub returns : goal.returns
returns c =
    c.count_names-n.ensures ∙ ap (λ ks. length (filter measure.is_name (trees_of c.args.store.now ks))) c.ids.ensures ∙ consts_found c.args.store.now c.args.formulas.now c.in_ok-found.found c.is_distinct.ensures c.in_ok-found.ensures
