use Rattle.std.proofs.Common.{◌∙◌, ap}
use Rattle.qterm.specs.Store.{trees_of}
use Rattle.std.specs.List.{list_all}
use Rattle.qterm.specs.Tree.{sort_of}
use Rattle.probe_set.specs.Measures as measure
use Rattle.probe_set.proofs.Counting.{found_has, propositional_found}
use Rattle.probe_set.proofs.names.is_propositional.Goals as goal

pub are_bool-b-requires : goal.are_bool-b-requires
are_bool-b-requires c = record { has = found_has c.args.store.now c.args.formulas.now c.in_ok-found.found c.ids.result.now c.ids.ensures c.in_ok-found.ensures }

pub returns : goal.returns
returns c =
    c.are_bool-b.ensures ∙ ap (λ ks. list_all (λ t. measure.is_bool (sort_of t)) (trees_of c.args.store.now ks)) c.ids.ensures ∙ propositional_found c.args.store.now c.args.formulas.now c.in_ok-found.found c.in_ok-found.ensures
