use Rattle.std.proofs.Common.{◌∙◌}
use Rattle.probe_set.proofs.Counting.{exprs_found}
use Rattle.probe_set.proofs.names.num_exprs.Goals as goal

pub returns : goal.returns
returns c = c.len.ensures ∙ exprs_found c.args.store.now c.args.formulas.now c.in_ok-found.found c.is_distinct.ensures c.in_ok-found.ensures
