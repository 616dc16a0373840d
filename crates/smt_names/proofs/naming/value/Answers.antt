use Rattle.std.proofs.Common.{sym}
use Rattle.smt_names.proofs.Lookups.{value_local, value_symbol, value_theory}
use Rattle.smt_names.proofs.naming.value.Goals as goal

pub returns-in-Some-clause-value : goal.returns-in-Some-clause-value
returns-in-Some-clause-value c = value_local c.args.store.now c.args.state.now.scopes c.args.state.now.symbols c.args.name.now c.in-Some.id c.requires.there.scopes c.in-Some.ensures

pub returns-in-Some-constant-clause-value : goal.returns-in-Some-constant-clause-value
returns-in-Some-constant-clause-value c =
    value_symbol c.args.store.now c.args.state.now.scopes c.args.state.now.symbols c.args.name.now c.in-Some-constant.id c.requires.there.symbols (sym c.in_default.ensures) c.in-Some-constant.ensures

pub returns-clause-value : goal.returns-clause-value
returns-clause-value c =
    rw (value_theory c.args.store.now c.args.state.now.scopes c.args.state.now.symbols c.args.name.now (sym c.in_default.ensures) (sym c.in_default-constant.ensures)) (rw c.truth_named.ensures at c.in_ok-found.ensures.value)
