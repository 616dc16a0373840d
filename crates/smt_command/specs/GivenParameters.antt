-- Parameters of the code over the trees of a store.
use Rattle.std.specs.Prelude.{List}
use Rattle.qterm.specs.Tree.{Tree}
use Rattle.smt_names.specs.Table.{symbols_in, AreThere}
use Rattle.smt_command.specs.declared.parameter.Parameters.{Parameters as ParametersId}
use Rattle.smt_command.specs.Parameters.{Parameters}

-- the same with terms
abbrev pub parameters_in : List Tree → ParametersId → Parameters
parameters_in ts ps = record { scope = symbols_in ts ps.scope; texts = symbols_in ts ps.texts; names = ps.names }

-- the numbers of all are there
pub record AreParametersIn (ts : List Tree) (ps : ParametersId) : Type 0 where
  pub scope : AreThere ts ps.scope
  pub texts : AreThere ts ps.texts
