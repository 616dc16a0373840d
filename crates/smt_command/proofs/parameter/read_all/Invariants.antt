use Rattle.std.proofs.Common.{◌≡◌, List, drop}
use Rattle.qterm.specs.Tree.{Tree}
use Rattle.qterm.specs.Store.{Extends}
use Rattle.strat_text.specs.Form.{forms_of}
use Rattle.smt_names.specs.Table.{symbols_in}
use Rattle.smt_command.specs.GivenParameters.{parameters_in, AreParametersIn}
use Rattle.smt_command.specs.Parameters.{no_parameter, read_all}
use Rattle.smt_command.proofs.parameter.read_all.Given as goal

-- what is left of the list, behind the parameters so far, gives what all of it gives
abbrev pub invariant-loop-at : goal.invariant-loop-at
invariant-loop-at l = record {
  told : (ts : List Tree) → read_all (symbols_in ts l.symbols) l.place (forms_of l.bytes (drop l.at l.items)) (parameters_in l.store l.parameters) ≡ read_all (symbols_in ts l.symbols) l.place (forms_of l.bytes l.items) no_parameter;
  there : AreParametersIn l.store l.parameters;
  extends : Extends l.fn.store l.store;
}
