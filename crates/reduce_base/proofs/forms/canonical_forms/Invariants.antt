use Rattle.std.proofs.Common.{take}
use Rattle.std.specs.List.{AllZip}
use Rattle.qterm.specs.Store.{Extends}
use Rattle.qcanon.specs.Chain.{AreForms}
use Rattle.reduce_base.specs.Forms.{IsForm}
use Rattle.reduce_base.proofs.forms.canonical_forms.Given as goal

abbrev pub invariant-loop-formula : goal.invariant-loop-formula
invariant-loop-formula l = record {
  forms : AllZip (IsForm l.initial.store l.store) (take l.formula-index l.formulas) l.forms.items;
  table : AreForms l.store l.table;
  extends : Extends l.initial.store l.store;
}
