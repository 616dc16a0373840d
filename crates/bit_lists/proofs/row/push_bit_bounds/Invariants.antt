use Rattle.std.proofs.Common.{◌≡◌, ◌++◌, drop, All}
use Rattle.qterm.specs.declared.name.Sort.TheVariants as sort
use Rattle.qterm.specs.Store.{HasSort, Extends, trees_of}
use Rattle.bit_lists.specs.Row.{bit_bounds}
use Rattle.bit_lists.proofs.row.push_bit_bounds.Given as goal

abbrev pub invariant-loop-bit : goal.invariant-loop-bit
invariant-loop-bit l = record {
  extends : Extends l.initial.store l.store;
  sorts : All (HasSort sort.Bool l.store) l.formulas.items;
  so_far : trees_of l.store l.formulas.items ++ bit_bounds (drop l.bit-index l.bits) ≡ trees_of l.initial.store l.initial.formulas.items ++ bit_bounds l.bits;
}
