use Rattle.std.proofs.Common.{◌≡◌, ◌++◌, take, All}
use Rattle.qterm.specs.declared.name.Sort.TheVariants as sort
use Rattle.qterm.specs.Store.{trees_of, HasSort, Extends}
use Rattle.qsubst.specs.Names.{names_of}
use Rattle.name_bounds.specs.Missing.{all_missing}
use Rattle.name_bounds.proofs.adding.bounded.Given as goal

abbrev pub invariant-loop-name : goal.invariant-loop-name
invariant-loop-name l = record {
  extends : Extends l.initial.store l.store;
  all : trees_of l.store l.all.items ≡ trees_of l.initial.store l.list ++ all_missing l.fn.lower l.fn.upper (trees_of l.initial.store l.list) (take l.name-index (names_of (trees_of l.initial.store l.list)));
  formulas : All (HasSort sort.Bool l.store) l.all.items;
}
