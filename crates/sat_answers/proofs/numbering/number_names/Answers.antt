use Rattle.std.proofs.Common.{sym, subst}
use Rattle.qterm.specs.Store.{trees_of}
use Rattle.qwalk.specs.Count.{AreApart}
use Rattle.sat_answers.proofs.Coding.{apart}
use Rattle.sat_answers.proofs.numbering.number_names.Goals as goal

pub numbers_of-requires : goal.numbers_of-requires
numbers_of-requires c = subst AreApart (sym c.as_slice.ensures.value) (apart c.args.store.now c.in_ok-vars.vars.items (trees_of c.args.store.now c.args.list.now) c.in_ok-vars.ensures.names)
