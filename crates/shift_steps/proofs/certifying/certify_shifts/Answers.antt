use Rattle.std.proofs.Common.{◌≡◌, sym, subst, arith}
use Rattle.std.specs.HashMap.{get}
use Rattle.qterm.specs.declared.name.Sort.TheVariants as sort
use Rattle.qterm.specs.Store.{Has, HasSort, trees_of}
use Rattle.qterm.proofs.Alls.{All-weaker}
use Rattle.qterm.proofs.Extending.{trees_of_extends}
use Rattle.qwalk.specs.Walk.{same_id}
use Rattle.qsubst.specs.Substitution.{replaced_each}
use Rattle.tac_cert.specs.Accepts.{as_items}
use Rattle.proof_conv.specs.Leaves.{StepsLeave}
use Rattle.shift_lists.specs.Shifts.{images_of}
use Rattle.shift_steps.specs.Replacing.{AllShift}
use Rattle.shift_steps.proofs.Leaving.{are_formulas, narrow, shallow, leaves, holds_none}
use Rattle.shift_steps.proofs.Moving.{as_many_trees}
use Rattle.shift_steps.proofs.certifying.certify_shifts.Goals as goal

pub returns-then-list-clause-shallow : goal.returns-then-list-clause-shallow
returns-then-list-clause-shallow c =
    let S = c.args.store.now in
    shallow (trees_of S c.args._goal.now) (trees_of S c.args.list.now) c.args.shifts.now (are_formulas S c.args._goal.now c.is_lawful.ensures c.requires.goal) c.requires.shallow c.requires.canonical c.requires.shifts

pub define_all-requires-clause-narrow : goal.define_all-requires-clause-narrow
define_all-requires-clause-narrow c =
    let S = c.args.store.now in
    narrow (trees_of S c.args._goal.now) (trees_of S c.args.list.now) c.args.shifts.now (are_formulas S c.args._goal.now c.is_lawful.ensures c.requires.goal) c.requires.shallow c.requires.canonical c.requires.shifts

pub returns-in_err-turns-clause-shallow : goal.returns-in_err-turns-clause-shallow
returns-in_err-turns-clause-shallow c =
    let S = c.args.store.now in
    shallow (trees_of S c.args._goal.now) (trees_of S c.args.list.now) c.args.shifts.now (are_formulas S c.args._goal.now c.is_lawful.ensures c.requires.goal) c.requires.shallow c.requires.canonical c.requires.shifts

pub returns-in_err-numbers-clause-shallow : goal.returns-in_err-numbers-clause-shallow
returns-in_err-numbers-clause-shallow c =
    let S = c.args.store.now in
    shallow (trees_of S c.args._goal.now) (trees_of S c.args.list.now) c.args.shifts.now (are_formulas S c.args._goal.now c.is_lawful.ensures c.requires.goal) c.requires.shallow c.requires.canonical c.requires.shifts

pub returns-in_err-push-clause-shallow : goal.returns-in_err-push-clause-shallow
returns-in_err-push-clause-shallow c =
    let S = c.args.store.now in
    shallow (trees_of S c.args._goal.now) (trees_of S c.args.list.now) c.args.shifts.now (are_formulas S c.args._goal.now c.is_lawful.ensures c.requires.goal) c.requires.shallow c.requires.canonical c.requires.shifts

pub returns-clause-leads : goal.returns-clause-leads
returns-clause-leads c =
    let S = c.args.store.now in
    let T = c.define_all.new.store in
    let g = trees_of S c.args._goal.now in
    let fs = trees_of S c.args.list.now in
    let ss = c.args.shifts.now in
    let same : trees_of T c.args.list.now ≡ fs = trees_of_extends S T c.args.list.now c.define_all.ensures.extends (All-weaker (HasSort sort.Bool S) (Has S) c.args.list.now (λ i a. a.0) c.requires.list) in
    subst (λ steps. StepsLeave T (as_items fs) steps (as_items (replaced_each (images_of ss) fs))) (sym c.in_ok-push.ensures.ok)
    (leaves g fs ss (are_formulas S c.args._goal.now c.is_lawful.ensures c.requires.goal) c.requires.shallow c.requires.canonical c.requires.shifts S T _ c.define_all.new.trace c.replace_all.new.trace (get same_id c.in_ok-turns.turns) c.in_ok-numbers.numbers
    (are_formulas S c.args.list.now c.is_lawful.ensures c.requires.list)
    (holds_none S fs _ c.new.ensures (let n = as_many_trees S c.args.list.now in omega (arith, n, c.if-list.false)))
    c.in_ok-turns.ensures.defined (subst (λ ts. AllShift T (get same_id c.in_ok-turns.turns) c.define_all.new.trace c.replace_all.new.trace ts c.in_ok-numbers.numbers) same c.in_ok-numbers.ensures))

pub returns-clause-shallow : goal.returns-clause-shallow
returns-clause-shallow c =
    let S = c.args.store.now in
    shallow (trees_of S c.args._goal.now) (trees_of S c.args.list.now) c.args.shifts.now (are_formulas S c.args._goal.now c.is_lawful.ensures c.requires.goal) c.requires.shallow c.requires.canonical c.requires.shifts
