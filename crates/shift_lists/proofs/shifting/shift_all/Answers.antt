use Rattle.std.proofs.Common.{◌≡◌, ◌<◌, ◌≤◌, ◌∙◌, ◌+◌, length, get_or, take, sym, ap, subst, arith}
use Rattle.qterm.specs.declared.name.Sort.TheVariants as sort
use Rattle.qterm.specs.Store.{trees_of, Has, HasSort}
use Rattle.qterm.proofs.Alls.{All-weaker}
use Rattle.qwalk.specs.Walk.{same_id}
use Rattle.std.specs.HashMap.{get}
use Rattle.qterm.proofs.Fitting.{All_HasSort_extends}
use Rattle.qterm.proofs.Extending.{Extends_trans, trees_of_extends}
use Rattle.qsubst.specs.Names.{names_of}
use Rattle.qsubst.specs.Substitution.{replaced_each, images_at}
use Rattle.shift_lists.specs.Steps.{low_at}
use Rattle.name_bounds.proofs.Lacking.{name_at_place, as_many_names}
use Rattle.shift_lists.proofs.Adding.{has_more, shifts_all, looks_replaced}
use Rattle.shift_lists.proofs.shifting.shift_all.Goals as goal

pub loop-name-preserved : goal.loop-name-preserved
loop-name-preserved c =
    let S = c.args.store.now in
    let T = c.loop-name.store in
    let U = c.shift_name.new.store in
    let F = trees_of S c.args.list.now in
    let ns = c.in_ok-names.names.items in
    let k = c.loop-name.name-index in
    let i = c.name-item.result in
    let so = c.loop-name.invariant in
    let a : i ≡ get_or ns k i = c.name-item.is ∙ ap (λ us. get_or us k i) c.as_slice-name-items.ensures.value in
    let l : k < length ns = omega (arith, c.loop-name-test.true, ap length c.as_slice-name-items.ensures.value) in
    let n = name_at_place S ns (names_of F) k i c.in_ok-names.ensures.names l a in
    let h : Has S i = subst (Has S) (sym a) (c.in_ok-names.ensures.has k i l) in
    let b = ap (λ r. r.low) (c.in_ok-table.ensures i n.name h n.is) in
    record {
      extends = Extends_trans S T U so.extends c.shift_name.ensures.extends;
      images = c.in_ok-shift_name.ensures.images;
      shifts =
          has_more c.args.taken.now c.loop-name.taken c.shift_name.new.taken T U F (take k (names_of F)) (take (k + 1) (names_of F)) n.name (low_at (get same_id c.in_ok-table.table) i) c.loop-name.images c.shift_name.new.images c.loop-name.shifts.items
          c.shift_name.new.shifts.items c.shift_name.ensures.extends so.images n.taken b (c.in_ok-shift_name.ensures.step n.name (so.extends.same i h ∙ n.is)) so.shifts;
    }

pub returns-clause-shifts : goal.returns-clause-shifts
returns-clause-shifts c =
    let S = c.args.store.now in
    let F = trees_of S c.args.list.now in
    let ns = c.in_ok-names.names.items in
    let l : length (names_of F) ≤ c.loop-name.name-index = omega (arith, c.loop-name-test.false, ap length c.as_slice-name-items.ensures.value, as_many_names S ns (names_of F) c.in_ok-names.ensures.names) in
    shifts_all c.args.taken.now c.loop-name.store F c.loop-name.name-index c.loop-name.taken c.loop-name.images c.loop-name.shifts.items l c.loop-name.invariant.shifts

pub returns-clause-replaced : goal.returns-clause-replaced
returns-clause-replaced c =
    let S = c.args.store.now in
    let T = c.loop-name.store in
    let same : trees_of T c.args.list.now ≡ trees_of S c.args.list.now = trees_of_extends S T c.args.list.now c.loop-name.invariant.extends (All-weaker (HasSort sort.Bool S) (Has S) c.args.list.now (λ i a. a.0) c.requires.formulas) in
    c.in_ok-replaced.ensures.replaced ∙ ap (replaced_each (images_at T c.loop-name.images)) same
    ∙ looks_replaced T c.loop-name.images c.loop-name.shifts.items (trees_of S c.args.list.now) c.loop-name.invariant.shifts.looks

pub returns-clause-formulas : goal.returns-clause-formulas
returns-clause-formulas c =
    c.in_ok-replaced.ensures.sorts sort.Bool (All_HasSort_extends sort.Bool c.args.store.now c.loop-name.store c.args.list.now c.loop-name.invariant.extends c.requires.formulas)
