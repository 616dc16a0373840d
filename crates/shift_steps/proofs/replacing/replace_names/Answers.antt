use Rattle.std.proofs.Common.{◌≡◌, ◌<◌, ◌≤◌, ◌∙◌, [], ◌∷◌, length, get_or, take, sym, ap, subst, arith}
use Rattle.std.specs.HashMap.{get}
use Rattle.qterm.specs.Store.{tree_at, Has}
use Rattle.qwalk.specs.Walk.{same_id}
use Rattle.qsubst.specs.Names.{names_of}
use Rattle.name_bounds.proofs.Lacking.{name_at_place, as_many_names}
use Rattle.shift_steps.proofs.Moving.{PartWay, part_none, part_more, part_end}
use Rattle.shift_steps.proofs.replacing.replace_names.Goals as goal

pub loop-name-init : goal.loop-name-init
loop-name-init c = λ fs ss ready f. part_none c.args.store.now fs ss c.args.trace.now c.args.number (tree_at c.args.store.now c.args.formula)

pub loop-name-preserved : goal.loop-name-preserved
loop-name-preserved c = λ fs ss ready isf.
    let S = c.args.store.now in
    let f = tree_at S c.args.formula in
    let ns = c.in_ok-names.names.items in
    let k = c.loop-name.name-index in
    let i = c.name-item.result in
    let a : i ≡ get_or ns k i = c.name-item.is ∙ ap (λ us. get_or us k i) c.as_slice-name-items.ensures.value in
    let l : k < length ns = omega (arith, c.loop-name-test.true, ap length c.as_slice-name-items.ensures.value) in
    let n = name_at_place S ns (names_of (f ∷ [])) k i c.in_ok-names.ensures.names l a in
    let h : Has S i = subst (Has S) (sym a) (c.in_ok-names.ensures.has k i l) in
    subst (PartWay S fs ss c.args.trace.now c.replace_name.new.trace c.args.number c.in_ok-last.last f) (sym n.taken)
    (part_more S fs ss (get same_id c.args.turns.now) ready f isf c.args.trace.now c.loop-name.trace c.replace_name.new.trace c.args.number c.loop-name.last c.in_ok-last.last i (take k (names_of (f ∷ []))) (c.loop-name.invariant fs ss ready isf) n.name
    c.is_distinct.ensures (record { has = h; is = n.is }) c.in_ok-last.ensures)

pub returns : goal.returns
returns c = λ fs ss ready isf.
    let S = c.args.store.now in
    let f = tree_at S c.args.formula in
    let l : length (names_of (f ∷ [])) ≤ c.loop-name.name-index = omega (arith, c.loop-name-test.false, ap length c.as_slice-name-items.ensures.value, as_many_names S c.in_ok-names.names.items (names_of (f ∷ [])) c.in_ok-names.ensures.names) in
    part_end S fs ss c.args.trace.now c.loop-name.trace c.args.number c.loop-name.last f c.loop-name.name-index l (c.loop-name.invariant fs ss ready isf)
