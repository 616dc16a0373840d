use Rattle.std.proofs.Common.{◌≤◌, ◌∙◌, length, sym, subst, arith}
use Rattle.qterm.specs.Store.{Has}
use Rattle.qsubst.specs.Names.{names_of}
use Rattle.name_bounds.proofs.Lacking.{name_at_place, as_many_names}
use Rattle.bit_lists.specs.Splits.{refusal_of}
use Rattle.bit_lists.proofs.Making.{first_next, first_found, first_none}
use Rattle.bit_lists.proofs.refusing.first_refusal.Goals as goal

pub returns-in-Some : goal.returns-in-Some
returns-in-Some c fs e r =
    let S = c.args.store.now in
    let ns = c.args.names.now in
    let k = c.loop-name.name-index in
    let i = c.name-item.result in
    let n = name_at_place S ns (names_of fs) k i e c.loop-name-test.true c.name-item.is in
    let h : Has S i = subst (Has S) (sym c.name-item.is) (c.requires.has k i c.loop-name-test.true) in
    first_found (refusal_of c.args.most fs) (names_of fs) k n.name c.in_ok-refusal.field-0 c.in-Some.refusal n.taken (c.loop-name.invariant fs e r) (c.in_ok-refusal.ensures n.name fs n.is (c.range_at.ensures ∙ r i n.name h n.is)) c.in-Some.is

pub loop-name-preserved : goal.loop-name-preserved
loop-name-preserved c fs e r =
    let S = c.args.store.now in
    let ns = c.args.names.now in
    let k = c.loop-name.name-index in
    let i = c.name-item.result in
    let n = name_at_place S ns (names_of fs) k i e c.loop-name-test.true c.name-item.is in
    let h : Has S i = subst (Has S) (sym c.name-item.is) (c.requires.has k i c.loop-name-test.true) in
    first_next (refusal_of c.args.most fs) (names_of fs) k n.name c.in_ok-refusal.field-0 n.taken (c.loop-name.invariant fs e r) (c.in_ok-refusal.ensures n.name fs n.is (c.range_at.ensures ∙ r i n.name h n.is)) c.in-None.is

pub returns : goal.returns
returns c fs e r =
    let l : length (names_of fs) ≤ c.loop-name.name-index = omega (arith, c.loop-name-test.false, as_many_names c.args.store.now c.args.names.now (names_of fs) e) in
    first_none (refusal_of c.args.most fs) (names_of fs) c.loop-name.name-index l (c.loop-name.invariant fs e r)
