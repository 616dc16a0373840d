use Rattle.std.proofs.Common.{◌≡◌, ◌<◌, ◌≤◌, ◌∙◌, ◌+◌, length, get_or, take, ap, arith}
use Rattle.qterm.specs.Store.{trees_of}
use Rattle.qsubst.specs.Names.{names_of}
use Rattle.qsubst.specs.Fresh.{is_taken, texts_of}
use Rattle.name_bounds.proofs.Lacking.{name_at_place, as_many_names}
use Rattle.shift_lists.proofs.Freshness.{names_taken_more, take_names}
use Rattle.bit_lists.proofs.taking.texts_in.Goals as goal

pub loop-name-preserved : goal.loop-name-preserved
loop-name-preserved c =
    let S = c.args.store.now in
    let F = trees_of S c.args.list.now in
    let ns = c.in_ok-names.names.items in
    let k = c.loop-name.name-index in
    let i = c.name-item.result in
    let a : i ≡ get_or ns k i = c.name-item.is ∙ ap (λ us. get_or us k i) c.as_slice-name-items.ensures.value in
    let l : k < length ns = omega (arith, c.loop-name-test.true, ap length c.as_slice-name-items.ensures.value) in
    let n = name_at_place S ns (names_of F) k i c.in_ok-names.ensures.names l a in
    names_taken_more c.loop-name.taken c.take_name.new.taken (take k (names_of F)) (take (k + 1) (names_of F)) n.name n.taken c.loop-name.invariant (c.in_ok-take_name.ensures n.name n.is)

pub returns : goal.returns
returns c t =
    let S = c.args.store.now in
    let F = trees_of S c.args.list.now in
    let ns = c.in_ok-names.names.items in
    let l : length (names_of F) ≤ c.loop-name.name-index = omega (arith, c.loop-name-test.false, ap length c.as_slice-name-items.ensures.value, as_many_names S ns (names_of F) c.in_ok-names.ensures.names) in
    c.loop-name.invariant t ∙ ap (λ ms. is_taken (texts_of ms) t) (take_names (names_of F) c.loop-name.name-index l)
