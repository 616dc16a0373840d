use Rattle.std.proofs.Common.{◌≡◌, ◌∙◌, ℕ, None, Ok, map, All, ap, subst, sym}
use Rattle.std.specs.List.{AllZip}
use Rattle.qterm.specs.Store.{Has, tree_at, trees_of}
use Rattle.qlin.specs.CanonList.{canon_list}
use Rattle.qcanon.specs.Walk.{first_fault, id_of}
use Rattle.qcanon.specs.declared.chain.Answer.{Answer}
use Rattle.qcanon.specs.Chain.{IsAnswer, Links}
use Rattle.qcanon.proofs.Listing.{list_fault, list_found, have_each}
use Rattle.qcanon.proofs.Nesting.{sound_found, all_sound, all_linked}
use Rattle.qcanon.proofs.Sorted.{list_sorts}
use Rattle.qcanon.proofs.list.canon_list_with.Goals as goal

pub settle_all-requires-clause-sound : goal.settle_all-requires-clause-sound
settle_all-requires-clause-sound c =
    let ts = c.args.store.now in
    let us = c.fold_all.new.store in
    let R : ℕ → Answer → Type 0 = λ i a. IsAnswer us (tree_at ts i) a in
    all_sound us R c.args.list.now c.as_slice.result.now (λ i a h. sound_found us (tree_at ts i) a h) (subst (AllZip R c.args.list.now) (sym c.as_slice.ensures.value) c.in_ok-answers.ensures.right)

pub returns-in-Some-clause-too_wide : goal.returns-in-Some-clause-too_wide
returns-in-Some-clause-too_wide c =
    let ts = c.args.store.now in
    let us = c.fold_all.new.store in
    let vs = c.settle_all.new.store in
    let bs = c.in_ok-answers.answers.items in
    let os = c.in_ok-outs.outs.items in
    let z = all_linked us vs None (tree_at ts) c.args.list.now bs os c.in_ok-answers.ensures.right (subst (λ xs. AllZip (Links us vs None) xs os) c.as_slice.ensures.value c.in_ok-outs.ensures.links) in
    list_fault ts vs c.args.list.now os c.in-Some.term z (ap first_fault (sym c.as_slice-2.ensures.value) ∙ sym c.in-Some.ensures)

pub tidied-requires : goal.tidied-requires
tidied-requires c =
    let ts = c.args.store.now in
    let us = c.fold_all.new.store in
    let vs = c.settle_all.new.store in
    let bs = c.in_ok-answers.answers.items in
    let os = c.in_ok-outs.outs.items in
    let z = all_linked us vs None (tree_at ts) c.args.list.now bs os c.in_ok-answers.ensures.right (subst (λ xs. AllZip (Links us vs None) xs os) c.as_slice.ensures.value c.in_ok-outs.ensures.links) in
    let k : c.as_slice-4.result.now ≡ map id_of os = c.as_slice-4.ensures.value ∙ c.in_ok-ids.ensures ∙ ap (map id_of) c.as_slice-3.ensures.value in
    record { has = subst (All (Has vs)) (sym k) (have_each ts vs c.args.list.now os z) }

listed : (c : goal.After-drop-answers-2) → canon_list (trees_of c.args.store.now c.args.list.now) ≡ Ok (trees_of c.settle_all.new.store c.from_vec.result)
listed c =
    let ts = c.args.store.now in
    let us = c.fold_all.new.store in
    let vs = c.settle_all.new.store in
    let bs = c.in_ok-answers.answers.items in
    let os = c.in_ok-outs.outs.items in
    let z = all_linked us vs None (tree_at ts) c.args.list.now bs os c.in_ok-answers.ensures.right (subst (λ xs. AllZip (Links us vs None) xs os) c.as_slice.ensures.value c.in_ok-outs.ensures.links) in
    let k : c.as_slice-4.result.now ≡ map id_of os = c.as_slice-4.ensures.value ∙ c.in_ok-ids.ensures ∙ ap (map id_of) c.as_slice-3.ensures.value in
    let f : first_fault os ≡ None = ap first_fault (sym c.as_slice-2.ensures.value) ∙ sym c.in_default.ensures in
    list_found ts vs c.args.list.now os c.as_slice-4.result.now c.from_vec.result z f k (ap (trees_of vs) c.from_vec.ensures ∙ c.in_ok-parts.ensures.same)

pub returns-clause-listed : goal.returns-clause-listed
returns-clause-listed c = listed c

pub returns-clause-formulas : goal.returns-clause-formulas
returns-clause-formulas c =
    let vs = c.settle_all.new.store in
    let has : All (Has vs) c.from_vec.result = subst (All (Has vs)) (sym c.from_vec.ensures) c.in_ok-parts.ensures.has in
    λ h. list_sorts c.args.store.now vs c.args.list.now c.from_vec.result c.is_lawful.ensures h has (listed c)
