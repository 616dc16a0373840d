use Rattle.std.proofs.Common.{◌≡◌, ◌∙◌, Ok, sym, ap, subst}
use Rattle.qterm.specs.Store.{trees_of}
use Rattle.qterm.proofs.Extending.{Extends_trans}
use Rattle.qlin.specs.CanonList.{canon_list}
use Rattle.qlist_laws.specs.Formulas.{AreFormulas}
use Rattle.qsubst.specs.Substitution.{replaced_each}
use Rattle.tac_cert.specs.Accepts.{as_items}
use Rattle.goal_depth.specs.Depths.{AreShallow}
use Rattle.proof_conv.specs.Leaves.{StepsLeave}
use Rattle.reduce_base.proofs.Tidying.{same_trees}
use Rattle.shift_lists.specs.Shifts.{images_of, AreShifts}
use Rattle.shift_lists.specs.Lifting.{lifting}
use Rattle.tac_normal.proofs.Shifting.{same_shifts, three_lead, not_normal}
use Rattle.tac_normal.proofs.normalizing.normalize.Goals as goal

pub certify_shifts-requires-clause-shallow : goal.certify_shifts-requires-clause-shallow
certify_shifts-requires-clause-shallow c =
    let S = c.args.store.now in
    let U = c.shift_names.new.store in
    let gi = c.args.goal.now in
    let sameg : trees_of U gi ≡ trees_of S gi = same_trees S U gi c.shift_names.ensures.extends c.requires.goal in
    subst AreShallow (sym sameg) c.requires.shallow

pub certify_shifts-requires-clause-canonical : goal.certify_shifts-requires-clause-canonical
certify_shifts-requires-clause-canonical c =
    let S = c.args.store.now in
    let U = c.shift_names.new.store in
    let gi = c.args.goal.now in
    let li = c.args.listed.formulas in
    let sameg : trees_of U gi ≡ trees_of S gi = same_trees S U gi c.shift_names.ensures.extends c.requires.goal in
    let list : trees_of U c.as_slice-2.result.now ≡ trees_of S li = ap (trees_of U) c.as_slice-2.ensures ∙ same_trees S U li c.shift_names.ensures.extends c.requires.formulas in
    ap canon_list sameg ∙ c.requires.canonical ∙ ap Ok (sym list)

pub certify_shifts-requires-clause-shifts : goal.certify_shifts-requires-clause-shifts
certify_shifts-requires-clause-shifts c =
    let S = c.args.store.now in
    let U = c.shift_names.new.store in
    let gi = c.args.goal.now in
    let li = c.args.listed.formulas in
    let sameg : trees_of U gi ≡ trees_of S gi = same_trees S U gi c.shift_names.ensures.extends c.requires.goal in
    let list : trees_of U c.as_slice-2.result.now ≡ trees_of S li = ap (trees_of U) c.as_slice-2.ensures ∙ same_trees S U li c.shift_names.ensures.extends c.requires.formulas in
    let sh = c.in_ok-shifted.shifted.shifts.items in
    let are : AreShifts (trees_of S gi) (trees_of S li) sh = subst (λ is. AreShifts (trees_of S gi) (trees_of S is) sh) c.as_slice.ensures c.in_ok-shifted.ensures.shifts in
    same_shifts (trees_of S gi) (trees_of U gi) (trees_of S li) (trees_of U c.as_slice-2.result.now) sh c.as_slice-3.result.now (sym sameg) (sym list) (sym c.as_slice-3.ensures.value) are

pub list_goal-requires-clause-shallow : goal.list_goal-requires-clause-shallow
list_goal-requires-clause-shallow c =
    let S = c.args.store.now in
    let U = c.shift_names.new.store in
    let li = c.args.listed.formulas in
    let list : trees_of U c.as_slice-2.result.now ≡ trees_of S li = ap (trees_of U) c.as_slice-2.ensures ∙ same_trees S U li c.shift_names.ensures.extends c.requires.formulas in
    let sh = c.in_ok-shifted.shifted.shifts.items in
    let V = c.certify_shifts.new.store in
    let R = replaced_each (images_of sh) (trees_of S li) in
    let shown : trees_of V c.as_slice-5.result.now ≡ R =
    ap (trees_of V) c.as_slice-5.ensures.value ∙ same_trees U V c.in_ok-shifted.shifted.formulas.items c.certify_shifts.ensures.extends c.in_ok-shifted.ensures.formulas ∙ c.in_ok-shifted.ensures.replaced
    ∙ ap (λ is. replaced_each (images_of sh) (trees_of S is)) c.as_slice.ensures in
    let put : replaced_each (images_of c.as_slice-3.result.now) (trees_of U c.as_slice-2.result.now) ≡ R = λ i. replaced_each (images_of (c.as_slice-3.ensures.value i)) (list i) in
    subst AreShallow (put ∙ sym shown) c.certify_shifts.ensures.shallow

pub returns-in-Ok-clause-normal : goal.returns-in-Ok-clause-normal
returns-in-Ok-clause-normal c =
    let S = c.args.store.now in
    let U = c.shift_names.new.store in
    let gi = c.args.goal.now in
    let li = c.args.listed.formulas in
    let list : trees_of U c.as_slice-2.result.now ≡ trees_of S li = ap (trees_of U) c.as_slice-2.ensures ∙ same_trees S U li c.shift_names.ensures.extends c.requires.formulas in
    let sh = c.in_ok-shifted.shifted.shifts.items in
    let are : AreShifts (trees_of S gi) (trees_of S li) sh = subst (λ is. AreShifts (trees_of S gi) (trees_of S is) sh) c.as_slice.ensures c.in_ok-shifted.ensures.shifts in
    let V = c.certify_shifts.new.store in
    let R = replaced_each (images_of sh) (trees_of S li) in
    let shown : trees_of V c.as_slice-5.result.now ≡ R =
    ap (trees_of V) c.as_slice-5.ensures.value ∙ same_trees U V c.in_ok-shifted.shifted.formulas.items c.certify_shifts.ensures.extends c.in_ok-shifted.ensures.formulas ∙ c.in_ok-shifted.ensures.replaced
    ∙ ap (λ is. replaced_each (images_of sh) (trees_of S is)) c.as_slice.ensures in
    let put : replaced_each (images_of c.as_slice-3.result.now) (trees_of U c.as_slice-2.result.now) ≡ R = λ i. replaced_each (images_of (c.as_slice-3.ensures.value i)) (list i) in
    let W = c.list_goal.new.store in
    let out = trees_of W c.in-Ok.last.formulas in
    let turned = subst (λ x. StepsLeave V (as_items (trees_of S li)) c.in_ok-turned.turned (as_items x)) put (subst (λ x. StepsLeave V (as_items x) c.in_ok-turned.turned (as_items (replaced_each (images_of c.as_slice-3.result.now) (trees_of U c.as_slice-2.result.now)))) list c.in_ok-turned.ensures.leads) in
    let last = subst (λ x. StepsLeave W (as_items x) c.in-Ok.last.steps (as_items out)) shown c.in-Ok.ensures.leads in
    let grown = Extends_trans S V W (Extends_trans S U V c.shift_names.ensures.extends c.certify_shifts.ensures.extends) c.list_goal.ensures.extends in
    record {
      shifts = sh;
      are = are;
      lawful = subst AreFormulas shown c.in-Ok.ensures.listed.formulas;
      canonical = ap canon_list (sym shown) ∙ c.in-Ok.ensures.listed.canonical;
      formulas = c.in-Ok.ensures.formulas;
      shallow = c.in-Ok.ensures.shallow;
      leads = three_lead S V W (trees_of S gi) (trees_of S li) R out c.args.listed.steps c.in_ok-turned.turned c.in-Ok.last.steps c.append.new.self c.append-in-Ok.new.self grown c.list_goal.ensures.extends c.requires.leads turned last c.in_ok-append.ensures c.in_ok-append-in-Ok.ensures;
      lifts = c.in_ok-lifts.ensures.steps ∙ ap lifting c.as_slice-4.ensures.value;
      can_lift = c.in_ok-lifts.ensures.lawful;
    }

pub returns-clause-fault : goal.returns-clause-fault
returns-clause-fault c =
    let S = c.args.store.now in
    let U = c.shift_names.new.store in
    let gi = c.args.goal.now in
    let li = c.args.listed.formulas in
    let sh = c.in_ok-shifted.shifted.shifts.items in
    let are : AreShifts (trees_of S gi) (trees_of S li) sh = subst (λ is. AreShifts (trees_of S gi) (trees_of S is) sh) c.as_slice.ensures c.in_ok-shifted.ensures.shifts in
    let V = c.certify_shifts.new.store in
    let R = replaced_each (images_of sh) (trees_of S li) in
    let shown : trees_of V c.as_slice-5.result.now ≡ R =
    ap (trees_of V) c.as_slice-5.ensures.value ∙ same_trees U V c.in_ok-shifted.shifted.formulas.items c.certify_shifts.ensures.extends c.in_ok-shifted.ensures.formulas ∙ c.in_ok-shifted.ensures.replaced
    ∙ ap (λ is. replaced_each (images_of sh) (trees_of S is)) c.as_slice.ensures in
    not_normal _ c.list_goal.new.store (trees_of V c.as_slice-5.result.now) (trees_of S gi) (trees_of S li) sh c.in-Err.fault c.without_limit.result c.without_limit.ensures shown are c.in-Err.ensures.fault
