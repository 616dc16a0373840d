use Rattle.std.proofs.Common.{◌≡◌, Ok, sym, subst}
use Rattle.qlin.specs.CanonList.{canon_list}
use Rattle.qcanon.proofs.Sorted.{list_sorts}
use Rattle.tac_cert.specs.Accepts.{as_items}
use Rattle.proof_conv.specs.Leaves.{StepsLeave}
use Rattle.goal_depth.proofs.Lists.{list_shallow}
use Rattle.reducer_iface.specs.Listed.{IsListed}
use Rattle.std.specs.List.{AllZip}
use Rattle.qterm.specs.declared.name.Sort.TheVariants as sort
use Rattle.qterm.specs.Store.{Has, HasSort, trees_of}
use Rattle.qterm.proofs.Alls.{All-weaker}
use Rattle.qterm.proofs.Extending.{trees_of_extends}
use Rattle.qterm.proofs.Fitting.{All_HasSort_extends}
use Rattle.goal_depth.specs.Depths.{AreShallow}
use Rattle.reduce_base.specs.Fault.{IsFault}
use Rattle.reduce_base.specs.Forms.{IsForm}
use Rattle.reduce_base.proofs.Forming.{forms_now}
use Rattle.reduce_base.proofs.Tidying.{same_trees, are_formulas}
use Rattle.reduce_base.proofs.listing.list_goal.Goals as goal

pub list_forms-requires-clause-formulas : goal.list_forms-requires-clause-formulas
list_forms-requires-clause-formulas c = All_HasSort_extends sort.Bool c.args.store.now c.canonical_forms.new.store c.args.goal.now c.in-Ok.ensures.extends c.requires.formulas

pub list_forms-requires-clause-shallow : goal.list_forms-requires-clause-shallow
list_forms-requires-clause-shallow c =
    let has = All-weaker (HasSort sort.Bool c.args.store.now) (Has c.args.store.now) c.args.goal.now (λ i a. a.0) c.requires.formulas in
    subst AreShallow (sym (trees_of_extends c.args.store.now c.canonical_forms.new.store c.args.goal.now c.in-Ok.ensures.extends has)) c.requires.shallow

pub list_forms-requires-clause-forms : goal.list_forms-requires-clause-forms
list_forms-requires-clause-forms c =
    let us = c.canonical_forms.new.store in
    let has = All-weaker (HasSort sort.Bool c.args.store.now) (Has c.args.store.now) c.args.goal.now (λ i a. a.0) c.requires.formulas in
    subst (AllZip (IsForm us us) c.args.goal.now) (sym c.as_slice.ensures.value) (forms_now c.args.store.now us c.args.goal.now c.in-Ok.forms.items c.in-Ok.ensures.extends has c.in-Ok.ensures.forms)

pub returns-in-Ok-list_forms-clause-listed : goal.returns-in-Ok-list_forms-clause-listed
returns-in-Ok-list_forms-clause-listed c =
    let ts = c.args.store.now in
    let us = c.canonical_forms.new.store in
    let is = c.args.goal.now in
    let e = same_trees ts us is c.in-Ok.ensures.extends c.requires.formulas in
    subst (λ fs. IsListed c.args.most fs (trees_of us c.in-Ok-list_forms.listed.formulas)) e c.in-Ok-list_forms.ensures.listed

pub returns-in-Ok-list_forms-clause-formulas : goal.returns-in-Ok-list_forms-clause-formulas
returns-in-Ok-list_forms-clause-formulas c =
    let ts = c.args.store.now in
    let us = c.canonical_forms.new.store in
    let is = c.args.goal.now in
    let e = same_trees ts us is c.in-Ok.ensures.extends c.requires.formulas in
    list_sorts ts us is c.in-Ok-list_forms.listed.formulas c.is_lawful.ensures c.requires.formulas c.in-Ok-list_forms.ensures.has (subst (λ fs. canon_list fs ≡ Ok (trees_of us c.in-Ok-list_forms.listed.formulas)) e c.in-Ok-list_forms.ensures.listed.canonical)

pub returns-in-Ok-list_forms-clause-shallow : goal.returns-in-Ok-list_forms-clause-shallow
returns-in-Ok-list_forms-clause-shallow c =
    let ts = c.args.store.now in
    let us = c.canonical_forms.new.store in
    let is = c.args.goal.now in
    let e = same_trees ts us is c.in-Ok.ensures.extends c.requires.formulas in
    list_shallow (trees_of ts is) (trees_of us c.in-Ok-list_forms.listed.formulas) (are_formulas ts is c.is_lawful.ensures c.requires.formulas) c.requires.shallow (subst (λ fs. canon_list fs ≡ Ok (trees_of us c.in-Ok-list_forms.listed.formulas)) e c.in-Ok-list_forms.ensures.listed.canonical)

pub returns-in-Ok-list_forms-clause-leads : goal.returns-in-Ok-list_forms-clause-leads
returns-in-Ok-list_forms-clause-leads c =
    let ts = c.args.store.now in
    let us = c.canonical_forms.new.store in
    let is = c.args.goal.now in
    let e = same_trees ts us is c.in-Ok.ensures.extends c.requires.formulas in
    subst (λ fs. StepsLeave us (as_items fs) c.in-Ok-list_forms.listed.steps (as_items (trees_of us c.in-Ok-list_forms.listed.formulas))) e c.in-Ok-list_forms.ensures.leads

pub returns-in-Ok-clause-fault : goal.returns-in-Ok-clause-fault
returns-in-Ok-clause-fault c =
    let ts = c.args.store.now in
    let us = c.canonical_forms.new.store in
    let is = c.args.goal.now in
    let e = same_trees ts us is c.in-Ok.ensures.extends c.requires.formulas in
    subst (λ fs. IsFault c.args.most us fs c.in-Err-list_forms.fault) e c.in-Err-list_forms.ensures.fault
