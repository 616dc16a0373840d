use Rattle.std.proofs.Common.{[], sym, subst}
use Rattle.std.specs.List.{AllZip}
use Rattle.qterm.proofs.Extending.{Extends_refl, Extends_trans}
use Rattle.reduce_base.specs.Forms.{IsForm}
use Rattle.reduce_base.proofs.Forming.{forms_more, names_fault, has_at}
use Rattle.reduce_base.proofs.forms.canonical_forms.Goals as goal

pub loop-formula-init : goal.loop-formula-init
loop-formula-init c = record {
  forms = subst (AllZip (IsForm c.args.store.now c.args.store.now) []) (sym c.new-forms.ensures.items) tt;
  table = c.new-table.ensures.right c.args.store.now;
  extends = Extends_refl c.args.store.now;
}

pub returns-in-Err-clause-fault : goal.returns-in-Err-clause-fault
returns-in-Err-clause-fault c =
    let ts = c.args.store.now in
    let is = c.args.formulas.now in
    let k = c.loop-formula.formula-index in
    let f = c.formula-item.result in
    let i = c.loop-formula.invariant in
    names_fault ts c.loop-formula.store c.canon_with.new.store is c.loop-formula.forms.items k f c.in-Err.e i.forms c.loop-formula-test.true c.formula-item.is
    (i.extends.same f (has_at ts is k f c.requires.has c.loop-formula-test.true c.formula-item.is)) c.in-Err.ensures.too_wide

pub loop-formula-preserved : goal.loop-formula-preserved
loop-formula-preserved c =
    let ts = c.args.store.now in
    let us = c.loop-formula.store in
    let vs = c.canon_with.new.store in
    let is = c.args.formulas.now in
    let k = c.loop-formula.formula-index in
    let f = c.formula-item.result in
    let i = c.loop-formula.invariant in
    let e = c.in-Ok.ensures in
    record {
      forms = forms_more ts us vs is c.loop-formula.forms.items c.push.new.self.items k f c.in-Ok.form e.extends c.loop-formula-test.true c.formula-item.is i.forms
          (i.extends.same f (has_at ts is k f c.requires.has c.loop-formula-test.true c.formula-item.is)) e.canonical c.in-Ok-push.ensures.items;
      table = e.forms;
      extends = Extends_trans ts us vs i.extends e.extends;
    }
