use Rattle.qterm.specs.Store.{tree_at}
use Rattle.qcanon.proofs.Known.{form_answer}
use Rattle.qcanon.proofs.forms.Forms.note_form.Goals as goal

pub returns-in_err-keep : goal.returns-in_err-keep
returns-in_err-keep c = record {
  right = λ ts f h r.
      let q = form_answer ts (tree_at ts c.args.id) c.args.found.now c.in-Found.outcome c.in-Canonical.form c.in-Found.is c.in-Canonical.is r in
      c.in_err-keep.ensures.right ts f q.0 q.1;
}

pub returns : goal.returns
returns c = record {
  right = λ ts f h r.
      let q = form_answer ts (tree_at ts c.args.id) c.args.found.now c.in-Found.outcome c.in-Canonical.form c.in-Found.is c.in-Canonical.is r in
      c.in_ok-keep.ensures.right ts f q.0 q.1;
}
