use Rattle.std.proofs.Common.{◌≡◌, drop}
use Rattle.strat_text.specs.Form.{forms_of}
use Rattle.smt_names.specs.Text.{may_be_terms}
use Rattle.smt_names.proofs.form.may_be_terms.Given as goal

abbrev pub invariant-loop-item : goal.invariant-loop-item
invariant-loop-item l = may_be_terms (forms_of l.bytes l.items) ≡ may_be_terms (forms_of l.bytes (drop l.item-index l.items))
