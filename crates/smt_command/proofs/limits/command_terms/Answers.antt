use Rattle.std.proofs.Common.{◌∙◌, map, All, sym, ap, subst}
use Rattle.qterm.specs.Store.{Has, trees_of}
use Rattle.smt_words.specs.declared.command.Asked.{Asked}
use Rattle.smt_command.specs.Given.{AreAsked}
use Rattle.smt_command.proofs.Shallow.{asked_terms, asked_has}
use Rattle.smt_command.proofs.limits.command_terms.Goals as goal

pub returns-in_ok-ids-in-GetValue-clause-terms : goal.returns-in_ok-ids-in-GetValue-clause-terms
returns-in_ok-ids-in-GetValue-clause-terms c = λ ts.
    rw c.in-GetValue.is (ap (trees_of ts) (c.in_ok-ids-in-GetValue.ensures ∙ ap (map (λ (a : Asked). a.term)) c.as_slice.ensures) ∙ asked_terms ts c.in-GetValue.asked)

pub returns-in_ok-ids-in-GetValue-clause-has : goal.returns-in_ok-ids-in-GetValue-clause-has
returns-in_ok-ids-in-GetValue-clause-has c = λ ts h.
    let asked : AreAsked ts c.in-GetValue.asked = rw c.in-GetValue.is at h in
    subst (All (Has ts)) (sym (c.in_ok-ids-in-GetValue.ensures ∙ ap (map (λ (a : Asked). a.term)) c.as_slice.ensures)) (asked_has ts c.in-GetValue.asked asked)
