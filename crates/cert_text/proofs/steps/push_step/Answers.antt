use Rattle.std.proofs.Common.{◌++◌, ℕ, List, ap, ◌∙◌, append_assoc}
use Rattle.std.proofs.lemmas.Result.{on_ok_weaker}
use Rattle.qterm.specs.Tree.{Tree}
use Rattle.qterm.specs.Store.{trees_of}
use Rattle.qwalk.specs.Subterms.{subterms_of}
use Rattle.tac_cert.specs.Gives.{terms_of}
use Rattle.cert_text.specs.TermLines.{term_lines}
use Rattle.cert_text.specs.StepLines.{step_line, rule_word, arguments}
use Rattle.cert_text.proofs.Growing.{whole_line}
use Rattle.cert_text.proofs.steps.push_step.Goals as goal

pub returns-clause-text : goal.returns-clause-text
unfolding step_line
returns-clause-text c =
    let ts = c.args.store.now in
    let s = c.args.step.now in
    let known = trees_of ts c.args.lines.now in
    let now = trees_of ts c.push_terms_of.new.lines in
    let before = term_lines known (subterms_of (terms_of ts s)) in
    on_ok_weaker c.put-2.result
    (λ ends. whole_line c.push_terms_of.new.text.items c.put.new.text.items c.push_arguments.new.text.items c.put-2.new.text.items (rule_word s) (arguments ts now s)
    (c.in_ok-put.ensures ∙ ap (λ (bs : List ℕ). c.push_terms_of.new.text.items ++ bs) c.rule_word.ensures) c.in_ok-push_arguments.ensures ends
    ∙ ap (λ (bs : List ℕ). bs ++ step_line ts now s) c.in_ok-push_terms_of.ensures.text ∙ append_assoc c.args.text.now.items before (step_line ts now s)
    ∙ ap (λ (ks : List Tree). c.args.text.now.items ++ (before ++ step_line ts ks s)) c.in_ok-push_terms_of.ensures.known) c.put-2.ensures
