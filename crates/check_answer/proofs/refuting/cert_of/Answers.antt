use Rattle.std.proofs.Common.{◌≡◌, ℕ, List, Some, length, ap, sym, subst, ◌∙◌}
use Rattle.qterm.specs.Store.{trees_of}
use Rattle.qterm.proofs.KidsLaws.{length-trees_of}
use Rattle.check_answer.specs.Reached.{IsFalseAt}
use Rattle.check_answer.proofs.Refutations.{false_item}
use Rattle.check_answer.proofs.refuting.cert_of.Goals as goal

pub returns-clause-accepted : goal.returns-clause-accepted
returns-clause-accepted c =
    let ts = c.args.store.now in
    let ids = c.args.goal.now.formulas in
    let at = subst (λ (is : List ℕ). IsFalseAt ts is (Some c.in-Some.place)) c.as_slice-formulas.ensures c.in-Some.ensures in
    let count : c.in_ok-count.count ≡ length (trees_of ts ids) = c.in_ok-count.ensures ∙ ap length c.as_slice-formulas.ensures ∙ sym (length-trees_of ts ids) in
    c.by_false.ensures.accepted ts (trees_of ts ids) count (false_item ts ids c.in-Some.place at.0 at.1)
