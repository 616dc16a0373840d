use Rattle.std.proofs.Common.{sym, subst, ◌∙◌}
use Rattle.qterm.specs.Store.{trees_of}
use Rattle.qterm.proofs.KidsLaws.{length-trees_of}
use Rattle.tac_cert.specs.declared.cert.Proof.{Proof}
use Rattle.tac_cert.specs.Accepts.{Closes, ProofFits, as_items, most_splits}
use Rattle.deriv.specs.Outcome.{goal_trees}
use Rattle.proof_conv.proofs.Flatness.{flat_nest}
use Rattle.check_answer.specs.Reached.{formulas_of}
use Rattle.check_answer.proofs.Refutations.{converter_closes, leads_leaves}
use Rattle.check_answer.proofs.refuting.refuted.Goals as goal

pub close-requires-clause-can : goal.close-requires-clause-can
close-requires-clause-can c = converter_closes c.args.proofs.0 (goal_trees c.args.store.now c.args.goals.now) c.requires.proofs.closes c.requires.unsat

pub close-requires-clause-nested : goal.close-requires-clause-nested
close-requires-clause-nested c =
    flat_nest c.args.proofs.0 c.args._above.now c.in-Ok.certs.items (converter_closes c.args.proofs.0 (goal_trees c.args.store.now c.args.goals.now) c.requires.proofs.closes c.requires.unsat)
    c.requires.proofs.nests c.requires.proofs.allowed c.in-Ok.ensures.flat (c.in-Ok.ensures.each ∙ sym c.requires.proofs.counted)

pub returns-in_ok-count_of-in-Ok-clause-refuted : goal.returns-in_ok-count_of-in-Ok-clause-refuted
returns-in_ok-count_of-in-Ok-clause-refuted c =
    let ts = c.args.store.now in
    let ids = c.args.asserts.now in
    let subgoals = formulas_of ts c.args.goals.now in
    let closes = converter_closes c.args.proofs.0 (goal_trees ts c.args.goals.now) c.requires.proofs.closes c.requires.unsat in
    let leaves = leads_leaves ts c.args.proofs.0 (trees_of ts ids) subgoals closes c.requires.proofs.leads in (
      c.renumber-cert.ensures.check,
      (
        c.renumber-cert.ensures.asserts ∙ c.in_ok-count_of-in-Ok.ensures ∙ sym (length-trees_of ts ids),
        subst (λ (p : Proof). Closes ts most_splits (as_items (trees_of ts ids)) p) (sym c.renumber-cert.ensures.root) (c.in_ok-cert-in-Ok.ensures.closes ts (trees_of ts ids) subgoals leaves c.in-Ok.ensures.accepted),
      ),
    )

pub returns-in_ok-count_of-in-Ok-clause-terms : goal.returns-in_ok-count_of-in-Ok-clause-terms
returns-in_ok-count_of-in-Ok-clause-terms c =
    let ts = c.args.store.now in
    let ids = c.args.asserts.now in
    let subgoals = formulas_of ts c.args.goals.now in
    let closes = converter_closes c.args.proofs.0 (goal_trees ts c.args.goals.now) c.requires.proofs.closes c.requires.unsat in
    let leaves = leads_leaves ts c.args.proofs.0 (trees_of ts ids) subgoals closes c.requires.proofs.leads in
    subst (λ (p : Proof). ProofFits ts most_splits p) (sym c.renumber-cert.ensures.root) (c.in_ok-cert-in-Ok.ensures.fits ts (trees_of ts ids) subgoals leaves c.in-Ok.ensures.terms)

pub returns-in_ok-count_of-in-Ok-clause-unsat : goal.returns-in_ok-count_of-in-Ok-clause-unsat
returns-in_ok-count_of-in-Ok-clause-unsat c =
    let ts = c.args.store.now in
    let ids = c.args.asserts.now in
    let subgoals = formulas_of ts c.args.goals.now in
    let closes = converter_closes c.args.proofs.0 (goal_trees ts c.args.goals.now) c.requires.proofs.closes c.requires.unsat in
    let leaves = leads_leaves ts c.args.proofs.0 (trees_of ts ids) subgoals closes c.requires.proofs.leads in
    c.accepted_is_unsatisfiable.ensures (
      c.renumber-cert.ensures.asserts ∙ c.in_ok-count_of-in-Ok.ensures ∙ sym (length-trees_of ts ids),
      subst (λ (p : Proof). Closes ts most_splits (as_items (trees_of ts ids)) p) (sym c.renumber-cert.ensures.root) (c.in_ok-cert-in-Ok.ensures.closes ts (trees_of ts ids) subgoals leaves c.in-Ok.ensures.accepted),
    )
