use Rattle.std.proofs.Common.{subst}
use Rattle.qterm.specs.Store.{tree_at}
use Rattle.qsubst.specs.Substitution.{images_at}
use Rattle.smt_theory.specs.Plain.{IsPlain}
use Rattle.smt_expand.specs.Expanded.{expanded}
use Rattle.qsubst.proofs.Rebuilding.{images_extend}
use Rattle.smt_expand.proofs.expanding.put_images.Goals as goal

pub returns-clause-expanded : goal.returns-clause-expanded
returns-clause-expanded c =
    let us = c.fold_terms.new.store in
    let old = c.args.store.now in
    subst (λ s. IsPlain us (expanded s (tree_at old c.args.body)) c.in_ok-found.found) (images_extend old us c.args.images.now c.fold_terms.ensures.extends c.requires.images)
    (subst (λ es. IsPlain us (expanded (images_at us es) (tree_at old c.args.body)) c.in_ok-found.found) c.fold_terms.ensures.task c.in_ok-found.ensures.right.plain)
