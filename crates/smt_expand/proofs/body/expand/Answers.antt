use Rattle.std.proofs.Common.{◌≡◌, sym, ap, subst, ◌∙◌}
use Rattle.qterm.specs.Store.{tree_at, trees_of}
use Rattle.qsubst.specs.Substitution.{images_at}
use Rattle.smt_theory.specs.Plain.{IsPlain}
use Rattle.smt_expand.specs.Expanded.{expanded, put}
use Rattle.smt_expand.specs.Walk.{pairs}
use Rattle.smt_expand.proofs.Pairing.{same_images, same_expanded, pairs_at}
use Rattle.smt_expand.proofs.body.expand.Goals as goal

pub returns-clause-expanded : goal.returns-clause-expanded
returns-clause-expanded c =
    let ts = c.args.store.now in
    let body = tree_at ts c.args.body in
    let images = c.in_ok-images.images in
    let same : expanded (images_at ts images) body ≡ expanded (put c.args.params.now (trees_of ts c.args.args.now)) body =
    same_expanded (images_at ts images) (images_at ts (pairs c.args.params.now c.args.args.now)) (same_images ts images (pairs c.args.params.now c.args.args.now) c.in_ok-images.ensures.looks) body
    ∙ ap (λ s. expanded s body) (pairs_at ts c.args.params.now c.args.args.now) in
    subst (λ o. IsPlain c.put_images.new.store o c.in_ok-found.found) same c.in_ok-found.ensures.expanded
