use Rattle.std.proofs.Common.{subst, arith}
use Rattle.qterm.specs.Store.{trees_of}
use Rattle.qwalk.specs.Subterms.{HasSubterms}
use Rattle.reduce_base.proofs.Tidying.{are_formulas, canonical, listed, large}
use Rattle.reduce_base.proofs.listing.list_forms.Goals as goal

pub returns-clause-listed : goal.returns-clause-listed
returns-clause-listed c =
    let ts = c.args.store.now in
    let js = c.in_ok-listed.listed.formulas in
    listed c.args.most c.in_ok-count.count (trees_of ts c.args.goal.now) (trees_of ts js) (are_formulas ts c.args.goal.now c.is_lawful.ensures c.requires.formulas)
    (canonical ts ts c.args.goal.now c.args.forms.now js c.requires.forms c.in_ok-listed.ensures.tidied) (subst (λ is. HasSubterms (trees_of ts is) c.in_ok-count.count) c.as_slice.ensures c.in_ok-count.ensures) (omega (arith, c.if-count-most.false))

pub returns-then-count-most-clause-fault : goal.returns-then-count-most-clause-fault
returns-then-count-most-clause-fault c =
    let ts = c.args.store.now in
    let js = c.in_ok-listed.listed.formulas in
    large c.args.most c.in_ok-count.count (trees_of ts c.args.goal.now) (trees_of ts js) (canonical ts ts c.args.goal.now c.args.forms.now js c.requires.forms c.in_ok-listed.ensures.tidied)
    (subst (λ is. HasSubterms (trees_of ts is) c.in_ok-count.count) c.as_slice.ensures c.in_ok-count.ensures) (omega (arith, c.if-count-most.true))
