use Rattle.std.proofs.Common.{subst}
use Rattle.qcanon.specs.Chain.{IsAnswer}
use Rattle.qcanon.proofs.Nesting.{links_found, links_settled}
use Rattle.qcanon.proofs.chain.link.Goals as goal

pub returns-after-out-clause-links : goal.returns-after-out-clause-links
returns-after-out-clause-links c = λ t a. links_found c.args.store.now c.args.below c.in-Found.out t (subst (IsAnswer c.args.store.now t) c.in-Found.is a)

pub returns-in_ok-form-in-Nested-clause-links : goal.returns-in_ok-form-in-Nested-clause-links
returns-in_ok-form-in-Nested-clause-links c =
    λ t a. links_settled c.args.store.now c.settle.new.store c.args.below c.in-Nested.chain c.in_ok-form-in-Nested.form c.in_ok-form-in-Nested.ensures.canonical t (subst (IsAnswer c.args.store.now t) c.in-Nested.is a)
