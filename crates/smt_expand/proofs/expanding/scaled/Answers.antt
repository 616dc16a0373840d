use Rattle.std.proofs.Common.{subst, rules}
use Rattle.std.specs.Int.{w128}
use Rattle.std.proofs.lemmas.Int.{to_z-of_z}
use Rattle.qterm.specs.Tree.{Num}
use Rattle.qterm.specs.Store.{Shows}
use Rattle.smt_theory.specs.declared.operator.Operator.TheVariants.{Times}
use Rattle.smt_theory.specs.Plain.{IsPlain, plain_of}
use Rattle.smt_expand.proofs.Joining.{factors_are}
use Rattle.smt_expand.proofs.expanding.scaled.Goals as goal

pub returns-clause-plain : goal.returns-clause-plain
returns-clause-plain c =
    subst (λ us. IsPlain c.plain.new.store (plain_of Times us) c.in_ok-found.found)
    (factors_are c.args.store.now c.intern.new.self c.args.by c.in_ok-factor.factor c.args.children.now c.as_slice.result.now c.intern.ensures.extends c.requires.ints (subst (λ z. Shows c.intern.new.self c.in_ok-factor.factor (Num z)) (to_z-of_z w128 c.args.by c.ranges.by) c.in_ok-factor.ensures.shows) (search rules)) c.in_ok-found.ensures.plain
