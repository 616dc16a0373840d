use Rattle.std.proofs.Common.{◌≡◌, ◌∙◌, ◌++◌, sym, ap, subst, to_z, of_z, arith}
use Rattle.std.proofs.lemmas.Int.{ints}
use mir.Syntax.{w128}
use Rattle.qterm.specs.Store.{trees_of, Shows}
use Rattle.name_bounds.specs.Missing.{if_none, low_bound}
use Rattle.name_bounds.proofs.Lacking.{pushed}
use Rattle.name_bounds.proofs.adding.push_lower.Goals as goal

pub returns-in_ok-push-in-None-clause-all : goal.returns-in_ok-push-in-None-clause-all
returns-in_ok-push-in-None-clause-all c x e =
    let z : to_z w128 (of_z w128 c.args.lower) ≡ c.args.lower = omega (arith, ints) in
    let s : Shows c.lower_bound.new.store c.in_ok-bound-in-None.bound (low_bound x c.args.lower) = subst (λ l. Shows c.lower_bound.new.store c.in_ok-bound-in-None.bound (low_bound x l)) z (c.in_ok-bound-in-None.ensures.shows x e) in
    pushed c.args.store.now c.lower_bound.new.store c.args.all.now.items c.push.new.self.items c.in_ok-bound-in-None.bound (low_bound x c.args.lower) c.lower_bound.ensures.extends c.requires.formulas c.in_ok-push-in-None.ensures.items
    s ∙ ap (λ o. trees_of c.args.store.now c.args.all.now.items ++ if_none o (low_bound x c.args.lower)) (sym c.in-None.is)
