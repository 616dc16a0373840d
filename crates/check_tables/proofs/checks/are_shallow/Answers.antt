use Rattle.std.proofs.Common.{◌≡◌, ◌∙◌, IsTrue, SFits, pos, subst, refl, rules}
use Rattle.std.specs.Int.{w128}
use Rattle.std.proofs.lemmas.Int.{to_z-of_z}
use lib.Signed.{le_z}
use Rattle.qterm.specs.Store.{trees_of}
use Rattle.strat_text.specs.declared.probe.ProbeExpr.TheVariants as form
use Rattle.probe_set.proofs.Levels.{value-Depth}
use Rattle.check_tables.proofs.Shallow.{still_shallow}
use Rattle.check_tables.proofs.checks.are_shallow.Goals as goal

pub returns-clause-shallow : goal.returns-clause-shallow
returns-clause-shallow c =
    let fits : SFits w128 c.in_ok-depth.depth = search rules in
    λ yes. still_shallow c.args.store.now c.probe.new.store c.args.ids.now c.from_vec.result c.in_ok-depth.depth c.in_ok-depth.ensures.extends (search (rules, c.requires.formulas)) (c.from_vec.ensures ∙ c.in_ok-from_slice.ensures.items)
    (c.in_ok-depth.ensures.value ∙ value-Depth (trees_of c.args.store.now c.from_vec.result) form.Depth refl) (subst (λ n. IsTrue (le_z n (pos 100))) (to_z-of_z w128 c.in_ok-depth.depth fits) yes)
