use Rattle.std.proofs.Common.{◌≡◌, ◌∙◌, sym, ap, subst, rules}
use Rattle.std.specs.Prelude.{◌+ℤ◌, nat_eq}
use Rattle.std.specs.Int.{w128}
use Rattle.std.specs.List.{IsDistinct}
use Rattle.std.proofs.lemmas.Int.{to_z-of_z}
use mir.Val.{SFits}
use Rattle.indexmap.specs.IndexMap.{insert_entry}
use Rattle.qlin.specs.Number.{in_range}
use Rattle.qcanon.specs.Sums.{number_in}
use Rattle.qcanon.proofs.Sums.{ids_are}
use Rattle.qcanon.proofs.sum.add_part.Goals as goal

pub returns-in_ok-insert-in-Some : goal.returns-in_ok-insert-in-Some
returns-in_ok-insert-in-Some c =
    let f : SFits w128 c.in-Some.number = search rules in
    let n : SFits w128 c.number_of.result = search rules in
    let p : SFits w128 c.args.part.0 = search rules in
    let e : c.in-Some.number ≡ number_in c.args.numbers.now.entries c.args.part.1 +ℤ c.args.part.0 =
    c.in-Some.ensures.0 ∙ (λ i. (to_z-of_z w128 c.number_of.result n ∙ c.number_of.ensures) i +ℤ to_z-of_z w128 c.args.part.0 p i) in (
      ap in_range (sym e) ∙ c.in-Some.ensures.1,
      c.in_ok-insert-in-Some.ensures.entries ∙ ap (λ v. insert_entry nat_eq c.args.numbers.now.entries c.args.part.1 v) (to_z-of_z w128 c.in-Some.number f ∙ e),
      subst (IsDistinct nat_eq) (sym (ids_are c.insert.new.self.entries)) c.in_ok-insert-in-Some.ensures.unique,
    )
