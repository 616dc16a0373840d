use Rattle.std.proofs.Common.{◌≡◌, subst, IfOk, true, not}
use Rattle.std.specs.Prelude.{MatchOption}
use Rattle.qterm.specs.Store.{trees_at, Shows}
use Rattle.qterm.specs.declared.name.Sort.TheVariants.{Bool}
use Rattle.qlin.specs.Junction.{has_constant}
use Rattle.qnegation.specs.Junction.{IsGathered}
use Rattle.qnegation.proofs.Junctions.{junction_is}
use Rattle.qnegation.proofs.junction.canonical_junction.Goals as goal

pub pack-requires : goal.pack-requires
pack-requires c =
    let g = subst (λ o. MatchOption o (has_constant (not c.args.is_and) (trees_at c.args.store.now c.args.ids.now) ≡ true) (λ v. IsGathered c.args.store.now c.args.is_and c.args.ids.now v.items)) c.in-Some.is c.in_ok-gather.ensures in
    c.in_ok-sorted-in-Some.ensures.sorts Bool g.have

pub returns-in_ok-sorted-in-Some-clause-shows : goal.returns-in_ok-sorted-in-Some-clause-shows
returns-in_ok-sorted-in-Some-clause-shows c =
    let g = subst (λ o. MatchOption o (has_constant (not c.args.is_and) (trees_at c.args.store.now c.args.ids.now) ≡ true) (λ v. IsGathered c.args.store.now c.args.is_and c.args.ids.now v.items)) c.in-Some.is c.in_ok-gather.ensures in
    subst (λ t. IfOk c.pack.result (λ id. Shows c.pack.new.store id t)) (junction_is c.args.is_and c.args.store.now c.args.ids.now c.in-Some.all.items c.in_ok-sorted-in-Some.sorted.items g c.in_ok-sorted-in-Some.ensures.sorted) c.pack.ensures.shows
