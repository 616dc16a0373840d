use Rattle.std.proofs.Common.{◌≡◌, ◌∙◌, sym, ap, subst, Some, None}
use Rattle.std.specs.Prelude.{MatchOption}
use Rattle.std.specs.Option.{option_map}
use Rattle.qterm.specs.declared.name.Sort.TheVariants.{Bool}
use Rattle.qlin.specs.Junction.{sorted, joined}
use Rattle.qnegation.specs.Negation.{all_of}
use Rattle.qnegation.proofs.Negated.{all_formulas, shown_none, shown_some}
use Rattle.qnegation.proofs.negation.joined.Goals as goal

pub sort_terms-requires : goal.sort_terms-requires
sort_terms-requires c =
    let e = subst (λ o. MatchOption o (all_of c.args.outs.now ≡ None) (λ v. all_of c.args.outs.now ≡ Some v.items)) c.in-Some.is c.in_ok-all_of.ensures in
    λ k d h. (all_formulas c.args.store.now c.args.outs.now c.in-Some.all.items c.requires.formulas e k d h).0

pub join-requires : goal.join-requires
join-requires c =
    let e = subst (λ o. MatchOption o (all_of c.args.outs.now ≡ None) (λ v. all_of c.args.outs.now ≡ Some v.items)) c.in-Some.is c.in_ok-all_of.ensures in
    record { formulas = c.in_ok-sorted-in-Some.ensures.sorts Bool (all_formulas c.args.store.now c.args.outs.now c.in-Some.all.items c.requires.formulas e) }

pub returns-in-None-clause-answers : goal.returns-in-None-clause-answers
returns-in-None-clause-answers c =
    let e = subst (λ o. MatchOption o (all_of c.args.outs.now ≡ None) (λ v. all_of c.args.outs.now ≡ Some v.items)) c.in-None.is c.in_ok-all_of.ensures in
    ap (option_map (λ ns. joined c.args.is_and (sorted ns))) (shown_none c.args.store.now c.args.outs.now e)

pub returns-in_ok-found-in-Some-clause-answers : goal.returns-in_ok-found-in-Some-clause-answers
returns-in_ok-found-in-Some-clause-answers c =
    let e = subst (λ o. MatchOption o (all_of c.args.outs.now ≡ None) (λ v. all_of c.args.outs.now ≡ Some v.items)) c.in-Some.is c.in_ok-all_of.ensures in
    let s = c.in_ok-found-in-Some.ensures.shows in (
      s.has,
      ap (option_map (λ ns. joined c.args.is_and (sorted ns))) (shown_some c.args.store.now c.args.outs.now c.in-Some.all.items e)
          ∙ ap Some (ap (joined c.args.is_and) (sym c.in_ok-sorted-in-Some.ensures.sorted) ∙ sym s.is),
    )
