use Rattle.std.proofs.Common.{◌≡◌, ◌++◌, ap, sym, subst, ◌∙◌}
use Rattle.strat_text.specs.Back.{ReadsBack}
use Rattle.strat_text.specs.Spelled.{spelled}
use Rattle.strat_text.proofs.Back.{spelled_back}
use Rattle.strat_text.proofs.write.write_strategy.Goals as goal

pub returns-clause-back : goal.returns-clause-back
returns-clause-back c = λ names known shallow.
    let s = c.args.strategy.now in
    let text : c.put_strategy.new.text.items ≡ spelled s = c.in_ok-put_strategy.ensures ∙ ap (λ bs. bs ++ spelled s) c.new-text.ensures.items in
    subst (λ bs. ReadsBack names bs s) (sym text) (spelled_back names s c.requires.allowed known shallow)
