use Rattle.std.proofs.Common.{◌++◌, [], ◌∷◌, ap, ◌∙◌}
use Rattle.reduce_base.proofs.Choosing.{chosen_false}
use Rattle.reduce_base.proofs.listing.false_place.Goals as goal

pub returns : goal.returns
returns c =
    chosen_false c.args._store.now c.requires.items.0 c.args.forms.now c.args._trace.now.items.items c.args.behind c.args.at c.in_ok-number.number c.requires.found.0 c.index-forms-at.result c.push.new.self.items c.requires.items.1
    c.requires.items.2 c.requires.found.1 (c.requires.found.2, c.requires.found.3) c.index-forms-at.is c.in_ok-number.ensures (c.in_ok-push.ensures.items ∙ ap (λ ps. ps ++ record { number = c.in_ok-number.number; id = c.index-forms-at.result } ∷ []) c.new-places.ensures.items) c.requires.has c.requires.within
