use Rattle.std.proofs.Common.{◌∙◌, sym, ap, subst, All}
use Rattle.qterm.specs.declared.name.Sort.TheVariants.{Int}
use Rattle.qterm.specs.Store.{Has, HasSort}
use Rattle.qterm.proofs.Alls.{All-push}
use Rattle.qterm.proofs.Fitting.{All_HasSort_extends, trees_at_extends}
use Rattle.qterm.proofs.Extending.{Extends_trans}
use Rattle.qnegation.specs.Opposite.{opposite_part}
use Rattle.qnegation.proofs.Opposites.{one_more}
use Rattle.qnegation.proofs.opposite.opposite_parts.Goals as goal

pub loop-id-preserved : goal.loop-id-preserved
loop-id-preserved c =
    let ts = c.args.store.now in
    let mid = c.loop-id.store in
    let us = c.opposite_part.new.store in
    let i = c.loop-id.invariant in
    let s = c.in_ok-part.ensures in
    let is = c.loop-id.all.items in
    let h = subst (Has ts) (sym c.id-item.is) (c.requires.ints c.loop-id.id-index c.id-item.result c.loop-id-test.true).0 in
    let g = c.in_ok-push.ensures.items in
    record {
      same = one_more ts us c.args.ids.now is c.push.new.self.items c.loop-id.id-index c.id-item.result c.in_ok-part.part c.loop-id-test.true c.id-item.is
          (trees_at_extends mid us is s.extends (λ k d h. (i.ints k d h).0) ∙ i.same) (s.shows.is ∙ ap opposite_part (i.extends.same c.id-item.result h)) g;
      ints = subst (All (HasSort Int us)) (sym g) (All-push (HasSort Int us) is c.in_ok-part.part (All_HasSort_extends Int mid us is s.extends i.ints) s.int);
      extends = Extends_trans ts mid us i.extends s.extends;
    }
