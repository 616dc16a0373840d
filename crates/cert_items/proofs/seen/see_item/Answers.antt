use Rattle.std.proofs.Common.{◌≡◌, ◌++◌, ◌∙◌, sym, subst, List, ℕ}
use Rattle.std.specs.Prelude.{All}
use Rattle.qterm.specs.Store.{Has}
use Rattle.qwalk.specs.Seen.{AreSubterms}
use Rattle.qwalk.proofs.Seeing.{AreSubterms-whole, AreSubterms-then}
use Rattle.cert_items.specs.Seen.{roots}
use Rattle.cert_items.proofs.Growing.{roots_in}
use Rattle.cert_items.proofs.seen.see_item.Goals as goal

pub see-requires : goal.see-requires
see-requires g c = record {
  has = subst (λ (is : List ℕ). All (Has c.args.store.now) is) (sym (c.as_slice.ensures.value ∙ c.in_ok-roots.ensures)) (roots_in c.args.store.now c.args.item.now c.requires.0);
  whole = AreSubterms-whole c.args.store.now g.before c.args.seen.now c.requires.1;
}

pub returns-clause-seen : goal.returns-clause-seen
returns-clause-seen g c =
    let is : c.as_slice.result.now ≡ roots c.args.item.now = c.as_slice.ensures.value ∙ c.in_ok-roots.ensures in
    AreSubterms-then c.args.store.now g.before c.args.seen.now (roots c.args.item.now) _ c.requires.1 (subst (λ (rs : List ℕ). AreSubterms c.args.store.now (c.args.seen.now ++ rs) c.see.new.self) is c.in_ok-see.ensures.seen)
