use Rattle.std.proofs.Common.{◌∙◌, All, ap, subst, sym, ◌++◌}
use Rattle.qterm.specs.Store.{Has, tree_at}
use Rattle.qterm.proofs.Alls.{All-push}
use Rattle.qcanon.proofs.Listing.{parts_and, parts_plain}
use Rattle.qcanon.proofs.list.push_parts.Goals as goal

pub returns-in_ok-extend_from_slice-in-And-clause-same : goal.returns-in_ok-extend_from_slice-in-And-clause-same
returns-in_ok-extend_from_slice-in-And-clause-same c =
    parts_and c.args.store.now (tree_at c.args.store.now c.args.id) c.view.result.now c.in-And.all c.args.parts.now.items c.extend_from_slice.new.self.items c.view.ensures.tree c.in-And.is
    (c.in_ok-extend_from_slice-in-And.ensures.items ∙ ap (λ is. c.args.parts.now.items ++ is) c.as_slice.ensures)

pub returns-in_ok-push-in_default : goal.returns-in_ok-push-in_default
returns-in_ok-push-in_default c =
    let ts = c.args.store.now in
    let js = c.args.parts.now.items in
    let e = c.in_ok-push-in_default.ensures.items in
    record {
      same = parts_plain ts c.args.id c.view.result.now js c.push.new.self.items c.view.ensures.tree c.in_default.not-True c.in_default.not-And e;
      has = subst (All (Has ts)) (sym e) (All-push (Has ts) js c.args.id c.requires.parts c.requires.has);
    }
