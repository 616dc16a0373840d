use Rattle.std.proofs.Common.{◌∙◌, [], ◌∷◌, ap}
use Rattle.qterm.specs.Store.{tree_at, trees_of}
use Rattle.qterm.proofs.KidsLaws.{trees_of-append}
use Rattle.bit_lists.specs.Row.{is_bound}
use Rattle.bit_lists.proofs.Looping.{if_pushed}
use Rattle.bit_lists.proofs.row.keep.Goals as goal

pub returns-clause-kept : goal.returns-clause-kept
returns-clause-kept c ss h =
    let S = c.args.store.now in
    let f = c.args.formula in
    let pushed = ap (trees_of S) c.in_ok-push.ensures.items ∙ trees_of-append S c.args.kept.now.items (f ∷ []) in
    if_pushed (trees_of S c.args.kept.now.items) (trees_of S c.push.new.self.items) (tree_at S f) c.is_bound.result (is_bound ss (tree_at S f)) (c.is_bound.ensures ss h) c.if-is_bound.false pushed
