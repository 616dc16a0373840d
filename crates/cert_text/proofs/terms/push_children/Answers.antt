use Rattle.std.proofs.Common.{◌++◌, ℕ, List, map, ap, sym, ◌∙◌, arith, rules}
use Rattle.std.proofs.lemmas.List.{take_all}
use Rattle.strat_text.specs.Spelled.{spaced}
use Rattle.qterm.specs.Store.{tree_at, trees_of}
use Rattle.qterm.specs.Kids.{kids, listed, ids}
use Rattle.qterm.proofs.KidsLaws.{listed_kids_grow}
use Rattle.cert_text.specs.TermLines.{reference}
use Rattle.cert_text.proofs.Growing.{row_word}
use Rattle.cert_text.proofs.Places.{map-trees_of}
use Rattle.cert_text.proofs.terms.push_children.Goals as goal

pub loop-at-preserved : goal.loop-at-preserved
loop-at-preserved c =
    row_word (λ i. reference (trees_of c.args.store.now c.args.lines.now) (tree_at c.args.store.now i)) (ids c.view-term.result.now) c.loop-at.at c.child.result
    c.args.text.now.items c.loop-at.text.items c.push_reference.new.text.items (grind arith) (search rules) c.loop-at.invariant c.in_ok-push_reference.ensures

pub returns : goal.returns
returns c =
    let f = reference (trees_of c.args.store.now c.args.lines.now) in
    let is = ids c.view-term.result.now in
    c.loop-at.invariant
    ∙ ap (λ (js : List ℕ). c.args.text.now.items ++ spaced (map (λ i. f (tree_at c.args.store.now i)) js)) (take_all c.loop-at.at is (grind arith))
    ∙ ap (λ texts. c.args.text.now.items ++ spaced texts) (sym (ap (λ us. map f us) (ap (λ t. listed (kids t)) c.view-term.ensures.tree ∙ listed_kids_grow c.args.store.now c.view-term.result.now) ∙ map-trees_of f c.args.store.now is))
