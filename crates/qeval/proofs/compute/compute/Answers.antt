use Rattle.std.proofs.Common.{◌≡◌, map, true, false, sym, subst}
use Rattle.qterm.specs.Store.{tree_at}
use Rattle.qeval.specs.Node.{plain, apply, is_past}
use Rattle.qeval.proofs.Steps.{Answers-past_child, Answers-known, Answers-past}
use Rattle.qeval.proofs.compute.compute.Goals as goal

pub returns-in-Some : goal.returns-in-Some
returns-in-Some c = Answers-past_child c.args.model.now c.args.store.now (tree_at c.args.store.now c.args.id) c.args.outs.now c.in-Some.past c.requires.children (sym c.in-Some.ensures)

pub returns-in-Some-value_of_term : goal.returns-in-Some-value_of_term
returns-in-Some-value_of_term c =
    let V = c.args.model.now in
    let ts = c.args.store.now in
    let t = tree_at ts c.args.id in
    let os = c.args.outs.now in
    let v = c.in-Some-value_of_term.value in
    let h = c.in-Some-value_of_term.ensures in
    let p : is_past V t (map plain os) ≡ false = subst (λ x. is_past V x (map plain os) ≡ false) (sym c.view.ensures.tree) h.0 in
    let a : v ≡ apply V t (map plain os) = subst (λ x. v ≡ apply V x (map plain os)) (sym c.view.ensures.tree) h.1 in
    Answers-known V ts t os v c.requires.children (sym c.in_default.ensures) p a

pub returns-in-None : goal.returns-in-None
returns-in-None c =
    let V = c.args.model.now in
    let ts = c.args.store.now in
    let os = c.args.outs.now in
    let p : is_past V (tree_at ts c.args.id) (map plain os) ≡ true = subst (λ x. is_past V x (map plain os) ≡ true) (sym c.view.ensures.tree) c.in-None.ensures in
    Answers-past V ts c.args.id os c.requires.has c.requires.children (sym c.in_default.ensures) p
