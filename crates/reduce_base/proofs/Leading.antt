-- Steps lead on from what those before them lead to.
use Rattle.std.proofs.Common.{◌≡◌, ℕ, List, [], ◌∷◌, ◌++◌, map, Some, sym, ap, subst, ◌∙◌}
use Rattle.qterm.specs.Tree.{Tree}
use Rattle.qterm.specs.Store.{tree_at, trees_of}
use Rattle.tac_cert.specs.declared.cert.Step.{Step}
use Rattle.tac_cert.specs.declared.cert.Step.TheVariants as step
use Rattle.tac_cert.specs.Items.{Item, Formula}
use Rattle.tac_cert.specs.Formulas.{kept}
use Rattle.tac_cert.specs.Gives.{gives, StepFits}
use Rattle.tac_cert.specs.Accepts.{as_items}
use Rattle.proof_conv.specs.Leaves.{StepsLeave}
use Rattle.reduce_base.specs.declared.trace.Trace.{Trace}
use Rattle.reduce_base.specs.declared.places.Place.{Place}
use Rattle.reduce_base.specs.Trace.{shown, LeadsOn, ArePlaced}
use Rattle.reduce_base.proofs.Pushing.{items_push, leave_push, kept_placed}

pub push_leads : (ts : List Tree) (t u : Trace) (s : Step) (c : ℕ) → u.items.items ≡ t.items.items ++ c ∷ [] → u.steps ≡ t.steps ++ s ∷ [] → StepFits ts s → gives ts (shown ts t) s ≡ Some (shown ts t ++ Formula (tree_at ts c) ∷ []) → LeadsOn ts t u
push_leads ts t u s c items steps f g G h =
    let e : shown ts u ≡ shown ts t ++ Formula (tree_at ts c) ∷ [] = ap (λ is. as_items (trees_of ts is)) items ∙ items_push ts t.items.items c in
    subst (λ ss. StepsLeave ts G ss (shown ts u)) (sym steps) (subst (λ i. StepsLeave ts G (t.steps ++ s ∷ []) i) (sym e) (leave_push ts G (shown ts t) (shown ts t ++ Formula (tree_at ts c) ∷ []) t.steps s h f g))

pub keep_leads : (ts : List Tree) (t : Trace) (ps : List Place) (ids ns : List ℕ) (steps : List Step) → ArePlaced t.items.items ps → ids ≡ map (λ p. p.id) ps → ns ≡ map (λ p. p.number) ps → steps ≡ t.steps ++ step.Keep ns ∷ []
    → (G : List Item) → StepsLeave ts G t.steps (shown ts t) → StepsLeave ts G steps (as_items (trees_of ts ids))
keep_leads ts t ps ids ns steps placed are num behind G h =
    let g : gives ts (shown ts t) (step.Keep ns) ≡ Some (as_items (trees_of ts ids)) = ap (kept (shown ts t)) num ∙ kept_placed ts t.items.items ps placed ∙ ap (λ is. Some (as_items (trees_of ts is))) (sym are) in
    subst (λ ss. StepsLeave ts G ss (as_items (trees_of ts ids))) (sym behind) (leave_push ts G (shown ts t) (as_items (trees_of ts ids)) t.steps (step.Keep ns) h tt g)

pub start_leads : (ts : List Tree) (goal : List ℕ) (t : Trace) → t.items.items ≡ goal → t.steps ≡ [] → StepsLeave ts (as_items (trees_of ts goal)) t.steps (shown ts t)
start_leads ts goal t items steps =
    subst (λ ss. StepsLeave ts (as_items (trees_of ts goal)) ss (shown ts t)) (sym steps) (record { there = tt; run = ap (λ is. as_items (trees_of ts is)) (sym items) })
