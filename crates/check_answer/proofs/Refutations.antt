-- Certificates that close goals with the formula `false`, and what a converter makes of them.
use Rattle.std.proofs.Common.{◌≡◌, ◌<◌, ◌⊎◌, inl, inr, ℕ, zero, suc, ◌+◌, ◌-◌, Bool as Truth, true, false, ◌&&◌, List, [], ◌∷◌, ◌++◌, length, get_or, take, All, Option, Some, None, add-one, nat_eq, slice_get, length-append, refl, sym, ap, subst, ◌∙◌, arith}
use Rattle.std.specs.Option.{is_some}
use Rattle.std.specs.List.{list_any, list_all}
use Rattle.std.proofs.Math.Seq.{take-suc}
use Rattle.std.proofs.lemmas.Bool.Decides.{nat_tests}
use Rattle.std.proofs.lemmas.List.Elements.{All-push}
use Rattle.qterm.specs.Tree.{Tree, False}
use Rattle.qterm.specs.Store.{tree_at, trees_of}
use Rattle.qgoal.specs.declared.goal.Goal.{Goal}
use Rattle.qgoal.specs.Goal.{GoalTree, goal_tree}
use Rattle.qgoal.specs.Decided.{decided, is_false}
use Rattle.tac_cert.specs.declared.cert.Cert.{Cert}
use Rattle.tac_cert.specs.Items.{Item, Formula, item}
use Rattle.tac_cert.specs.Accepts.{Accepts, CertFits, as_items}
use Rattle.deriv.specs.Outcome.{goal_trees, is_unsat, AllUnsat, verdict}
use Rattle.deriv.specs.Honest.{SomeGoal, IsOpen}
use Rattle.deriv.proofs.Deciding.{verdict_shut}
use Rattle.proof_conv.specs.declared.plan.Plan.{Plan}
use Rattle.proof_conv.specs.Accepted.{AcceptEach, all_items, nesting}
use Rattle.proof_conv.specs.Flat.{AreFlat}
use Rattle.proof_conv.specs.Conv.{LeavesOf}
use Rattle.proof_conv.specs.Leads.{Leads}
use Rattle.check_answer.specs.Reached.{formulas_of}
use Rattle.check_answer.proofs.Verdicts.{unsat_false}

-- one more certificate and its goal
pub accept_more : (ts : List Tree) (cs : List Cert) (goals : List (List Tree)) (c : Cert) (goal : List Tree) → AcceptEach ts cs goals → Accepts ts c goal → AcceptEach ts (cs ++ c ∷ []) (goals ++ goal ∷ [])
accept_more ts [] [] c goal each one = (one, tt)
accept_more ts (d ∷ cs) (h ∷ goals) c goal each one = (each.0, accept_more ts cs goals c goal each.1 one)
accept_more ts [] (h ∷ goals) c goal each one = absurd each
accept_more ts (d ∷ cs) [] c goal each one = absurd each

formulas_more : (ts : List Tree) (gs : List Goal) (g : Goal) → formulas_of ts (gs ++ g ∷ []) ≡ formulas_of ts gs ++ trees_of ts g.formulas ∷ []
formulas_more ts [] g = refl
formulas_more ts (h ∷ gs) g = ap (λ (xs : List (List Tree)). trees_of ts h.formulas ∷ xs) (formulas_more ts gs g)

-- the formulas of one more goal of a row
pub formulas_next : (ts : List Tree) (gs : List Goal) (i : ℕ) (g : Goal) → i < length gs → g ≡ get_or gs i g → formulas_of ts (take (i + 1) gs) ≡ formulas_of ts (take i gs) ++ trees_of ts g.formulas ∷ []
formulas_next ts gs i g lt is =
    let more : take (i + 1) gs ≡ take i gs ++ g ∷ [] = (rw add-one (take-suc gs i g lt ∙ ap (λ (x : Goal). take i gs ++ x ∷ []) (sym is))) in
    ap (formulas_of ts) more ∙ formulas_more ts (take i gs) g

-- the item of a formula
formula_here : (ts : List Tree) (is : List ℕ) (i : ℕ) → i < length is → slice_get (as_items (trees_of ts is)) i ≡ Some (Formula (tree_at ts (get_or is i 0)))
formula_here ts [] i lt = absurd (omega (arith, lt))
formula_here ts (k ∷ is) zero lt = refl
formula_here ts (k ∷ is) (suc i) lt = formula_here ts is i (omega arith)

item-suc : (items : List Item) (k : ℕ) → item items (suc k) ≡ slice_get items k
item-suc items k = let e : nat_eq (suc k) 0 ≡ false = grind (arith, nat_tests) in let n : suc k - 1 ≡ k = omega arith in rw (e, n) refl

pub false_item : (ts : List Tree) (is : List ℕ) (i : ℕ) → i < length is → tree_at ts (get_or is i 0) ≡ False → item (as_items (trees_of ts is)) (i + 1) ≡ Some (Formula False)
false_item ts is i lt e =
    ap (item (as_items (trees_of ts is))) (add-one i) ∙ item-suc (as_items (trees_of ts is)) i ∙ formula_here ts is i lt ∙ ap (λ (t : Tree). Some (Formula t)) e

pub false_is : (t : Tree) → is_false t ≡ true → t ≡ False
false_is False e = refl
false_is t e = cc

-- the certificates of the first goals of a row
pub record ClosedSoFar (ts : List Tree) (gs : List Goal) (i : ℕ) (cs : List Cert) : Type 0 where
  pub accepted : AcceptEach ts cs (formulas_of ts (take i gs))
  pub each : length cs ≡ i
  pub terms : All (CertFits ts) cs
  pub flat : AreFlat cs

pub closed_none : (ts : List Tree) (gs : List Goal) → ClosedSoFar ts gs 0 []
closed_none ts gs = record { accepted = tt; each = refl; terms = λ k d lt. absurd (omega (arith, lt)); flat = λ k d lt. absurd (omega (arith, lt)) }

pub closed_more : (ts : List Tree) (gs : List Goal) (i : ℕ) (cs ds : List Cert) (g : Goal) (c : Cert) → ClosedSoFar ts gs i cs → i < length gs → g ≡ get_or gs i g → Accepts ts c (trees_of ts g.formulas) → CertFits ts c → nesting c.root ≡ 0 → ds ≡ cs ++ c ∷ [] → ClosedSoFar ts gs (i + 1) ds
closed_more ts gs i cs ds g c so lt is accepted terms flat more = subst (λ (xs : List Cert). ClosedSoFar ts gs (i + 1) xs) (sym more) (record {
  accepted = subst (λ (hs : List (List Tree)). AcceptEach ts (cs ++ c ∷ []) hs) (sym (formulas_next ts gs i g lt is)) (accept_more ts cs (formulas_of ts (take i gs)) c (trees_of ts g.formulas) so.accepted accepted);
  each = length-append cs (c ∷ []) ∙ ap (λ (n : ℕ). n + 1) so.each;
  terms = All-push (CertFits ts) cs c so.terms terms;
  flat = All-push (λ (x : Cert). nesting x.root ≡ 0) cs c so.flat flat;
})

-- a converter that can be closed or leads to an open goal can be closed where all goals are unsat
pub converter_closes : (o : Option Plan) (hs : List GoalTree) → (is_some o ≡ true) ⊎ SomeGoal IsOpen hs → verdict hs ≡ AllUnsat → is_some o ≡ true
converter_closes o hs (inl e) unsat = e
converter_closes o hs (inr open_goal) unsat = absurd (verdict_shut hs unsat open_goal)

pub leads_leaves : (ts : List Tree) (o : Option Plan) (goal : List Tree) (subgoals : List (List Tree)) → is_some o ≡ true → Leads ts o goal subgoals → LeavesOf ts o (as_items goal) (all_items subgoals)
leads_leaves ts None goal subgoals e leads = cc
leads_leaves ts (Some p) goal subgoals e leads = leads

-- each goal of a row in which all are unsat has the formula `false`
both : (a b : Truth) → (a && b) ≡ true → (a ≡ true) × (b ≡ true)
both true true e = (refl, refl)
both true false e = cc
both false b e = cc

pub unsat_at : (ts : List Tree) (gs : List Goal) (i : ℕ) (g : Goal) → i < length gs → g ≡ get_or gs i g → list_all (λ h. is_unsat (decided h)) (goal_trees ts gs) ≡ true → list_any is_false (trees_of ts g.formulas) ≡ true
unsat_at ts [] i g lt is all = absurd (omega (arith, lt))
unsat_at ts (h ∷ gs) zero g lt is all =
    let parts = both (is_unsat (decided (goal_tree ts h))) (list_all (λ k. is_unsat (decided k)) (goal_trees ts gs)) all in
    unsat_false (goal_tree ts g) (subst (λ (k : Goal). is_unsat (decided (goal_tree ts k)) ≡ true) (sym is) parts.0)
unsat_at ts (h ∷ gs) (suc i) g lt is all =
    let parts = both (is_unsat (decided (goal_tree ts h))) (list_all (λ k. is_unsat (decided k)) (goal_trees ts gs)) all in
    unsat_at ts gs i g (omega (arith, lt)) is parts.1
