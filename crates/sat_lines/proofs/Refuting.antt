-- The steps of a refutation leave `false`.
use Rattle.std.proofs.Common.{◌≡◌, ℕ, suc, ◌+◌, ◌-◌, Bool as Truth, true, false, ◌&&◌, List, [], ◌∷◌, ◌++◌, length, refl, sym, ap, subst, ◌∙◌, arith, append_assoc, append-nil, length-append, if◌then◌else◌, Some, None, nat_eq, slice_get, eqb-true}
use Rattle.qterm.specs.declared.name.Name.{Name}
use Rattle.qterm.specs.declared.name.Sort.TheVariants as sort
use Rattle.qterm.specs.Tree.{Tree, False}
use Rattle.qterm.specs.Store.{tree_at}
use Rattle.rup.specs.declared.literal.Lit.{Lit as Numbered}
use Rattle.rup.proofs.Bools.{and_left, and_right}
use Rattle.sat_core.specs.declared.solver.RupLine.{RupLine}
use Rattle.sat_core.specs.Clauses.{is_empty}
use Rattle.sat_core.specs.Lines as lines
use Rattle.sat_core.specs.Lines.{refutes}
use Rattle.tac_cert.specs.declared.cert.Step.{Step}
use Rattle.tac_cert.specs.declared.cert.Step.TheVariants as step
use Rattle.tac_cert.specs.Items.{Item, Formula, item, gives_if}
use Rattle.tac_cert.specs.Depth.{is_shallow}
use Rattle.tac_cert.specs.WellSorted.{has_sort}
use Rattle.tac_cert.specs.Rup.{is_rup}
use Rattle.tac_cert.specs.Formulas.{put}
use Rattle.tac_cert.specs.Gives.{gives, adds, StepFits}
use Rattle.tac_cert.specs.Accepts.{AfterSteps, StepsFit, as_items}
use Rattle.sat_clauses.specs.Coding.{AllBelow, AreRead, AreDifferent}
use Rattle.sat_clauses.proofs.Following.{rup_follows}
use Rattle.sat_clauses.proofs.Reading.{read_push, all_below_push}
use Rattle.proof_conv.specs.Leaves.{StepsLeave}
use Rattle.proof_conv.proofs.Fuel.{steps_then}
use Rattle.sat_lines.specs.Terms.{clause_tree, AreBool}
use Rattle.sat_lines.specs.Lines.{line_trees, LinesBelow, AreLineSteps}
use Rattle.sat_lines.proofs.Formed.{clause_read, clause_shallow, clause_sorted}

-- ---- one step
rup_gives : (ts : List Tree) (items : List Item) (id : ℕ) (hints : List ℕ) (t : Tree) → tree_at ts id ≡ t → is_shallow t ≡ true → has_sort sort.Bool t ≡ true → is_rup items t hints ≡ true → gives ts items (step.Rup id hints) ≡ Some (items ++ Formula t ∷ [])
rup_gives ts items id hints t at shallow sorted follows =
    ap (λ x. if is_shallow x && true then adds items (gives_if (is_rup items x hints) (Formula x ∷ [])) else None) at
    ∙ ap (λ b. if b && true then adds items (gives_if (is_rup items t hints) (Formula t ∷ [])) else None) shallow
    ∙ ap (λ b. adds items (gives_if b (Formula t ∷ []))) follows
    ∙ ap (λ b. if b && true then Some (items ++ Formula t ∷ []) else None) sorted

items_push : (cs : List Tree) (t : Tree) → as_items (cs ++ t ∷ []) ≡ as_items cs ++ Formula t ∷ []
items_push [] t = refl
items_push (c ∷ cs) t = ap (λ u. Formula c ∷ u) (items_push cs t)

-- ---- lines that follow one after the other
abbrev FollowAll : List (List Numbered) → List RupLine → Type 0
FollowAll known [] = Unit {0}
FollowAll known (line ∷ ls) = (lines.follows known line ≡ true) × FollowAll (known ++ line.clause ∷ []) ls

follow_all : (known : List (List Numbered)) (ls : List RupLine) → refutes known ls ≡ true → FollowAll known ls
follow_all known [] h = tt
follow_all known (line ∷ []) h = (and_left (lines.follows known line) (is_empty line.clause) h, tt)
follow_all known (line ∷ next ∷ ls) h =
    let rest = refutes (known ++ line.clause ∷ []) (next ∷ ls) in
    let here = lines.follows known line && lines.is_new known line.clause in
    (and_left (lines.follows known line) (lines.is_new known line.clause) (and_left here rest h), follow_all (known ++ line.clause ∷ []) (next ∷ ls) (and_right here rest h))

steps_fit : (ts : List Tree) (f : ℕ → Name) (ls : List RupLine) (ss : List Step) → AreLineSteps ts f ls ss → StepsFit ts ss
steps_fit ts f [] [] h = tt
steps_fit ts f (line ∷ ls) (s ∷ ss) h = (subst (StepFits ts) (sym h.0.is) h.0.shows.has, steps_fit ts f ls ss h.1)
steps_fit ts f [] (s ∷ ss) h = absurd h
steps_fit ts f (line ∷ ls) [] h = absurd h

run_lines : (ts : List Tree) (f : ℕ → Name) (v : ℕ) (cs : List Tree) (known : List (List Numbered)) (ls : List RupLine) (ss : List Step) → AreDifferent v f → AreBool v f → AreRead f cs known → AllBelow v known → LinesBelow v ls → FollowAll known ls → AreLineSteps ts f ls ss →
    AfterSteps ts (as_items cs) ss (λ left. left ≡ as_items (cs ++ line_trees f ls))
run_lines ts f v cs known [] [] d b r n m follow h = ap as_items (sym (append-nil cs))
run_lines ts f v cs known (line ∷ ls) (s ∷ ss) d b r n m follow h =
    let t = clause_tree f line.clause in
    let read = clause_read f v line.clause b m.0 in
    let one = rup_gives ts (as_items cs) h.0.id line.hints.items t h.0.shows.is (clause_shallow f line.clause) (clause_sorted f v line.clause b m.0) (rup_follows f v cs known t line.clause line.hints.items d r n m.0 read follow.0) in
    let more = run_lines ts f v (cs ++ t ∷ []) (known ++ line.clause ∷ []) ls ss d b (read_push f cs known t line.clause r read) (all_below_push v known line.clause n m.0) m.1 follow.1 h.1 in
    let whole = append_assoc cs (t ∷ []) (line_trees f ls) in
    (as_items cs ++ Formula t ∷ [], ap (gives ts (as_items cs)) h.0.is ∙ one, subst (λ items. AfterSteps ts items ss (λ left. left ≡ as_items (cs ++ t ∷ line_trees f ls))) (items_push cs t) (subst (λ us. AfterSteps ts (as_items (cs ++ t ∷ [])) ss (λ left. left ≡ as_items us)) whole more))
run_lines ts f v cs known [] (s ∷ ss) d b r n m follow h = absurd h
run_lines ts f v cs known (line ∷ ls) [] d b r n m follow h = absurd h

-- ---- the last item
record EndsFalse (us : List Tree) (n : ℕ) : Type 0 where
  front : List Tree
  is : us ≡ front ++ False ∷ []
  count : n ≡ suc (length front)

empty_false : (f : ℕ → Name) (c : List Numbered) → is_empty c ≡ true → clause_tree f c ≡ False
empty_false f [] e = refl
empty_false f (l ∷ ls) e = cc

lines_end : (f : ℕ → Name) (known : List (List Numbered)) (ls : List RupLine) → refutes known ls ≡ true → EndsFalse (line_trees f ls) (length ls)
lines_end f known [] h = cc
lines_end f known (line ∷ []) h = record { front = []; is = ap (λ t. t ∷ []) (empty_false f line.clause (and_right (lines.follows known line) (is_empty line.clause) h)); count = refl }
lines_end f known (line ∷ next ∷ ls) h =
    let rest = refutes (known ++ line.clause ∷ []) (next ∷ ls) in
    let here = lines.follows known line && lines.is_new known line.clause in
    let k = lines_end f (known ++ line.clause ∷ []) (next ∷ ls) (and_right here rest h) in
    record { front = clause_tree f line.clause ∷ k.front; is = ap (λ u. clause_tree f line.clause ∷ u) k.is; count = ap suc k.count }

at_end : (us : List Tree) (t : Tree) → slice_get (as_items (us ++ t ∷ [])) (length us) ≡ Some (Formula t)
at_end [] t = refl
at_end (u ∷ us) t = at_end us t

item_end : (us : List Tree) (t : Tree) (n : ℕ) → n ≡ suc (length us) → item (as_items (us ++ t ∷ [])) n ≡ Some (Formula t)
item_end us t n e = by (nat_eq n 0) refl
  where
    one : n - 1 ≡ length us
    one = omega (arith, e)

    by : (b : Truth) → nat_eq n 0 ≡ b → (if b then None else slice_get (as_items (us ++ t ∷ [])) (n - 1)) ≡ Some (Formula t)
    by true q = let z : n ≡ 0 = eqb-true n 0 q in absurd (omega (arith, z, e))
    by false q = ap (slice_get (as_items (us ++ t ∷ []))) one ∙ at_end us t

keep_gives : (ts : List Tree) (items : List Item) (n : ℕ) (t : Tree) → item items n ≡ Some (Formula t) → gives ts items (step.Keep (n ∷ [])) ≡ Some (Formula t ∷ [])
keep_gives ts items n t e = ap (λ o. put o (Some [])) e

-- ---- all steps
pub refuted : (ts : List Tree) (f : ℕ → Name) (v : ℕ) (cs : List Tree) (known : List (List Numbered)) (ls : List RupLine) (ss whole : List Step) (n : ℕ) → AreDifferent v f → AreBool v f → AreRead f cs known → AllBelow v known → LinesBelow v ls → refutes known ls ≡ true → AreLineSteps ts f ls ss →
    n ≡ length cs + length ls → whole ≡ ss ++ step.Keep (n ∷ []) ∷ [] → StepsLeave ts (as_items cs) whole (as_items (False ∷ []))
refuted ts f v cs known ls ss whole n d b r k m h are e w =
    let ends = lines_end f known ls h in
    let all : cs ++ line_trees f ls ≡ (cs ++ ends.front) ++ False ∷ [] = ap (λ u. cs ++ u) ends.is ∙ sym (append_assoc cs ends.front (False ∷ [])) in
    let l = length-append cs ends.front in
    let c = ends.count in
    let at = item_end (cs ++ ends.front) False n (omega (arith, e, c, l)) in
    let first : StepsLeave ts (as_items cs) ss (as_items (cs ++ line_trees f ls)) = record { there = steps_fit ts f ls ss are; run = run_lines ts f v cs known ls ss d b r k m (follow_all known ls h) are } in
    let kept_one = keep_gives ts (as_items (cs ++ line_trees f ls)) n False (ap (λ us. item (as_items us) n) all ∙ at) in
    let second : StepsLeave ts (as_items (cs ++ line_trees f ls)) (step.Keep (n ∷ []) ∷ []) (as_items (False ∷ [])) = record { there = (tt, tt); run = (Formula False ∷ [], kept_one, refl) } in
    subst (λ us. StepsLeave ts (as_items cs) us (as_items (False ∷ []))) (sym w) (steps_then ts (as_items cs) (as_items (cs ++ line_trees f ls)) (as_items (False ∷ [])) ss (step.Keep (n ∷ []) ∷ []) first second)
