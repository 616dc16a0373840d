-- Making the terms of clauses, literal by literal, and the steps of lines, line by line.
use Rattle.std.proofs.Common.{◌≡◌, ℕ, zero, suc, ◌+◌, ◌<◌, ◌≤◌, List, [], ◌∷◌, ◌++◌, length, map, take, get_or, reverse, All, sym, ap, subst, ◌∙◌, arith, append_assoc, append-nil}
use Rattle.std.proofs.lemmas.List.{map_more, take_all, reverse-append}
use Rattle.std.proofs.lemmas.List.Elements.{All-nil, All-cons, All-append}
use Rattle.qterm.specs.declared.name.Name.{Name}
use Rattle.qterm.specs.declared.name.Sort.TheVariants as sort
use Rattle.qterm.specs.Tree.{Tree, False, Or}
use Rattle.qterm.specs.Store.{trees_at, trees_of, Has, HasSort, Shows, Extends}
use Rattle.qterm.specs.Kids.{row}
use Rattle.qterm.proofs.Alls.{All-weaker}
use Rattle.qterm.proofs.Fitting.{Has_extends, All_HasSort_extends}
use Rattle.qterm.proofs.Extending.{trees_of_extends, Shows_extends}
use Rattle.qterm.proofs.KidsLaws.{row-trees_of, trees_of-append}
use Rattle.rup.specs.declared.literal.Lit.{Lit as Numbered}
use Rattle.tac_cert.specs.declared.cert.Step.{Step}
use Rattle.sat_core.specs.declared.solver.RupLine.{RupLine}
use Rattle.sat_clauses.specs.Coding.{AreBelow}
use Rattle.sat_lines.specs.Terms.{lit_tree, clause_tree, StandFor}
use Rattle.sat_lines.specs.Lines.{LinesBelow, IsLineStep, AreLineSteps}

pub stand_extends : (ts us : List Tree) (vars : List ℕ) (f : ℕ → Name) → Extends ts us → StandFor ts vars f → StandFor us vars f
stand_extends ts us vars f e s = record {
  has = λ k l. Has_extends ts us (get_or vars k 0) e (s.has k l);
  is = λ k l. e.same (get_or vars k 0) (s.has k l) ∙ s.is k l;
  bool = s.bool;
}

pub below_item : (v : ℕ) (xs : List Numbered) (i : ℕ) (d : Numbered) → AreBelow v xs → i < length xs → (get_or xs i d).var < v
below_item v [] i d b h = absurd (omega (arith, h))
below_item v (x ∷ xs) zero d b h = b.0
below_item v (x ∷ xs) (suc i) d b h = below_item v xs i d b.1 (omega (arith, h))

have : (ts : List Tree) (is : List ℕ) → All (HasSort sort.Bool ts) is → All (Has ts) is
have ts is h = All-weaker (HasSort sort.Bool ts) (Has ts) is (λ i k. k.0) h

pub sorts_more : (ts us : List Tree) (ids more : List ℕ) (id : ℕ) → Extends ts us → All (HasSort sort.Bool ts) ids → HasSort sort.Bool us id → more ≡ ids ++ id ∷ [] → All (HasSort sort.Bool us) more
sorts_more ts us ids more id e h s m =
    let P = HasSort sort.Bool us in
    subst (All P) (sym m) (All-append P ids (id ∷ []) (All_HasSort_extends sort.Bool ts us ids e h) (All-cons P id [] s (All-nil P)))

pub trees_more : (f : ℕ → Name) (ts us : List Tree) (ids more : List ℕ) (id : ℕ) (c : List Numbered) (i : ℕ) (d : Numbered) → Extends ts us → All (HasSort sort.Bool ts) ids → trees_of ts ids ≡ map (lit_tree f) (take i c) → i < length c → Shows us id (lit_tree f (get_or c i d)) → more ≡ ids ++ id ∷ []
    → trees_of us more ≡ map (lit_tree f) (take (i + 1) c)
trees_more f ts us ids more id c i d e h so n shows m =
    ap (trees_of us) m ∙ trees_of-append us ids (id ∷ []) ∙ (λ k. (trees_of_extends ts us ids e (have ts ids h) ∙ so) k ++ shows.is k ∷ []) ∙ sym (map_more (lit_tree f) c i d n)

pub trees_whole : (f : ℕ → Name) (ts : List Tree) (ids : List ℕ) (c : List Numbered) (i : ℕ) → length c ≤ i → trees_of ts ids ≡ map (lit_tree f) (take i c) → trees_of ts ids ≡ map (lit_tree f) c
trees_whole f ts ids c i l h = h ∙ ap (map (lit_tree f)) (take_all i c l)

pub empty_term : (f : ℕ → Name) (c : List Numbered) (us : List Tree) (id : ℕ) → length c ≡ 0 → Shows us id False → Shows us id (clause_tree f c)
empty_term f [] us id l s = s
empty_term f (x ∷ c) us id l s = absurd (omega (arith, l))

pub more_term : (f : ℕ → Name) (c : List Numbered) (ts us : List Tree) (ids ks : List ℕ) (id : ℕ) → 1 ≤ length c → trees_of ts ids ≡ map (lit_tree f) c → ks ≡ ids → Shows us id (Or (trees_at ts ks)) → Shows us id (clause_tree f c)
more_term f [] ts us ids ks id l e q s = absurd (omega (arith, l))
more_term f (x ∷ c) ts us ids ks id l e q s = record { has = s.has; is = s.is ∙ ap (λ is. Or (trees_at ts is)) q ∙ ap Or (sym (row-trees_of ts ids) ∙ ap row e) }

-- ---- lines
-- the lines `done` have their steps, and those left are in the other order
pub record SoFar (vars : List ℕ) (lines left : List RupLine) (first ts : List Tree) (ss : List Step) : Type 0 where
  pub done : List RupLine
  pub split : lines ≡ done ++ reverse left
  pub extends : Extends first ts
  pub steps : (f : ℕ → Name) → StandFor first vars f → AreLineSteps ts f done ss

steps_stay : (ts us : List Tree) (f : ℕ → Name) (lines : List RupLine) (ss : List Step) → Extends ts us → AreLineSteps ts f lines ss → AreLineSteps us f lines ss
steps_stay ts us f [] [] e h = tt
steps_stay ts us f (line ∷ lines) (s ∷ ss) e h = (record { id = h.0.id; is = h.0.is; shows = Shows_extends ts us h.0.id (clause_tree f line.clause) e h.0.shows }, steps_stay ts us f lines ss e h.1)
steps_stay ts us f [] (s ∷ ss) e h = absurd h
steps_stay ts us f (line ∷ lines) [] e h = absurd h

steps_push : (ts : List Tree) (f : ℕ → Name) (lines : List RupLine) (ss : List Step) (line : RupLine) (s : Step) → AreLineSteps ts f lines ss → IsLineStep ts f line s → AreLineSteps ts f (lines ++ line ∷ []) (ss ++ s ∷ [])
steps_push ts f [] [] line s h k = (k, tt)
steps_push ts f (l ∷ lines) (x ∷ ss) line s h k = (h.0, steps_push ts f lines ss line s h.1 k)
steps_push ts f [] (x ∷ ss) line s h k = absurd h
steps_push ts f (l ∷ lines) [] line s h k = absurd h

turned_next : (left rest : List RupLine) (line : RupLine) → left ≡ rest ++ line ∷ [] → reverse left ≡ line ∷ reverse rest
turned_next left rest line e = ap reverse e ∙ reverse-append rest (line ∷ [])

pub so_begins : (vars : List ℕ) (lines left : List RupLine) (first : List Tree) (ss : List Step) → Extends first first → reverse left ≡ lines → ss ≡ [] → SoFar vars lines left first first ss
so_begins vars lines left first ss e r none = record { done = []; split = sym r; extends = e; steps = λ f s. subst (AreLineSteps first f []) (sym none) tt }

pub so_more : (vars : List ℕ) (lines left rest : List RupLine) (line : RupLine) (first ts us : List Tree) (ss more : List Step) (s : Step) → left ≡ rest ++ line ∷ [] → SoFar vars lines left first ts ss → Extends first us → Extends ts us → ((f : ℕ → Name) → StandFor ts vars f → IsLineStep us f line s) → more ≡ ss ++ s ∷ [] → SoFar vars lines rest first us more
so_more vars lines left rest line first ts us ss more s e so all_e one_e is m = record {
  done = so.done ++ line ∷ [];
  split = so.split ∙ ap (λ u. so.done ++ u) (turned_next left rest line e) ∙ sym (append_assoc so.done (line ∷ []) (reverse rest));
  extends = all_e;
  steps = λ f st. subst (AreLineSteps us f (so.done ++ line ∷ [])) (sym m) (steps_push us f so.done ss line s (steps_stay ts us f so.done ss one_e (so.steps f st)) (is f (stand_extends first ts vars f so.extends st)));
}

pub so_ends : (vars : List ℕ) (lines left : List RupLine) (first ts : List Tree) (ss : List Step) → left ≡ [] → SoFar vars lines left first ts ss → (f : ℕ → Name) → StandFor first vars f → AreLineSteps ts f lines ss
so_ends vars lines left first ts ss none so f st = subst (λ us. AreLineSteps ts f us ss) (sym (so.split ∙ ap (λ u. so.done ++ reverse u) none ∙ append-nil so.done)) (so.steps f st)

-- the next line's clause is within the numbers
first_below : (v : ℕ) (done rest : List RupLine) (line : RupLine) → LinesBelow v (done ++ line ∷ rest) → AreBelow v line.clause
first_below v [] rest line b = b.0
first_below v (d ∷ done) rest line b = first_below v done rest line b.1

pub line_below : (v : ℕ) (vars : List ℕ) (lines left rest : List RupLine) (line : RupLine) (first ts : List Tree) (ss : List Step) → left ≡ rest ++ line ∷ [] → SoFar vars lines left first ts ss → LinesBelow v lines → AreBelow v line.clause
line_below v vars lines left rest line first ts ss e so b =
    first_below v so.done (reverse rest) line (subst (LinesBelow v) (so.split ∙ ap (λ u. so.done ++ u) (turned_next left rest line e)) b)
