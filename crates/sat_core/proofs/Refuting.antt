-- Lines that refute clauses show that the clauses have no model.
use Rattle.std.proofs.Common.{◌≡◌, ℕ, Bool, true, List, [], ◌∷◌, ◌++◌, inl, inr, refl, arith}
use Rattle.std.proofs.lemmas.Grind.{common_steps}
use Rattle.rup.specs.declared.literal.Lit.{Lit}
use Rattle.rup.specs.Literals.{clause_true, all_true}
use Rattle.rup.proofs.Bools.{and_left, and_right, both_ways, true_or_false}
use Rattle.rup.proofs.Sound.{rup_sound}
use Rattle.sat_core.specs.declared.solver.RupLine.{RupLine}
use Rattle.sat_core.specs.Clauses.{is_empty}
use Rattle.sat_core.specs.Lines.{follows, refutes}
use Rattle.sat_core.specs.Models.{HaveNoModel}

-- a clause more is true too
all_true_push : (v : ℕ → Bool) (known : List (List Lit)) (c : List Lit) → all_true v known ≡ true → clause_true v c ≡ true → all_true v (known ++ c ∷ []) ≡ true
all_true_push v known c a t = grind (arith, common_steps)

-- an empty clause is never true
empty_false : (v : ℕ → Bool) (c : List Lit) → is_empty c ≡ true → clause_true v c ≡ true → ⊥
empty_false v [] e t = both_ways _ t refl
empty_false v (l ∷ ls) e t = both_ways _ e refl

-- the clause of a line is true where the clauses are
line_true : (v : ℕ → Bool) (known : List (List Lit)) (line : RupLine) → all_true v known ≡ true → follows known line ≡ true → clause_true v line.clause ≡ true
line_true v known line a f = rup_sound known line.clause line.hints.items f v a

no_values : (v : ℕ → Bool) (known : List (List Lit)) (lines : List RupLine) → all_true v known ≡ true → refutes known lines ≡ true → ⊥
no_values v known [] a r = both_ways _ r refl
no_values v known (line ∷ []) a r =
    empty_false v line.clause (and_right _ _ r) (line_true v known line a (and_left _ _ r))
no_values v known (line ∷ next ∷ lines) a r =
    no_values v (known ++ line.clause ∷ []) (next ∷ lines)
    (all_true_push v known line.clause a (line_true v known line a (and_left _ _ (and_left _ _ r)))) (and_right _ _ r)

pub refuted : (clauses : List (List Lit)) (lines : List RupLine) → refutes clauses lines ≡ true → HaveNoModel clauses
refuted clauses lines r v =
    elim (true_or_false (all_true v clauses)) [
      | inl t ↦ absurd (no_values v clauses lines t r)
      | inr f ↦ f
    ]
