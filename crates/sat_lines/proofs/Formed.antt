-- The term of a clause is the clause, is well sorted, and isn't deep.
use Rattle.std.proofs.Common.{◌≡◌, ℕ, ◌≤◌, Bool as Truth, true, false, ◌&&◌, List, [], ◌∷◌, map, refl, ap, arith, if◌then◌else◌, Some, None}
use Rattle.std.proofs.lemmas.Bool.{le-leb}
use Rattle.qterm.specs.declared.name.Name.{Name}
use Rattle.qterm.specs.declared.name.Sort.TheVariants as sort
use Rattle.qterm.specs.Tree.{Var, Not}
use Rattle.qterm.specs.Kids.{row}
use Rattle.rup.specs.declared.literal.Lit.{Lit as Numbered}
use Rattle.tac_cert.specs.Names.{is_int, same_sort}
use Rattle.tac_cert.specs.Clauses.{lit_of, put_lit, lits_in, lits_of}
use Rattle.tac_cert.specs.Depth.{depth, depths, deepest_term, is_shallow}
use Rattle.tac_cert.specs.WellSorted.{all_sorted, has_sort}
use Rattle.sat_clauses.specs.Coding.{lit_with, clause_with, AreBelow}
use Rattle.sat_lines.specs.Terms.{lit_tree, clause_tree, AreBool}

-- ---- the clause that it is
lit_read : (f : ℕ → Name) (l : Numbered) → (f l.var).sort ≡ sort.Bool → lit_of (lit_tree f l) ≡ Some (lit_with f l)
lit_read f l is = by l.positive
  where
    bool : is_int (f l.var).sort ≡ false
    bool = ap is_int is

    by : (b : Truth) → lit_of (if b then Var (f l.var) else Not (Var (f l.var))) ≡ Some (record { name = f l.var; positive = b })
    by true = ap (λ i. if i then None else Some (record { name = f l.var; positive = true })) bool
    by false = ap (λ i. if i then None else Some (record { name = f l.var; positive = false })) bool

lits_read : (f : ℕ → Name) (v : ℕ) (c : List Numbered) → AreBool v f → AreBelow v c → lits_in (row (map (lit_tree f) c)) ≡ Some (clause_with f c)
lits_read f v [] b n = refl
lits_read f v (l ∷ ls) b n = λ i. put_lit (lit_read f l (b l.var n.0) i) (lits_read f v ls b n.1 i)

pub clause_read : (f : ℕ → Name) (v : ℕ) (c : List Numbered) → AreBool v f → AreBelow v c → lits_of (clause_tree f c) ≡ Some (clause_with f c)
clause_read f v [] b n = refl
clause_read f v (l ∷ ls) b n = lits_read f v (l ∷ ls) b n

-- ---- its depth
lit_depth : (f : ℕ → Name) (l : Numbered) → depth (lit_tree f l) ≤ 2
lit_depth f l = by l.positive
  where
    by : (b : Truth) → depth (if b then Var (f l.var) else Not (Var (f l.var))) ≤ 2
    by true = omega arith
    by false = omega arith

lits_depth : (f : ℕ → Name) (c : List Numbered) → depths (row (map (lit_tree f) c)) ≤ 2
lits_depth f [] = omega arith
lits_depth f (l ∷ ls) = let a = lit_depth f l in let b = lits_depth f ls in omega (arith, a, b)

clause_depth : (f : ℕ → Name) (c : List Numbered) → depth (clause_tree f c) ≤ 3
clause_depth f [] = omega arith
clause_depth f (l ∷ ls) = let a = lits_depth f (l ∷ ls) in omega (arith, a)

three_fit : 3 ≤ deepest_term
unfolding deepest_term
three_fit = omega arith

pub clause_shallow : (f : ℕ → Name) (c : List Numbered) → is_shallow (clause_tree f c) ≡ true
clause_shallow f c = let a = clause_depth f c in let b = three_fit in le-leb (depth (clause_tree f c)) deepest_term (omega (arith, a, b))

-- ---- its sort
lit_sorted : (f : ℕ → Name) (l : Numbered) → (f l.var).sort ≡ sort.Bool → has_sort sort.Bool (lit_tree f l) ≡ true
lit_sorted f l is = by l.positive
  where
    by : (b : Truth) → has_sort sort.Bool (if b then Var (f l.var) else Not (Var (f l.var))) ≡ true
    by true = ap (λ s. same_sort s sort.Bool) is
    by false = ap (λ s. same_sort s sort.Bool && true) is

lits_sorted : (f : ℕ → Name) (v : ℕ) (c : List Numbered) → AreBool v f → AreBelow v c → all_sorted sort.Bool (row (map (lit_tree f) c)) ≡ true
lits_sorted f v [] b n = refl
lits_sorted f v (l ∷ ls) b n = λ i. lit_sorted f l (b l.var n.0) i && lits_sorted f v ls b n.1 i

pub clause_sorted : (f : ℕ → Name) (v : ℕ) (c : List Numbered) → AreBool v f → AreBelow v c → has_sort sort.Bool (clause_tree f c) ≡ true
clause_sorted f v [] b n = refl
clause_sorted f v (l ∷ ls) b n = ap (λ x. x && true) (lits_sorted f v (l ∷ ls) b n)
