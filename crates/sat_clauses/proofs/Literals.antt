-- Reading literals one by one.
use Rattle.std.proofs.Common.{◌≡◌, ℕ, suc, zero, ◌+◌, ◌<◌, ◌≤◌, List, [], ◌∷◌, ◌++◌, length, map, get_or, drop, refl, sym, ap, subst, ◌∙◌, arith, Option, Some, None}
use Rattle.std.specs.Prelude.{IfSome}
use Rattle.std.specs.Option.{option_map}
use Rattle.qterm.specs.declared.name.Name.{Name}
use Rattle.qterm.specs.Tree.{Tree}
use Rattle.qterm.specs.Store.{tree_at, trees_at}
use Rattle.rup.specs.declared.literal.Lit.{Lit as Numbered}
use Rattle.tac_cert.specs.Clauses.{Lit, lit_of, lits_in, put_lit}
use Rattle.sat_clauses.specs.Coding.{lit_with, AreBelow}

map_push : (f : ℕ → Name) (xs : List Numbered) (l : Numbered) → map (lit_with f) (xs ++ l ∷ []) ≡ map (lit_with f) xs ++ lit_with f l ∷ []
map_push f [] l = refl
map_push f (x ∷ xs) l = ap (λ ys. lit_with f x ∷ ys) (map_push f xs l)

pub below_push : (v : ℕ) (xs : List Numbered) (l : Numbered) → AreBelow v xs → l.var < v → AreBelow v (xs ++ l ∷ [])
below_push v [] l n p = (p, tt)
below_push v (x ∷ xs) l n p = (n.0, below_push v xs l n.1 p)

drop_next : (is : List ℕ) (k h : ℕ) → k < length is → h ≡ get_or is k h → drop k is ≡ h ∷ drop (k + 1) is
drop_next is k h l e = let s : k + 1 ≡ suc k = omega arith in rw s (by is k l e)
  where
    by : (hs : List ℕ) (k : ℕ) → k < length hs → h ≡ get_or hs k h → drop k hs ≡ h ∷ drop (suc k) hs
    by [] k l e = absurd (omega (arith, l))
    by (x ∷ hs) zero l e = λ i. sym e i ∷ hs
    by (x ∷ hs) (suc k) l e = by hs k (omega (arith, l)) e

-- ---- the loop over the terms of a clause
abbrev pub joined_lits : List Lit → Option (List Lit) → Option (List Lit)
joined_lits xs None = None
joined_lits xs (Some ys) = Some (xs ++ ys)

append_one : (xs ys : List Lit) (l : Lit) → xs ++ (l ∷ ys) ≡ (xs ++ l ∷ []) ++ ys
append_one [] ys l = refl
append_one (x ∷ xs) ys l = ap (λ r. x ∷ r) (append_one xs ys l)

append_none : (xs : List Lit) → xs ++ [] ≡ xs
append_none [] = refl
append_none (x ∷ xs) = ap (λ r. x ∷ r) (append_none xs)

joined_put : (xs : List Lit) (l : Lit) (o : Option (List Lit)) → joined_lits xs (put_lit (Some l) o) ≡ joined_lits (xs ++ l ∷ []) o
joined_put xs l None = refl
joined_put xs l (Some ys) = ap Some (append_one xs ys l)

pub joined_none : (o : Option (List Lit)) → joined_lits [] o ≡ o
joined_none None = refl
joined_none (Some ys) = refl

pub lits_more : (f : ℕ → Name) (ts : List Tree) (xs more : List Numbered) (is : List ℕ) (k i : ℕ) (o : Option Numbered) (l : Numbered) → k < length is → i ≡ get_or is k i → option_map (lit_with f) o ≡ lit_of (tree_at ts i) → o ≡ Some l → more ≡ xs ++ l ∷ []
    → joined_lits (map (lit_with f) more) (lits_in (trees_at ts (drop (k + 1) is))) ≡ joined_lits (map (lit_with f) xs) (lits_in (trees_at ts (drop k is)))
lits_more f ts xs more is k i o l m e q g h =
    let lit : lit_of (tree_at ts i) ≡ Some (lit_with f l) = sym q ∙ ap (option_map (lit_with f)) g in
    sym (ap (λ js. joined_lits (map (lit_with f) xs) (lits_in (trees_at ts js))) (drop_next is k i m e) ∙ ap (λ x. joined_lits (map (lit_with f) xs) (put_lit x (lits_in (trees_at ts (drop (k + 1) is))))) lit
    ∙ joined_put (map (lit_with f) xs) (lit_with f l) (lits_in (trees_at ts (drop (k + 1) is))) ∙ ap (λ ys. joined_lits ys (lits_in (trees_at ts (drop (k + 1) is)))) (sym (ap (map (lit_with f)) h ∙ map_push f xs l)))

pub lits_stop : (f : ℕ → Name) (ts : List Tree) (xs : List Numbered) (is : List ℕ) (k i : ℕ) (o : Option Numbered) → k < length is → i ≡ get_or is k i → option_map (lit_with f) o ≡ lit_of (tree_at ts i) → o ≡ None → joined_lits (map (lit_with f) xs) (lits_in (trees_at ts (drop k is))) ≡ None
lits_stop f ts xs is k i o m e q g =
    let lit : lit_of (tree_at ts i) ≡ None = sym q ∙ ap (option_map (lit_with f)) g in
    ap (λ js. joined_lits (map (lit_with f) xs) (lits_in (trees_at ts js))) (drop_next is k i m e) ∙ ap (λ x. joined_lits (map (lit_with f) xs) (put_lit x (lits_in (trees_at ts (drop (k + 1) is))))) lit

pub lits_all : (f : ℕ → Name) (ts : List Tree) (xs : List Numbered) (is : List ℕ) (k : ℕ) → length is ≤ k → joined_lits (map (lit_with f) xs) (lits_in (trees_at ts (drop k is))) ≡ Some (map (lit_with f) xs)
lits_all f ts xs is k l = ap (λ js. joined_lits (map (lit_with f) xs) (lits_in (trees_at ts js))) (none_left is k l) ∙ ap Some (append_none (map (lit_with f) xs))
  where
    none_left : (is : List ℕ) (k : ℕ) → length is ≤ k → drop k is ≡ []
    none_left [] zero l = refl
    none_left [] (suc k) l = refl
    none_left (i ∷ is) zero l = absurd (omega (arith, l))
    none_left (i ∷ is) (suc k) l = none_left is k (omega (arith, l))

pub some_below : (v : ℕ) (o : Option Numbered) (l : Numbered) → IfSome o (λ m. m.var < v) → o ≡ Some l → l.var < v
some_below v o l h e = subst (λ (x : Option Numbered). IfSome x (λ m. m.var < v)) e h

abbrev pub some_of : List Lit → Option (List Lit)
some_of xs = Some xs
