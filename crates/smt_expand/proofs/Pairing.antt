-- Arguments put for parameters, by their numbers and by their terms.
use Rattle.std.proofs.Common.{◌≡◌, ◌<◌, ◌≤◌, ◌+◌, ℕ, zero, suc, Bool as Truth, true, false, cond, Option, Some, None, List, [], ◌∷◌, ◌++◌, length, take, get_or, All, refl, sym, ap, subst, ◌∙◌, option_map, arith}
use Rattle.std.specs.Map.{lookup}
use Rattle.qterm.specs.declared.name.Name.{Name}
use Rattle.qterm.specs.Tree.{Tree, Trees, True, False, Var, Num, Sum, Scale, Le, Eq, Iff, Not, And, Or, Ite, none, more, sort_of}
use Rattle.qterm.specs.Store.{tree_at, trees_of, Has, HasSort}
use Rattle.qterm.proofs.Alls.{All-head, All-tail, All-nil, All-cons}
use Rattle.qeval.specs.Value.{same_name}
use Rattle.qsubst.specs.Substitution.{Substitution, image, images_at, AreImages}
use Rattle.smt_theory.specs.Plain.{in_front}
use Rattle.smt_expand.specs.Expanded.{expanded, expanded_all, over_all, put, HaveTheirSorts}
use Rattle.smt_expand.specs.Walk.{pairs}
use Rattle.std.proofs.Common.{unwrap_or}

-- ---- look-ups
module _ {A : Type 0} (p : Name → Truth) where
  -- a look-up behind others
  pub lookup_behind : (xs ys zs : List (Name × A)) → lookup p xs ≡ lookup p ys → lookup p (xs ++ zs) ≡ lookup p (ys ++ zs)
  lookup_behind xs ys zs h = split xs zs ∙ ap (λ o. or o (lookup p zs)) h ∙ sym (split ys zs)
    where
      or : Option A → Option A → Option A
      or None other = other
      or (Some a) other = Some a

      by : (b : Truth) (a : A) (rest : Option A) (other : Option A) → cond b (Some a) (or rest other) ≡ or (cond b (Some a) rest) other
      by true a rest other = refl
      by false a rest other = refl

      split : (xs zs : List (Name × A)) → lookup p (xs ++ zs) ≡ or (lookup p xs) (lookup p zs)
      split [] zs = refl
      split (x ∷ xs) zs = ap (cond (p x.0) (Some x.1)) (split xs zs) ∙ by (p x.0) x.1 (lookup p xs) (lookup p zs)

-- a look-up over numbers finds the term of what is found
images_look : (ts : List Tree) (es : List (Name × ℕ)) (p : Name → Truth) → lookup p (images_at ts es) ≡ option_map (tree_at ts) (lookup p es)
images_look ts [] p = refl
images_look ts (e ∷ es) p = ap (cond (p e.0) (Some (tree_at ts e.1))) (images_look ts es p) ∙ by (p e.0) (lookup p es)
  where
    by : (b : Truth) (o : Option ℕ) → cond b (Some (tree_at ts e.1)) (option_map (tree_at ts) o) ≡ option_map (tree_at ts) (cond b (Some e.1) o)
    by true o = refl
    by false o = refl

-- substitutions in which the same is found
abbrev pub FindTheSame : Substitution → Substitution → Type 0
FindTheSame s t = (n : Name) → lookup (same_name n) s ≡ lookup (same_name n) t

pub same_images : (ts : List Tree) (es fs : List (Name × ℕ)) → ((n : Name) → lookup (same_name n) es ≡ lookup (same_name n) fs) → FindTheSame (images_at ts es) (images_at ts fs)
same_images ts es fs h n = images_look ts es (same_name n) ∙ ap (option_map (tree_at ts)) (h n) ∙ sym (images_look ts fs (same_name n))

module _ (s u : Substitution) (h : FindTheSame s u) where
  mutual
    unfolding expanded expanded_all

    -- they expand a term alike
    pub same_expanded : (t : Tree) → expanded s t ≡ expanded u t
    same_expanded True = refl
    same_expanded False = refl
    same_expanded (Var n) = ap (λ o. Some (unwrap_or o (Var n))) (h n)
    same_expanded (Num z) = refl
    same_expanded (Sum ts) = ap (over_all (Sum ts)) (same_all ts)
    same_expanded (Scale z a) = ap (λ o. over_all (Scale z a) (in_front o (Some []))) (same_expanded a)
    same_expanded (Le a b) = let e = same_expanded a in let f = same_expanded b in λ i. over_all (Le a b) (in_front (e i) (in_front (f i) (Some [])))
    same_expanded (Eq a b) = let e = same_expanded a in let f = same_expanded b in λ i. over_all (Eq a b) (in_front (e i) (in_front (f i) (Some [])))
    same_expanded (Iff a b) = let e = same_expanded a in let f = same_expanded b in λ i. over_all (Iff a b) (in_front (e i) (in_front (f i) (Some [])))
    same_expanded (Not a) = ap (λ o. over_all (Not a) (in_front o (Some []))) (same_expanded a)
    same_expanded (And ts) = ap (over_all (And ts)) (same_all ts)
    same_expanded (Or ts) = ap (over_all (Or ts)) (same_all ts)
    same_expanded (Ite c a b) =
        let d = same_expanded c in let e = same_expanded a in let f = same_expanded b in
        λ i. over_all (Ite c a b) (in_front (d i) (in_front (e i) (in_front (f i) (Some []))))

    pub same_all : (ts : Trees) → expanded_all s ts ≡ expanded_all u ts
    same_all none = refl
    same_all (more t ts) = let e = same_expanded t in let f = same_all ts in λ i. in_front (e i) (f i)

-- ---- parameters with arguments
pub pairs_at : (ts : List Tree) (ps : List Name) (ids : List ℕ) → images_at ts (pairs ps ids) ≡ put ps (trees_of ts ids)
pairs_at ts [] ids = refl
pairs_at ts (p ∷ ps) [] = refl
pairs_at ts (p ∷ ps) (id ∷ ids) = ap (λ s. (p, tree_at ts id) ∷ s) (pairs_at ts ps ids)

pub pair_taken : (ps : List Name) (ids : List ℕ) (at : ℕ) (p : Name) (id : ℕ) → at < length ps → at < length ids → p ≡ get_or ps at p → id ≡ get_or ids at id → take (suc at) (pairs ps ids) ≡ take at (pairs ps ids) ++ (p, id) ∷ []
pair_taken [] ids at p id l k e f = absurd (omega (arith, l))
pair_taken (q ∷ ps) [] at p id l k e f = absurd (omega (arith, k))
pair_taken (q ∷ ps) (i ∷ ids) zero p id l k e f = λ x. (sym e x, sym f x) ∷ []
pair_taken (q ∷ ps) (i ∷ ids) (suc at) p id l k e f = ap (λ s. (q, i) ∷ s) (pair_taken ps ids at p id (omega (arith, l)) (omega (arith, k)) e f)

pub pairs_all : (ps : List Name) (ids : List ℕ) (at : ℕ) → (at < length ps → at < length ids → ⊥) → take at (pairs ps ids) ≡ pairs ps ids
pairs_all [] ids at h = by at
  where
    by : (at : ℕ) → take at (pairs [] ids) ≡ []
    by zero = refl
    by (suc at) = refl
pairs_all (p ∷ ps) [] at h = by at
  where
    by : (at : ℕ) → take at (pairs (p ∷ ps) []) ≡ []
    by zero = refl
    by (suc at) = refl
pairs_all (p ∷ ps) (id ∷ ids) zero h = absurd (h (omega arith) (omega arith))
pairs_all (p ∷ ps) (id ∷ ids) (suc at) h = ap (λ s. (p, id) ∷ s) (pairs_all ps ids at (λ l k. h (omega (arith, l)) (omega (arith, k))))

-- the argument at a place has the sort of its parameter
pub their_sort : (ts : List Tree) (ps : List Name) (ids : List ℕ) (at : ℕ) (p : Name) (id : ℕ) → at < length ps → at < length ids → p ≡ get_or ps at p → id ≡ get_or ids at id → All (Has ts) ids → HaveTheirSorts ps (trees_of ts ids) → HasSort p.sort ts id
their_sort ts [] ids at p id l k e f h s = absurd (omega (arith, l))
their_sort ts (q ∷ ps) [] at p id l k e f h s = absurd (omega (arith, k))
their_sort ts (q ∷ ps) (i ∷ ids) zero p id l k e f h s =
    (subst (Has ts) (sym f) (All-head (Has ts) i ids h), ap (λ j. sort_of (tree_at ts j)) f ∙ s.0 ∙ ap (λ n. n.sort) (sym e))
their_sort ts (q ∷ ps) (i ∷ ids) (suc at) p id l k e f h s = their_sort ts ps ids at p id (omega (arith, l)) (omega (arith, k)) e f (All-tail (Has ts) i ids h) s.1
