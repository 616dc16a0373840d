-- Looking terms up for names, in lists that are put together, and substitutions that agree.
use Rattle.std.proofs.Common.{◌≡◌, ℕ, Bool as Truth, true, false, cond, Option, Some, None, List, [], ◌∷◌, ◌++◌, refl, sym, ap, ◌∙◌, rules}
use Rattle.std.specs.Map.{lookup}
use Rattle.qterm.specs.declared.name.Name.{Name}
use Rattle.qterm.specs.Tree.{Tree, Trees, True, False, Var, Num, Sum, Scale, Le, Eq, Iff, Not, And, Or, Ite, none, more}
use Rattle.qterm.specs.Store.{tree_at, HasSort}
use Rattle.qterm.proofs.Alls.{All-push}
use Rattle.qeval.specs.Value.{same_name}
use Rattle.qeval.proofs.Valuations.{same_name_exact}
use Rattle.qsubst.specs.Substitution.{Substitution, image, replaced, replaced_all, replaced_each, images_at, AreImages}

pub same_name_itself : (n : Name) → same_name n n ≡ true
same_name_itself n = search rules

-- the first of two, where there is one
abbrev pub or_else : {X : Type 0} → Option X → Option X → Option X
or_else None o = o
or_else (Some x) o = Some x

pub lookup-append : {X : Type 0} (p : Name → Truth) (xs ys : List (Name × X)) → lookup p (xs ++ ys) ≡ or_else (lookup p xs) (lookup p ys)
lookup-append p [] ys = refl
lookup-append p (x ∷ xs) ys = by (p x.0) (lookup-append p xs ys)
  where
    by : (b : Truth) → lookup p (xs ++ ys) ≡ or_else (lookup p xs) (lookup p ys) → cond b (Some x.1) (lookup p (xs ++ ys)) ≡ or_else (cond b (Some x.1) (lookup p xs)) (lookup p ys)
    by true ih = refl
    by false ih = ih

-- a name that has a term keeps it
pub lookup_kept : (es : List (Name × ℕ)) (m : Name) (i j : ℕ) → lookup (same_name m) es ≡ Some i → (n : Name) → lookup (same_name n) es ≡ lookup (same_name n) (es ++ (m, j) ∷ [])
lookup_kept es m i j h n = sym (lookup-append (same_name n) es ((m, j) ∷ []) ∙ by (same_name n m) refl)
  where
    by : (b : Truth) → same_name n m ≡ b → or_else (lookup (same_name n) es) (lookup (same_name n) ((m, j) ∷ [])) ≡ lookup (same_name n) es
    by true q =
        let e : lookup (same_name n) es ≡ Some i = ap (λ k. lookup (same_name k) es) (same_name_exact n m q) ∙ h in
        ap (λ o. or_else o (lookup (same_name n) ((m, j) ∷ []))) e ∙ sym e
    by false q = ap (λ b. or_else (lookup (same_name n) es) (cond b (Some j) None)) q ∙ none_last (lookup (same_name n) es)
      where
        none_last : (o : Option ℕ) → or_else o None ≡ o
        none_last None = refl
        none_last (Some x) = refl

-- look-ups that agree by numbers agree by terms
abbrev mapped : {X Y : Type 0} → (X → Y) → Option X → Option Y
mapped f None = None
mapped f (Some x) = Some (f x)

lookup_at : (ts : List Tree) (p : Name → Truth) (es : List (Name × ℕ)) → lookup p (images_at ts es) ≡ mapped (tree_at ts) (lookup p es)
lookup_at ts p [] = refl
lookup_at ts p (e ∷ es) = by (p e.0) (lookup_at ts p es)
  where
    by : (b : Truth) → lookup p (images_at ts es) ≡ mapped (tree_at ts) (lookup p es) → cond b (Some (tree_at ts e.1)) (lookup p (images_at ts es)) ≡ mapped (tree_at ts) (cond b (Some e.1) (lookup p es))
    by true ih = refl
    by false ih = ih

pub lookup_images_same : (ts : List Tree) (p : Name → Truth) (es fs : List (Name × ℕ)) → lookup p es ≡ lookup p fs → lookup p (images_at ts es) ≡ lookup p (images_at ts fs)
lookup_images_same ts p es fs e = lookup_at ts p es ∙ ap (mapped (tree_at ts)) e ∙ sym (lookup_at ts p fs)

pub images_at-append : (ts : List Tree) (es fs : List (Name × ℕ)) → images_at ts (es ++ fs) ≡ images_at ts es ++ images_at ts fs
images_at-append ts [] fs = refl
images_at-append ts (e ∷ es) fs = λ i. (e.0, tree_at ts e.1) ∷ images_at-append ts es fs i

pub AreImages-push : (ts : List Tree) (es : List (Name × ℕ)) (n : Name) (i : ℕ) → AreImages ts es → HasSort n.sort ts i → AreImages ts (es ++ (n, i) ∷ [])
AreImages-push ts es n i a h = All-push (λ (e : Name × ℕ). HasSort e.0.sort ts e.1) es (n, i) a h

-- ---- substitutions that agree on each name
module _ (s t : Substitution) (same : (n : Name) → image s n ≡ image t n) where
  mutual
    pub replaced_agree : (u : Tree) → replaced s u ≡ replaced t u
    replaced_agree True = refl
    replaced_agree False = refl
    replaced_agree (Var n) = same n
    replaced_agree (Num z) = refl
    replaced_agree (Sum us) = ap Sum (replaced_all_agree us)
    replaced_agree (Scale z a) = ap (Scale z) (replaced_agree a)
    replaced_agree (Le a b) = let e = replaced_agree a in let f = replaced_agree b in λ i. Le (e i) (f i)
    replaced_agree (Eq a b) = let e = replaced_agree a in let f = replaced_agree b in λ i. Eq (e i) (f i)
    replaced_agree (Iff a b) = let e = replaced_agree a in let f = replaced_agree b in λ i. Iff (e i) (f i)
    replaced_agree (Not a) = ap Not (replaced_agree a)
    replaced_agree (And us) = ap And (replaced_all_agree us)
    replaced_agree (Or us) = ap Or (replaced_all_agree us)
    replaced_agree (Ite c a b) = let e = replaced_agree c in let f = replaced_agree a in let g = replaced_agree b in λ i. Ite (e i) (f i) (g i)

    pub replaced_all_agree : (us : Trees) → replaced_all s us ≡ replaced_all t us
    replaced_all_agree none = refl
    replaced_all_agree (more u us) = let e = replaced_agree u in let f = replaced_all_agree us in λ i. more (e i) (f i)

  pub replaced_each_agree : (us : List Tree) → replaced_each s us ≡ replaced_each t us
  replaced_each_agree [] = refl
  replaced_each_agree (u ∷ us) = let e = replaced_agree u in let f = replaced_each_agree us in λ i. e i ∷ f i
