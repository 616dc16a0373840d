-- Bounds that are missing, name by name.
use Rattle.std.proofs.Common.{◌≡◌, ℕ, ℤ, suc, zero, ◌+◌, ◌<◌, ◌≤◌, Bool as Truth, true, false, List, [], ◌∷◌, ◌++◌, length, get_or, take, map, Option, Some, None, All, refl, sym, ap, subst, ◌∙◌, arith, append_assoc, append-nil, length-append, if◌then◌else◌}
use Rattle.std.specs.List.{Contains}
use Rattle.std.proofs.lemmas.List.{length-map}
use Rattle.std.proofs.lemmas.List.Elements.{Contains-append_left}
use Rattle.qterm.specs.declared.name.Name.{Name}
use Rattle.qterm.specs.declared.name.Sort.{Sort}
use Rattle.qterm.specs.declared.name.Sort.TheVariants as sort
use Rattle.qterm.specs.Tree.{Tree, Var, sort_of}
use Rattle.qterm.specs.Store.{tree_at, trees_of, HasSort, Has, Shows, Extends}
use Rattle.qterm.proofs.Alls.{All-weaker}
use Rattle.qterm.proofs.Extending.{trees_of_extends}
use Rattle.qterm.proofs.KidsLaws.{trees_of-append, length-trees_of}
use Rattle.qeval.specs.Value.{Valuation}
use Rattle.qeval.specs.Bounds.{low_of, up_of}
use Rattle.qgoal.specs.Meaning.{IsModel}
use Rattle.qsubst.specs.Names.{names_of}
use Rattle.name_bounds.specs.declared.table.Range.{Range}
use Rattle.name_bounds.specs.Missing.{is_int, if_none, missing_of, missing, all_missing, bounded, lacks_bounds}
use borrow.Author.Tests.{ltb-false}

-- formulas that are there
have_formulas : (s : Sort) (ts : List Tree) (is : List ℕ) → All (HasSort s ts) is → All (Has ts) is
have_formulas s ts is h = All-weaker (HasSort s ts) (Has ts) is (λ i k. k.0) h

-- one formula more at the end, over a store that has grown
pub pushed : (old new : List Tree) (is js : List ℕ) (i : ℕ) (t : Tree) → Extends old new → All (HasSort sort.Bool old) is → js ≡ is ++ i ∷ [] → Shows new i t → trees_of new js ≡ trees_of old is ++ t ∷ []
pushed old new is js i t x h e s =
    ap (trees_of new) e ∙ trees_of-append new is (i ∷ []) ∙ (λ k. trees_of_extends old new is x (have_formulas sort.Bool old is h) k ++ s.is k ∷ [])

int_is : (ts : List Tree) (i : ℕ) (x : Name) (s : Sort) → tree_at ts i ≡ Var x → s ≡ sort_of (tree_at ts i) → is_int x.sort ≡ is_int s
int_is ts i x s e q = sym (ap is_int (q ∙ ap sort_of e))

pub both_pushed : (A B C : List Tree) (low up : Option ℤ) (f g : Tree) → B ≡ A ++ if_none low f → C ≡ B ++ if_none up g → C ≡ A ++ (if_none low f ++ if_none up g)
both_pushed A B C low up f g p q = q ∙ ap (λ b. b ++ if_none up g) p ∙ append_assoc A (if_none low f) (if_none up g)

-- a name whose sort is Int
pub where_int : (ts : List Tree) (i : ℕ) (x : Name) (l u : ℤ) (given r : Range) (A C : List Tree) → tree_at ts i ≡ Var x → sort.Int ≡ sort_of (tree_at ts i) → given ≡ r → C ≡ A ++ missing_of l u x given
    → C ≡ A ++ (if is_int x.sort then missing_of l u x r else [])
where_int ts i x l u given r A C e s g h = h ∙ ap (λ q. A ++ missing_of l u x q) g ∙ ap (λ b. A ++ (if b then missing_of l u x r else [])) (sym (int_is ts i x sort.Int e s))

-- ---- names one by one
pub record NameAt (ts : List Tree) (ns : List Name) (k i : ℕ) : Type 0 where
  pub name : Name
  pub is : tree_at ts i ≡ Var name
  pub taken : take (k + 1) ns ≡ take k ns ++ name ∷ []

pub name_at_place : (ts : List Tree) (is : List ℕ) (ns : List Name) (k i : ℕ) → trees_of ts is ≡ map Var ns → k < length is → i ≡ get_or is k i → NameAt ts ns k i
name_at_place ts is ns k i e l q = let p : k + 1 ≡ suc k = omega arith in let r = by is ns k e l q in record { name = r.0; is = r.1; taken = ap (λ n. take n ns) p ∙ r.2 }
  where
    by : (is : List ℕ) (ns : List Name) (k : ℕ) → trees_of ts is ≡ map Var ns → k < length is → i ≡ get_or is k i → (x : Name) × (tree_at ts i ≡ Var x) × (take (suc k) ns ≡ take k ns ++ x ∷ [])
    by [] ns k e l q = absurd (omega (arith, l))
    by (j ∷ js) [] k e l q = cc
    by (j ∷ js) (n ∷ ns) zero e l q = (n, ap (tree_at ts) q ∙ ap (λ us. get_or us 0 (Var n)) e, refl)
    by (j ∷ js) (n ∷ ns) (suc k) e l q =
        let t : trees_of ts js ≡ map Var ns = ap tail e in
        let r = by js ns k t (omega (arith, l)) q in
        (r.0, r.1, ap (λ ms. n ∷ ms) r.2)
      where
        tail : List Tree → List Tree
        tail [] = []
        tail (u ∷ us) = us

all_missing-append : (l u : ℤ) (fs : List Tree) (xs ys : List Name) → all_missing l u fs (xs ++ ys) ≡ all_missing l u fs xs ++ all_missing l u fs ys
all_missing-append l u fs [] ys = refl
all_missing-append l u fs (x ∷ xs) ys = ap (λ gs. missing l u fs x ++ gs) (all_missing-append l u fs xs ys) ∙ sym (append_assoc (missing l u fs x) (all_missing l u fs xs) (all_missing l u fs ys))

-- the bounds of one name more
pub missing_more : (l u : ℤ) (fs done new : List Tree) (ns : List Name) (k : ℕ) (x : Name) (r : Range) → take (k + 1) ns ≡ take k ns ++ x ∷ [] → r ≡ record { low = low_of x fs; up = up_of x fs } → done ≡ fs ++ all_missing l u fs (take k ns)
    → new ≡ done ++ (if is_int x.sort then missing_of l u x r else []) → new ≡ fs ++ all_missing l u fs (take (k + 1) ns)
missing_more l u fs done new ns k x r t p d e =
    let m : (if is_int x.sort then missing_of l u x r else []) ≡ missing l u fs x = λ i. if is_int x.sort then missing_of l u x (p i) else [] in
    let a : all_missing l u fs (take (k + 1) ns) ≡ all_missing l u fs (take k ns) ++ missing l u fs x =
    ap (all_missing l u fs) t ∙ all_missing-append l u fs (take k ns) (x ∷ []) ∙ ap (λ gs. all_missing l u fs (take k ns) ++ gs) (append-nil (missing l u fs x)) in
    e ∙ (λ i. d i ++ m i) ∙ append_assoc fs (all_missing l u fs (take k ns)) (missing l u fs x) ∙ ap (λ gs. fs ++ gs) (sym a)

-- all names are done
pub all_done : (l u : ℤ) (fs done : List Tree) (ns : List Name) (k : ℕ) → length ns ≤ k → done ≡ fs ++ all_missing l u fs (take k ns) → done ≡ fs ++ all_missing l u fs ns
all_done l u fs done ns k h e = e ∙ ap (λ ms. fs ++ all_missing l u fs ms) (all ns k h)
  where
    all : (ns : List Name) (k : ℕ) → length ns ≤ k → take k ns ≡ ns
    all [] zero h = refl
    all [] (suc k) h = refl
    all (n ∷ ns) zero h = absurd (omega (arith, h))
    all (n ∷ ns) (suc k) h = ap (λ ms. n ∷ ms) (all ns k (omega (arith, h)))

-- there are as many names as numbers
pub as_many_names : (ts : List Tree) (is : List ℕ) (ns : List Name) → trees_of ts is ≡ map Var ns → length ns ≡ length is
as_many_names ts is ns e = sym (length-map ns Var) ∙ ap length (sym e) ∙ length-trees_of ts is

-- ---- models
-- a model of the formulas and the bounds is one of the formulas
pub bounded_models : (l u : ℤ) (V : Valuation) (fs : List Tree) → IsModel V (bounded l u fs) → IsModel V fs
bounded_models l u V fs m = record { sorted = m.sorted; holds = λ f c. m.holds f (Contains-append_left fs (all_missing l u fs (names_of fs)) f c) }

-- where no bound is missing, nothing is added
pub bounded_all : (l u : ℤ) (fs : List Tree) → lacks_bounds l u fs ≡ false → bounded l u fs ≡ fs
bounded_all l u fs h =
    let added = all_missing l u fs (names_of fs) in
    let le : length (bounded l u fs) ≤ length fs = ltb-false (length fs) (length (bounded l u fs)) h in
    let n : length added ≡ 0 = omega (arith, le, length-append fs added) in
    ap (λ gs. fs ++ gs) (nothing added n) ∙ append-nil fs
  where
    nothing : (gs : List Tree) → length gs ≡ 0 → gs ≡ []
    nothing [] z = refl
    nothing (x ∷ gs) z = absurd (omega (arith, z))
