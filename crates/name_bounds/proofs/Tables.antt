-- A table of ranges, formula by formula.
use Rattle.std.proofs.Common.{◌≡◌, ℕ, ◌+◌, ◌<◌, ◌≤◌, ℤ, List, length, drop, get_or, Bool as Truth, true, false, cond, if◌then◌else◌, Option, Some, None, nat_eq, refl, sym, ap, subst, ◌∙◌, rules}
use Rattle.std.specs.Int.{int_min, int_max}
use Rattle.std.proofs.lemmas.List.{drop_all}
use Rattle.std.proofs.lemmas.Bool.{eqb-true}
use Rattle.qterm.specs.declared.name.Name.{Name}
use Rattle.qterm.specs.Tree.{Tree, Var}
use Rattle.qterm.specs.Store.{Has, tree_at, trees_of, IsDistinct}
use Rattle.qeval.specs.Value.{same_name}
use Rattle.qeval.proofs.Valuations.{same_name_exact}
use Rattle.qeval.specs.Bounds.{low_in, up_in, low_of, up_of, picked}
use Rattle.qeval.proofs.Tightest.{max_assoc, min_assoc, picks}
use Rattle.name_bounds.specs.declared.table.Range.{Range}
use Rattle.name_bounds.specs.declared.table.Bound.{Bound}
use Rattle.name_bounds.specs.Ranges.{range_of, tighter, Bounds, BoundsNone, AreRanges, IsTighter}

-- ---- a range and no bound
picked_none : (pick : ℤ → ℤ → ℤ) (o : Option ℤ) → picked pick o None ≡ o
picked_none pick None = refl
picked_none pick (Some z) = refl

pub tighter_none : (r : Range) → tighter r None None ≡ r
tighter_none r = λ i. record { low = picked_none int_max r.low i; up = picked_none int_min r.up i }

same_name_itself : (n : Name) → same_name n n ≡ true
same_name_itself n = search rules

name_of_var : (x y : Name) → Var x ≡ Var y → x ≡ y
name_of_var x y e = cc

-- ---- one formula more
pub noted : (ts : List Tree) (f : Tree) (b : Bound) (old new : ℕ → Option Range) → IsDistinct ts → Bounds ts f b → ((j : ℕ) → new j ≡ cond (nat_eq b.id j) (Some (tighter (range_of (old b.id)) b.low b.up)) (old j)) → IsTighter ts f old new
noted ts f b old new d h put i x has is = by (nat_eq b.id i) refl
  where
    goes : (w : Truth) → nat_eq b.id i ≡ w → range_of (new i) ≡ range_of (cond w (Some (tighter (range_of (old b.id)) b.low b.up)) (old i))
    goes w e = ap range_of (put i ∙ ap (λ v. cond v (Some (tighter (range_of (old b.id)) b.low b.up)) (old i)) e)

    by : (w : Truth) → nat_eq b.id i ≡ w → range_of (new i) ≡ tighter (range_of (old i)) (low_in x f) (up_in x f)
    by true e =
        let at : b.id ≡ i = eqb-true b.id i e in
        let same : x ≡ h.name = name_of_var x h.name (sym is ∙ ap (tree_at ts) (sym at) ∙ h.is) in
        let yes : same_name x h.name ≡ true = subst (λ y. same_name x y ≡ true) same (same_name_itself x) in
        let low : low_in x f ≡ b.low = h.low x ∙ ap (λ v. if v then b.low else None) yes in
        let up : up_in x f ≡ b.up = h.up x ∙ ap (λ v. if v then b.up else None) yes in
        goes true e ∙ (λ j. tighter (range_of (old (at j))) (sym low j) (sym up j))
    by false e =
        let no : same_name x h.name ≡ false = apart (same_name x h.name) refl e in
        let low : low_in x f ≡ None = h.low x ∙ ap (λ v. if v then b.low else None) no in
        let up : up_in x f ≡ None = h.up x ∙ ap (λ v. if v then b.up else None) no in
        goes false e ∙ sym (tighter_none (range_of (old i))) ∙ (λ j. tighter (range_of (old i)) (sym low j) (sym up j))
      where
        apart : (w : Truth) → same_name x h.name ≡ w → nat_eq b.id i ≡ false → w ≡ false
        apart false q e = refl
        apart true q e =
            let at : b.id ≡ i = d b.id i h.has has (h.is ∙ ap Var (sym (same_name_exact x h.name q)) ∙ sym is) in
            let eq : nat_eq b.id b.id ≡ true = search rules in
            sym eq ∙ ap (nat_eq b.id) at ∙ e

pub not_noted : (ts : List Tree) (f : Tree) (table : ℕ → Option Range) → BoundsNone f → IsTighter ts f table table
not_noted ts f table h i x has is = sym (tighter_none (range_of (table i))) ∙ (λ j. tighter (range_of (table i)) (sym (h.low x) j) (sym (h.up x) j))

-- ---- the walk over formulas
tighter_next : (ts : List Tree) (x : Name) (fs : List ℕ) (n f : ℕ) (r : Range) → n < length fs → f ≡ get_or fs n f →
    tighter (tighter r (low_in x (tree_at ts f)) (up_in x (tree_at ts f))) (low_of x (trees_of ts (drop (n + 1) fs))) (up_of x (trees_of ts (drop (n + 1) fs)))
    ≡ tighter r (low_of x (trees_of ts (drop n fs))) (up_of x (trees_of ts (drop n fs)))
tighter_next ts x fs n f r l e = λ i. record {
  low = picks int_max max_assoc (low_in x) ts fs n f r.low l e i;
  up = picks int_min min_assoc (up_in x) ts fs n f r.up l e i;
}

-- what is taken in so far, with what is still to come, stays the whole
abbrev pub SoFar : List Tree → List ℕ → ℕ → (ℕ → Option Range) → Type 0
SoFar ts fs n table = (i : ℕ) (x : Name) → Has ts i → tree_at ts i ≡ Var x →
    tighter (range_of (table i)) (low_of x (trees_of ts (drop n fs))) (up_of x (trees_of ts (drop n fs))) ≡ record { low = low_of x (trees_of ts fs); up = up_of x (trees_of ts fs) }

pub still_so : (ts : List Tree) (fs : List ℕ) (n f : ℕ) (old new : ℕ → Option Range) → n < length fs → f ≡ get_or fs n f → IsTighter ts (tree_at ts f) old new → SoFar ts fs n old → SoFar ts fs (n + 1) new
still_so ts fs n f old new l e t so i x has is =
    ap (λ r. tighter r (low_of x (trees_of ts (drop (n + 1) fs))) (up_of x (trees_of ts (drop (n + 1) fs)))) (t i x has is) ∙ tighter_next ts x fs n f (range_of (old i)) l e ∙ so i x has is

pub so_begins : (ts : List Tree) (fs : List ℕ) (table : ℕ → Option Range) → ((i : ℕ) → table i ≡ None) → SoFar ts fs 0 table
so_begins ts fs table none i x has is = ap (λ r. tighter (range_of r) (low_of x (trees_of ts fs)) (up_of x (trees_of ts fs))) (none i)

pub so_ends : (ts : List Tree) (fs : List ℕ) (n : ℕ) (table : ℕ → Option Range) → length fs ≤ n → SoFar ts fs n table → AreRanges ts (trees_of ts fs) table
so_ends ts fs n table l so i x has is =
    let e = drop_all n fs l in
    sym (tighter_none (range_of (table i))) ∙ ap (λ us. tighter (range_of (table i)) (low_of x (trees_of ts us)) (up_of x (trees_of ts us))) (sym e) ∙ so i x has is
