-- Numbers and names are linear forms as they stand, and two parts of different terms are apart.
use Rattle.std.proofs.Common.{◌≡◌, ℕ, ℤ, List, [], ◌∷◌, sym, ap, subst, ◌∙◌, arith}
use Rattle.std.specs.List.{IsDistinct}
use Rattle.std.proofs.lemmas.Bool.{ne_eqb}
use Rattle.qterm.specs.declared.name.Name.{Name}
use Rattle.qterm.specs.declared.name.Sort.TheVariants as sort
use Rattle.qterm.specs.Tree.{Tree, Num, Var, sort_of}
use Rattle.qterm.specs.Store.{tree_at, Shows, HasSort}
use Rattle.qlin.specs.Reading.{IsLinear}
use Rattle.qlin.specs.Collect.{AreApart}

pub number_sort : (ts : List Tree) (i : ℕ) (z : ℤ) → Shows ts i (Num z) → HasSort sort.Int ts i
number_sort ts i z s = (s.has, ap sort_of s.is)

pub number_linear : (ts : List Tree) (i : ℕ) (z : ℤ) → Shows ts i (Num z) → IsLinear (tree_at ts i)
number_linear ts i z s = subst IsLinear (sym s.is) (record { rising = tt; last = tt })

pub name_sort : (ts : List Tree) (i : ℕ) (n : Name) → Shows ts i (Var n) → n.sort ≡ sort.Int → HasSort sort.Int ts i
name_sort ts i n s e = (s.has, ap sort_of s.is ∙ e)

pub name_linear : (ts : List Tree) (i : ℕ) (n : Name) → Shows ts i (Var n) → IsLinear (tree_at ts i)
name_linear ts i n s = subst IsLinear (sym s.is) (record { rising = (omega arith, tt, tt); last = tt })

pub two_apart : (p q : ℤ × ℕ) → (p.1 ≡ q.1 → ⊥) → AreApart (p ∷ q ∷ [])
unfolding IsDistinct
two_apart p q h = ((ne_eqb p.1 q.1 h, tt), (tt, tt))
