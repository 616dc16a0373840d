-- Valuations: each name keeps a value of its sort.
use Rattle.std.proofs.Common.{◌≡◌, Bool as Truth, true, false, cond, if◌then◌else◌, unwrap_or, Some, [], ◌∷◌, refl, sym, subst, rules}
use Rattle.std.specs.Map.{lookup, remove_entry}
use Rattle.indexmap.specs.IndexMap.{insert_entry}
use Rattle.qterm.specs.declared.name.Name.{Name}
use Rattle.qterm.specs.declared.name.Sort.{Sort}
use Rattle.qterm.specs.declared.name.Sort.TheVariants as sort
use Rattle.qeval.specs.declared.model.Value.{Value}
use Rattle.qeval.specs.Value.{Valuation, HasSort, IsSorted, same_name, zero_of, value_of, with_value, without}

-- names that are the same are equal
pub same_name_exact : (m n : Name) → same_name m n ≡ true → m ≡ n
same_name_exact m n h = search rules

-- 0 and false have their sorts
pub HasSort-zero_of : (s : Sort) → HasSort s (zero_of s)
HasSort-zero_of sort.Bool = refl
HasSort-zero_of sort.Int = refl

-- the value of a name has its sort
pub HasSort-value_of : (V : Valuation) (n : Name) → IsSorted V → HasSort n.sort (value_of V n)
HasSort-value_of [] n s = HasSort-zero_of n.sort
HasSort-value_of (e ∷ V) n s = by (HasSort-value_of V n s.1) (same_name n e.0) refl
  where
    by : HasSort n.sort (value_of V n) → (b : Truth) → same_name n e.0 ≡ b → HasSort n.sort (unwrap_or (cond b (Some e.1) (lookup (same_name n) V)) (zero_of n.sort))
    by h true q = let P : Name → Type 0 = λ m. HasSort m.sort e.1 in subst P (sym (same_name_exact n e.0 q)) s.0
    by h false q = h

-- a value of the right sort more
pub IsSorted-with_value : (V : Valuation) (n : Name) (v : Value) → IsSorted V → HasSort n.sort v → IsSorted (with_value V n v)
IsSorted-with_value [] n v s h = (h, tt)
IsSorted-with_value (e ∷ V) n v s h = by (IsSorted-with_value V n v s.1 h) (same_name n e.0) refl
  where
    by : IsSorted (with_value V n v) → (b : Truth) → same_name n e.0 ≡ b → IsSorted (if b then (e.0, v) ∷ V else e ∷ insert_entry same_name V n v)
    by r true q = let P : Name → Type 0 = λ m. HasSort m.sort v in (subst P (same_name_exact n e.0 q) h, s.1)
    by r false q = (s.0, r)

-- a name less
pub IsSorted-without : (V : Valuation) (n : Name) → IsSorted V → IsSorted (without V n)
IsSorted-without [] n s = tt
IsSorted-without (e ∷ V) n s = by (IsSorted-without V n s.1) (same_name n e.0)
  where
    by : IsSorted (without V n) → (b : Truth) → IsSorted (cond b V (e ∷ remove_entry (same_name n) V))
    by r true = s.1
    by r false = (s.0, r)
