-- Names are shifted one by one.
use Rattle.std.specs.Prelude.{◌≡◌, ℕ, ℤ, List, [], ◌∷◌, ◌++◌, ◌||◌, Option, Some, None}
use Rattle.std.specs.Str.{bytes_eq}
use Rattle.std.specs.Map.{lookup}
use Rattle.qterm.specs.declared.name.Name.{Name}
use Rattle.qterm.specs.declared.name.Sort.TheVariants as sort
use Rattle.qterm.specs.Tree.{Tree}
use Rattle.qterm.specs.Store.{Shows}
use Rattle.qeval.specs.Value.{same_name}
use Rattle.name_bounds.specs.declared.table.Range.{Range}
use Rattle.name_bounds.specs.Ranges.{range_of}
use Rattle.qsubst.specs.Names.{names_of}
use Rattle.qsubst.specs.Fresh.{is_taken, texts_of, IsFresh, AreFresh}
use Rattle.qsubst.specs.Substitution.{images_at}
use Rattle.shift_lists.specs.declared.shifting.Shift.{Shift}
use Rattle.shift_lists.specs.Shifts.{bases, old_names, new_names, shifts_of, shifted, images_of, AreInt}

-- the lower bound that a table has for a number
abbrev pub low_at : (ℕ → Option Range) → ℕ → Option ℤ
low_at table i = (range_of (table i)).low

-- a name with a number, where there is one
abbrev pub paired : Name → Option ℤ → List (Name × ℤ)
paired x None = []
paired x (Some z) = (x, z) ∷ []

-- the name x is shifted by z: its fresh name is new and then taken, and its term is put for it
pub record AddsShift (ts : List Tree) (x : Name) (z : ℤ) (T U : List (List ℕ)) (es fs : List (Name × ℕ)) (ss rs : List Shift) : Type 0 where
  pub shift : Shift
  pub name : shift.name ≡ x
  pub by : shift.by ≡ z
  pub sort : shift.fresh.sort ≡ sort.Int
  pub fresh : IsFresh T x.text shift.fresh.text
  pub taken : (t : List ℕ) → is_taken U t ≡ (is_taken T t || bytes_eq t shift.fresh.text)
  pub term : ℕ
  pub shows : Shows ts term (shifted shift)
  pub looks : (n : Name) → lookup (same_name n) fs ≡ lookup (same_name n) (es ++ (x, term) ∷ [])
  pub shifts : rs ≡ ss ++ shift ∷ []

-- the names, of which there is one at most, are shifted
abbrev pub Step : List Tree → List (Name × ℤ) → List (List ℕ) → List (List ℕ) → List (Name × ℕ) → List (Name × ℕ) → List Shift → List Shift → Type 0
Step ts [] T U es fs ss rs = (U ≡ T) × (fs ≡ es) × (rs ≡ ss)
Step ts (e ∷ []) T U es fs ss rs = (e.0.sort ≡ sort.Int) × AddsShift ts e.0 e.1 T U es fs ss rs
Step ts (e ∷ d ∷ ds) T U es fs ss rs = ⊥

-- the names xs of the formulas are shifted so far
pub record HasShifts (T : List (List ℕ)) (ts fs : List Tree) (xs : List Name) (U : List (List ℕ)) (es : List (Name × ℕ)) (ss : List Shift) : Type 0 where
  pub lows : bases ss ≡ shifts_of fs xs
  pub fresh : AreFresh T (texts_of (old_names ss)) (texts_of (new_names ss))
  pub ints : AreInt ss
  pub taken : (t : List ℕ) → is_taken U t ≡ is_taken (T ++ texts_of (new_names ss)) t
  pub looks : (n : Name) → lookup (same_name n) (images_at ts es) ≡ lookup (same_name n) (images_of ss)

-- all names of the formulas are shifted
pub record Shifts (T : List (List ℕ)) (fs : List Tree) (ss : List Shift) : Type 0 where
  pub lows : bases ss ≡ shifts_of fs (names_of fs)
  pub fresh : AreFresh T (texts_of (old_names ss)) (texts_of (new_names ss))
  pub ints : AreInt ss
