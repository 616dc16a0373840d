-- Names that are shifted so that their lower bounds become 0.
use Rattle.std.specs.Prelude.{◌≡◌, ℤ, pos, zero, List, [], ◌∷◌, ◌++◌, Contains, map, Option, Some, None, if◌then◌else◌}
use Rattle.qterm.specs.declared.name.Name.{Name}
use Rattle.qterm.specs.declared.name.Sort.TheVariants as sort
use Rattle.qterm.specs.Tree.{Tree, Var, Num, Sum, none, more}
use Rattle.qeval.specs.Value.{Valuation, IsSorted, value_of}
use Rattle.qeval.specs.Eval.{val}
use Rattle.qsubst.specs.Names.{names_in, names_of}
use Rattle.qsubst.specs.Fresh.{texts_of, AreFresh}
use Rattle.qsubst.specs.Substitution.{Substitution, image}
use Rattle.qeval.specs.Bounds.{low_of}
use Rattle.qgoal.specs.Meaning.{IsModel}
use Rattle.shift_lists.specs.declared.shifting.Shift.{Shift}
use Rattle.name_bounds.specs.Missing.{is_int}

-- a name with its lower bound, where there is one that isn't 0
abbrev pub shift_by : Name → Option ℤ → List (Name × ℤ)
shift_by x None = []
shift_by x (Some (pos zero)) = []
shift_by x (Some z) = (x, z) ∷ []

-- the same for an Int name among formulas
abbrev pub shift_of : List Tree → Name → List (Name × ℤ)
shift_of fs x = if is_int x.sort then shift_by x (low_of x fs) else []

-- the names that are shifted, of names in order
abbrev pub shifts_of : List Tree → List Name → List (Name × ℤ)
shifts_of fs [] = []
shifts_of fs (x ∷ xs) = shift_of fs x ++ shifts_of fs xs

-- the names that shifts replace, with the numbers by which they are shifted
abbrev pub bases : List Shift → List (Name × ℤ)
bases ss = map {B = Name × ℤ} (λ s. (s.name, s.by)) ss

-- the names that are replaced, and the fresh ones
abbrev pub old_names : List Shift → List Name
old_names ss = map (λ s. s.name) ss

abbrev pub new_names : List Shift → List Name
new_names ss = map (λ s. s.fresh) ss

-- all names of shifts are Int
abbrev pub AreInt : List Shift → Type 0
AreInt [] = Unit {0}
AreInt (s ∷ ss) = (s.name.sort ≡ sort.Int) × (s.fresh.sort ≡ sort.Int) × AreInt ss

-- a fresh name plus a number
abbrev pub shifted : Shift → Tree
shifted s = Sum (more (Var s.fresh) (more (Num s.by) none))

-- each name becomes its fresh name plus the number
abbrev pub images_of : List Shift → Substitution
images_of [] = []
images_of (s ∷ ss) = (s.name, shifted s) ∷ images_of ss

-- one of them alone
abbrev pub shift_one : Shift → Substitution
shift_one s = (s.name, shifted s) ∷ []

-- the shifts of the canonical list of the goal g: in name order each Int name with a lower bound that isn't 0, with a fresh name
pub record AreShifts (g list : List Tree) (ss : List Shift) : Type 0 where
  pub lows : bases ss ≡ shifts_of list (names_of list)
  pub fresh : AreFresh (texts_of (names_of g)) (texts_of (old_names ss)) (texts_of (new_names ss))
  pub ints : AreInt ss

-- a valuation that gives each name of g the value that its term has under a model of h is a model of g
abbrev pub Lifts : List Tree → List Tree → Substitution → Type 0
Lifts g h s = (V W : Valuation) → IsModel V h → IsSorted W → ((n : Name) → Contains (names_in g) n → value_of W n ≡ val V (image s n)) → IsModel W g
