-- Int names with bounds 0 and u, which are replaced by fresh names of 0 and 1, their bits.
use Rattle.std.specs.Prelude.{◌≡◌, ℕ, ◌^◌, ℤ, pos, ◌<ℤ◌, ◌≤◌, List, [], ◌∷◌, ◌++◌, length, map, is_some, int_lt, Option, Some, None, if◌then◌else◌}
use Rattle.std.specs.Ordering.{int_eq}
use Rattle.qterm.specs.declared.name.Name.{Name}
use Rattle.qterm.specs.declared.name.Sort.TheVariants as sort
use Rattle.qterm.specs.Tree.{Tree}
use Rattle.qeval.specs.Bounds.{low_of, up_of}
use Rattle.qsubst.specs.Names.{names_of}
use Rattle.qsubst.specs.Fresh.{texts_of, AreFresh}
use Rattle.name_bounds.specs.Missing.{is_int}
use Rattle.bit_lists.specs.declared.refusing.Refusal.{Refusal}
use Rattle.bit_lists.specs.declared.refusing.Refusal.TheVariants.{NotBounded, TooManyBits}
use Rattle.bit_lists.specs.declared.splits.Split.{Split}

-- the first of two things, where there is one
abbrev pub or_then : {X : Type 0} → Option X → Option X → Option X
or_then None o = o
or_then (Some r) o = Some r

-- the first thing that is given for one of the names
abbrev pub first_given : {X : Type 0} → (Name → Option X) → List Name → Option X
first_given given [] = None
first_given given (x ∷ xs) = or_then (given x) (first_given given xs)

-- ---- names that can't be split
-- why a name with this upper bound can't be: there is none, or it has more than `most` binary digits
abbrev pub refused_up : ℕ → Name → Option ℤ → Option Refusal
refused_up most x None = Some (NotBounded x)
refused_up most x (Some u) = if int_lt u (pos (2 ^ most)) then None else Some (TooManyBits x)

-- why one with these bounds can't be: its lower bound has to be 0
abbrev pub refused : ℕ → Name → Option ℤ → Option ℤ → Option Refusal
refused most x None up = Some (NotBounded x)
refused most x (Some l) up = if int_eq l (pos 0) then refused_up most x up else Some (NotBounded x)

-- why an Int name among formulas can't be
abbrev pub refusal_of : ℕ → List Tree → Name → Option Refusal
refusal_of most fs x = if is_int x.sort then refused most x (low_of x fs) (up_of x fs) else None

-- why the first name of formulas that can't be, in name order, can't be
abbrev pub refusal : ℕ → List Tree → Option Refusal
refusal most fs = first_given (refusal_of most fs) (names_of fs)

-- ---- names below 0
-- a name, where this is a negative upper bound
abbrev pub below_zero : Name → Option ℤ → Option Name
below_zero x None = None
below_zero x (Some u) = if int_lt u (pos 0) then Some x else None

abbrev pub negative_of : List Tree → Name → Option Name
negative_of fs x = if is_int x.sort then below_zero x (up_of x fs) else None

-- the first Int name of formulas, in name order, with a negative upper bound
abbrev pub negative : List Tree → Option Name
negative fs = first_given (negative_of fs) (names_of fs)

-- ---- names that are split
-- a name with its upper bound, where that isn't 1
abbrev pub split_by : Name → Option ℤ → List (Name × ℤ)
split_by x None = []
split_by x (Some u) = if int_eq u (pos 1) then [] else (x, u) ∷ []

-- the same for an Int name among formulas
abbrev pub split_of : List Tree → Name → List (Name × ℤ)
split_of fs x = if is_int x.sort then split_by x (up_of x fs) else []

abbrev pub splits_in : List Tree → List Name → List (Name × ℤ)
splits_in fs [] = []
splits_in fs (x ∷ xs) = split_of fs x ++ splits_in fs xs

-- the names of formulas that are split, in name order; none where a name is below 0
abbrev pub splits_of : List Tree → List (Name × ℤ)
splits_of fs = if is_some (negative fs) then [] else splits_in fs (names_of fs)

-- the number u has k binary digits
pub record HasDigits (u : ℤ) (k : ℕ) : Type 0 where
  pub below : u <ℤ pos (2 ^ k)
  pub least : (j : ℕ) → u <ℤ pos (2 ^ j) → k ≤ j

-- each upper bound has as many digits as there are bits
abbrev pub HaveDigits : List Split → Type 0
HaveDigits [] = Unit {0}
HaveDigits (s ∷ ss) = HasDigits s.up (length s.bits) × HaveDigits ss

-- the names that splits replace, with their upper bounds
abbrev pub bases : List Split → List (Name × ℤ)
bases ss = map {B = Name × ℤ} (λ s. (s.name, s.up)) ss

-- the bits of all splits, in order, and for each of them the text that it is a fresh name of
abbrev pub all_bits : List Split → List Name
all_bits [] = []
all_bits (s ∷ ss) = s.bits ++ all_bits ss

abbrev pub bit_bases : List Split → List (List ℕ)
bit_bases [] = []
bit_bases (s ∷ ss) = map (λ b. s.name.text) s.bits ++ bit_bases ss

-- all names of splits are Int
abbrev pub AllInt : List Name → Type 0
AllInt [] = Unit {0}
AllInt (b ∷ bs) = (b.sort ≡ sort.Int) × AllInt bs

abbrev pub AreInt : List Split → Type 0
AreInt [] = Unit {0}
AreInt (s ∷ ss) = (s.name.sort ≡ sort.Int) × AllInt s.bits × AreInt ss

-- the splits of the canonical list of the goal g: in name order each Int name whose upper bound isn't 1, with fresh names as its bits
pub record AreSplits (g list : List Tree) (ss : List Split) : Type 0 where
  pub names : bases ss ≡ splits_of list
  pub digits : HaveDigits ss
  pub fresh : AreFresh (texts_of (names_of g)) (bit_bases ss) (texts_of (all_bits ss))
  pub ints : AreInt ss
