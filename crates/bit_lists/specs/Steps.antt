-- Names are split one by one.
use Rattle.std.specs.Prelude.{◌≡◌, ℕ, ℤ, ◌≤◌, List, [], ◌∷◌, ◌++◌, length, map, Option, Some, None}
use Rattle.std.specs.Map.{lookup}
use Rattle.qterm.specs.declared.name.Name.{Name}
use Rattle.qterm.specs.declared.name.Sort.TheVariants as sort
use Rattle.qterm.specs.Tree.{Tree}
use Rattle.qeval.specs.Value.{same_name}
use Rattle.name_bounds.specs.declared.table.Range.{Range}
use Rattle.name_bounds.specs.Ranges.{range_of}
use Rattle.qsubst.specs.Names.{names_of}
use Rattle.qsubst.specs.Fresh.{is_taken, texts_of, AreFresh}
use Rattle.qsubst.specs.Substitution.{images_at}
use Rattle.bit_lists.specs.declared.splits.Split.{Split}
use Rattle.bit_lists.specs.declared.splitting.SplitError.{SplitError}
use Rattle.bit_lists.specs.declared.splitting.SplitError.TheVariants.{Refused, Memory}
use Rattle.bit_lists.specs.Splits.{refusal, splits_in, HasDigits, HaveDigits, bases, all_bits, bit_bases, AllInt, AreInt}
use Rattle.bit_lists.specs.Row.{images_of}

-- the error says why the first name that can't be split can't be; want of memory is free
abbrev pub IsRefused : ℕ → List Tree → SplitError → Type 0
IsRefused most fs (Refused r) = refusal most fs ≡ Some r
IsRefused most fs (Memory _) = Unit {0}

-- the bounds that a table has for a number
abbrev pub range_at : (ℕ → Option Range) → ℕ → Range
range_at table i = range_of (table i)

-- a name with a number, where there is one
abbrev pub paired : Name → Option ℤ → List (Name × ℤ)
paired x None = []
paired x (Some z) = (x, z) ∷ []

-- fresh Int names of a base, whose texts are then taken
pub record AreNewBits (base : List ℕ) (T U : List (List ℕ)) (bs : List Name) : Type 0 where
  pub fresh : AreFresh T (map (λ b. base) bs) (texts_of bs)
  pub ints : AllInt bs
  pub taken : (t : List ℕ) → is_taken U t ≡ is_taken (T ++ texts_of bs) t

-- the name x with the upper bound z is split
pub record AddsSplit (x : Name) (z : ℤ) (T U : List (List ℕ)) (ss rs : List Split) : Type 0 where
  pub split : Split
  pub name : split.name ≡ x
  pub up : split.up ≡ z
  pub digits : HasDigits z (length split.bits)
  pub small : length split.bits ≤ 127
  pub bits : AreNewBits x.text T U split.bits
  pub splits : rs ≡ ss ++ split ∷ []

-- the names, of which there is one at most, are split
abbrev pub Step : List (Name × ℤ) → List (List ℕ) → List (List ℕ) → List Split → List Split → Type 0
Step [] T U ss rs = (U ≡ T) × (rs ≡ ss)
Step (e ∷ []) T U ss rs = (e.0.sort ≡ sort.Int) × AddsSplit e.0 e.1 T U ss rs
Step (e ∷ d ∷ ds) T U ss rs = ⊥

-- so many bits have weights of 128 bits
abbrev pub AreSmall : List Split → Type 0
AreSmall [] = Unit {0}
AreSmall (s ∷ ss) = (length s.bits ≤ 127) × AreSmall ss

-- the names xs of the formulas are split so far
pub record HasSplits (T : List (List ℕ)) (fs : List Tree) (xs : List Name) (U : List (List ℕ)) (ss : List Split) : Type 0 where
  pub names : bases ss ≡ splits_in fs xs
  pub digits : HaveDigits ss
  pub small : AreSmall ss
  pub fresh : AreFresh T (bit_bases ss) (texts_of (all_bits ss))
  pub ints : AreInt ss
  pub taken : (t : List ℕ) → is_taken U t ≡ is_taken (T ++ texts_of (all_bits ss)) t

-- all names of the formulas are split
pub record Splits (T : List (List ℕ)) (fs : List Tree) (ss : List Split) : Type 0 where
  pub names : bases ss ≡ splits_in fs (names_of fs)
  pub digits : HaveDigits ss
  pub small : AreSmall ss
  pub fresh : AreFresh T (bit_bases ss) (texts_of (all_bits ss))
  pub ints : AreInt ss

-- the table has the terms of the splits
abbrev pub HasImages : List Tree → List (Name × ℕ) → List Split → Type 0
HasImages ts es ss = (n : Name) → lookup (same_name n) (images_at ts es) ≡ lookup (same_name n) (images_of ss)
