-- Linear forms on the way to canonical terms, and the numbers of monomials that are summed up.
use Rattle.std.specs.Prelude.{◌≡◌, ℕ, ℤ, pos, ◌+ℤ◌, nat_eq, List, [], ◌∷◌, Bool as Truth, true, false, Option, Some, None, unwrap_or}
use Rattle.std.specs.Map.{lookup}
use Rattle.indexmap.specs.IndexMap.{insert_entry}
use Rattle.qterm.specs.Tree.{Tree}
use Rattle.qlin.specs.Number.{in_range}
use Rattle.qlin.specs.Form.{Form, puts, plus, if_in_range, parts_in_range}
use Rattle.qlin.specs.Lin.{parts_at, form_at, AreInts, IsForm}
use Rattle.qlin.specs.Collect.{AreApart}
use Rattle.qlin.specs.declared.lin.Lin.{Lin}
use Rattle.qcanon.specs.declared.sum.Totals.{Totals}

-- ---- forms
-- the answer is the form f, or nothing where there is none
abbrev pub GivesForm : List Tree → Option Form → Option Lin → Type 0
GivesForm ts f None = f ≡ None
GivesForm ts f (Some l) = IsForm ts l × (f ≡ Some (form_at ts l))

-- each number of the form is in range
pub record IsNarrow (l : Lin) : Type 0 where
  pub parts : parts_in_range l.parts ≡ true
  pub constant : in_range l.constant ≡ true

-- ---- sums
-- the number of the monomial i, or 0
abbrev pub number_in : List (ℕ × ℤ) → ℕ → ℤ
number_in es i = unwrap_or (lookup (nat_eq i) es) (pos 0)

-- the monomials with their numbers, as parts
abbrev pub parts_of : List (ℕ × ℤ) → List (ℤ × ℕ)
parts_of [] = []
parts_of (e ∷ es) = (e.1, e.0) ∷ parts_of es

-- the monomials are Int terms of the store, each once, and the numbers are in range
pub record AreNumbers (ts : List Tree) (es : List (ℕ × ℤ)) : Type 0 where
  pub ints : AreInts ts (parts_of es)
  pub apart : AreApart (parts_of es)
  pub narrow : parts_in_range (parts_of es) ≡ true

-- the form of what is summed up
abbrev pub form_of : List Tree → Totals → Form
form_of ts t = record { parts = puts (parts_at ts (parts_of t.numbers.entries)) []; constant = t.constant }

-- the part is added to the number of its monomial, or the sum isn't in range
abbrev pub IsPartAdded : List (ℕ × ℤ) → ℤ × ℕ → Truth → List (ℕ × ℤ) → Type 0
IsPartAdded old p true new = (in_range (number_in old p.1 +ℤ p.0) ≡ true) × (new ≡ insert_entry nat_eq old p.1 (number_in old p.1 +ℤ p.0)) × AreApart (parts_of new)
IsPartAdded old p false new = in_range (number_in old p.1 +ℤ p.0) ≡ false

-- all of the parts are added, or a number isn't in range
abbrev pub ArePartsAdded : List Tree → List (ℕ × ℤ) → List (ℤ × ℕ) → Truth → List (ℕ × ℤ) → Type 0
ArePartsAdded ts old ps true new = AreNumbers ts new × (puts (parts_at ts (parts_of new)) [] ≡ puts (parts_at ts ps) (puts (parts_at ts (parts_of old)) [])) × (parts_in_range (puts (parts_at ts ps) (puts (parts_at ts (parts_of old)) [])) ≡ true)
ArePartsAdded ts old ps false new = parts_in_range (puts (parts_at ts ps) (puts (parts_at ts (parts_of old)) [])) ≡ false

-- the form is added, or a number isn't in range
abbrev pub IsFormAdded : List Tree → Totals → Lin → Truth → Totals → Type 0
IsFormAdded ts old l true new = AreNumbers ts new.numbers.entries × (if_in_range (plus (form_of ts old) (form_at ts l)) ≡ Some (form_of ts new))
IsFormAdded ts old l false new = if_in_range (plus (form_of ts old) (form_at ts l)) ≡ None
