-- The laws of the rules: what they give is true where the items are.
use Rattle.std.specs.Prelude.{◌≡◌, ℤ, true, Option, Some}
use lib.Signed.{le_z}
use Rattle.qterm.specs.declared.name.Name.{Name}
use Rattle.qterm.specs.Tree.{Tree, Var}
use Rattle.qeval.specs.Value.{Valuation}
use Rattle.qeval.specs.Eval.{truth, number}
use Rattle.tac_cert.specs.Intervals.{interval}
use Rattle.tac_cert.specs.Tables.{table_fits}

-- the number lies in the interval
abbrev pub IsIn : ℤ → ℤ × ℤ → Type 0
IsIn z i = (le_z i.0 z ≡ true) × (le_z z i.1 ≡ true)

-- each name keeps within its bounds
abbrev pub KeepsBounds : (Name → Option (ℤ × ℤ)) → Valuation → Type 0
KeepsBounds B V = (x : Name) (i : ℤ × ℤ) → B x ≡ Some i → IsIn (number V (Var x)) i

-- the value of a term whose names keep within their bounds lies in its interval
abbrev pub HoldsValues : Type 0
HoldsValues = (B : Name → Option (ℤ × ℤ)) (V : Valuation) → KeepsBounds B V → (t : Tree) (i : ℤ × ℤ) → interval B t ≡ Some i → IsIn (number V t) i

-- what follows by a table is true under every valuation under which the formula is
abbrev pub FollowsByTable : Type 0
FollowsByTable = (V : Valuation) (t u : Tree) → table_fits t u ≡ true → truth V t ≡ true → truth V u ≡ true
