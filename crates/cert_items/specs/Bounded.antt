-- Bounds of names by the ids of their terms.
use Rattle.std.specs.Prelude.{ℕ, ℤ, negsuc, neg_ℤ, Bool as Truth, true, false, ◌&&◌, if◌then◌else◌, List, Option, Some, None, unwrap_or}
use Rattle.std.specs.HashMap.{get}
use Rattle.qterm.specs.declared.name.Name.{Name}
use Rattle.qterm.specs.Tree.{Tree, Var, Scale, Le, Eq}
use Rattle.qterm.specs.Store.{tree_at}
use Rattle.qwalk.specs.Walk.{same_id}
use Rattle.qlin.specs.Linear.{and_then}
use Rattle.qterm.specs.Number.{fitting}
use Rattle.std.specs.Ordering.{int_eq}
use Rattle.qeval.specs.Bounds.{number_in, low_in, up_in, greater, lesser}
use Rattle.cert_items.specs.declared.bounds.Bounds.{Bounds}
use Rattle.cert_items.specs.declared.bounds.Given.{Given}
use Rattle.cert_items.specs.declared.bounds.BoundMap.{BoundMap}

abbrev pub no_bounds : Bounds
no_bounds = record { low = None; up = None }

-- the bounds that a map has for an id
abbrev pub bounds_in : BoundMap → ℕ → Bounds
bounds_in m i = unwrap_or (get same_id m.known i) no_bounds

abbrev pub tightened : Bounds → Bounds → Bounds
tightened a b = record { low = greater a.low b.low; up = lesser a.up b.up }

-- the bounds that a formula gives the name x
abbrev pub bounds_by : Name → Tree → Bounds
bounds_by x t = record { low = low_in x t; up = up_in x t }

-- ---- what a formula gives: bounds, and the name that they are for
abbrev pub is_name : Tree → Truth
is_name (Var n) = true
is_name _ = false

abbrev pub minus_given : ℤ → Tree → ℤ → Option (Tree × Bounds)
minus_given z a c = if int_eq z (negsuc 0) && is_name a then Some (a, record { low = fitting (neg_ℤ c); up = None }) else None

abbrev pub le_given : Tree → ℤ → Option (Tree × Bounds)
le_given (Var n) c = Some (Var n, record { low = None; up = Some c })
le_given (Scale z a) c = minus_given z a c
le_given _ c = None

abbrev pub eq_given : Tree → ℤ → Option (Tree × Bounds)
eq_given a c = if is_name a then Some (a, record { low = Some c; up = Some c }) else None

abbrev pub given_of : Tree → Option (Tree × Bounds)
given_of (Le a b) = and_then (number_in b) (le_given a)
given_of (Eq a b) = and_then (number_in b) (eq_given a)
given_of _ = None

abbrev pub shown_given : List Tree → Option Given → Option (Tree × Bounds)
shown_given ts None = None
shown_given ts (Some g) = Some (tree_at ts g.name, g.bounds)
