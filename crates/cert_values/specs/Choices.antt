-- The parts of an equation of a name and an `Ite`, as terms of a store.
use Rattle.std.specs.Prelude.{◌≡◌, List, Option, Some, None}
use Rattle.qterm.specs.Tree.{Tree}
use Rattle.qterm.specs.Store.{tree_at, HasSort}
use Rattle.qterm.specs.declared.name.Sort.TheVariants as sort
use Rattle.tac_cert.specs.Choices.{two_cases, cases_of}
use Rattle.cert_values.specs.declared.choices.Choice.{Choice}

-- the parts are there, and the rule gives what they say of the formula t
pub record IsChoice (ts : List Tree) (t : Tree) (c : Choice) : Type 0 where
  pub name : HasSort sort.Int ts c.name
  pub condition : HasSort sort.Bool ts c.condition
  pub yes : HasSort sort.Int ts c.yes
  pub no : HasSort sort.Int ts c.no
  pub gives : cases_of (Some t) ≡ Some (two_cases (tree_at ts c.name) (tree_at ts c.condition) (tree_at ts c.yes) (tree_at ts c.no))

-- the parts of t, or the rule gives nothing
abbrev pub IsChoiceOf : List Tree → Tree → Option Choice → Type 0
IsChoiceOf ts t None = cases_of (Some t) ≡ None
IsChoiceOf ts t (Some c) = IsChoice ts t c
