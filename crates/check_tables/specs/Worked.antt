-- Worked derivations: what the reducers skip and fail come to under forms of strategies, spelled out.
use Rattle.std.specs.Prelude.{ℕ, List, [], ◌∷◌, codes, Option, Some, None, if◌then◌else◌}
use Rattle.std.specs.Str.{bytes_eq}
use Rattle.qterm.specs.declared.name.Sort.TheVariants as sort
use Rattle.qterm.specs.Tree.{Var}
use Rattle.qgoal.specs.declared.precision.Precision.TheVariants.{Precise}
use Rattle.qgoal.specs.Goal.{GoalTree}
use Rattle.strat_text.specs.declared.strategy.Strategy.{Strategy}
use Rattle.strat_text.specs.declared.strategy.Strategy.TheVariants as strategy
use Rattle.deriv.specs.declared.kind.Kind.{Kind}
use Rattle.deriv.specs.declared.kind.Kind.TheVariants as kind
use Rattle.deriv.specs.Params.{defaults}
use Rattle.deriv.specs.Outcome.{Done, Failed, Told}
use Rattle.deriv.specs.Trees as kept
use Rattle.deriv.specs.Trees.{Der, der, none, more, no_pairs, pair}
use Rattle.deriv.specs.Derives.{World, world, Derives}
use Rattle.reducer_iface.specs.Rows.{rows}
use Rattle.probe_set.specs.Probe.{probe_of}

abbrev pub skip : Strategy
skip = strategy.Prim (codes "skip")

abbrev pub fail : Strategy
fail = strategy.Prim (codes "fail")

-- the kinds of both names
abbrev pub both : List ℕ → Option Kind
both name = if bytes_eq name (codes "skip") then Some kind.Skip else if bytes_eq name (codes "fail") then Some kind.Fail else None

-- a check by so many workers
abbrev pub check_by : ℕ → World
check_by workers = world rows probe_of both workers 100 0

-- the goal of one Bool name, and the goal without formulas
abbrev pub one : GoalTree
one = record { formulas = Var (record { text = codes "p"; sort = sort.Bool }) ∷ []; precision = Precise }

abbrev pub empty : GoalTree
empty = record { formulas = []; precision = Precise }

-- a run of skip, and one of fail
abbrev pub skipped : GoalTree → Option ℕ → Der
skipped g l = der g l 0 (Done (g ∷ [])) (kept.Prim (codes "skip") ([] ∷ []))

abbrev pub failed : GoalTree → Option ℕ → Der
failed g l = der g l 0 (Failed Told) (kept.Prim (codes "fail") [])

-- the strategy has the run on the goal, without a limit, with the default parameters, at depth 1
abbrev pub Has : World → Strategy → GoalTree → Der → Type 0
Has K s g d = Derives K d s g None defaults 1

-- runs that give the goal alone, and runs that fail
abbrev pub gives : GoalTree → kept.Kept → Der
gives g node = der g None 0 (Done (g ∷ [])) node

abbrev pub fails : GoalTree → kept.Kept → Der
fails g node = der g None 0 (Failed Told) node
