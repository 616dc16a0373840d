-- Operators over terms: first the kind and number of the arguments, then their sorts, whether a product is linear, and the width of numbers.
use Rattle.std.specs.Prelude.{ℕ, Bool, true, ◌&&◌, if◌then◌else◌, List, Option, None, Some}
use Rattle.qterm.specs.Tree.{Tree}
use Rattle.strat_text.specs.Form.{Forms}
use Rattle.smt_theory.specs.declared.operator.Operator.{Operator}
use Rattle.smt_theory.specs.declared.operator.Operator.TheVariants as op
use Rattle.smt_theory.specs.Operator.{takes}
use Rattle.smt_theory.specs.Sorts.{wrong_sort}
use Rattle.smt_theory.specs.Numbers.{is_linear}
use Rattle.smt_theory.specs.Plain.{plain_of}
use Rattle.smt_words.specs.declared.error.What.TheVariants.{BadShape, BadSort, NotLinear, WideNumeral}
use Rattle.smt_names.specs.Text.{may_be_terms, count, place_at}
use Rattle.smt_names.specs.Reading.{Reader, done, refused}

-- the term, where no number passes 128 bits
abbrev pub narrow : ℕ → Option Tree → Reader Tree
narrow at None = refused WideNumeral at
narrow at (Some t) = done t

-- a product has to be linear
abbrev pub is_allowed : Operator → List Tree → Bool
is_allowed op.Times ts = is_linear ts
is_allowed other ts = true

-- arguments whose sorts are right but for that of the argument at a place
abbrev pub sorted : ℕ → Operator → Forms → List Tree → Option ℕ → Reader Tree
sorted at o args ts (Some n) = refused BadSort (place_at args n)
sorted at o args ts None = if is_allowed o ts then narrow at (plain_of o ts) else refused NotLinear at

-- the arguments may be terms, and are as many as the operator takes
abbrev pub fit : Operator → Forms → Bool
fit o args = may_be_terms args && takes o (count args)

-- an operator over the terms that its arguments are
abbrev pub applied : ℕ → Operator → Forms → List Tree → Reader Tree
applied at o args ts = if fit o args then sorted at o args ts (wrong_sort o ts) else refused BadShape at
