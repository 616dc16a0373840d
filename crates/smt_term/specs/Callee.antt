-- What takes the arguments of a list, by its head.
use Rattle.std.specs.Prelude.{ℕ, List, Option, None, Some}
use Rattle.qterm.specs.Tree.{Tree}
use Rattle.strat_text.specs.Form.{Forms}
use Rattle.smt_theory.specs.declared.operator.Operator.{Operator}
use Rattle.smt_words.specs.declared.error.What.TheVariants.{BadShape}
use Rattle.smt_names.specs.Reading.{Reader, refused}
use Rattle.smt_names.specs.Applied.{applied}
use Rattle.smt_names.specs.Called.{call}

-- nothing, where the head stands for a term, an operator, or the function of a name
pub data Callee : Type 0 where
  Nothing : Callee
  Over : Operator → Callee
  Named : List ℕ → Callee

-- the function of the name that a head is
abbrev pub function_of : Option (List ℕ) → Callee
function_of None = Nothing
function_of (Some name) = Named name

-- a callee over the terms that its arguments are
abbrev pub over_all : Callee → ℕ → Forms → List Tree → Reader Tree
over_all Nothing at args ts = refused BadShape at
over_all (Over o) at args ts = applied at o args ts
over_all (Named name) at args ts = call name at args ts
