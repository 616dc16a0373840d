-- Defined functions over the terms that their arguments are: first the kind and number of the arguments, then their sorts, and the
-- width of numbers. The arguments count whether the body has them or not.
use Rattle.std.specs.Prelude.{ℕ, ◌+◌, Bool, ◌&&◌, ◌==◌, if◌then◌else◌, List, [], ◌∷◌, ◌++◌, length, Option, None, Some, Result, Ok, Err}
use Rattle.qterm.specs.declared.name.Name.{Name}
use Rattle.qterm.specs.Tree.{Tree, sort_of}
use Rattle.strat_text.specs.Form.{Forms}
use Rattle.smt_theory.specs.Sorts.{same_sort}
use Rattle.smt_expand.specs.Expanded.{expanded, put}
use Rattle.smt_words.specs.declared.error.ScriptError.{ScriptError}
use Rattle.smt_words.specs.declared.error.What.TheVariants.{BadShape, BadSort, WideNumeral}
use Rattle.smt_names.specs.Table.{Meaning, Declared, Defined, Function, meaning_of}
use Rattle.smt_names.specs.Text.{may_be_terms, count, place_at}
use Rattle.smt_names.specs.Reading.{Reader, refusal, tested}

-- the place of the first argument of another sort than its parameter, where n stand before
unfoldable pub unlike : ℕ → List Name → List Tree → Option ℕ
unlike n [] ts = None
unlike n (p ∷ ps) [] = None
unlike n (p ∷ ps) (t ∷ ts) = if same_sort (sort_of t) p.sort then unlike (n + 1) ps ts else Some n

-- the term, where no number passes 128 bits
abbrev pub in_width : ℕ → Option Tree → Result Tree ScriptError
in_width at None = Err (refusal WideNumeral at)
in_width at (Some t) = Ok t

-- arguments whose sorts are those of the parameters but for that of the argument at a place
abbrev pub of_sorts : ℕ → Forms → List Name → Tree → List Tree → Option ℕ → Result Tree ScriptError
of_sorts at args params body ts (Some n) = Err (refusal BadSort (place_at args n))
of_sorts at args params body ts None = in_width at (expanded (put params ts) body)

-- the arguments may be terms, and are as many as the parameters
abbrev pub fill : List Name → Forms → Bool
fill params args = may_be_terms args && (count args == length params)

-- a body over the terms that the arguments of its parameters are
abbrev pub over_args : ℕ → Forms → List Tree → List Name → Tree → Result Tree ScriptError
over_args at args ts params body = if fill params args then of_sorts at args params body ts (unlike 0 params ts) else Err (refusal BadShape at)

-- a symbol over the terms that its arguments are: only a function takes some
abbrev pub called : ℕ → Forms → List Tree → Option Meaning → Result Tree ScriptError
called at args ts None = Err (refusal BadShape at)
called at args ts (Some (Declared t sort)) = Err (refusal BadShape at)
called at args ts (Some (Defined t)) = Err (refusal BadShape at)
called at args ts (Some (Function params body)) = over_args at args ts params body

-- a term, for which other terms count
abbrev pub counting : List Tree → Tree → Reader Tree
counting ts t s = Ok (t, record s { bound = s.bound ++ ts })

-- the function of a name over the terms that its arguments are
abbrev pub call : List ℕ → ℕ → Forms → List Tree → Reader Tree
call name at args ts s = tested (called at args ts (meaning_of s.symbols name)) (counting ts) s
