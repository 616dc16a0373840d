-- The limits on the terms that a command reads, which stand behind all of its terms: first the one on their depth, then the one on how
-- many distinct subterms they have together with the assertions in force.
use Rattle.std.specs.Prelude.{⊤, ℕ, List, [], ◌∷◌, map, Result, Ok, Err}
use Rattle.qterm.specs.Tree.{Tree}
use Rattle.term_limits.specs.declared.force.Limit.{Limit}
use Rattle.term_limits.specs.declared.force.Limit.TheVariants as limit
use Rattle.term_limits.specs.Limits.{limit_of}
use Rattle.smt_words.specs.declared.error.ScriptError.{ScriptError}
use Rattle.smt_words.specs.declared.error.What.TheVariants.{TooDeep, TooManyTerms}
use Rattle.smt_words.specs.Command.{CommandTree, Assert, GetValue, AskedTree}
use Rattle.smt_names.specs.Reading.{refusal}

-- the deepest that a term may be
abbrev pub most_depth : ℕ
most_depth = 1000

-- the terms of a command
abbrev pub terms_of : CommandTree → List Tree
terms_of (Assert t) = t ∷ []
terms_of (GetValue asked) = map (λ (a : AskedTree). a.term) asked
terms_of other = []

-- what the limits say, as it is told of a command at a place
abbrev pub told : ℕ → Limit → Result ⊤ ScriptError
told at limit.Within = Ok tt
told at limit.TooDeep = Err (refusal TooDeep at)
told at limit.TooMany = Err (refusal TooManyTerms at)

-- the terms that a command at a place reads, under these assertions in force, keep the limits
abbrev pub limited : ℕ → List Tree → List Tree → Result ⊤ ScriptError
limited at asserts read = told at (limit_of asserts read)
