-- The texts of causes of failures: a word, or a word and what it speaks of between parentheses.
use Rattle.std.specs.Prelude.{ℕ, List, [], ◌∷◌, length, codes, decimal}
use Rattle.strat_text.specs.Spelled.{form_text}
use Rattle.symbol_text.specs.Symbols.{symbol_text}
use Rattle.deriv.specs.declared.cause.Cause.{Cause}
use Rattle.deriv.specs.declared.cause.Cause.TheVariants as cause

-- the text of a cause; of lemmas that were spent their number is told
unfoldable pub cause_text : Cause → List ℕ
cause_text cause.Told = codes "told"
cause_text cause.NoClause = codes "no-clause"
cause_text (cause.NotBounded name) = form_text (codes "not-bounded") (symbol_text name.text ∷ [])
cause_text (cause.TooManyBits name) = form_text (codes "too-many-bits") (symbol_text name.text ∷ [])
cause_text (cause.NotZeroOne name) = form_text (codes "not-zero-one") (symbol_text name.text ∷ [])
cause_text (cause.NotClausal place) = form_text (codes "not-clausal") (decimal place ∷ [])
cause_text (cause.TooWide term) = codes "too-wide"
cause_text (cause.TooLarge count) = form_text (codes "too-large") (decimal count ∷ [])
cause_text (cause.TooManyGoals count) = form_text (codes "too-many-goals") (decimal count ∷ [])
cause_text cause.TooDeep = codes "too-deep"
cause_text (cause.Spent lemmas) = form_text (codes "spent") (decimal (length lemmas) ∷ [])
cause_text (cause.PoolSpent ticket lemmas) = form_text (codes "pool-spent") (decimal ticket ∷ [])
cause_text cause.Custom = codes "custom"
