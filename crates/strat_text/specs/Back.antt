-- A written strategy that is read again.
use Rattle.std.specs.Prelude.{◌≡◌, ℕ, List, length, Ok}
use Rattle.sexp_read.specs.Sexp.{next_at}
use Rattle.sexp_read.specs.declared.sexp.Sexp.{Sexp}
use Rattle.sexp_read.specs.declared.sexp.Next.TheVariants.{Item}
use Rattle.strat_text.specs.declared.strategy.Strategy.{Strategy}
use Rattle.strat_text.specs.declared.strategy.TheConstants.{DEPTH}
use Rattle.strat_text.specs.Form.{form_of}
use Rattle.strat_text.specs.Grammar.{Names}
use Rattle.strat_text.specs.Reading.{read_strategy}

-- One s-expression stands in the text, as far as its end, and it is read as the strategy.
pub record ReadsBack (names : Names) (text : List ℕ) (s : Strategy) : Type 0 where
  pub sexp : Sexp
  pub whole : next_at text 0 ≡ Item sexp (length text)
  pub reads : read_strategy names (form_of text sexp) DEPTH ≡ Ok s
