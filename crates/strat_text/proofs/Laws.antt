-- The laws of reading, for what a call answers.
use Rattle.std.proofs.Common.{ℕ, Result, Ok, Err, subst}
use Rattle.std.specs.Prelude.{IfOk}
use Rattle.strat_text.specs.declared.error.StratError.{StratError}
use Rattle.strat_text.specs.declared.strategy.Strategy.{Strategy}
use Rattle.strat_text.specs.Form.{Form}
use Rattle.strat_text.specs.Grammar.{Names, Spells}
use Rattle.strat_text.specs.Reading.{read_strategy}
use Rattle.strat_text.specs.Given.{Gives}
use Rattle.strat_text.proofs.Accepted.{spelled_read}
use Rattle.strat_text.proofs.Spelled.{read_spelled}

pub answer_spelled : (names : Names) (form : Form) (n : ℕ) (answer : Result Strategy StratError) → Gives answer (read_strategy names form n) → IfOk answer (Spells names n form)
answer_spelled names form n (Ok s) h = read_spelled names form n s h
answer_spelled names form n (Err e) h = tt

pub answer_complete : (names : Names) (form : Form) (n : ℕ) (answer : Result Strategy StratError) (s : Strategy) → Gives answer (read_strategy names form n) → Spells names n form s → Gives answer (Ok s)
answer_complete names form n answer s h spells = subst (Gives answer) (spelled_read names n form s spells) h
