-- The lines of reasons, as SMT-LIB 2.6 has them among the responses of commands (section 3.9), and of an `apply` that failed.
use Rattle.std.specs.Prelude.{ℕ, List, ◌++◌, codes}
use Rattle.symbol_text.specs.Symbols.{symbol_text}
use Rattle.qterm.specs.declared.name.Name.{Name}
use Rattle.deriv.specs.declared.cause.Cause.{Cause}
use Rattle.answer_text.specs.Causes.{cause_text}

-- the line of an `apply` that failed
unfoldable pub failed_line : Cause → List ℕ
failed_line cause = codes "(failed " ++ (cause_text cause ++ codes ")\n")

-- the reason of an unknown answer: a failure
unfoldable pub failed_reason : Cause → List ℕ
failed_reason cause = codes "(:reason-unknown (failed " ++ (cause_text cause ++ codes "))\n")

-- the reason of an unknown answer: the value of a name passes 128 bits
unfoldable pub wide_reason : Name → List ℕ
wide_reason name = codes "(:reason-unknown (value-too-wide " ++ (symbol_text name.text ++ codes "))\n")
