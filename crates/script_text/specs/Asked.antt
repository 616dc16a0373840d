-- What the calls for the values of asked terms answer.
use Rattle.std.specs.Prelude.{◌≡◌, ◌≤◌, ◌≢◌, ℕ, List, length, Some, None}
use Rattle.qeval.specs.Value.{Valuation}
use Rattle.qeval.specs.Eval.{wide}
use Rattle.smt_words.specs.declared.command.Asked.{Asked}
use Rattle.smt_words.specs.Command.{AskedTree}
use Rattle.script_text.specs.declared.asking.AskError.{AskError}
use Rattle.script_text.specs.declared.asking.AskError.TheVariants.{Wide, Memory}
use Rattle.script_text.specs.Shown.{first_wide}

-- the term stands in the bytes
abbrev pub IsAskedIn : List ℕ → Asked → Type 0
IsAskedIn bytes a = (a.start ≤ a.end) × (a.end ≤ length bytes)

-- the error tells the place of the term, whose value passes 128 bits
abbrev pub IsWideAt : Valuation → AskedTree → AskError → Type 0
IsWideAt V a (Wide place) = (place ≡ a.start) × (wide V a.term ≢ None)
IsWideAt V a Memory = Unit {0}

-- the error tells the place of the first of the terms whose value passes 128 bits
abbrev pub NamesWide : Valuation → List AskedTree → AskError → Type 0
NamesWide V asked (Wide place) = first_wide V asked ≡ Some place
NamesWide V asked Memory = Unit {0}
