-- The line of a fault of a script, with the line and the column of its place, both counted from 1: an
-- error as SMT-LIB 2.6 has it among the responses of commands (section 3.9).
use Rattle.std.specs.Prelude.{ℕ, List, ◌++◌, codes, decimal}
use Rattle.sexp_read.specs.Place.{line_at, column_at}
use Rattle.smt_words.specs.declared.error.What.{What}
use Rattle.smt_words.specs.declared.error.What.TheVariants as what

-- what the line of a fault tells
abbrev pub fault_text : What → List ℕ
fault_text what.Lexical = codes "bad token"
fault_text what.Unclosed = codes "unclosed parenthesis"
fault_text what.TooDeep = codes "nesting past 1000"
fault_text what.UnknownCommand = codes "unknown command"
fault_text what.BadShape = codes "wrong arguments"
fault_text what.UnknownSymbol = codes "unknown symbol"
fault_text what.Redeclared = codes "name already declared"
fault_text what.BadSort = codes "wrong sort"
fault_text what.NotLinear = codes "product is not linear"
fault_text what.WideNumeral = codes "number past 128 bits"
fault_text what.TooManyTerms = codes "more than 1048576 terms"
fault_text what.BadLogic = codes "logic not supported"
fault_text what.PushTooMany = codes "push past 65536 levels"
fault_text what.PopTooMany = codes "pop below the first level"
fault_text what.UnknownReducer = codes "unknown reducer"
fault_text what.UnknownProbe = codes "unknown probe"
fault_text what.UnknownParam = codes "unknown parameter"
fault_text what.BadStrategy = codes "bad strategy"
fault_text what.NoAnswer = codes "no answer to show"
fault_text what.WideValue = codes "value past 128 bits"
fault_text what.TooLong = codes "script too long"

-- the line of a fault at a place of these bytes
unfoldable pub error_line : List ℕ → What → ℕ → List ℕ
error_line bytes told place =
    codes "(error \"line " ++ (decimal (line_at bytes place) ++ (codes " column " ++ (decimal (column_at bytes place) ++ (codes ": " ++ (fault_text told ++ codes "\")\n")))))
