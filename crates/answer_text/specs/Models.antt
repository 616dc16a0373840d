-- The text of a model, as SMT-LIB 2.6 has it among the responses of commands (section 3.9): a definition for each name.
use Rattle.std.specs.Prelude.{ℕ, Bool as Truth, if◌then◌else◌, List, [], ◌∷◌, ◌++◌, codes}
use Rattle.strat_text.specs.Spelled.{number_text}
use Rattle.symbol_text.specs.Symbols.{symbol_text}
use Rattle.qterm.specs.declared.name.Name.{Name}
use Rattle.qterm.specs.declared.name.Sort.{Sort}
use Rattle.qterm.specs.declared.name.Sort.TheVariants as sort
use Rattle.qeval.specs.declared.model.Value.{Value}
use Rattle.qeval.specs.declared.model.Value.TheVariants.{Bool, Int}
use Rattle.qeval.specs.Value.{Valuation, value_of}

-- the text of a truth value
abbrev pub truth_text : Truth → List ℕ
truth_text b = if b then codes "true" else codes "false"

-- the text of a value
unfoldable pub value_text : Value → List ℕ
value_text (Bool b) = truth_text b
value_text (Int z) = number_text z

-- the text of a sort
abbrev pub sort_text : Sort → List ℕ
sort_text sort.Bool = codes "Bool"
sort_text sort.Int = codes "Int"

-- the line of a name with its value
unfoldable pub definition : Valuation → Name → List ℕ
definition V n = codes "  (define-fun " ++ (symbol_text n.text ++ (codes " () " ++ (sort_text n.sort ++ (codes " " ++ (value_text (value_of V n) ++ codes ")\n")))))

-- the lines of names, in order
abbrev pub definitions : Valuation → List Name → List ℕ
definitions V [] = []
definitions V (n ∷ ns) = definition V n ++ definitions V ns

-- the text of a model
unfoldable pub model_text : Valuation → List Name → List ℕ
model_text V ns = codes "(\n" ++ (definitions V ns ++ codes ")\n")
