-- What the arguments of a command are, by its word.
use Rattle.smt_words.specs.declared.word.Word.{Word}
use Rattle.smt_words.specs.declared.word.Word.TheVariants as word
use Rattle.smt_command.specs.declared.kind.Kind.{Kind}
use Rattle.smt_command.specs.declared.kind.Kind.TheVariants as kind

-- one formula, a name with a term, terms, or no terms
abbrev pub kind_of : Word → Kind
kind_of word.Assert = kind.Assertion
kind_of word.DefineFun = kind.Definition
kind_of word.GetValue = kind.Question
kind_of other = kind.Plain
