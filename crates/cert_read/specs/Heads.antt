-- The words with which the lines of a certificate's text and its terms begin.
use Rattle.std.specs.Prelude.{ℕ, if◌then◌else◌, List, Option, None, Some, codes}
use Rattle.std.specs.Str.{bytes_eq}
use Rattle.cert_read.specs.declared.heads.Rule.{Rule}
use Rattle.cert_read.specs.declared.heads.Rule.TheVariants as rule
use Rattle.cert_read.specs.declared.heads.Head.{Head}
use Rattle.cert_read.specs.declared.heads.Head.TheVariants as head

-- the words of lines on names, bounds and words, and on what follows from clauses
unfoldable pub word_rule_of : List ℕ → Option Rule
word_rule_of word =
    if bytes_eq word (codes "ite") then Some rule.IteParts else
    if bytes_eq word (codes "range") then Some rule.Range else
    if bytes_eq word (codes "bits") then Some rule.Bits else
    if bytes_eq word (codes "bit") then Some rule.Bit else
    if bytes_eq word (codes "mul") then Some rule.Mul else
    if bytes_eq word (codes "add") then Some rule.Add else
    if bytes_eq word (codes "cmp") then Some rule.Cmp else
    if bytes_eq word (codes "eqc") then Some rule.Eqc else
    if bytes_eq word (codes "table") then Some rule.Table else
    if bytes_eq word (codes "rup") then Some rule.Rup else None

-- the words of lines
unfoldable pub rule_of : List ℕ → Option Rule
rule_of word =
    if bytes_eq word (codes ".") then Some rule.Term else
    if bytes_eq word (codes "false") then Some rule.False else
    if bytes_eq word (codes "split") then Some rule.Split else
    if bytes_eq word (codes "rw") then Some rule.Rw else
    if bytes_eq word (codes "keep") then Some rule.Keep else
    if bytes_eq word (codes "and") then Some rule.Part else
    if bytes_eq word (codes "def") then Some rule.Def else
    if bytes_eq word (codes "subst") then Some rule.Subst else word_rule_of word

-- the heads of formulas over terms, and of choices
unfoldable pub formula_head_of : List ℕ → Option Head
formula_head_of word =
    if bytes_eq word (codes "le") then Some head.Le else
    if bytes_eq word (codes "eq") then Some head.Eq else
    if bytes_eq word (codes "iff") then Some head.Iff else
    if bytes_eq word (codes "not") then Some head.Not else
    if bytes_eq word (codes "and") then Some head.And else
    if bytes_eq word (codes "or") then Some head.Or else
    if bytes_eq word (codes "ite") then Some head.Ite else None

-- the heads of terms
unfoldable pub head_of : List ℕ → Option Head
head_of word =
    if bytes_eq word (codes "true") then Some head.True else
    if bytes_eq word (codes "false") then Some head.False else
    if bytes_eq word (codes "bool") then Some head.Bool else
    if bytes_eq word (codes "int") then Some head.Int else
    if bytes_eq word (codes "num") then Some head.Num else
    if bytes_eq word (codes "sum") then Some head.Sum else
    if bytes_eq word (codes "mul") then Some head.Scale else formula_head_of word
