-- The lines of steps in a certificate's text: the word of a rule and what it speaks of.
use Rattle.std.specs.Prelude.{ℕ, List, [], ◌∷◌, ◌++◌, map, codes, decimal}
use Rattle.std.specs.Fmt.{signed_decimal}
use Rattle.qterm.specs.Tree.{Tree}
use Rattle.qterm.specs.Store.{tree_at}
use Rattle.qwalk.specs.Subterms.{subterms_of}
use Rattle.tac_cert.specs.declared.cert.Step.{Step}
use Rattle.tac_cert.specs.declared.cert.Step.TheVariants as step
use Rattle.tac_cert.specs.Gives.{terms_of}
use Rattle.cert_text.specs.TermLines.{line, reference, name_text, term_lines, with_lines}

-- the word of a rule
abbrev pub rule_word : Step → List ℕ
rule_word (step.Rw i f) = codes "rw"
rule_word (step.Keep is) = codes "keep"
rule_word (step.Part i k) = codes "and"
rule_word (step.Def y t) = codes "def"
rule_word (step.Subst i s t j) = codes "subst"
rule_word (step.IteParts i) = codes "ite"
rule_word (step.Range i) = codes "range"
rule_word (step.Bits x bs) = codes "bits"
rule_word (step.Bit x p) = codes "bit"
rule_word (step.Mul w a) = codes "mul"
rule_word (step.Add v w ns) = codes "add"
rule_word (step.Cmp w c ns) = codes "cmp"
rule_word (step.Eqc w c ns) = codes "eqc"
rule_word (step.Table i c) = codes "table"
rule_word (step.Rup c is) = codes "rup"

-- what the line of a step has behind the rule's word; these terms have lines
abbrev pub arguments : List Tree → List Tree → Step → List (List ℕ)
arguments ts known (step.Rw i f) = decimal i ∷ reference known (tree_at ts f) ∷ []
arguments ts known (step.Keep is) = map decimal is
arguments ts known (step.Part i k) = decimal i ∷ decimal k ∷ []
arguments ts known (step.Def y t) = name_text y ∷ reference known (tree_at ts t) ∷ []
arguments ts known (step.Subst i s t j) = decimal i ∷ reference known (tree_at ts s) ∷ reference known (tree_at ts t) ∷ decimal j ∷ []
arguments ts known (step.IteParts i) = decimal i ∷ []
arguments ts known (step.Range i) = decimal i ∷ []
arguments ts known (step.Bits x bs) = name_text x ∷ map name_text bs
arguments ts known (step.Bit x p) = name_text x ∷ name_text p ∷ []
arguments ts known (step.Mul w a) = decimal w ∷ signed_decimal a ∷ []
arguments ts known (step.Add v w ns) = decimal v ∷ decimal w ∷ map name_text ns
arguments ts known (step.Cmp w c ns) = decimal w ∷ signed_decimal c ∷ map name_text ns
arguments ts known (step.Eqc w c ns) = decimal w ∷ signed_decimal c ∷ map name_text ns
arguments ts known (step.Table i c) = decimal i ∷ reference known (tree_at ts c) ∷ []
arguments ts known (step.Rup c is) = reference known (tree_at ts c) ∷ map decimal is

-- the line of a step
unfoldable pub step_line : List Tree → List Tree → Step → List ℕ
step_line ts known s = line (rule_word s) (arguments ts known s)

-- the terms that have lines after a step: those of its terms, from left to right, are among them
abbrev pub known_after : List Tree → List Tree → Step → List Tree
known_after ts known s = with_lines known (subterms_of (terms_of ts s))

-- the line of a step, behind those of its terms that have none yet
abbrev pub step_text : List Tree → List Tree → Step → List ℕ
step_text ts known s = term_lines known (subterms_of (terms_of ts s)) ++ step_line ts (known_after ts known s) s
