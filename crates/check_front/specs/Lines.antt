-- The line that tells a finding.
use Rattle.std.specs.Prelude.{ℕ, List, ◌++◌, codes, decimal}
use Rattle.cert_check.specs.declared.verdict.RuleWord.{RuleWord}
use Rattle.cert_check.specs.declared.verdict.RuleWord.TheVariants as word
use Rattle.answer_text.specs.Errors.{error_line}
use Rattle.check_front.specs.declared.finding.Finding.{Finding}
use Rattle.check_front.specs.declared.finding.Finding.TheVariants as f

-- the rule of a line, by the line's first word
abbrev pub rule_text : RuleWord → List ℕ
rule_text word.Head = codes "head"
rule_text word.False = codes "false"
rule_text word.Rw = codes "rw"
rule_text word.Keep = codes "keep"
rule_text word.Def = codes "def"
rule_text word.Subst = codes "subst"
rule_text word.Split = codes "split"
rule_text word.Ite = codes "ite"
rule_text word.Range = codes "range"
rule_text word.Bits = codes "bits"
rule_text word.Bit = codes "bit"
rule_text word.Add = codes "add"
rule_text word.Cmp = codes "cmp"
rule_text word.Eqc = codes "eqc"
rule_text word.Table = codes "table"
rule_text word.And = codes "and"
rule_text word.Mul = codes "mul"
rule_text word.Rup = codes "rup"

-- the line of a finding; an error of the script is told with its place in the script's bytes
unfoldable pub finding_line : List ℕ → Finding → List ℕ
finding_line script f.Accepted = codes "accepted\n"
finding_line script (f.Refused step rule) = codes "refused step " ++ (decimal step ++ (codes ": " ++ (rule_text rule ++ codes "\n")))
finding_line script (f.Wrong error) = error_line script error.what error.place
finding_line script (f.Malformed line) = codes "malformed line " ++ (decimal line ++ codes "\n")
finding_line script f.TooLong = codes "certificate too long\n"
