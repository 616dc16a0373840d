-- What a certificate comes to against the check of a script that its number names.
use Rattle.std.specs.Prelude.{◌≡◌, ◌↔◌, ◌≤◌, ◌<◌, ℕ, List, [], if◌then◌else◌, nat_lt, length, Option, None, Some}
use Rattle.qterm.specs.Tree.{Tree}
use Rattle.qterm.specs.Store.{Extends}
use Rattle.smt_words.specs.declared.error.ScriptError.{ScriptError}
use Rattle.smt_words.specs.declared.error.What.TheVariants as what
use Rattle.smt_words.specs.Command.{ScriptTree}
use Rattle.smt_command.specs.Script.{script_of}
use Rattle.script_text.specs.Session.{start}
use Rattle.tac_cert.specs.declared.cert.Cert.{Cert}
use Rattle.tac_cert.specs.Accepts.{Accepts, CertFits, most_splits}
use Rattle.cert_items.specs.Truth.{Unsatisfiable}
use Rattle.cert_check.specs.declared.verdict.Verdict.{Verdict}
use Rattle.cert_check.specs.declared.verdict.Verdict.TheVariants as verdict
use Rattle.cert_check.specs.declared.verdict.RuleWord.TheVariants as word
use Rattle.cert_check.specs.Walking.{verdict_on}
use Rattle.cert_text.specs.CertText.{cert_text}
use Rattle.cert_read.specs.Lines.{HasLine}
use Rattle.cert_read.specs.Nesting.{Nests}
use Rattle.check_front.specs.declared.finding.Finding.{Finding}
use Rattle.check_front.specs.declared.finding.Finding.TheVariants as f
use Rattle.check_front.specs.declared.finding.TheConstants.{MOST_SCRIPT, MOST_CERT}
use Rattle.check_front.specs.Cut.{IsCut}
use Rattle.check_front.specs.Named.{asserts_at}

-- the fault of a script that is too long, which is told of its first byte
abbrev pub too_long : ScriptError
too_long = record { what = what.TooLong; place = 0 }

-- the script of the bytes, where strategies may name any reducer, or of too many bytes
unfoldable pub whole_script : List ℕ → ScriptTree
whole_script bytes = if nat_lt MOST_SCRIPT (length bytes) then record { commands = []; fault = Some too_long } else script_of None bytes

-- the assertions in force at the check that a certificate names, if the script has it before its first fault
abbrev pub asserts_of : ScriptTree → Cert → Option (List Tree)
asserts_of script cert = asserts_at cert.check start script.commands

-- what the checker answers
abbrev pub finding_of : Verdict → Finding
finding_of verdict.Accepted = f.Accepted
finding_of (verdict.Refused step rule) = f.Refused step rule

-- what a certificate comes to whose check isn't there: the script's first fault, or else the refusal of its first line
abbrev pub unnamed : Option ScriptError → Finding
unnamed (Some error) = f.Wrong error
unnamed None = f.Refused 0 word.Head

-- What a certificate comes to: the checker's answer at the check that it names, if that is there.
abbrev pub judged : List Tree → Cert → Option (List Tree) → Option ScriptError → Finding
judged ts cert (Some asserts) fault = finding_of (verdict_on ts cert asserts)
judged ts cert None fault = unnamed fault

-- A certificate is judged so against a script. It is accepted exactly where the rules accept it, and then no valuation makes all of
-- the assertions true.
pub record IsJudgedBy (script : ScriptTree) (ts : List Tree) (cert : Cert) (finding : Finding) : Type 0 where
  pub found : finding ≡ judged ts cert (asserts_of script cert) script.fault
  pub accepted : (asserts : List Tree) → asserts_of script cert ≡ Some asserts → (finding ≡ f.Accepted) ↔ Accepts ts cert asserts
  pub sound : finding ≡ f.Accepted → (asserts : List Tree) × (asserts_of script cert ≡ Some asserts) × Unsatisfiable asserts

-- the same over a store that has grown from these trees
abbrev pub IsJudgedLater : List Tree → ScriptTree → Cert → Finding → Type 0
IsJudgedLater ts script cert finding = (us : List Tree) × Extends ts us × IsJudgedBy script us cert finding

-- the certificate whose text a source has
pub record IsCertOf (source : List ℕ) (ts : List Tree) (cert : Cert) : Type 0 where
  pub short : length source ≤ MOST_CERT
  pub cut : IsCut source (cert_text ts cert)
  pub fits : CertFits ts cert
  pub nests : Nests most_splits cert.root

-- a source has a certificate that is judged so against a script
abbrev pub IsJudged : List ℕ → List ℕ → Finding → Type 0
IsJudged script source finding = (ts : List Tree) × (cert : Cert) × IsCertOf source ts cert × IsJudgedBy (whole_script script) ts cert finding

-- What the bytes of a script and of a certificate's source come to. The length comes first, then the text, then the script and the rules.
abbrev pub IsFound : List ℕ → List ℕ → Finding → Type 0
IsFound script source f.TooLong = MOST_CERT < length source
IsFound script source (f.Malformed line) = (length source ≤ MOST_CERT) × (bytes : List ℕ) × IsCut source bytes × HasLine bytes line
IsFound script source f.Accepted = IsJudged script source f.Accepted
IsFound script source (f.Refused step rule) = IsJudged script source (f.Refused step rule)
IsFound script source (f.Wrong error) = IsJudged script source (f.Wrong error)
