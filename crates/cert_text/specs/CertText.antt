-- The text of a certificate. Its lines end with a line feed, and its words stand one space apart.
use Rattle.std.specs.Prelude.{ℕ, zero, suc, List, [], ◌∷◌, ◌++◌, length, codes, decimal}
use Rattle.qterm.specs.Tree.{Tree}
use Rattle.tac_cert.specs.declared.cert.Step.{Step}
use Rattle.tac_cert.specs.declared.cert.Proof.{Proof, out-Proof}
use Rattle.tac_cert.specs.declared.cert.Close.{out-Close}
use Rattle.tac_cert.specs.declared.cert.Close.TheOpen.{Close-F}
use Rattle.tac_cert.specs.declared.cert.Cert.{Cert}
use Rattle.tac_cert.specs.Accepts.{Closing, most_splits}
use Rattle.cert_text.specs.TermLines.{line}
use Rattle.cert_text.specs.StepLines.{step_text, known_after}

-- a text, and the terms that have lines after it
pub record Written : Type 0 where
  pub text : List ℕ
  pub known : List Tree

-- a text goes on with another
abbrev pub behind : List ℕ → Written → Written
behind text w = record { text = text ++ w.text; known = w.known }

-- steps, and then what comes behind them
abbrev pub steps_then : List Tree → List Tree → List Step → (List Tree → Written) → Written
steps_then ts known [] rest = rest known
steps_then ts known (s ∷ ss) rest = behind (step_text ts known s) (steps_then ts (known_after ts known s) ss rest)

-- cases, one behind the other
abbrev pub each_case : (List Tree → Proof → Written) → List Tree → List Proof → Written
each_case of known [] = record { text = []; known = known }
each_case of known (p ∷ ps) = let w = of known p in behind w.text (each_case of w.known ps)

-- a closing line
abbrev pub close_line : Closing → List ℕ
close_line (Close-F.False i) = line (codes "false") (decimal i ∷ [])
close_line (Close-F.Split i cases) = line (codes "split") (decimal i ∷ decimal (length cases) ∷ [])

-- the cases behind a closing line
abbrev pub cases_of : (List Tree → Proof → Written) → Closing → List Tree → Written
cases_of of (Close-F.False i) known = record { text = []; known = known }
cases_of of (Close-F.Split i cases) known = each_case of known cases

-- a case is left out
abbrev pub left_out : List Tree → Proof → Written
left_out known p = record { text = []; known = known }

-- a proof: its steps, its closing line and its cases, where so many splits may stand one in another; cases past them are left out
abbrev pub written : List Tree → ℕ → List Tree → Proof → Written
written ts zero known p = steps_then ts known (out-Proof p).steps (λ after. behind (close_line (out-Close (out-Proof p).close)) (cases_of left_out (out-Close (out-Proof p).close) after))
written ts (suc left) known p = steps_then ts known (out-Proof p).steps (λ after. behind (close_line (out-Close (out-Proof p).close)) (cases_of (written ts left) (out-Close (out-Proof p).close) after))

-- the first line: the number of the check, and that of its assertions
abbrev pub head_line : Cert → List ℕ
head_line cert = line (codes "tacert") (codes "1" ∷ decimal cert.check ∷ decimal cert.asserts ∷ [])

-- a certificate: its head, its proof, and its end
unfoldable pub cert_text : List Tree → Cert → List ℕ
cert_text ts cert = head_line cert ++ ((written ts most_splits [] cert.root).text ++ line (codes "end") [])
