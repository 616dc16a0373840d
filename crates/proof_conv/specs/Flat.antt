-- Certificates without splits.
use Rattle.std.specs.Prelude.{◌≡◌, ℕ, ◌≤◌, List, [], All}
use Rattle.tac_cert.specs.declared.cert.Cert.{Cert}
use Rattle.tac_cert.specs.declared.cert.Proof.{Proof}
use Rattle.tac_cert.specs.declared.cert.Close.TheVariants as close
use Rattle.tac_cert.specs.Accepts.{most_splits}
use Rattle.proof_conv.specs.Accepted.{nesting}

-- no certificate has a split
abbrev pub AreFlat : List Cert → Type 0
AreFlat certs = All (λ c. nesting c.root ≡ 0) certs

-- no number is greater than the number of splits that may nest
abbrev pub AreAllowed : List ℕ → Type 0
AreAllowed ns = All (λ n. n ≤ most_splits) ns

-- the proof without steps that closes by an item that is `false`
abbrev pub false_proof : ℕ → Proof
false_proof i = record { steps = []; close = close.False i }
