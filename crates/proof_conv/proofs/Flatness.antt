-- Certificates without splits.
use Rattle.std.proofs.Common.{◌≡◌, ℕ, zero, suc, ◌≤◌, List, [], ◌∷◌, length, Option, Some, None, sym, subst, arith}
use Rattle.std.specs.Option.{IsSome}
use Rattle.std.proofs.lemmas.List.Elements.{All-head, All-tail}
use Rattle.qterm.specs.Tree.{Tree, False}
use Rattle.tac_cert.specs.Items.{Item, Formula, item}
use Rattle.tac_cert.specs.declared.cert.Cert.{Cert}
use Rattle.tac_cert.specs.declared.cert.Close.TheOpen.{Close-F}
use Rattle.tac_cert.specs.declared.cert.Close.TheVariants as close
use Rattle.tac_cert.specs.Accepts.{Closes, ClosesBy, Accepts, ProofFits, CloseFits, CertFits, as_items, most_splits}
use Rattle.proof_conv.specs.declared.plan.Plan.{Plan}
use Rattle.proof_conv.specs.Plan.{depths}
use Rattle.proof_conv.specs.Conv.{Nests}
use Rattle.proof_conv.specs.Accepted.{nesting, NestTogether}
use Rattle.proof_conv.specs.Leads.{AtMostEach, NestAtMost}
use Rattle.proof_conv.specs.Flat.{AreFlat, AreAllowed, false_proof}
use Rattle.proof_conv.proofs.Fuel.{nesting_out}

flat_together : (ds ns : List ℕ) (certs : List Cert) → AtMostEach ds ns → AreAllowed ns → AreFlat certs → length certs ≡ length ns → NestTogether ds certs
flat_together [] [] [] h a f e = tt
flat_together (d ∷ ds) (n ∷ ns) (c ∷ cs) h a f e =
    let first = All-head (λ (k : ℕ). k ≤ most_splits) n ns a in
    let none = All-head (λ (k : Cert). nesting k.root ≡ 0) c cs f in
    let least = h.0 in
    (omega (arith, first, none, least), flat_together ds ns cs h.1 (All-tail (λ (k : ℕ). k ≤ most_splits) n ns a) (All-tail (λ (k : Cert). nesting k.root ≡ 0) c cs f) (omega (arith, e)))
flat_together [] [] (c ∷ cs) h a f e = absurd (omega (arith, e))
flat_together [] (n ∷ ns) cs h a f e = absurd h
flat_together (d ∷ ds) [] cs h a f e = absurd h
flat_together (d ∷ ds) (n ∷ ns) [] h a f e = absurd (omega (arith, e))

pub flat_nest : (o : Option Plan) (ns : List ℕ) (certs : List Cert) → IsSome o → NestAtMost o ns → AreAllowed ns → AreFlat certs → length certs ≡ length ns → Nests o certs
flat_nest None ns certs s h a f e = cc
flat_nest (Some p) ns certs s h a f e = flat_together (depths p) ns certs h a f e

-- ---- the certificate that closes by `false`
pub false_flat : (i : ℕ) → nesting (false_proof i) ≡ 0
false_flat i = nesting_out (false_proof i) (Close-F.False i) (close.outs-False i)

closes_false : (ts : List Tree) (n : ℕ) (items : List Item) (i : ℕ) → item items i ≡ Some (Formula False) → Closes ts n items (false_proof i)
closes_false ts zero items i h = subst (ClosesBy (λ _ _. ⊥) items) (sym (close.outs-False i)) h
closes_false ts (suc n) items i h = subst (ClosesBy (Closes ts n) items) (sym (close.outs-False i)) h

false_fits : (ts : List Tree) (n : ℕ) (i : ℕ) → ProofFits ts n (false_proof i)
false_fits ts zero i = tt
false_fits ts (suc n) i = (tt, subst (CloseFits (ProofFits ts n)) (sym (close.outs-False i)) tt)

pub false_accepted : (cert : Cert) (i : ℕ) → cert.root ≡ false_proof i → (ts : List Tree) (goal : List Tree) → cert.asserts ≡ length goal → item (as_items goal) i ≡ Some (Formula False) → Accepts ts cert goal
false_accepted cert i is ts goal e h = (e, subst (Closes ts most_splits (as_items goal)) (sym is) (closes_false ts most_splits (as_items goal) i h))

pub false_there : (cert : Cert) (i : ℕ) → cert.root ≡ false_proof i → (ts : List Tree) → CertFits ts cert
false_there cert i is ts = subst (ProofFits ts most_splits) (sym is) (false_fits ts most_splits i)
