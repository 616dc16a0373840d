-- Whether a certificate is one for the assertions: by the rules alone. The ids of its steps are those of the trees ts.
use Rattle.std.specs.Prelude.{◌≡◌, ℕ, zero, suc, List, [], ◌∷◌, ◌++◌, length, Some}
use Rattle.qterm.specs.Tree.{Tree, Trees, False, Or, none, more}
use Rattle.tac_cert.specs.Items.{Item, Formula, item}
use Rattle.tac_cert.specs.Gives.{gives, StepFits}
use Rattle.tac_cert.specs.declared.cert.Step.{Step}
use Rattle.tac_cert.specs.declared.cert.Proof.{Proof, out-Proof}
use Rattle.tac_cert.specs.declared.cert.Close.{Close, out-Close}
use Rattle.tac_cert.specs.declared.cert.Close.TheOpen.{Close-F}
use Rattle.tac_cert.specs.declared.cert.Cert.{Cert}

-- the steps hold one after the other, and what they leave has P
abbrev pub AfterSteps : List Tree → List Item → List Step → (List Item → Type 0) → Type 0
AfterSteps ts items [] P = P items
AfterSteps ts items (s ∷ ss) P = (after : List Item) × (gives ts items s ≡ Some after) × AfterSteps ts after ss P

-- the k-th proof has child k as a new item
abbrev pub EachCase : (List Item → Proof → Type 0) → List Item → Trees → List Proof → Type 0
EachCase P items none [] = Unit {0}
EachCase P items (more t ts) (p ∷ ps) = P (items ++ Formula t ∷ []) p × EachCase P items ts ps
EachCase P items none (p ∷ ps) = ⊥
EachCase P items (more t ts) [] = ⊥

-- one level of a closing line, as `out-Close` opens it
abbrev pub Closing : Type 0
Closing = Close-F Close Proof

-- the item is `false`; or it is a disjunction, and each of its children, at least one, is closed by its proof
abbrev pub ClosesBy : (List Item → Proof → Type 0) → List Item → Closing → Type 0
ClosesBy below items (Close-F.False i) = item items i ≡ Some (Formula False)
ClosesBy below items (Close-F.Split i cases) =
    (t : Tree) × (us : Trees) × (item items i ≡ Some (Formula (Or (more t us)))) × EachCase below items (more t us) cases

-- the proof closes from the items, with splits nested at most that deep
abbrev pub Closes : List Tree → ℕ → List Item → Proof → Type 0
Closes ts zero items p = AfterSteps ts items (out-Proof p).steps (λ after. ClosesBy (λ _ _. ⊥) after (out-Close (out-Proof p).close))
Closes ts (suc left) items p = AfterSteps ts items (out-Proof p).steps (λ after. ClosesBy (Closes ts left) after (out-Close (out-Proof p).close))

-- splits may stand 2,048 deep
unfoldable pub most_splits : ℕ
most_splits = 2048

abbrev pub as_items : List Tree → List Item
as_items [] = []
as_items (t ∷ ts) = Formula t ∷ as_items ts

-- the head has the number of the assertions, and the root closes from them
abbrev pub Accepts : List Tree → Cert → List Tree → Type 0
Accepts ts cert asserts = (cert.asserts ≡ length asserts) × Closes ts most_splits (as_items asserts) cert.root

-- ---- the terms of a certificate are there
-- each of a list has P
abbrev pub EachFits : {X : Type 0} → (X → Type 0) → List X → Type 0
EachFits P [] = Unit {0}
EachFits P (x ∷ xs) = P x × EachFits P xs

abbrev pub StepsFit : List Tree → List Step → Type 0
StepsFit ts ss = EachFits (StepFits ts) ss

abbrev pub CloseFits : (Proof → Type 0) → Closing → Type 0
CloseFits P (Close-F.False i) = Unit {0}
CloseFits P (Close-F.Split i cases) = EachFits P cases

-- the terms of a proof are there, as far as splits may stand
abbrev pub ProofFits : List Tree → ℕ → Proof → Type 0
ProofFits ts zero p = StepsFit ts (out-Proof p).steps
ProofFits ts (suc left) p = StepsFit ts (out-Proof p).steps × CloseFits (ProofFits ts left) (out-Close (out-Proof p).close)

abbrev pub CertFits : List Tree → Cert → Type 0
CertFits ts cert = ProofFits ts most_splits cert.root
