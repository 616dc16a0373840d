-- Steps, cases and proofs come one behind the other.
use Rattle.std.proofs.Common.{◌≡◌, ℕ, zero, suc, ◌+◌, ◌-◌, ◌<◌, ◌≤◌, List, [], ◌∷◌, ◌++◌, length, drop, get_or, inl, inr, ◌⊎◌, refl, ap, sym, subst, ◌∙◌, arith, append_assoc, append-nil}
use Rattle.std.proofs.lemmas.List.{drop_more, drop_all}
use Rattle.qterm.specs.Tree.{Tree}
use Rattle.tac_cert.specs.declared.cert.Step.{Step}
use Rattle.tac_cert.specs.declared.cert.Proof.{Proof, out-Proof}
use Rattle.tac_cert.specs.declared.cert.Close.{out-Close}
use Rattle.tac_cert.specs.declared.cert.Close.TheOpen.{Close-F}
use Rattle.tac_cert.specs.Accepts.{Closing, EachFits, CloseFits, StepsFit, ProofFits}
use Rattle.cert_text.specs.StepLines.{step_text, known_after}
use Rattle.cert_text.specs.CertText.{Written, behind, steps_then, each_case, close_line, cases_of, left_out, written}

left_of : {X : Type 0} (xs : List X) (k : ℕ) (x : X) → k < length xs → x ≡ get_or xs k x → drop k xs ≡ x ∷ drop (k + 1) xs
left_of xs k x within here = drop_more xs k x within ∙ ap (λ y. y ∷ drop (k + 1) xs) (sym here)

-- ---- steps
pub step_text_taken : (ts known now : List Tree) (ss : List Step) (k : ℕ) (s : Step) (old new whole : List ℕ) (rest : List Tree → Written) → k < length ss → s ≡ get_or ss k s → new ≡ old ++ step_text ts known s → now ≡ known_after ts known s
    → old ++ (steps_then ts known (drop k ss) rest).text ≡ whole → new ++ (steps_then ts now (drop (k + 1) ss) rest).text ≡ whole
step_text_taken ts known now ss k s old new whole rest within here text is so_far =
    let after = drop (k + 1) ss in
    let ks = known_after ts known s in
    ap (λ (bs : List ℕ). bs ++ (steps_then ts now after rest).text) text ∙ ap (λ (us : List Tree). (old ++ step_text ts known s) ++ (steps_then ts us after rest).text) is
    ∙ append_assoc old (step_text ts known s) (steps_then ts ks after rest).text ∙ ap (λ (xs : List Step). old ++ (steps_then ts known xs rest).text) (sym (left_of ss k s within here)) ∙ so_far

pub step_known_taken : (ts known now whole : List Tree) (ss : List Step) (k : ℕ) (s : Step) (rest : List Tree → Written) → k < length ss → s ≡ get_or ss k s → now ≡ known_after ts known s
    → (steps_then ts known (drop k ss) rest).known ≡ whole → (steps_then ts now (drop (k + 1) ss) rest).known ≡ whole
step_known_taken ts known now whole ss k s rest within here is so_far =
    ap (λ (us : List Tree). (steps_then ts us (drop (k + 1) ss) rest).known) is ∙ ap (λ (xs : List Step). (steps_then ts known xs rest).known) (sym (left_of ss k s within here)) ∙ so_far

pub steps_done : (ts known : List Tree) (ss : List Step) (k : ℕ) (rest : List Tree → Written) → length ss ≤ k → steps_then ts known (drop k ss) rest ≡ rest known
steps_done ts known ss k rest past = ap (λ (xs : List Step). steps_then ts known xs rest) (drop_all k ss past)

-- ---- cases
pub case_text_taken : (of : List Tree → Proof → Written) (known now : List Tree) (ps : List Proof) (k : ℕ) (p : Proof) (old new whole : List ℕ) → k < length ps → p ≡ get_or ps k p → new ≡ old ++ (of known p).text → now ≡ (of known p).known
    → old ++ (each_case of known (drop k ps)).text ≡ whole → new ++ (each_case of now (drop (k + 1) ps)).text ≡ whole
case_text_taken of known now ps k p old new whole within here text is so_far =
    let after = drop (k + 1) ps in
    ap (λ (bs : List ℕ). bs ++ (each_case of now after).text) text ∙ ap (λ (us : List Tree). (old ++ (of known p).text) ++ (each_case of us after).text) is
    ∙ append_assoc old (of known p).text (each_case of (of known p).known after).text ∙ ap (λ (xs : List Proof). old ++ (each_case of known xs).text) (sym (left_of ps k p within here)) ∙ so_far

pub case_known_taken : (of : List Tree → Proof → Written) (known now whole : List Tree) (ps : List Proof) (k : ℕ) (p : Proof) → k < length ps → p ≡ get_or ps k p → now ≡ (of known p).known
    → (each_case of known (drop k ps)).known ≡ whole → (each_case of now (drop (k + 1) ps)).known ≡ whole
case_known_taken of known now whole ps k p within here is so_far =
    ap (λ (us : List Tree). (each_case of us (drop (k + 1) ps)).known) is ∙ ap (λ (xs : List Proof). (each_case of known xs).known) (sym (left_of ps k p within here)) ∙ so_far

pub cases_done : (of : List Tree → Proof → Written) (known : List Tree) (ps : List Proof) (k : ℕ) → length ps ≤ k → each_case of known (drop k ps) ≡ record { text = []; known = known }
cases_done of known ps k past = ap (λ (xs : List Proof). each_case of known xs) (drop_all k ps past)

pub fits_at : {X : Type 0} (P : X → Type 0) (xs : List X) (k : ℕ) (d : X) → EachFits P xs → k < length xs → P (get_or xs k d)
fits_at P [] k d all within = absurd (omega (arith, within))
fits_at P (x ∷ xs) zero d all within = all.0
fits_at P (x ∷ xs) (suc k) d all within = fits_at P xs k d all.1 (omega (arith, within))

-- ---- a proof
-- its steps are written, then its closing line, and then its cases
pub proof_text : (old steps closed new line whole : List ℕ) (w : Written) → steps ++ (behind line w).text ≡ old ++ whole → closed ≡ steps ++ line → new ≡ closed ++ w.text → new ≡ old ++ whole
proof_text old steps closed new line whole w begins closes ends = ends ∙ ap (λ (bs : List ℕ). bs ++ w.text) closes ∙ append_assoc steps line w.text ∙ begins

-- what comes behind the steps
abbrev pub ending : (List Tree → Proof → Written) → Proof → List Tree → Written
ending of p after = behind (close_line (out-Close (out-Proof p).close)) (cases_of of (out-Close (out-Proof p).close) after)

written_some : (ts known : List Tree) (left : ℕ) (p : Proof) → 0 < left → written ts left known p ≡ steps_then ts known (out-Proof p).steps (ending (written ts (left - 1)) p)
written_some ts known zero p some = absurd (omega (arith, some))
written_some ts known (suc left) p some = let e : left ≡ suc left - 1 = omega arith in ap (λ n. steps_then ts known (out-Proof p).steps (ending (written ts n) p)) e

pub steps_fit : (ts : List Tree) (left : ℕ) (p : Proof) → ProofFits ts left p → StepsFit ts (out-Proof p).steps
steps_fit ts zero p fits = fits
steps_fit ts (suc left) p fits = fits.0

pub cases_fit : (ts : List Tree) (left item : ℕ) (p : Proof) (cases : List Proof) → 0 < left → out-Close (out-Proof p).close ≡ Close-F.Split item cases → ProofFits ts left p → EachFits (ProofFits ts (left - 1)) cases
cases_fit ts zero item p cases some is fits = absurd (omega (arith, some))
cases_fit ts (suc left) item p cases some is fits =
    let e : left ≡ suc left - 1 = omega arith in
    subst (λ n. EachFits (ProofFits ts n) cases) e (subst (CloseFits (ProofFits ts left)) is fits.1)

-- a proof that is closed by a split, where splits may stand
pub split_text : (ts known now : List Tree) (left item : ℕ) (p : Proof) (cases : List Proof) (old steps closed new : List ℕ) → 0 < left → out-Close (out-Proof p).close ≡ Close-F.Split item cases
    → steps ++ (ending (written ts (left - 1)) p now).text ≡ old ++ (steps_then ts known (out-Proof p).steps (ending (written ts (left - 1)) p)).text
    → closed ≡ steps ++ close_line (out-Close (out-Proof p).close) → new ≡ closed ++ (each_case (written ts (left - 1)) now cases).text → new ≡ old ++ (written ts left known p).text
split_text ts known now left item p cases old steps closed new some is begins closes ends =
    let of = written ts (left - 1) in
    proof_text old steps closed new (close_line (out-Close (out-Proof p).close)) (steps_then ts known (out-Proof p).steps (ending of p)).text (cases_of of (out-Close (out-Proof p).close) now) begins closes
    (ends ∙ ap (λ c. closed ++ (cases_of of c now).text) (sym is)) ∙ ap (λ w. old ++ w.text) (sym (written_some ts known left p some))

pub split_known : (ts known now whole : List Tree) (left item : ℕ) (p : Proof) (cases : List Proof) → 0 < left → out-Close (out-Proof p).close ≡ Close-F.Split item cases
    → (ending (written ts (left - 1)) p now).known ≡ (steps_then ts known (out-Proof p).steps (ending (written ts (left - 1)) p)).known
    → whole ≡ (each_case (written ts (left - 1)) now cases).known → whole ≡ (written ts left known p).known
split_known ts known now whole left item p cases some is begins ends =
    let of = written ts (left - 1) in
    ends ∙ ap (λ c. (cases_of of c now).known) (sym is) ∙ begins ∙ ap (λ w. w.known) (sym (written_some ts known left p some))

-- no case is written
all_left_out : (known : List Tree) (ps : List Proof) → each_case left_out known ps ≡ record { text = []; known = known }
all_left_out known [] = refl
all_left_out known (p ∷ ps) = ap (behind []) (all_left_out known ps)

none_written : (c : Closing) (now : List Tree) → cases_of left_out c now ≡ record { text = []; known = now }
none_written (Close-F.False i) now = refl
none_written (Close-F.Split i cases) now = all_left_out now cases

-- a proof of which no case is written: another one, or one past the last split that may stand
abbrev pub HasNoCases : ℕ → Closing → Type 0
HasNoCases left c = (left ≡ 0) ⊎ ((item : ℕ) × (c ≡ Close-F.False item))

-- what is behind the steps of such a proof
pub ending_alone : (ts : List Tree) (left : ℕ) (p : Proof) → HasNoCases left (out-Close (out-Proof p).close)
    → (of : List Tree → Proof → Written) × ((known : List Tree) → written ts left known p ≡ steps_then ts known (out-Proof p).steps (ending of p)) × ((now : List Tree) → cases_of of (out-Close (out-Proof p).close) now ≡ record { text = []; known = now })
ending_alone ts zero p h = (left_out, λ known. refl, λ now. none_written (out-Close (out-Proof p).close) now)
ending_alone ts (suc left) p (inl e) = absurd (omega (arith, e))
ending_alone ts (suc left) p (inr f) = (written ts left, λ known. refl, λ now. ap (λ c. cases_of (written ts left) c now) f.1)

pub other_text : (ts known now : List Tree) (left : ℕ) (p : Proof) (old steps new : List ℕ) → HasNoCases left (out-Close (out-Proof p).close)
    → ((rest : List Tree → Written) → steps ++ (rest now).text ≡ old ++ (steps_then ts known (out-Proof p).steps rest).text)
    → new ≡ steps ++ close_line (out-Close (out-Proof p).close) → new ≡ old ++ (written ts left known p).text
other_text ts known now left p old steps new h begins closes =
    let e = ending_alone ts left p h in
    proof_text old steps new new (close_line (out-Close (out-Proof p).close)) (steps_then ts known (out-Proof p).steps (ending e.0 p)).text (cases_of e.0 (out-Close (out-Proof p).close) now) (begins (ending e.0 p)) closes
    (sym (append-nil new) ∙ ap (λ w. new ++ w.text) (sym (e.2 now))) ∙ ap (λ w. old ++ w.text) (sym (e.1 known))

pub other_known : (ts known now : List Tree) (left : ℕ) (p : Proof) → HasNoCases left (out-Close (out-Proof p).close)
    → ((rest : List Tree → Written) → (rest now).known ≡ (steps_then ts known (out-Proof p).steps rest).known) → now ≡ (written ts left known p).known
other_known ts known now left p h begins =
    let e = ending_alone ts left p h in
    ap (λ w. w.known) (sym (e.2 now)) ∙ begins (ending e.0 p) ∙ ap (λ w. w.known) (sym (e.1 known))
