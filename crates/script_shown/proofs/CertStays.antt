-- The text of a certificate stays the same as the store grows.
use Rattle.std.proofs.Common.{◌≡◌, ℕ, zero, suc, List, [], ◌∷◌, ◌++◌, map, codes, decimal, refl, ap, ◌∙◌}
use Rattle.qterm.specs.Tree.{Tree}
use Rattle.qterm.specs.Store.{Extends}
use Rattle.qwalk.specs.Subterms.{subterms_of}
use Rattle.tac_cert.specs.declared.cert.Step.{Step}
use Rattle.tac_cert.specs.declared.cert.Step.TheVariants as step
use Rattle.tac_cert.specs.declared.cert.Proof.{Proof, out-Proof}
use Rattle.tac_cert.specs.declared.cert.Close.{out-Close}
use Rattle.tac_cert.specs.declared.cert.Close.TheOpen.{Close-F}
use Rattle.tac_cert.specs.declared.cert.Cert.{Cert}
use Rattle.tac_cert.specs.Gives.{terms_of, StepFits}
use Rattle.tac_cert.specs.Accepts.{Closing, most_splits, EachFits, StepsFit, CloseFits, ProofFits, CertFits}
use Rattle.cert_text.specs.TermLines.{line, reference, name_text, term_lines, with_lines}
use Rattle.cert_text.specs.StepLines.{rule_word, arguments, step_line, known_after, step_text}
use Rattle.cert_text.specs.CertText.{Written, behind, steps_then, each_case, close_line, cases_of, written, head_line, cert_text}

-- the terms of a step
terms_stay : (ts us : List Tree) (s : Step) → Extends ts us → StepFits ts s → terms_of us s ≡ terms_of ts s
terms_stay ts us (step.Rw i f) e h = ap (λ t. t ∷ []) (e.same f h)
terms_stay ts us (step.Keep ns) e h = refl
terms_stay ts us (step.Part i k) e h = refl
terms_stay ts us (step.Def y t) e h = ap (λ t. t ∷ []) (e.same t h)
terms_stay ts us (step.Subst i s t j) e h = λ k. e.same s h.0 k ∷ e.same t h.1 k ∷ []
terms_stay ts us (step.IteParts i) e h = refl
terms_stay ts us (step.Range i) e h = refl
terms_stay ts us (step.Bits x bs) e h = refl
terms_stay ts us (step.Bit x p) e h = refl
terms_stay ts us (step.Mul w a) e h = refl
terms_stay ts us (step.Add v w ns) e h = refl
terms_stay ts us (step.Cmp w c ns) e h = refl
terms_stay ts us (step.Eqc w c ns) e h = refl
terms_stay ts us (step.Table i c) e h = ap (λ t. t ∷ []) (e.same c h)
terms_stay ts us (step.Rup c hints) e h = ap (λ t. t ∷ []) (e.same c h)

-- what its line has behind the rule's word
arguments_stay : (ts us known : List Tree) (s : Step) → Extends ts us → StepFits ts s → arguments us known s ≡ arguments ts known s
arguments_stay ts us known (step.Rw i f) e h = ap (λ t. decimal i ∷ reference known t ∷ []) (e.same f h)
arguments_stay ts us known (step.Keep ns) e h = refl
arguments_stay ts us known (step.Part i k) e h = refl
arguments_stay ts us known (step.Def y t) e h = ap (λ t. name_text y ∷ reference known t ∷ []) (e.same t h)
arguments_stay ts us known (step.Subst i s t j) e h = λ k. decimal i ∷ reference known (e.same s h.0 k) ∷ reference known (e.same t h.1 k) ∷ decimal j ∷ []
arguments_stay ts us known (step.IteParts i) e h = refl
arguments_stay ts us known (step.Range i) e h = refl
arguments_stay ts us known (step.Bits x bs) e h = refl
arguments_stay ts us known (step.Bit x p) e h = refl
arguments_stay ts us known (step.Mul w a) e h = refl
arguments_stay ts us known (step.Add v w ns) e h = refl
arguments_stay ts us known (step.Cmp w c ns) e h = refl
arguments_stay ts us known (step.Eqc w c ns) e h = refl
arguments_stay ts us known (step.Table i c) e h = ap (λ t. decimal i ∷ reference known t ∷ []) (e.same c h)
arguments_stay ts us known (step.Rup c hints) e h = ap (λ t. reference known t ∷ map decimal hints) (e.same c h)

line_stays : (ts us known : List Tree) (s : Step) → Extends ts us → StepFits ts s → step_line us known s ≡ step_line ts known s
unfolding step_line
line_stays ts us known s e h = ap (line (rule_word s)) (arguments_stay ts us known s e h)

known_stays : (ts us known : List Tree) (s : Step) → Extends ts us → StepFits ts s → known_after us known s ≡ known_after ts known s
known_stays ts us known s e h = ap (λ all. with_lines known (subterms_of all)) (terms_stay ts us s e h)

text_stays : (ts us known : List Tree) (s : Step) → Extends ts us → StepFits ts s → step_text us known s ≡ step_text ts known s
text_stays ts us known s e h =
    ap (λ all. term_lines known (subterms_of all) ++ step_line us (with_lines known (subterms_of all)) s) (terms_stay ts us s e h)
    ∙ ap (λ l. term_lines known (subterms_of (terms_of ts s)) ++ l) (line_stays ts us (known_after ts known s) s e h)

-- steps, and then what comes behind them
steps_stay : (ts us known : List Tree) (ss : List Step) (old new : List Tree → Written) → Extends ts us → StepsFit ts ss
    → ((after : List Tree) → new after ≡ old after) → steps_then us known ss new ≡ steps_then ts known ss old
steps_stay ts us known [] old new e h same = same known
steps_stay ts us known (s ∷ ss) old new e h same =
    ap (λ t. behind t (steps_then us (known_after us known s) ss new)) (text_stays ts us known s e h.0)
    ∙ ap (λ k. behind (step_text ts known s) (steps_then us k ss new)) (known_stays ts us known s e h.0)
    ∙ ap (behind (step_text ts known s)) (steps_stay ts us (known_after ts known s) ss old new e h.1 same)

-- cases, and what comes behind a closing line
cases_stay : (Fit : Proof → Type 0) (old new : List Tree → Proof → Written) (known : List Tree) (ps : List Proof) → EachFits Fit ps
    → ((k : List Tree) (p : Proof) → Fit p → new k p ≡ old k p) → each_case new known ps ≡ each_case old known ps
cases_stay Fit old new known [] h same = refl
cases_stay Fit old new known (p ∷ ps) h same =
    ap (λ (w : Written). behind w.text (each_case new w.known ps)) (same known p h.0)
    ∙ ap (behind (old known p).text) (cases_stay Fit old new (old known p).known ps h.1 same)

closing_stays : (Fit : Proof → Type 0) (old new : List Tree → Proof → Written) (known : List Tree) (c : Closing) → CloseFits Fit c
    → ((k : List Tree) (p : Proof) → Fit p → new k p ≡ old k p) → cases_of new c known ≡ cases_of old c known
closing_stays Fit old new known (Close-F.False i) h same = refl
closing_stays Fit old new known (Close-F.Split i cases) h same = cases_stay Fit old new known cases h same

written_stays : (ts us : List Tree) (left : ℕ) (known : List Tree) (p : Proof) → Extends ts us → ProofFits ts left p → written us left known p ≡ written ts left known p
written_stays ts us zero known p e h = steps_stay ts us known (out-Proof p).steps _ _ e h (λ after. refl)
written_stays ts us (suc left) known p e h =
    steps_stay ts us known (out-Proof p).steps _ _ e h.0
    (λ after. ap (behind (close_line (out-Close (out-Proof p).close))) (closing_stays (ProofFits ts left) (written ts left) (written us left) after (out-Close (out-Proof p).close) h.1 (λ k q fit. written_stays ts us left k q e fit)))

pub cert_text_stays : (ts us : List Tree) (cert : Cert) → Extends ts us → CertFits ts cert → cert_text us cert ≡ cert_text ts cert
unfolding cert_text
cert_text_stays ts us cert e h = ap (λ (w : Written). head_line cert ++ (w.text ++ line (codes "end") [])) (written_stays ts us most_splits [] cert.root e h)
