-- Steps and proofs, as the store grows.
use Rattle.std.proofs.Common.{◌≡◌, ℕ, zero, suc, ◌+◌, ◌<◌, List, [], ◌∷◌, length, get_or, drop, Option, Some, None, refl, sym, ap, ◌∙◌, arith, if◌then◌else◌}
use Rattle.qterm.specs.Tree.{Tree}
use Rattle.qterm.specs.Store.{Extends}
use Rattle.tac_cert.specs.declared.cert.Step.{Step}
use Rattle.tac_cert.specs.Items.{Item, formula_at}
use Rattle.tac_cert.specs.Gives.{gives, StepFits}
use Rattle.tac_cert.proofs.Staying.{gives_stays}
use Rattle.tac_cert.specs.declared.cert.Proof.{Proof, out-Proof}
use Rattle.tac_cert.specs.declared.cert.Close.{Close, out-Close}
use Rattle.tac_cert.specs.declared.cert.Close.TheOpen.{Close-F}
use Rattle.tac_cert.specs.Accepts.{Closing, StepsFit, EachFits, CloseFits, ProofFits}
use Rattle.cert_check.specs.declared.verdict.RuleWord.TheVariants as word
use Rattle.cert_check.specs.declared.verdict.Walk.{Walk}
use Rattle.cert_check.specs.declared.verdict.Walk.TheVariants.{Closed, Refused}
use Rattle.cert_check.specs.Walking.{run, Passed, Through, Stopped, stepped, bump, word_of, and_then, cases_from, disjuncts, fits_cases, close_of, closes, walk, inner}

pub steps_get : (ts : List Tree) (ss : List Step) (k : ℕ) (d : Step) → StepsFit ts ss → k < length ss → StepFits ts (get_or ss k d)
steps_get ts [] k d h l = absurd (omega (arith, l))
steps_get ts (s ∷ ss) zero d h l = h.0
steps_get ts (s ∷ ss) (suc k) d h l = steps_get ts ss k d h.1 (omega (arith, l))

pub drop_step : (ss : List Step) (k : ℕ) (d : Step) → k < length ss → drop k ss ≡ get_or ss k d ∷ drop (k + 1) ss
drop_step ss k d l = let e : k + 1 ≡ suc k = omega arith in rw e (by ss k l)
  where
    by : (ss : List Step) (k : ℕ) → k < length ss → drop k ss ≡ get_or ss k d ∷ drop (suc k) ss
    by [] k l = absurd (omega (arith, l))
    by (s ∷ ss) zero l = refl
    by (s ∷ ss) (suc k) l = by ss k (omega (arith, l))

-- one step of a run, in a store that has grown
pub run_next : (ts us : List Tree) (items after : List Item) (n : ℕ) (ss : List Step) (k : ℕ) (d : Step) → Extends ts us → StepsFit ts ss → k < length ss
    → Some after ≡ gives us items (get_or ss k d) → run ts items n (drop k ss) ≡ run ts after (bump n) (drop (k + 1) ss)
run_next ts us items after n ss k d e f l h =
    let g = gives_stays ts us items (get_or ss k d) e (steps_get ts ss k d f l) in
    ap (run ts items n) (drop_step ss k d l) ∙ ap (λ o. stepped n (get_or ss k d) o (λ x. run ts x (bump n) (drop (k + 1) ss))) (sym (h ∙ g))

pub run_stops : (ts us : List Tree) (items : List Item) (n : ℕ) (ss : List Step) (k : ℕ) (d : Step) → Extends ts us → StepsFit ts ss → k < length ss
    → None ≡ gives us items (get_or ss k d) → run ts items n (drop k ss) ≡ Stopped n (word_of (get_or ss k d))
run_stops ts us items n ss k d e f l h =
    let g = gives_stays ts us items (get_or ss k d) e (steps_get ts ss k d f l) in
    ap (run ts items n) (drop_step ss k d l) ∙ ap (λ o. stepped n (get_or ss k d) o (λ x. run ts x (bump n) (drop (k + 1) ss))) (sym (h ∙ g))

-- ---- a whole proof, in a store that has grown

stepped_same : (n : ℕ) (s : Step) (o : Option (List Item)) (f g : List Item → Passed) → ((x : List Item) → f x ≡ g x) → stepped n s o f ≡ stepped n s o g
stepped_same n s None f g h = refl
stepped_same n s (Some x) f g h = h x

pub run_stays : (ts us : List Tree) (items : List Item) (n : ℕ) (ss : List Step) → Extends ts us → StepsFit ts ss → run us items n ss ≡ run ts items n ss
run_stays ts us items n [] e h = refl
run_stays ts us items n (s ∷ ss) e h =
    ap (λ o. stepped n s o (λ x. run us x (bump n) ss)) (gives_stays ts us items s e h.0)
    ∙ stepped_same n s (gives ts items s) (λ x. run us x (bump n) ss) (λ x. run ts x (bump n) ss) (λ x. run_stays ts us x (bump n) ss e h.1)

then_same : (w : Walk) (f g : ℕ → Walk) → ((n : ℕ) → f n ≡ g n) → and_then w f ≡ and_then w g
then_same (Closed n) f g h = h n
then_same (Refused n w) f g h = refl

abbrev pub Same : (P : Proof → Type 0) (f g : List Item → ℕ → Proof → Walk) → Type 0
Same P f g = (items : List Item) (n : ℕ) (p : Proof) → P p → f items n p ≡ g items n p

cases_stay : (P : Proof → Type 0) (f g : List Item → ℕ → Proof → Walk) (items : List Item) (n : ℕ) (us : List Tree) (ps : List Proof) → Same P f g → EachFits P ps → cases_from f items n us ps ≡ cases_from g items n us ps
cases_stay P f g items n [] ps s h = refl
cases_stay P f g items n (u ∷ us) [] s h = refl
cases_stay P f g items n (u ∷ us) (p ∷ ps) s h =
    ap (λ w. and_then w (λ m. cases_from f items m us ps)) (s _ n p h.0) ∙ then_same (g _ n p) _ _ (λ m. cases_stay P f g items m us ps s h.1)

pub close_stays : (P : Proof → Type 0) (f g : List Item → ℕ → Proof → Walk) (items : List Item) (n : ℕ) (c : Closing) → Same P f g → CloseFits P c → close_of (Some f) items n c ≡ close_of (Some g) items n c
close_stays P f g items n (Close-F.False i) s h = refl
close_stays P f g items n (Close-F.Split i cases) s h =
    let us = disjuncts (formula_at items i) in
    ap (λ w. if fits_cases (length us) (length cases) then w else Refused n word.Split) (cases_stay P f g items (bump n) us cases s h)

ends_stay : (P : Proof → Type 0) (f g : List Item → ℕ → Proof → Walk) (r : Passed) (c : Close) → Same P f g → CloseFits P (out-Close c) → closes (Some f) r c ≡ closes (Some g) r c
ends_stay P f g (Through items n) c s h = close_stays P f g items n (out-Close c) s h
ends_stay P f g (Stopped n w) c s h = refl

pub walk_stays : (ts us : List Tree) (left : ℕ) (items : List Item) (n : ℕ) (p : Proof) → Extends ts us → ProofFits ts left p → walk us left items n p ≡ walk ts left items n p
walk_stays ts us zero items n p e h = ap (λ r. closes None r (out-Proof p).close) (run_stays ts us items n (out-Proof p).steps e h)
walk_stays ts us (suc left) items n p e h =
    ap (λ r. closes (Some (walk us left)) r (out-Proof p).close) (run_stays ts us items n (out-Proof p).steps e h.0)
    ∙ ends_stay (ProofFits ts left) (walk us left) (walk ts left) (run ts items n (out-Proof p).steps) (out-Proof p).close (λ more m q k. walk_stays ts us left more m q e k) h.1

pub walk_is : (ts : List Tree) (left : ℕ) (items : List Item) (n : ℕ) (p : Proof) → walk ts left items n p ≡ closes (inner ts left) (run ts items n (out-Proof p).steps) (out-Proof p).close
walk_is ts zero items n p = refl
walk_is ts (suc left) items n p = refl
