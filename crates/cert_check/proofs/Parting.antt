-- A proof in two parts: the steps before its first keep, and the rest.
use Rattle.std.proofs.Common.{◌≡◌, ℕ, zero, suc, ◌+◌, ◌-◌, ◌<◌, ◌≤◌, min, Bool, true, false, ◌||◌, List, [], ◌∷◌, ◌++◌, length, take, drop, get_or, Option, Some, None, refl, sym, ap, subst, ◌∙◌, arith, if◌then◌else◌}
use Rattle.std.specs.List.{list_any}
use Rattle.std.proofs.lemmas.List.{take-take, take_all, take_at, take_rest, length-take}
use Rattle.qterm.specs.Tree.{Tree}
use Rattle.qterm.specs.Store.{Extends}
use Rattle.cert_items.specs.declared.held.Held.{Held}
use Rattle.tac_cert.specs.declared.cert.Step.{Step}
use Rattle.tac_cert.specs.declared.cert.Step.TheVariants as step
use Rattle.tac_cert.specs.declared.cert.Proof.{Proof, out-Proof}
use Rattle.tac_cert.specs.declared.cert.Close.{Close, out-Close}
use Rattle.tac_cert.specs.Items.{Item}
use Rattle.tac_cert.specs.Formulas.{kept}
use Rattle.tac_cert.specs.Gives.{gives}
use Rattle.tac_cert.specs.Accepts.{StepsFit, ProofFits}
use Rattle.cert_check.specs.declared.verdict.Walk.{Walk}
use Rattle.cert_check.specs.Tables.{EndFits, Grows}
use Rattle.cert_check.specs.Walking.{Passed, Through, Stopped, stepped, run, bump, close_of, closes, inner, walk, is_keep, before_keep, HasNoKeep, keep_then}
use Rattle.cert_check.proofs.Running.{drop_step, run_stays, walk_is}
use Rattle.tac_cert.proofs.Staying.{steps_stay}
use Rattle.cert_check.proofs.Splitting.{end_stays, end_fits, steps_fit}

-- ---- the steps before the first keep

keep_or : (s : Step) (ss : List Step) (b : Bool) → is_keep s ≡ b → before_keep (s ∷ ss) ≡ (if b then 0 else suc (before_keep ss))
keep_or s ss b e = ap (λ c. if c then 0 else suc (before_keep ss)) e

or_left : (a b : Bool) → (a || b) ≡ false → a ≡ false
or_left true b h = h
or_left false b h = refl

or_right : (a b : Bool) → (a || b) ≡ false → b ≡ false
or_right true b h = cc
or_right false b h = h

pub before_le : (ss : List Step) → before_keep ss ≤ length ss
before_le [] = omega arith
before_le (s ∷ ss) = by (before_le ss) (is_keep s) refl
  where
    by : before_keep ss ≤ length ss → (b : Bool) → is_keep s ≡ b → before_keep (s ∷ ss) ≤ suc (length ss)
    by l true e = omega (arith, keep_or s ss true e)
    by l false e = omega (arith, keep_or s ss false e, l)

-- the rest begins with a keep, if there is a rest
pub rest_begins : (ss : List Step) → before_keep (drop (before_keep ss) ss) ≡ 0
rest_begins [] = refl
rest_begins (s ∷ ss) = by (rest_begins ss) (is_keep s) refl
  where
    by : before_keep (drop (before_keep ss) ss) ≡ 0 → (b : Bool) → is_keep s ≡ b → before_keep (drop (if b then 0 else suc (before_keep ss)) (s ∷ ss)) ≡ 0
    by r true e = keep_or s ss true e
    by r false e = r

pub front_plain : (ss : List Step) → HasNoKeep (take (before_keep ss) ss)
front_plain [] = refl
front_plain (s ∷ ss) = by (front_plain ss) (is_keep s) refl
  where
    by : HasNoKeep (take (before_keep ss) ss) → (b : Bool) → is_keep s ≡ b → HasNoKeep (take (if b then 0 else suc (before_keep ss)) (s ∷ ss))
    by f true e = refl
    by f false e = ap (λ c. c || list_any is_keep (take (before_keep ss) ss)) e ∙ f

-- none of steps without keep is one
pub no_keep_at : (ss : List Step) (k : ℕ) (d : Step) → k < length ss → HasNoKeep ss → is_keep (get_or ss k d) ≡ false
no_keep_at [] k d l h = absurd (omega (arith, l))
no_keep_at (s ∷ ss) zero d l h = or_left (is_keep s) (list_any is_keep ss) h
no_keep_at (s ∷ ss) (suc k) d l h = no_keep_at ss k d (omega (arith, l)) (or_right (is_keep s) (list_any is_keep ss) h)

-- one step more before the first keep
pub keep_later : (ss : List Step) (k : ℕ) (d : Step) → k < length ss → is_keep (get_or ss k d) ≡ false → before_keep (drop k ss) ≡ suc (before_keep (drop (k + 1) ss))
keep_later ss k d l e = ap before_keep (drop_step ss k d l) ∙ keep_or (get_or ss k d) (drop (k + 1) ss) false e

pub keep_here : (ss : List Step) (k : ℕ) (d : Step) → k < length ss → is_keep (get_or ss k d) ≡ true → before_keep (drop k ss) ≡ 0
keep_here ss k d l e = ap before_keep (drop_step ss k d l) ∙ keep_or (get_or ss k d) (drop (k + 1) ss) true e

pub keep_none : (ss : List Step) (k : ℕ) → length ss ≤ k → before_keep (drop k ss) ≡ 0
keep_none [] zero l = refl
keep_none [] (suc k) l = refl
keep_none (s ∷ ss) zero l = absurd (omega (arith, l))
keep_none (s ∷ ss) (suc k) l = keep_none ss k (omega (arith, l))

-- ---- the terms of both parts are there

pub fits_front : (ts : List Tree) (k : ℕ) (ss : List Step) → StepsFit ts ss → StepsFit ts (take k ss)
fits_front ts zero [] h = tt
fits_front ts zero (s ∷ ss) h = tt
fits_front ts (suc k) [] h = tt
fits_front ts (suc k) (s ∷ ss) h = (h.0, fits_front ts k ss h.1)

pub fits_back : (ts : List Tree) (k : ℕ) (ss : List Step) → StepsFit ts ss → StepsFit ts (drop k ss)
fits_back ts zero [] h = tt
fits_back ts zero (s ∷ ss) h = h
fits_back ts (suc k) [] h = tt
fits_back ts (suc k) (s ∷ ss) h = fits_back ts k ss h.1

-- the slices that the code cuts
pub front_is : (xs ss : List Step) (n : ℕ) → xs ≡ ss → n ≡ before_keep xs → take n xs ≡ take (before_keep ss) ss
front_is xs ss n e f = ap (λ k. take k xs) f ∙ ap (λ zs. take (before_keep zs) zs) e

pub rest_is : (xs ss : List Step) (n : ℕ) → xs ≡ ss → n ≡ before_keep xs → take (length xs - n) (drop n xs) ≡ drop (before_keep ss) ss
rest_is xs ss n e f = take_rest xs n ∙ ap (λ k. drop k xs) f ∙ ap (λ zs. drop (before_keep zs) zs) e

pub front_keeps : (xs ss : List Step) (n : ℕ) → xs ≡ ss → n ≡ before_keep xs → HasNoKeep (take n xs)
front_keeps xs ss n e f = subst HasNoKeep (sym (front_is xs ss n e f)) (front_plain ss)

pub rest_fits : (ts us : List Tree) (left : ℕ) (p : Proof) → Extends ts us → ProofFits ts left p → StepsFit us (drop (before_keep (out-Proof p).steps) (out-Proof p).steps)
rest_fits ts us left p e h = fits_back us (before_keep (out-Proof p).steps) (out-Proof p).steps (steps_stay ts us (out-Proof p).steps e (steps_fit ts left p h))

pub fits_later : (ts : List Tree) (ss : List Step) → StepsFit ts ss → StepsFit ts (take (length ss - 1) (drop 1 ss))
fits_later ts ss h = subst (StepsFit ts) (sym (take_rest ss 1)) (fits_back ts 1 ss h)

-- ---- the run over both parts

abbrev resumed : Passed → (List Item → ℕ → Passed) → Passed
resumed (Through items n) go = go items n
resumed (Stopped n w) go = Stopped n w

run_parts : (ts : List Tree) (items : List Item) (n k : ℕ) (ss : List Step) → run ts items n ss ≡ resumed (run ts items n (take k ss)) (λ after m. run ts after m (drop k ss))
run_parts ts items n zero [] = refl
run_parts ts items n zero (s ∷ ss) = refl
run_parts ts items n (suc k) [] = refl
run_parts ts items n (suc k) (s ∷ ss) = by (λ after. run_parts ts after (bump n) k ss) (gives ts items s)
  where
    by : ((after : List Item) → run ts after (bump n) ss ≡ resumed (run ts after (bump n) (take k ss)) (λ more m. run ts more m (drop k ss))) → (o : Option (List Item)) → stepped n s o (λ after. run ts after (bump n) ss) ≡ resumed (stepped n s o (λ after. run ts after (bump n) (take k ss))) (λ after m. run ts after m (drop k ss))
    by r None = refl
    by r (Some after) = r after

ends_stay : (ts us : List Tree) (left : ℕ) (r : Passed) (c : Close) → Extends ts us → EndFits ts left (out-Close c) → closes (inner us left) r c ≡ closes (inner ts left) r c
ends_stay ts us left (Through items n) c e h = end_stays ts us left items n (out-Close c) e h
ends_stay ts us left (Stopped n w) c e h = refl

-- what was done in a longer store, after a run
pub closes_later : (ts us : List Tree) (left : ℕ) (items : List Item) (n : ℕ) (ss : List Step) (c : Close) (w : Walk) → Extends ts us → StepsFit ts ss → EndFits ts left (out-Close c) → w ≡ closes (inner us left) (run us items n ss) c
    → w ≡ closes (inner ts left) (run ts items n ss) c
closes_later ts us left items n ss c w e h f a = a ∙ ap (λ r. closes (inner us left) r c) (run_stays ts us items n ss e h) ∙ ends_stay ts us left (run ts items n ss) c e f

pub walk_parts : (ts us : List Tree) (left : ℕ) (items after : List Item) (n line k : ℕ) (p : Proof) (w : Walk) → Extends ts us → ProofFits ts left p → Through after line ≡ run ts items n (take k (out-Proof p).steps)
    → w ≡ closes (inner us left) (run us after line (drop k (out-Proof p).steps)) (out-Proof p).close → w ≡ walk ts left items n p
walk_parts ts us left items after n line k p w e h r a =
    let ss = (out-Proof p).steps in
    closes_later ts us left after line (drop k ss) (out-Proof p).close w e (fits_back ts k ss (steps_fit ts left p h)) (end_fits ts left p h) a
    ∙ ap (λ x. closes (inner ts left) x (out-Proof p).close) (ap (λ x. resumed x (λ more m. run ts more m (drop k ss))) r ∙ sym (run_parts ts items n k ss)) ∙ sym (walk_is ts left items n p)

pub walk_stopped : (ts : List Tree) (left : ℕ) (items : List Item) (n k : ℕ) (p : Proof) (r : Passed) (w : Walk) → r ≡ run ts items n (take k (out-Proof p).steps) → w ≡ closes (inner ts left) (resumed r (λ more m. run ts more m (drop k (out-Proof p).steps))) (out-Proof p).close
    → w ≡ walk ts left items n p
walk_stopped ts left items n k p r w e a =
    let ss = (out-Proof p).steps in
    a ∙ ap (λ x. closes (inner ts left) x (out-Proof p).close) (ap (λ x. resumed x (λ more m. run ts more m (drop k ss))) e ∙ sym (run_parts ts items n k ss)) ∙ sym (walk_is ts left items n p)

-- a keep, and the steps after it
pub keep_first : (ts : List Tree) (items : List Item) (n : ℕ) (ns : List ℕ) (ss : List Step) → keep_then ts n (kept items ns) ss ≡ run ts items n (step.Keep ns ∷ ss)
keep_first ts items n ns ss = by (kept items ns)
  where
    by : (o : Option (List Item)) → keep_then ts n o ss ≡ stepped n (step.Keep ns) o (λ after. run ts after (bump n) ss)
    by None = refl
    by (Some after) = refl

pub kept_first : (ts : List Tree) (left : ℕ) (items : List Item) (n : ℕ) (ns : List ℕ) (later ss : List Step) (c : Close) (w : Walk) → ss ≡ step.Keep ns ∷ later → w ≡ closes (inner ts left) (keep_then ts n (kept items ns) later) c
    → w ≡ closes (inner ts left) (run ts items n ss) c
kept_first ts left items n ns later ss c w e h = h ∙ ap (λ r. closes (inner ts left) r c) (keep_first ts items n ns later ∙ ap (run ts items n) (sym e))

-- the steps after a keep
pub kept_ran : (ts : List Tree) (left : ℕ) (k : Option (List Item)) (after : List Item) (n m : ℕ) (ss : List Step) (c : Close) (r : Passed) → Some after ≡ k → m ≡ bump n → r ≡ run ts after m ss
    → closes (inner ts left) r c ≡ closes (inner ts left) (keep_then ts n k ss) c
kept_ran ts left k after n m ss c r e b h = ap (λ x. closes (inner ts left) x c) (h ∙ ap (λ i. run ts after i ss) b ∙ ap (λ o. keep_then ts n o ss) e)

pub kept_through : (ts us : List Tree) (left : ℕ) (k : Option (List Item)) (after more : List Item) (n m line : ℕ) (ss : List Step) (c : Close) (w : Walk) → Extends ts us → EndFits ts left (out-Close c) → Some after ≡ k → m ≡ bump n
    → Through more line ≡ run ts after m ss → w ≡ close_of (inner us left) more line (out-Close c) → w ≡ closes (inner ts left) (keep_then ts n k ss) c
kept_through ts us left k after more n m line ss c w x f e b h q = q ∙ end_stays ts us left more line (out-Close c) x f ∙ kept_ran ts left k after n m ss c (Through more line) e b h

-- ---- items that stay

pub grows_same : (hs : List Held) → Grows hs hs
grows_same hs = take_all (length hs) hs (omega arith)

pub grows_then : (hs is js : List Held) → Grows hs is → Grows is js → Grows hs js
grows_then hs is js a b =
    let m : min (length hs) (length is) ≡ length hs = sym (length-take (length hs) is) ∙ ap length a in
    sym (take-take (length hs) (length is) js (omega (arith, m))) ∙ ap (take (length hs)) b ∙ a

-- behind one more item
pub grows_after : (hs is js : List Held) (h : Held) → is ≡ hs ++ h ∷ [] → Grows is js → take (length hs) js ≡ hs
grows_after hs is js h e g = grows_then hs is js (ap (take (length hs)) e ∙ take_at hs (h ∷ []) (length hs) refl) g
