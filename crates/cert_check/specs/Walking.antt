-- The walk over a certificate in preorder, with the numbers of lines: it ends with the number of the next line, or at the first
-- line that is refused.
use Rattle.std.specs.Prelude.{◌≡◌, ℕ, zero, suc, ◌+◌, ◌^◌, ◌-◌, ◌==◌, min, Bool, true, false, not, ◌&&◌, List, [], ◌∷◌, ◌++◌, length, Option, Some, None, if◌then◌else◌}
use Rattle.std.specs.List.{list_any}
use Rattle.qterm.specs.Tree.{Tree, False, Or}
use Rattle.qterm.specs.Kids.{listed}
use Rattle.tac_cert.specs.Items.{Item, Formula, formula_at}
use Rattle.tac_cert.specs.Gives.{gives}
use Rattle.tac_cert.specs.Accepts.{Closing, as_items, most_splits}
use Rattle.tac_cert.specs.declared.cert.Step.{Step}
use Rattle.tac_cert.specs.declared.cert.Step.TheVariants as step
use Rattle.tac_cert.specs.declared.cert.Proof.{Proof, out-Proof}
use Rattle.tac_cert.specs.declared.cert.Close.{Close, out-Close}
use Rattle.tac_cert.specs.declared.cert.Close.TheOpen.{Close-F}
use Rattle.tac_cert.specs.declared.cert.Cert.{Cert}
use Rattle.cert_check.specs.declared.verdict.RuleWord.{RuleWord}
use Rattle.cert_check.specs.declared.verdict.RuleWord.TheVariants as word
use Rattle.cert_check.specs.declared.verdict.Walk.{Walk}
use Rattle.cert_check.specs.declared.verdict.Walk.TheVariants.{Closed, Refused}
use Rattle.cert_check.specs.declared.verdict.Verdict.{Verdict}
use Rattle.cert_check.specs.declared.verdict.Verdict.TheVariants as verdict

-- the next line's number, which stands still at the last of 32 bits
abbrev pub bump : ℕ → ℕ
bump n = min (n + 1) (2 ^ 32 - 1)

abbrev pub word_of : Step → RuleWord
word_of (step.Rw i f) = word.Rw
word_of (step.Keep ns) = word.Keep
word_of (step.Part i k) = word.And
word_of (step.Def y t) = word.Def
word_of (step.Subst i s t j) = word.Subst
word_of (step.IteParts i) = word.Ite
word_of (step.Range i) = word.Range
word_of (step.Bits x bs) = word.Bits
word_of (step.Bit x p) = word.Bit
word_of (step.Mul w a) = word.Mul
word_of (step.Add v w ns) = word.Add
word_of (step.Cmp w c ns) = word.Cmp
word_of (step.Eqc w c ns) = word.Eqc
word_of (step.Table i c) = word.Table
word_of (step.Rup c hints) = word.Rup

-- what the steps leave, and the number of the line after them; or the first line that is refused
pub data Passed : Type 0 where
  Through : List Item → ℕ → Passed
  Stopped : ℕ → RuleWord → Passed

abbrev pub stepped : ℕ → Step → Option (List Item) → (List Item → Passed) → Passed
stepped n s None go = Stopped n (word_of s)
stepped n s (Some after) go = go after

-- the steps in order, the first of them having the number n
abbrev pub run : List Tree → List Item → ℕ → List Step → Passed
run ts items n [] = Through items n
run ts items n (s ∷ ss) = stepped n s (gives ts items s) (λ after. run ts after (bump n) ss)

-- ---- keep: what it leaves takes the place of the items
abbrev pub is_keep : Step → Bool
is_keep (step.Keep ns) = true
is_keep _ = false

-- how many steps stand before the first keep
abbrev pub before_keep : List Step → ℕ
before_keep [] = 0
before_keep (s ∷ ss) = if is_keep s then 0 else suc (before_keep ss)

-- no step is a keep
abbrev pub HasNoKeep : List Step → Type 0
HasNoKeep ss = list_any is_keep ss ≡ false

-- what a keep has left, and the steps after it
abbrev pub keep_then : List Tree → ℕ → Option (List Item) → List Step → Passed
keep_then ts n None ss = Stopped n word.Keep
keep_then ts n (Some after) ss = run ts after (bump n) ss

-- ---- cases
abbrev pub and_then : Walk → (ℕ → Walk) → Walk
and_then (Closed n) go = go n
and_then (Refused n w) go = Refused n w

-- the proofs of a split, the k-th with child k as a new item
abbrev pub cases_from : (List Item → ℕ → Proof → Walk) → List Item → ℕ → List Tree → List Proof → Walk
cases_from inner items n (t ∷ us) (p ∷ ps) = and_then (inner (items ++ Formula t ∷ []) n p) (λ m. cases_from inner items m us ps)
cases_from inner items n us ps = Closed n

abbrev pub is_false : Option Tree → Bool
is_false (Some False) = true
is_false _ = false

-- the children of a disjunction
abbrev pub disjuncts : Option Tree → List Tree
disjuncts (Some (Or us)) = listed us
disjuncts _ = []

-- as many cases as children, and some
abbrev pub fits_cases : ℕ → ℕ → Bool
fits_cases m n = (m == n) && not (m == 0)

abbrev pub split_of : (List Item → ℕ → Proof → Walk) → List Item → ℕ → List Tree → List Proof → Walk
split_of inner items n us cases =
    if fits_cases (length us) (length cases) then cases_from inner items (bump n) us cases
    else Refused n word.Split

-- the closing line; inner is the walk over a case, and there is none below the last split that may stand there
abbrev pub close_of : Option (List Item → ℕ → Proof → Walk) → List Item → ℕ → Closing → Walk
close_of inner items n (Close-F.False i) = if is_false (formula_at items i) then Closed (bump n) else Refused n word.False
close_of None items n (Close-F.Split i cases) = Refused n word.Split
close_of (Some inner) items n (Close-F.Split i cases) = split_of inner items n (disjuncts (formula_at items i)) cases

abbrev pub closes : Option (List Item → ℕ → Proof → Walk) → Passed → Close → Walk
closes inner (Stopped n w) c = Refused n w
closes inner (Through items n) c = close_of inner items n (out-Close c)

-- the walk over a proof, from the line number n: left more splits may stand one in another
abbrev pub walk : List Tree → ℕ → List Item → ℕ → Proof → Walk
walk ts zero items n p = closes None (run ts items n (out-Proof p).steps) (out-Proof p).close
walk ts (suc left) items n p = closes (Some (walk ts left)) (run ts items n (out-Proof p).steps) (out-Proof p).close

-- the walk over a case, where a split may still stand
abbrev pub inner : List Tree → ℕ → Option (List Item → ℕ → Proof → Walk)
inner ts zero = None
inner ts (suc left) = Some (walk ts left)

abbrev pub verdict_of : Walk → Verdict
verdict_of (Closed n) = verdict.Accepted
verdict_of (Refused n w) = verdict.Refused n w

-- the head, then the walk
abbrev pub verdict_on : List Tree → Cert → List Tree → Verdict
verdict_on ts cert asserts =
    if cert.asserts == length asserts then verdict_of (walk ts most_splits (as_items asserts) 1 cert.root)
    else verdict.Refused 0 word.Head
