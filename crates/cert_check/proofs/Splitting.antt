-- The cases of a split.
use Rattle.std.proofs.Common.{◌≡◌, ℕ, zero, suc, ◌+◌, ◌-◌, ◌<◌, ◌≤◌, List, [], ◌∷◌, ◌++◌, length, get_or, drop, Some, refl, sym, ap, subst, ◌∙◌, arith, All, Bool, true, false, nat_eq, if◌then◌else◌}
use Rattle.std.proofs.lemmas.Bool.Decides.{nat_tests}
use Rattle.std.proofs.lemmas.List.{drop_all}
use Rattle.qterm.specs.declared.name.Sort.TheVariants as sort
use Rattle.qterm.specs.Tree.{Tree}
use Rattle.qterm.specs.Store.{Extends, HasSort, tree_at, trees_of}
use Rattle.qterm.proofs.Extending.{Extends_refl}
use Rattle.qterm.proofs.Fitting.{HasSort_extends}
use Rattle.tac_cert.specs.declared.cert.Proof.{Proof, out-Proof}
use Rattle.tac_cert.specs.declared.cert.Close.{out-Close}
use Rattle.tac_cert.specs.declared.cert.Close.TheOpen.{Close-F}
use Rattle.tac_cert.specs.Items.{Item, Formula, formula_at}
use Rattle.tac_cert.specs.Accepts.{Closing, StepsFit, EachFits, CloseFits, ProofFits}
use Rattle.cert_items.specs.declared.held.Held.{Held}
use Rattle.cert_items.specs.Held.{AllIn, shown_all}
use Rattle.cert_items.proofs.Bools.{and_left, both_ways}
use Rattle.cert_items.proofs.Growing.{all_stay}
use Rattle.cert_check.specs.declared.verdict.RuleWord.{RuleWord}
use Rattle.cert_check.specs.declared.verdict.RuleWord.TheVariants as word
use Rattle.cert_check.specs.declared.verdict.Walk.{Walk}
use Rattle.cert_check.specs.declared.verdict.Walk.TheVariants.{Closed, Refused}
use Rattle.cert_check.specs.Tables.{EndFits}
use Rattle.cert_check.specs.Walking.{close_of, inner, walk, and_then, cases_from, split_of, fits_cases, bump, disjuncts}
use Rattle.tac_cert.proofs.Staying.{steps_stay}
use Rattle.cert_check.proofs.Running.{close_stays, walk_stays}

same_number : (m n : ℕ) → nat_eq m n ≡ true → m ≡ n
same_number m n h = grind (arith, nat_tests)

pub steps_fit : (ts : List Tree) (left : ℕ) (p : Proof) → ProofFits ts left p → StepsFit ts (out-Proof p).steps
steps_fit ts zero p h = h
steps_fit ts (suc left) p h = h.0

pub end_fits : (ts : List Tree) (left : ℕ) (p : Proof) → ProofFits ts left p → EndFits ts left (out-Close (out-Proof p).close)
end_fits ts zero p h = tt
end_fits ts (suc left) p h = h.1

-- ---- what fits a store fits a longer one

each_stays : (P Q : Proof → Type 0) (ps : List Proof) → ((p : Proof) → P p → Q p) → EachFits P ps → EachFits Q ps
each_stays P Q [] f h = tt
each_stays P Q (p ∷ ps) f h = (f p h.0, each_stays P Q ps f h.1)

close_fit_stays : (P Q : Proof → Type 0) (c : Closing) → ((p : Proof) → P p → Q p) → CloseFits P c → CloseFits Q c
close_fit_stays P Q (Close-F.False i) f h = tt
close_fit_stays P Q (Close-F.Split i cases) f h = each_stays P Q cases f h

pub fits_stay : (ts us : List Tree) (left : ℕ) (p : Proof) → Extends ts us → ProofFits ts left p → ProofFits us left p
fits_stay ts us zero p e h = steps_stay ts us (out-Proof p).steps e h
fits_stay ts us (suc left) p e h = (steps_stay ts us (out-Proof p).steps e h.0, close_fit_stays (ProofFits ts left) (ProofFits us left) (out-Close (out-Proof p).close) (λ q k. fits_stay ts us left q e k) h.1)

pub end_fits_later : (ts us : List Tree) (left : ℕ) (p : Proof) → Extends ts us → ProofFits ts left p → EndFits us left (out-Close (out-Proof p).close)
end_fits_later ts us left p e h = end_fits us left p (fits_stay ts us left p e h)

pub end_stays : (ts us : List Tree) (left : ℕ) (items : List Item) (n : ℕ) (c : Closing) → Extends ts us → EndFits ts left c → close_of (inner us left) items n c ≡ close_of (inner ts left) items n c
end_stays ts us zero items n c e h = refl
end_stays ts us (suc left) items n c e h = close_stays (ProofFits ts left) (walk us left) (walk ts left) items n c (λ more m q k. walk_stays ts us left more m q e k) h

pub end_fit_stays : (ts us : List Tree) (left : ℕ) (c : Closing) → Extends ts us → EndFits ts left c → EndFits us left c
end_fit_stays ts us zero c e h = tt
end_fit_stays ts us (suc left) c e h = close_fit_stays (ProofFits ts left) (ProofFits us left) c (λ q k. fits_stay ts us left q e k) h

-- ---- a case

pub case_fits : (ts us : List Tree) (left : ℕ) (ps : List Proof) (k : ℕ) (d : Proof) → Extends ts us → EachFits (ProofFits ts left) ps → k < length ps → ProofFits us left (get_or ps k d)
case_fits ts us left [] k d e h l = absurd (omega (arith, l))
case_fits ts us left (p ∷ ps) zero d e h l = fits_stay ts us left p e h.0
case_fits ts us left (p ∷ ps) (suc k) d e h l = case_fits ts us left ps k d e h.1 (omega (arith, l))

case_fits_now : (ts : List Tree) (left : ℕ) (ps : List Proof) (k : ℕ) (d : Proof) → EachFits (ProofFits ts left) ps → k < length ps → ProofFits ts left (get_or ps k d)
case_fits_now ts left ps k d h l = case_fits ts ts left ps k d (Extends_refl ts) h l

-- a child is there
pub part_has : (ts us : List Tree) (is : List ℕ) (k i : ℕ) → Extends ts us → All (HasSort sort.Bool ts) is → k < length is → i ≡ get_or is k i → HasSort sort.Bool us i
part_has ts us is k i e b l q = subst (HasSort sort.Bool us) (sym q) (HasSort_extends sort.Bool ts us (get_or is k i) e (b k i l))

case_shown : (ts us : List Tree) (hs : List Held) (is : List ℕ) (k d : ℕ) → Extends ts us → AllIn ts hs → All (HasSort sort.Bool ts) is → k < length is
    → shown_all us hs ++ Formula (tree_at us (get_or is k d)) ∷ [] ≡ shown_all ts hs ++ Formula (tree_at ts (get_or is k d)) ∷ []
case_shown ts us hs is k d e a b l =
    let h : HasSort sort.Bool ts (get_or is k d) = b k d l in
    λ i. all_stay ts us hs e a i ++ Formula (e.same (get_or is k d) h.0 i) ∷ []

-- no case is left
pub cases_end : (f : List Item → ℕ → Proof → Walk) (items : List Item) (n : ℕ) (us : List Tree) (ps : List Proof) (k : ℕ) → length ps ≤ k → cases_from f items n us (drop k ps) ≡ Closed n
cases_end f items n us ps k l = ap (cases_from f items n us) (drop_all k ps l) ∙ none_left us
  where
    none_left : (us : List Tree) → cases_from f items n us [] ≡ Closed n
    none_left [] = refl
    none_left (u ∷ us) = refl

drop_case : (ps : List Proof) (k : ℕ) (d : Proof) → k < length ps → drop k ps ≡ get_or ps k d ∷ drop (k + 1) ps
drop_case ps k d l = let e : k + 1 ≡ suc k = omega arith in rw e (by ps k l)
  where
    by : (ys : List Proof) (j : ℕ) → j < length ys → drop j ys ≡ get_or ys j d ∷ drop (suc j) ys
    by [] j l = absurd (omega (arith, l))
    by (y ∷ ys) zero l = refl
    by (y ∷ ys) (suc j) l = by ys j (omega (arith, l))

drop_part : (is : List ℕ) (k d : ℕ) → k < length is → drop k is ≡ get_or is k d ∷ drop (k + 1) is
drop_part is k d l = let e : k + 1 ≡ suc k = omega arith in rw e (by is k l)
  where
    by : (ys : List ℕ) (j : ℕ) → j < length ys → drop j ys ≡ get_or ys j d ∷ drop (suc j) ys
    by [] j l = absurd (omega (arith, l))
    by (y ∷ ys) zero l = refl
    by (y ∷ ys) (suc j) l = by ys j (omega (arith, l))

module _ (ts us : List Tree) (left : ℕ) (hs : List Held) (is : List ℕ) (ps : List Proof) (k i : ℕ) (d : Proof) (n : ℕ) (w : Walk) (e : Extends ts us) (a : AllIn ts hs) (b : All (HasSort sort.Bool ts) is) (f : EachFits (ProofFits ts left) ps)
    (m : length is ≡ length ps) (l : k < length ps) (h : w ≡ walk us left (shown_all us hs ++ Formula (tree_at us (get_or is k i)) ∷ []) n (get_or ps k d)) where
  case_walk : w ≡ walk ts left (shown_all ts hs ++ Formula (tree_at ts (get_or is k i)) ∷ []) n (get_or ps k d)
  case_walk =
      h ∙ walk_stays ts us left (shown_all us hs ++ Formula (tree_at us (get_or is k i)) ∷ []) n (get_or ps k d) e (case_fits_now ts left ps k d f l)
      ∙ ap (λ x. walk ts left x n (get_or ps k d)) (case_shown ts us hs is k i e a b (omega (arith, l, m)))

  case_at : cases_from (walk ts left) (shown_all ts hs) n (trees_of ts (drop k is)) (drop k ps) ≡ and_then w (λ j. cases_from (walk ts left) (shown_all ts hs) j (trees_of ts (drop (k + 1) is)) (drop (k + 1) ps))
  case_at =
      (λ x. cases_from (walk ts left) (shown_all ts hs) n (trees_of ts (drop_part is k i (omega (arith, l, m)) x)) (drop_case ps k d l x))
      ∙ ap (λ v. and_then v (λ j. cases_from (walk ts left) (shown_all ts hs) j (trees_of ts (drop (k + 1) is)) (drop (k + 1) ps))) (sym case_walk)

  pub case_next : (j : ℕ) → w ≡ Closed j → cases_from (walk ts left) (shown_all ts hs) n (trees_of ts (drop k is)) (drop k ps) ≡ cases_from (walk ts left) (shown_all ts hs) j (trees_of ts (drop (k + 1) is)) (drop (k + 1) ps)
  case_next j q = case_at ∙ ap (λ v. and_then v (λ j. cases_from (walk ts left) (shown_all ts hs) j (trees_of ts (drop (k + 1) is)) (drop (k + 1) ps))) q

  pub case_stops : (j : ℕ) (r : RuleWord) → w ≡ Refused j r → cases_from (walk ts left) (shown_all ts hs) n (trees_of ts (drop k is)) (drop k ps) ≡ Refused j r
  case_stops j r q = case_at ∙ ap (λ v. and_then v (λ j. cases_from (walk ts left) (shown_all ts hs) j (trees_of ts (drop (k + 1) is)) (drop (k + 1) ps))) q

pub split_fits : (ts : List Tree) (left i : ℕ) (cases : List Proof) (c : Closing) → c ≡ Close-F.Split i cases → (left ≡ 0 → ⊥) → EndFits ts left c → EachFits (ProofFits ts (left - 1)) cases
split_fits ts zero i cases c e z h = absurd (z refl)
split_fits ts (suc left) i cases c e z h =
    let k : suc left - 1 ≡ left = omega arith in
    subst (λ m. EachFits (ProofFits ts m) cases) (sym k) (subst (CloseFits (ProofFits ts left)) e h)

pub split_walk : (ts : List Tree) (left i n : ℕ) (items : List Item) (cases : List Proof) (c : Closing) → c ≡ Close-F.Split i cases → (left ≡ 0 → ⊥)
    → close_of (inner ts left) items n c ≡ split_of (walk ts (left - 1)) items n (disjuncts (formula_at items i)) cases
split_walk ts zero i n items cases c e z = absurd (z refl)
split_walk ts (suc left) i n items cases c e z =
    let k : suc left - 1 ≡ left = omega arith in
    ap (close_of (Some (walk ts left)) items n) e ∙ ap (λ m. split_of (walk ts m) items n (disjuncts (formula_at items i)) cases) (sym k)

pub same_count : (ts : List Tree) (is : List ℕ) → length (trees_of ts is) ≡ length is
same_count ts [] = refl
same_count ts (i ∷ is) = ap suc (same_count ts is)

pub count_of : (m n : ℕ) (b : Bool) → b ≡ fits_cases m n → b ≡ true → m ≡ n
count_of m n b e t = same_number m n (and_left (nat_eq m n) _ (sym e ∙ t))

chosen : (ts : List Tree) (is : List ℕ) (items : List Item) (n : ℕ) (cases : List Proof) (f : List Item → ℕ → Proof → Walk) (b t : Bool) → b ≡ fits_cases (length is) (length cases) → b ≡ t
    → split_of f items n (trees_of ts is) cases ≡ (if t then cases_from f items (bump n) (trees_of ts is) cases else Refused n word.Split)
chosen ts is items n cases f b t e h =
    ap (λ m. if fits_cases m (length cases) then cases_from f items (bump n) (trees_of ts is) cases else Refused n word.Split) (same_count ts is)
    ∙ ap (λ x. if x then cases_from f items (bump n) (trees_of ts is) cases else Refused n word.Split) (sym e ∙ h)

module _ (ts : List Tree) (left i n : ℕ) (items : List Item) (cases : List Proof) (c : Closing) (is : List ℕ) (b : Bool) (s : c ≡ Close-F.Split i cases) (z : left ≡ 0 → ⊥) (p : trees_of ts is ≡ disjuncts (formula_at items i)) (e : b ≡ fits_cases (length is) (length cases)) where
  split_is : close_of (inner ts left) items n c ≡ split_of (walk ts (left - 1)) items n (trees_of ts is) cases
  split_is = split_walk ts left i n items cases c s z ∙ ap (λ us. split_of (walk ts (left - 1)) items n us cases) (sym p)

  pub split_taken : (w : Walk) → b ≡ true → w ≡ cases_from (walk ts (left - 1)) items (bump n) (trees_of ts is) cases → w ≡ close_of (inner ts left) items n c
  split_taken w t h = h ∙ sym (split_is ∙ chosen ts is items n cases (walk ts (left - 1)) b true e t)

  pub split_refused : b ≡ false → Refused n word.Split ≡ close_of (inner ts left) items n c
  split_refused t = sym (split_is ∙ chosen ts is items n cases (walk ts (left - 1)) b false e t)

pub not_zero : (n : ℕ) → nat_eq n 0 ≡ false → n ≡ 0 → ⊥
not_zero zero h e = both_ways _ refl h
not_zero (suc n) h e = omega arith
