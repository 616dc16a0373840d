-- The canonical form of a term by its children, and the first subterm that has none.
use Rattle.std.proofs.Common.{◌≡◌, ℕ, List, [], ◌∷◌, map, get_or, arith, length, All, Some, None, Result, Ok, Err, refl, sym, ap, subst, ◌∙◌}
use Rattle.std.specs.List.{AllZip}
use Rattle.std.proofs.lemmas.Slice.Zip.{AllZip-long}
use Rattle.std.proofs.lemmas.List.{length-map}
use Rattle.qterm.specs.Tree.{Tree, Trees, True, False, Var, Num, Sum, Scale, Le, Eq, Iff, Not, And, Or, Ite, none, more, sort_of, IsLawful}
use Rattle.qterm.specs.Store.{tree_at, trees_at, trees_of, grow, Has, HasSort, Fits, Extends}
use Rattle.qterm.specs.declared.term.Term.{Term}
use Rattle.qterm.specs.declared.term.Term.TheVariants as term
use Rattle.qterm.specs.Kids.{kids, listed, ids, first, rest, rebuild, replace}
use Rattle.qterm.proofs.Alls.{All-nil, All-cons, All-head, All-tail}
use Rattle.qterm.proofs.Fitting.{Fits-ids, Fits_replace, Has_extends}
use Rattle.qterm.proofs.KidsLaws.{listed_kids_grow, length-trees_of, grow_replace, rebuild_grow}
use Rattle.qlin.specs.Canon.{Found, after, at, canon, canons}
use Rattle.qlin.specs.Atom.{le_of, eq_of}
use Rattle.qlin.specs.Linear.{scale_of}
use Rattle.qlin.specs.Iff.{iff_of}
use Rattle.qlin.specs.Ite.{ite_of}
use Rattle.qlin.specs.Negation.{neg}
use Rattle.qcanon_laws.proofs.Sorts.{Good, Finds, canon_good}
use Rattle.qcanon_laws.proofs.Closed.{its_own}
use Rattle.qcanon.specs.declared.chain.Outcome.{Outcome}
use Rattle.qcanon.specs.declared.chain.Outcome.TheVariants.{Canonical, Faulty}
use Rattle.qnegation.specs.Answer.{IsOwn}
use Rattle.qcanon.specs.Walk.{over, IsFound, id_of, first_fault}

-- ---- by the children of a term
-- what is found for one, and for some behind it
abbrev both : Found → Result Trees Tree → Result Trees Tree
both r s = after r (λ c. after s (λ cs. Ok (more c cs)))

one : (r : Found) (f : Tree → Found) → after r f ≡ after (both r (Ok none)) (λ cs. f (first cs))
one (Ok c) f = refl
one (Err w) f = refl

two : (r s : Found) (f : Tree → Tree → Found) → after r (λ c. after s (f c)) ≡ after (both r (both s (Ok none))) (λ cs. f (first cs) (first (rest cs)))
two (Ok c) (Ok d) f = refl
two (Ok c) (Err w) f = refl
two (Err w) s f = refl

three : (r s q : Found) (f : Tree → Tree → Tree → Found) → after r (λ c. after s (λ d. after q (f c d))) ≡ after (both r (both s (both q (Ok none)))) (λ cs. f (first cs) (first (rest cs)) (first (rest (rest cs))))
three (Ok c) (Ok d) (Ok e) f = refl
three (Ok c) (Ok d) (Err w) f = refl
three (Ok c) (Err w) q f = refl
three (Err w) s q f = refl

-- the canonical form of a term is its head's, over the canonical forms of its children
pub canon_kids : (t : Tree) → canon t ≡ after (canons (kids t)) (λ cs. at t (over (rebuild t cs)))
canon_kids True = refl
canon_kids False = refl
canon_kids (Var n) = refl
canon_kids (Num z) = refl
canon_kids (Sum ts) = refl
canon_kids (Scale a t) = one (canon t) (λ c. at (Scale a t) (scale_of a c))
canon_kids (Le t u) = two (canon t) (canon u) (λ c d. at (Le t u) (le_of c d))
canon_kids (Eq t u) = two (canon t) (canon u) (λ c d. at (Eq t u) (eq_of c d))
canon_kids (Iff t u) = two (canon t) (canon u) (λ c d. at (Iff t u) (iff_of c (neg c) d (neg d)))
canon_kids (Not t) = one (canon t) (λ c. at (Not t) (neg c))
canon_kids (And ts) = refl
canon_kids (Or ts) = refl
canon_kids (Ite s t u) = three (canon s) (canon t) (canon u) (λ c d e. at (Ite s t u) (ite_of c (neg c) d e))

-- ---- what children answer
-- where one names a subterm, the first that does so names the first that has no canonical form
pub fault_kids : (ts : List Tree) (us : Trees) (os : List Outcome) (i : ℕ) → AllZip (IsFound ts) (listed us) os → first_fault os ≡ Some i → Has ts i × (canons us ≡ Err (tree_at ts i))
fault_kids ts none [] i h f = cc
fault_kids ts none (o ∷ os) i h f = absurd h
fault_kids ts (more u us) [] i h f = absurd h
fault_kids ts (more u us) (Canonical j ∷ os) i h f =
    let r = fault_kids ts us os i h.1 f in
    (r.0, ap (λ o. after o (λ c. after (canons us) (λ cs. Ok (more c cs)))) h.0.1 ∙ ap (λ o. after o (λ cs. Ok (more (tree_at ts j) cs))) r.1)
fault_kids ts (more u us) (Faulty j ∷ os) i h f =
    let e : j ≡ i = cc in
    (subst (Has ts) e h.0.0, ap (λ o. after o (λ c. after (canons us) (λ cs. Ok (more c cs)))) h.0.1 ∙ ap (λ k. Err (tree_at ts k)) e)

-- where none does, they answer their canonical forms
pub found_kids : (ts : List Tree) (us : Trees) (os : List Outcome) → AllZip (IsFound ts) (listed us) os → first_fault os ≡ None → canons us ≡ Ok (trees_at ts (map id_of os))
found_kids ts none [] h f = refl
found_kids ts none (o ∷ os) h f = absurd h
found_kids ts (more u us) [] h f = absurd h
found_kids ts (more u us) (Canonical j ∷ os) h f =
    ap (λ o. after o (λ c. after (canons us) (λ cs. Ok (more c cs)))) h.0.1 ∙ ap (λ o. after o (λ cs. Ok (more (tree_at ts j) cs))) (found_kids ts us os h.1 f)
found_kids ts (more u us) (Faulty j ∷ os) h f = cc

-- ---- the canonical children
-- a canonical tree is its own canonical form, and has the sort of the tree
found_own : (ts : List Tree) (t : Tree) (j : ℕ) → IsLawful t → canon t ≡ Ok (tree_at ts j) → IsOwn ts j
found_own ts t j l e = its_own t (tree_at ts j) l e

pub found_sort : (ts : List Tree) (t : Tree) (j : ℕ) → IsLawful t → canon t ≡ Ok (tree_at ts j) → sort_of (tree_at ts j) ≡ sort_of t
found_sort ts t j l e = (subst (Finds (Good (sort_of t))) e (canon_good t l)).1

-- they are their own canonical forms
pub own_ids : (ts : List Tree) (is : List ℕ) (os : List Outcome) → All IsLawful ts → All (Has ts) is → AllZip (IsFound ts) (trees_of ts is) os → first_fault os ≡ None → All (IsOwn ts) (map id_of os)
own_ids ts [] [] l h z f = All-nil (IsOwn ts)
own_ids ts [] (o ∷ os) l h z f = absurd z
own_ids ts (i ∷ is) [] l h z f = absurd z
own_ids ts (i ∷ is) (Canonical j ∷ os) l h z f =
    All-cons (IsOwn ts) j (map id_of os) (found_own ts (tree_at ts i) j (l i True (All-head (Has ts) i is h)) z.0.1) (own_ids ts is os l (All-tail (Has ts) i is h) z.1 f)
own_ids ts (i ∷ is) (Faulty j ∷ os) l h z f = cc

-- they have the sorts of the children
sorts_ids : (ts : List Tree) (is : List ℕ) (os : List Outcome) → All IsLawful ts → All (Has ts) is → AllZip (IsFound ts) (trees_of ts is) os → first_fault os ≡ None → AllZip (λ i j. HasSort (sort_of (tree_at ts i)) ts j) is (map id_of os)
sorts_ids ts [] [] l h z f = tt
sorts_ids ts [] (o ∷ os) l h z f = absurd z
sorts_ids ts (i ∷ is) [] l h z f = absurd z
sorts_ids ts (i ∷ is) (Canonical j ∷ os) l h z f =
    ((z.0.0, found_sort ts (tree_at ts i) j (l i True (All-head (Has ts) i is h)) z.0.1), sorts_ids ts is os l (All-tail (Has ts) i is h) z.1 f)
sorts_ids ts (i ∷ is) (Faulty j ∷ os) l h z f = cc

-- ---- the term over the canonical children
All_one : (P : ℕ → Type 0) (i : ℕ) → P i → All P (i ∷ [])
All_one P i h = All-cons P i [] h (All-nil P)

All_two : (P : ℕ → Type 0) (i j : ℕ) → P i → P j → All P (i ∷ j ∷ [])
All_two P i j h g = All-cons P i (j ∷ []) h (All_one P j g)

-- what holds of the new children holds of the children of the term with them
all_replace : (P : ℕ → Type 0) (k : Term) (js : List ℕ) → length js ≡ length (ids k) → All P js → All P (ids (replace k js))
all_replace P term.True js e h = All-nil P
all_replace P term.False js e h = All-nil P
all_replace P (term.Var n) js e h = All-nil P
all_replace P (term.Num z) js e h = All-nil P
all_replace P (term.Sum is) js e h = h
all_replace P (term.And is) js e h = h
all_replace P (term.Or is) js e h = h
all_replace P (term.Scale z a) js e h = All_one P (get_or js 0 0) (h 0 0 (omega (arith, e)))
all_replace P (term.Not a) js e h = All_one P (get_or js 0 0) (h 0 0 (omega (arith, e)))
all_replace P (term.Le a b) js e h = All_two P (get_or js 0 0) (get_or js 1 0) (h 0 0 (omega (arith, e))) (h 1 0 (omega (arith, e)))
all_replace P (term.Eq a b) js e h = All_two P (get_or js 0 0) (get_or js 1 0) (h 0 0 (omega (arith, e))) (h 1 0 (omega (arith, e)))
all_replace P (term.Iff a b) js e h = All_two P (get_or js 0 0) (get_or js 1 0) (h 0 0 (omega (arith, e))) (h 1 0 (omega (arith, e)))
all_replace P (term.Ite c a b) js e h =
    All-cons P (get_or js 0 0) (get_or js 1 0 ∷ get_or js 2 0 ∷ []) (h 0 0 (omega (arith, e))) (All_two P (get_or js 1 0) (get_or js 2 0) (h 1 0 (omega (arith, e))) (h 2 0 (omega (arith, e))))

-- the term k over canonical children stands for the tree t
pub record StandsOver (ts : List Tree) (t : Tree) (k : Term) : Type 0 where
  pub fits : Fits ts k
  pub own : All (IsOwn ts) (ids k)
  pub same : canon t ≡ at t (over (grow ts k))

-- what the children of the term k answer, by its numbers
by_ids : (ts : List Tree) (t : Tree) (k : Term) (os : List Outcome) → t ≡ grow ts k → AllZip (IsFound ts) (listed (kids t)) os → AllZip (IsFound ts) (trees_of ts (ids k)) os
by_ids ts t k os e z = subst (λ us. AllZip (IsFound ts) us os) (ap (λ u. listed (kids u)) e ∙ listed_kids_grow ts k) z

-- there are as many answers as children
pub as_many : (ts : List Tree) (t : Tree) (k : Term) (os : List Outcome) (js : List ℕ) → t ≡ grow ts k → AllZip (IsFound ts) (listed (kids t)) os → js ≡ map id_of os → length js ≡ length (ids k)
as_many ts t k os js e z j = ap length j ∙ length-map os id_of ∙ AllZip-long (IsFound ts) (trees_of ts (ids k)) os (by_ids ts t k os e z) ∙ length-trees_of ts (ids k)

-- the term with the canonical children
pub stands_over : (ts : List Tree) (t : Tree) (k l : Term) (os : List Outcome) (js : List ℕ) → All IsLawful ts → t ≡ grow ts k → Fits ts k → AllZip (IsFound ts) (listed (kids t)) os
    → first_fault os ≡ None → js ≡ map id_of os → l ≡ replace k js → StandsOver ts t l
stands_over ts t k l os js w e p z f j r =
    let has = Fits-ids ts k p in
    let z' = by_ids ts t k os e z in
    let many = as_many ts t k os js e z j in
    let own : All (IsOwn ts) js = subst (All (IsOwn ts)) (sym j) (own_ids ts (ids k) os w has z' f) in
    let sorts : AllZip (λ i j. HasSort (sort_of (tree_at ts i)) ts j) (ids k) js = subst (AllZip (λ i j. HasSort (sort_of (tree_at ts i)) ts j) (ids k)) (sym j) (sorts_ids ts (ids k) os w has z' f) in
    let all : canons (kids t) ≡ Ok (trees_at ts js) = found_kids ts (kids t) os z f ∙ ap (λ is. Ok (trees_at ts is)) (sym j) in
    let grown : rebuild t (trees_at ts js) ≡ grow ts l =
    ap (λ u. rebuild u (trees_at ts js)) e ∙ rebuild_grow ts k (trees_at ts js) ∙ sym (grow_replace ts k js many) ∙ ap (grow ts) (sym r) in
    record {
      fits = subst (Fits ts) (sym r) (Fits_replace ts ts k js p sorts);
      own = subst (λ x. All (IsOwn ts) (ids x)) (sym r) (all_replace (IsOwn ts) k js many own);
      same = canon_kids t ∙ ap (λ s. after s (λ cs. at t (over (rebuild t cs)))) all ∙ ap (λ u. at t (over u)) grown;
    }

-- ---- what a term answers
-- a child has no canonical form
pub answers_fault : (ts : List Tree) (t : Tree) (os : List Outcome) (i : ℕ) → AllZip (IsFound ts) (listed (kids t)) os → first_fault os ≡ Some i → IsFound ts t (Faulty i)
answers_fault ts t os i z f =
    let r = fault_kids ts (kids t) os i z f in
    (r.0, canon_kids t ∙ ap (λ s. after s (λ cs. at t (over (rebuild t cs)))) r.1)

-- what was found stays
pub IsFound_extends : (old new : List Tree) (t : Tree) (o : Outcome) → Extends old new → IsFound old t o → IsFound new t o
IsFound_extends old new t (Canonical i) x h = (Has_extends old new i x h.0, h.1 ∙ ap Ok (sym (x.same i h.0)))
IsFound_extends old new t (Faulty i) x h = (Has_extends old new i x h.0, h.1 ∙ ap Err (sym (x.same i h.0)))
