-- The canonical list of formulas of a store.
use Rattle.std.proofs.Common.{◌≡◌, ℕ, ◌<◌, ◌||◌, Bool as Truth, true, false, true≢false, List, [], ◌∷◌, ◌++◌, map, get_or, length, drop, All, Some, None, Ok, Err, refl, sym, ap, subst, ◌∙◌, arith, append_assoc, append-nil, ◌+◌, suc, drop-cons, if◌then◌else◌}
use Rattle.std.specs.List.{AllZip, list_any}
use Rattle.std.proofs.lemmas.Bool.{eqb-true, eq-eqb}
use Rattle.indexmap.specs.IndexSet.{insert_all}
use Rattle.qterm.specs.Tree.{Tree, Trees, False, none, more}
use Rattle.qterm.specs.declared.term.Term.{Term}
use Rattle.qterm.specs.declared.term.Term.TheVariants as term
use Rattle.qterm.specs.Store.{Has, tree_at, trees_of, grow, IsDistinct}
use Rattle.qterm.specs.Kids.{listed}
use Rattle.qterm.proofs.Alls.{All-nil, All-cons, All-head, All-tail, All-push}
use Rattle.qterm.proofs.KidsLaws.{trees_of-append, listed-trees_at}
use Rattle.qwalk.specs.Walk.{same_id}
use Rattle.qlin.specs.Order.{same}
use Rattle.qlin.specs.Junction.{members}
use Rattle.qlin.specs.Canon.{after}
use Rattle.qlin.specs.CanonList.{canon_each, appended, spread, is_in, once, tidied, canon_list}
use Rattle.qcanon_laws.proofs.Canonical.{same_itself, not_same}
use Rattle.qcanon.specs.declared.chain.Outcome.{Outcome}
use Rattle.qcanon.specs.declared.chain.Outcome.TheVariants.{Canonical, Faulty}
use Rattle.qcanon.specs.Walk.{IsFound, id_of, first_fault}

-- ---- later repeats
-- equal numbers are equal trees
same_ids : (ts : List Tree) (i k : ℕ) → IsDistinct ts → Has ts i → Has ts k → same_id i k ≡ same (tree_at ts i) (tree_at ts k)
same_ids ts i k d h g = by (same_id i k) refl
  where
    by : (b : Truth) → same_id i k ≡ b → b ≡ same (tree_at ts i) (tree_at ts k)
    by true e = sym (same_itself (tree_at ts i)) ∙ ap (λ j. same (tree_at ts i) (tree_at ts j)) (eqb-true i k e)
    by false e = sym (not_same (tree_at ts i) (tree_at ts k) (λ t. true≢false (sym (eq-eqb i k (d i k h g t)) ∙ e)))

-- a number is one of several where its tree is one of theirs
any_ids : (ts : List Tree) (i : ℕ) (ks : List ℕ) → IsDistinct ts → Has ts i → All (Has ts) ks → list_any (same_id i) ks ≡ is_in (tree_at ts i) (trees_of ts ks)
any_ids ts i [] d h g = refl
any_ids ts i (k ∷ ks) d h g = λ x. same_ids ts i k d h (All-head (Has ts) k ks g) x || any_ids ts i ks d h (All-tail (Has ts) k ks g) x

-- one more at the end
is_in-push : (t u : Tree) (us : List Tree) → is_in t (us ++ u ∷ []) ≡ (same t u || is_in t us)
is_in-push t u [] = refl
is_in-push t u (v ∷ us) = ap (λ b. same t v || b) (is_in-push t u us) ∙ turn (same t v) (same t u) (is_in t us)
  where
    turn : (a b c : Truth) → (a || (b || c)) ≡ (b || (a || c))
    turn true true c = refl
    turn true false c = refl
    turn false true c = refl
    turn false false c = refl

-- numbers taken in are the trees of those taken before, and the others without later repeats
insert_once : (ts : List Tree) (ks is : List ℕ) (seen : List Tree) → IsDistinct ts → All (Has ts) ks → All (Has ts) is → ((t : Tree) → is_in t (trees_of ts ks) ≡ is_in t seen)
    → trees_of ts (insert_all same_id ks is) ≡ trees_of ts ks ++ once seen (trees_of ts is)
insert_once ts ks [] seen d h g s = sym (append-nil (trees_of ts ks))
insert_once ts ks (i ∷ is) seen d h g s =
    by (list_any (same_id i) ks) (any_ids ts i ks d here h ∙ s (tree_at ts i))
    (insert_once ts ks is seen d h rest s)
    (insert_once ts (ks ++ i ∷ []) is (tree_at ts i ∷ seen) d (All-push (Has ts) ks i h here) rest
    (λ t. ap (is_in t) (trees_of-append ts ks (i ∷ [])) ∙ is_in-push t (tree_at ts i) (trees_of ts ks) ∙ ap (λ b. same t (tree_at ts i) || b) (s t)))
  where
    here : Has ts i
    here = All-head (Has ts) i is g

    rest : All (Has ts) is
    rest = All-tail (Has ts) i is g

    new : trees_of ts (ks ++ i ∷ []) ++ once (tree_at ts i ∷ seen) (trees_of ts is) ≡ trees_of ts ks ++ (tree_at ts i ∷ once (tree_at ts i ∷ seen) (trees_of ts is))
    new = ap (λ us. us ++ once (tree_at ts i ∷ seen) (trees_of ts is)) (trees_of-append ts ks (i ∷ [])) ∙ append_assoc (trees_of ts ks) (tree_at ts i ∷ []) (once (tree_at ts i ∷ seen) (trees_of ts is))

    by : (b : Truth) → b ≡ is_in (tree_at ts i) seen → trees_of ts (insert_all same_id ks is) ≡ trees_of ts ks ++ once seen (trees_of ts is)
        → trees_of ts (insert_all same_id (ks ++ i ∷ []) is) ≡ trees_of ts (ks ++ i ∷ []) ++ once (tree_at ts i ∷ seen) (trees_of ts is)
        → trees_of ts (insert_all same_id (if b then ks else ks ++ i ∷ []) is) ≡ trees_of ts ks ++ (if is_in (tree_at ts i) seen then once seen (trees_of ts is) else (tree_at ts i ∷ once (tree_at ts i ∷ seen) (trees_of ts is)))
    by true e p q = p ∙ ap (λ b. trees_of ts ks ++ (if b then once seen (trees_of ts is) else (tree_at ts i ∷ once (tree_at ts i ∷ seen) (trees_of ts is)))) e
    by false e p q = q ∙ new ∙ ap (λ b. trees_of ts ks ++ (if b then once seen (trees_of ts is) else (tree_at ts i ∷ once (tree_at ts i ∷ seen) (trees_of ts is)))) e

-- what holds of all taken in
insert_all-holds : (P : ℕ → Type 0) (ks is : List ℕ) → All P ks → All P is → All P (insert_all same_id ks is)
insert_all-holds P ks [] h g = h
insert_all-holds P ks (i ∷ is) h g = by (list_any (same_id i) ks) (insert_all-holds P ks is h (All-tail P i is g)) (insert_all-holds P (ks ++ i ∷ []) is (All-push P ks i h (All-head P i is g)) (All-tail P i is g))
  where
    by : (b : Truth) → All P (insert_all same_id ks is) → All P (insert_all same_id (ks ++ i ∷ []) is) → All P (insert_all same_id (if b then ks else ks ++ i ∷ []) is)
    by true p q = p
    by false p q = q

-- parts that were spread, without later repeats
pub tidied_once : (ts : List Tree) (is ps js : List ℕ) → IsDistinct ts → All (Has ts) ps → is_in False (trees_of ts is) ≡ false → trees_of ts ps ≡ spread (trees_of ts is) → js ≡ insert_all same_id [] ps
    → (trees_of ts js ≡ tidied (trees_of ts is)) × All (Has ts) js
tidied_once ts is ps js d h f s e = (
  ap (trees_of ts) e ∙ insert_once ts [] ps [] d (All-nil (Has ts)) h (λ t. refl) ∙ ap (once []) s ∙ ap (λ b. if b then False ∷ [] else once [] (spread (trees_of ts is))) (sym f),
  subst (All (Has ts)) (sym e) (insert_all-holds (Has ts) [] ps (All-nil (Has ts)) h),
)

-- false alone
pub tidied_false : (ts : List Tree) (is js : List ℕ) (i : ℕ) → tree_at ts i ≡ False → is_in False (trees_of ts is) ≡ true → js ≡ i ∷ [] → trees_of ts js ≡ tidied (trees_of ts is)
tidied_false ts is js i e f j = ap (trees_of ts) j ∙ ap (λ t. t ∷ []) e ∙ ap (λ b. if b then False ∷ [] else once [] (spread (trees_of ts is))) (sym f)

-- ---- conjunctions replaced by their parts
-- trees in a row before others
appended_listed : (us : Trees) (fs : List Tree) → appended us fs ≡ listed us ++ fs
appended_listed none fs = refl
appended_listed (more u us) fs = ap (λ gs. u ∷ gs) (appended_listed us fs)

-- a conjunction has its children for parts, and any formula but true is its own part
plain : (ts : List Tree) (k : Term) → (k ≡ term.True → ⊥) → ((is : List ℕ) → k ≡ term.And is → ⊥) → members true (grow ts k) ≡ more (grow ts k) none
plain ts term.True h g = absurd (h refl)
plain ts (term.And is) h g = absurd (g is refl)
plain ts k h g = refl

pub parts_and : (ts : List Tree) (t : Tree) (k : Term) (is js ks : List ℕ) → t ≡ grow ts k → k ≡ term.And is → ks ≡ js ++ is → trees_of ts ks ≡ trees_of ts js ++ listed (members true t)
parts_and ts t k is js ks e f h =
    ap (trees_of ts) h ∙ trees_of-append ts js is ∙ ap (λ us. trees_of ts js ++ us) (sym (listed-trees_at ts is) ∙ ap (λ l. listed (members true (grow ts l))) (sym f) ∙ ap (λ u. listed (members true u)) (sym e))

pub parts_plain : (ts : List Tree) (i : ℕ) (k : Term) (js ks : List ℕ) → tree_at ts i ≡ grow ts k → (k ≡ term.True → ⊥) → ((is : List ℕ) → k ≡ term.And is → ⊥) → ks ≡ js ++ i ∷ []
    → trees_of ts ks ≡ trees_of ts js ++ listed (members true (tree_at ts i))
parts_plain ts i k js ks e f g h =
    ap (trees_of ts) h ∙ trees_of-append ts js (i ∷ []) ∙ ap (λ us. trees_of ts js ++ us) (ap (λ t. t ∷ []) e ∙ ap listed (sym (plain ts k f g)) ∙ ap (λ u. listed (members true u)) (sym e))

-- those from the place n on begin with the one there
drop_is : (is : List ℕ) (n i : ℕ) → n < length is → i ≡ get_or is n i → drop n is ≡ i ∷ drop (n + 1) is
drop_is is n i h e = let one : suc n ≡ n + 1 = omega arith in drop-cons is n i h ∙ (λ x. sym e x ∷ drop (one x) is)

-- one formula more
pub spread_more : (ts : List Tree) (is : List ℕ) (n i : ℕ) (done new : List Tree) → n < length is → i ≡ get_or is n i → new ≡ done ++ listed (members true (tree_at ts i)) → new ++ spread (trees_of ts (drop (n + 1) is)) ≡ done ++ spread (trees_of ts (drop n is))
spread_more ts is n i done new l e h =
    let behind = spread (trees_of ts (drop (n + 1) is)) in
    let parts = members true (tree_at ts i) in
    ap (λ us. us ++ behind) h ∙ append_assoc done (listed parts) behind ∙ ap (λ us. done ++ us) (sym (appended_listed parts behind)) ∙ ap (λ js. done ++ spread (trees_of ts js)) (sym (drop_is is n i l e))

-- ---- the canonical formulas
-- where one has no canonical form, the list has none
pub fault_each : (ts us : List Tree) (is : List ℕ) (os : List Outcome) (j : ℕ) → AllZip (λ i o. IsFound us (tree_at ts i) o) is os → first_fault os ≡ Some j → Has us j × (canon_each (trees_of ts is) ≡ Err (tree_at us j))
fault_each ts us [] [] j h f = cc
fault_each ts us [] (o ∷ os) j h f = absurd h
fault_each ts us (i ∷ is) [] j h f = absurd h
fault_each ts us (i ∷ is) (Canonical k ∷ os) j h f =
    let r = fault_each ts us is os j h.1 f in
    (r.0, ap (λ o. after o (λ c. after (canon_each (trees_of ts is)) (λ cs. Ok (c ∷ cs)))) h.0.1 ∙ ap (λ o. after o (λ cs. Ok (tree_at us k ∷ cs))) r.1)
fault_each ts us (i ∷ is) (Faulty k ∷ os) j h f =
    let e : k ≡ j = cc in
    (subst (Has us) e h.0.0, ap (λ o. after o (λ c. after (canon_each (trees_of ts is)) (λ cs. Ok (c ∷ cs)))) h.0.1 ∙ ap (λ n. Err (tree_at us n)) e)

-- else they are the canonical formulas
pub found_each : (ts us : List Tree) (is : List ℕ) (os : List Outcome) → AllZip (λ i o. IsFound us (tree_at ts i) o) is os → first_fault os ≡ None → canon_each (trees_of ts is) ≡ Ok (trees_of us (map id_of os))
found_each ts us [] [] h f = refl
found_each ts us [] (o ∷ os) h f = absurd h
found_each ts us (i ∷ is) [] h f = absurd h
found_each ts us (i ∷ is) (Canonical k ∷ os) h f =
    ap (λ o. after o (λ c. after (canon_each (trees_of ts is)) (λ cs. Ok (c ∷ cs)))) h.0.1 ∙ ap (λ o. after o (λ cs. Ok (tree_at us k ∷ cs))) (found_each ts us is os h.1 f)
found_each ts us (i ∷ is) (Faulty k ∷ os) h f = cc

-- and they are there
pub have_each : (ts us : List Tree) (is : List ℕ) (os : List Outcome) → AllZip (λ i o. IsFound us (tree_at ts i) o) is os → All (Has us) (map id_of os)
have_each ts us [] [] h = All-nil (Has us)
have_each ts us [] (o ∷ os) h = absurd h
have_each ts us (i ∷ is) [] h = absurd h
have_each ts us (i ∷ is) (Canonical k ∷ os) h = All-cons (Has us) k (map id_of os) h.0.0 (have_each ts us is os h.1)
have_each ts us (i ∷ is) (Faulty k ∷ os) h = All-cons (Has us) k (map id_of os) h.0.0 (have_each ts us is os h.1)

-- ---- the canonical list
-- where a formula has no canonical form
pub list_fault : (ts us : List Tree) (is : List ℕ) (os : List Outcome) (j : ℕ) → AllZip (λ i o. IsFound us (tree_at ts i) o) is os → first_fault os ≡ Some j → Has us j × (canon_list (trees_of ts is) ≡ Err (tree_at us j))
list_fault ts us is os j h f =
    let r = fault_each ts us is os j h f in
    (r.0, ap (λ o. after o (λ cs. Ok (tidied cs))) r.1)

-- where each has one
pub list_found : (ts us : List Tree) (is : List ℕ) (os : List Outcome) (ks js : List ℕ) → AllZip (λ i o. IsFound us (tree_at ts i) o) is os → first_fault os ≡ None → ks ≡ map id_of os → trees_of us js ≡ tidied (trees_of us ks)
    → canon_list (trees_of ts is) ≡ Ok (trees_of us js)
list_found ts us is os ks js h f k e =
    ap (λ o. after o (λ cs. Ok (tidied cs))) (found_each ts us is os h f) ∙ ap (λ x. Ok (tidied (trees_of us x))) (sym k) ∙ ap Ok (sym e)
