-- One step more of a certificate whose items are formulas.
use Rattle.std.proofs.Common.{◌≡◌, ℕ, zero, suc, ◌+◌, ◌-◌, true, false, not, ◌&&◌, List, [], ◌∷◌, ◌++◌, map, length, Some, None, Ok, refl, sym, ap, subst, ◌∙◌, arith, if◌then◌else◌, nat_eq}
use Rattle.std.specs.List.{list_all, slice_get}
use Rattle.std.proofs.lemmas.Bool.Decides.{nat_tests}
use Rattle.qterm.specs.declared.name.Sort.TheVariants as sort
use Rattle.qterm.specs.Tree.{Tree, And, sort_of, IsLawful}
use Rattle.qterm.specs.Store.{tree_at, trees_of, trees_at}
use Rattle.qterm.proofs.KidsLaws.{trees_of-append}
use Rattle.qlin.specs.Canon.{canon}
use Rattle.qcanon_laws.proofs.Canonical.{same_itself}
use Rattle.qcanon_laws.proofs.Closed.{its_own}
use Rattle.tac_cert.specs.declared.cert.Step.{Step}
use Rattle.tac_cert.specs.declared.cert.Step.TheVariants as step
use Rattle.tac_cert.specs.Names.{is_int, same_sort}
use Rattle.tac_cert.specs.Depth.{is_shallow}
use Rattle.tac_cert.specs.WellSorted.{items_sorted}
use Rattle.tac_cert.specs.Items.{Item, Formula, item, formula_of, formula_at, gives_if}
use Rattle.tac_cert.specs.Formulas.{are_equal, same_canon, rewrite, child, alone, part, put, kept}
use Rattle.tac_cert.specs.Gives.{gives, adds, StepFits}
use Rattle.tac_cert.specs.Accepts.{AfterSteps, StepsFit, as_items}
use Rattle.tac_cert.proofs.Sorting.{sorted_of}
use Rattle.proof_conv.specs.Leaves.{StepsLeave}
use Rattle.reduce_base.specs.declared.places.Place.{Place}
use Rattle.reduce_base.specs.Trace.{IsAt, ArePlaced}

-- ---- items
items-append : (xs ys : List Tree) → as_items (xs ++ ys) ≡ as_items xs ++ as_items ys
items-append [] ys = refl
items-append (x ∷ xs) ys = ap (λ is. Formula x ∷ is) (items-append xs ys)

-- one item more
pub items_push : (ts : List Tree) (is : List ℕ) (c : ℕ) → as_items (trees_of ts (is ++ c ∷ [])) ≡ as_items (trees_of ts is) ++ Formula (tree_at ts c) ∷ []
items_push ts is c = ap as_items (trees_of-append ts is (c ∷ [])) ∙ items-append (trees_of ts is) (tree_at ts c ∷ [])

-- the item with a number above 0
pub item-suc : (items : List Item) (k : ℕ) → item items (suc k) ≡ slice_get items k
item-suc items k = let e : nat_eq (suc k) 0 ≡ false = grind (arith, nat_tests) in let n : suc k - 1 ≡ k = omega arith in rw (e, n) refl

get_formula : (ts : List Tree) (is : List ℕ) (k c : ℕ) → slice_get is k ≡ Some c → slice_get (as_items (trees_of ts is)) k ≡ Some (Formula (tree_at ts c))
get_formula ts [] k c h = cc
get_formula ts (i ∷ is) zero c h = let e : i ≡ c = cc in ap (λ j. Some (Formula (tree_at ts j))) e
get_formula ts (i ∷ is) (suc k) c h = get_formula ts is k c h

pub item_there : (ts : List Tree) (is : List ℕ) (n c : ℕ) → IsAt is n c → item (as_items (trees_of ts is)) n ≡ Some (Formula (tree_at ts c))
item_there ts is n c h = ap (item (as_items (trees_of ts is))) h.numbered ∙ item-suc (as_items (trees_of ts is)) h.place ∙ get_formula ts is h.place c h.there

pub formula_there : (ts : List Tree) (is : List ℕ) (n c : ℕ) → IsAt is n c → formula_at (as_items (trees_of ts is)) n ≡ Some (tree_at ts c)
formula_there ts is n c h = ap formula_of (item_there ts is n c h)

-- ---- places
get_before : (is js : List ℕ) (k c : ℕ) → slice_get is k ≡ Some c → slice_get (is ++ js) k ≡ Some c
get_before [] js k c h = cc
get_before (i ∷ is) js zero c h = h
get_before (i ∷ is) js (suc k) c h = get_before is js k c h

get_behind : (is js : List ℕ) (k c : ℕ) → slice_get js k ≡ Some c → slice_get (is ++ js) (length is + k) ≡ Some c
get_behind [] js k c h = let e : 0 + k ≡ k = omega arith in subst (λ n. slice_get js n ≡ Some c) (sym e) h
get_behind (i ∷ is) js k c h = let e : suc (length is) + k ≡ suc (length is + k) = omega arith in subst (λ n. slice_get (i ∷ (is ++ js)) n ≡ Some c) (sym e) (get_behind is js k c h)

pub at_before : (is js : List ℕ) (n c : ℕ) → IsAt is n c → IsAt (is ++ js) n c
at_before is js n c h = record { place = h.place; numbered = h.numbered; there = get_before is js h.place c h.there }

pub at_behind : (is js : List ℕ) (k n c : ℕ) → slice_get js k ≡ Some c → n ≡ length is + k + 1 → IsAt (is ++ js) n c
at_behind is js k n c h e = record { place = length is + k; numbered = let f : n ≡ suc (length is + k) = omega (arith, e) in f; there = get_behind is js k c h }

pub placed_before : (is js : List ℕ) (ps : List Place) → ArePlaced is ps → ArePlaced (is ++ js) ps
placed_before is js [] h = tt
placed_before is js (p ∷ ps) h = (at_before is js p.number p.id h.0, placed_before is js ps h.1)

pub placed_push : (is : List ℕ) (ps : List Place) (p : Place) → ArePlaced is ps → IsAt is p.number p.id → ArePlaced is (ps ++ p ∷ [])
placed_push is [] p h a = (a, tt)
placed_push is (q ∷ ps) p h a = (h.0, placed_push is ps p h.1 a)

-- the items at places
pub kept_placed : (ts : List Tree) (is : List ℕ) (ps : List Place) → ArePlaced is ps → kept (as_items (trees_of ts is)) (map (λ p. p.number) ps) ≡ Some (as_items (trees_of ts (map (λ p. p.id) ps)))
kept_placed ts is [] h = refl
kept_placed ts is (p ∷ ps) h =
    ap (λ o. put o (kept (as_items (trees_of ts is)) (map (λ q. q.number) ps))) (item_there ts is p.number p.id h.0)
    ∙ ap (λ o. put (Some (Formula (tree_at ts p.id))) o) (kept_placed ts is ps h.1)

-- ---- what steps give
formula_adds : (items : List Item) (t : Tree) → IsLawful t → sort_of t ≡ sort.Bool → adds items (Some (Formula t ∷ [])) ≡ Some (items ++ Formula t ∷ [])
formula_adds items t l e =
    let s : same_sort (sort_of t) sort.Bool ≡ true = ap (λ x. same_sort x sort.Bool) e in
    let w : items_sorted (Formula t ∷ []) ≡ true = rw (sorted_of t l, s) refl in
    ap (λ b. if b then Some (items ++ Formula t ∷ []) else None) w

pub rewrite_gives : (ts : List Tree) (items : List Item) (i c : ℕ) (t : Tree) → formula_at items i ≡ Some t → IsLawful t → canon t ≡ Ok (tree_at ts c) → IsLawful (tree_at ts c) → sort_of (tree_at ts c) ≡ sort.Bool
    → is_shallow (tree_at ts c) ≡ true → gives ts items (step.Rw i c) ≡ Some (items ++ Formula (tree_at ts c) ∷ [])
rewrite_gives ts items i c t at l e lc sc d =
    let f = tree_at ts c in
    let int : is_int (sort_of f) ≡ false = ap is_int sc in
    let equal : same_canon (formula_at items i) f ≡ true = ap (λ o. same_canon o f) at ∙ ap (λ r. are_equal r (canon f)) e ∙ ap (are_equal (Ok f)) (its_own t f l e) ∙ same_itself f in
    let new : rewrite items i f ≡ Some (Formula f ∷ []) = ap (λ b. gives_if (not b && same_canon (formula_at items i) f) (Formula f ∷ [])) int ∙ ap (λ b. gives_if b (Formula f ∷ [])) equal in
    let deep : list_all is_shallow (f ∷ []) ≡ true = rw d refl in
    ap (λ b. if b then adds items (rewrite items i f) else None) deep ∙ ap (adds items) new ∙ formula_adds items f lc sc

child_there : (ts : List Tree) (is : List ℕ) (k c : ℕ) → slice_get is k ≡ Some c → child (trees_at ts is) k ≡ Some (tree_at ts c)
child_there ts [] k c h = cc
child_there ts (i ∷ is) zero c h = let e : i ≡ c = cc in ap (λ j. Some (tree_at ts j)) e
child_there ts (i ∷ is) (suc k) c h = let e : nat_eq (suc k) 0 ≡ false = grind (arith, nat_tests) in let n : suc k - 1 ≡ k = omega arith in rw (e, n) (child_there ts is k c h)

pub part_gives : (ts : List Tree) (items : List Item) (i n k c : ℕ) (us : List ℕ) → formula_at items i ≡ Some (And (trees_at ts us)) → slice_get us k ≡ Some c → n ≡ suc k → IsLawful (tree_at ts c) → sort_of (tree_at ts c) ≡ sort.Bool
    → gives ts items (step.Part i n) ≡ Some (items ++ Formula (tree_at ts c) ∷ [])
part_gives ts items i n k c us at h num l s =
    let f = tree_at ts c in
    let e : nat_eq (suc k) 0 ≡ false = grind (arith, nat_tests) in
    let m : suc k - 1 ≡ k = omega arith in
    let found : part items i (suc k) ≡ Some (Formula f ∷ []) = rw (e, m, at) (ap alone (child_there ts us k c h)) in
    ap (λ j. adds items (part items i j)) num ∙ ap (adds items) found ∙ formula_adds items f l s

-- ---- one step more
after_push : (ts : List Tree) (items mid last : List Item) (ss : List Step) (s : Step) → AfterSteps ts items ss (λ left. left ≡ mid) → gives ts mid s ≡ Some last → AfterSteps ts items (ss ++ s ∷ []) (λ left. left ≡ last)
after_push ts items mid last [] s h g = (last, subst (λ x. gives ts x s ≡ Some last) (sym h) g, refl)
after_push ts items mid last (u ∷ ss) s h g = (h.0, h.1, after_push ts h.0 mid last ss s h.2 g)

fits_push : (ts : List Tree) (ss : List Step) (s : Step) → StepsFit ts ss → StepFits ts s → StepsFit ts (ss ++ s ∷ [])
fits_push ts [] s h f = (f, tt)
fits_push ts (u ∷ ss) s h f = (h.0, fits_push ts ss s h.1 f)

pub leave_push : (ts : List Tree) (items mid last : List Item) (ss : List Step) (s : Step) → StepsLeave ts items ss mid → StepFits ts s → gives ts mid s ≡ Some last → StepsLeave ts items (ss ++ s ∷ []) last
leave_push ts items mid last ss s h f g = record { there = fits_push ts ss s h.there f; run = after_push ts items mid last ss s h.run g }
