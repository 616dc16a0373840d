-- Items that are formulas, and one step more.
use Rattle.std.proofs.Common.{◌≡◌, ℕ, zero, suc, ◌+◌, ◌-◌, ◌<◌, Bool as Truth, true, false, List, [], ◌∷◌, ◌++◌, length, get_or, Option, Some, None, refl, sym, ap, subst, ◌∙◌, arith, if◌then◌else◌, nat_eq}
use Rattle.std.specs.List.{slice_get}
use Rattle.std.proofs.lemmas.Bool.Decides.{nat_tests}
use Rattle.qterm.specs.declared.name.Sort.TheVariants as sort
use Rattle.qterm.specs.Tree.{Tree, sort_of, IsLawful}
use Rattle.tac_cert.specs.declared.cert.Step.{Step}
use Rattle.tac_cert.specs.Names.{same_sort}
use Rattle.tac_cert.specs.WellSorted.{items_sorted}
use Rattle.tac_cert.specs.Items.{Item, Formula, item}
use Rattle.tac_cert.specs.Formulas.{put, kept}
use Rattle.tac_cert.specs.Gives.{gives, adds, StepFits}
use Rattle.tac_cert.specs.Accepts.{AfterSteps, StepsFit, as_items}
use Rattle.tac_cert.proofs.Sorting.{sorted_of}
use Rattle.proof_conv.specs.Leaves.{StepsLeave}
use Rattle.shift_steps.specs.declared.trace.Trace.{Trace}
use Rattle.shift_steps.specs.Items.{Holds}

-- ---- items
pub items-append : (fs gs : List Tree) → as_items (fs ++ gs) ≡ as_items fs ++ as_items gs
items-append [] gs = refl
items-append (f ∷ fs) gs = ap (λ is. Formula f ∷ is) (items-append fs gs)

length-items : (fs : List Tree) → length (as_items fs) ≡ length fs
length-items [] = refl
length-items (f ∷ fs) = ap (λ n. suc n) (length-items fs)

get_before : (is js : List Item) (k : ℕ) (x : Item) → slice_get is k ≡ Some x → slice_get (is ++ js) k ≡ Some x
get_before [] js k x h = cc
get_before (i ∷ is) js zero x h = h
get_before (i ∷ is) js (suc k) x h = get_before is js k x h

item_where : (is js : List Item) (b : Truth) (k : ℕ) (x : Item) → (if b then None else slice_get is k) ≡ Some x → (if b then None else slice_get (is ++ js) k) ≡ Some x
item_where is js true k x h = absurd (let e : None ≡ Some x = h in cc)
item_where is js false k x h = get_before is js k x h

-- an item stays where others are put behind it
pub item_before : (is js : List Item) (n : ℕ) (x : Item) → item is n ≡ Some x → item (is ++ js) n ≡ Some x
item_before is js n x h = item_where is js (nat_eq n 0) (n - 1) x h

pub formula_before : (fs gs : List Tree) (n : ℕ) (f : Tree) → item (as_items fs) n ≡ Some (Formula f) → item (as_items (fs ++ gs)) n ≡ Some (Formula f)
formula_before fs gs n f h = ap (λ is. item is n) (items-append fs gs) ∙ item_before (as_items fs) (as_items gs) n (Formula f) h

item-suc : (items : List Item) (k : ℕ) → item items (suc k) ≡ slice_get items k
item-suc items k = let e : nat_eq (suc k) 0 ≡ false = grind (arith, nat_tests) in let n : suc k - 1 ≡ k = omega arith in rw (e, n) refl

get_there : (fs : List Tree) (k : ℕ) (f d : Tree) → k < length fs → f ≡ get_or fs k d → slice_get (as_items fs) k ≡ Some (Formula f)
get_there [] k f d l e = absurd (omega (arith, l))
get_there (g ∷ fs) zero f d l e = ap (λ t. Some (Formula t)) (sym e)
get_there (g ∷ fs) (suc k) f d l e = get_there fs k f d (omega (arith, l)) e

-- the formula at a place
pub item_there : (fs : List Tree) (k n : ℕ) (f d : Tree) → k < length fs → f ≡ get_or fs k d → n ≡ k + 1 → item (as_items fs) n ≡ Some (Formula f)
item_there fs k n f d l e num = let s : n ≡ suc k = omega (arith, num) in ap (item (as_items fs)) s ∙ item-suc (as_items fs) k ∙ get_there fs k f d l e

get_last : (is : List Item) (x : Item) → slice_get (is ++ x ∷ []) (length is) ≡ Some x
get_last [] x = refl
get_last (i ∷ is) x = get_last is x

pub item_last : (fs : List Tree) (n : ℕ) (f : Tree) → n ≡ length fs + 1 → item (as_items (fs ++ f ∷ [])) n ≡ Some (Formula f)
item_last fs n f num =
    let s : n ≡ suc (length (as_items fs)) = let l = length-items fs in omega (arith, num, l) in
    ap (λ is. item is n) (items-append fs (f ∷ [])) ∙ ap (item (as_items fs ++ Formula f ∷ [])) s ∙ item-suc (as_items fs ++ Formula f ∷ []) (length (as_items fs)) ∙ get_last (as_items fs) (Formula f)

-- ---- items that are kept
pub kept_before : (is js : List Item) (ns : List ℕ) (xs : List Item) → kept is ns ≡ Some xs → kept (is ++ js) ns ≡ Some xs
kept_before is js [] xs h = h
kept_before is js (n ∷ ns) xs h = by (item is n) refl (kept is ns) refl (λ x e. item_before is js n x e) (λ ys e. kept_before is js ns ys e)
  where
    by : (o : Option Item) → item is n ≡ o → (p : Option (List Item)) → kept is ns ≡ p → ((x : Item) → item is n ≡ Some x → item (is ++ js) n ≡ Some x) → ((ys : List Item) → kept is ns ≡ Some ys → kept (is ++ js) ns ≡ Some ys)
        → kept (is ++ js) (n ∷ ns) ≡ Some xs
    by None a p b one more = absurd (let c : put None (kept is ns) ≡ Some xs = subst (λ o. put o (kept is ns) ≡ Some xs) a h in cc)
    by (Some x) a None b one more = absurd (let c : put (Some x) None ≡ Some xs = subst (λ o. put (Some x) o ≡ Some xs) b (subst (λ o. put o (kept is ns) ≡ Some xs) a h) in cc)
    by (Some x) a (Some ys) b one more = (λ i. put (one x a i) (more ys b i)) ∙ subst (λ o. put (Some x) o ≡ Some xs) b (subst (λ o. put o (kept is ns) ≡ Some xs) a h)

pub kept_more : (items xs : List Item) (ns : List ℕ) (n : ℕ) (x : Item) → kept items ns ≡ Some xs → item items n ≡ Some x → kept items (ns ++ n ∷ []) ≡ Some (xs ++ x ∷ [])
kept_more items xs [] n x h e = let s : xs ≡ [] = cc in ap (λ o. put o (Some [])) e ∙ ap (λ ys. Some (ys ++ x ∷ [])) (sym s)
kept_more items xs (m ∷ ns) n x h e = by (item items m) refl (kept items ns) refl (λ ys b. kept_more items ys ns n x b e)
  where
    by : (o : Option Item) → item items m ≡ o → (p : Option (List Item)) → kept items ns ≡ p → ((ys : List Item) → kept items ns ≡ Some ys → kept items (ns ++ n ∷ []) ≡ Some (ys ++ x ∷ [])) → put (item items m) (kept items (ns ++ n ∷ [])) ≡ Some (xs ++ x ∷ [])
    by None a p b more = absurd (let c : put None (kept items ns) ≡ Some xs = subst (λ o. put o (kept items ns) ≡ Some xs) a h in cc)
    by (Some y) a None b more = absurd (let c : put (Some y) None ≡ Some xs = subst (λ o. put (Some y) o ≡ Some xs) b (subst (λ o. put o (kept items ns) ≡ Some xs) a h) in cc)
    by (Some y) a (Some ys) b more =
        let c : put (Some y) (Some ys) ≡ Some xs = subst (λ o. put (Some y) o ≡ Some xs) b (subst (λ o. put o (kept items ns) ≡ Some xs) a h) in
        let d : y ∷ ys ≡ xs = cc in
        ap (λ o. put o (kept items (ns ++ n ∷ []))) a ∙ ap (put (Some y)) (more ys b) ∙ ap (λ zs. Some (zs ++ x ∷ [])) d

-- ---- one step more
pub formula_adds : (items : List Item) (t : Tree) → IsLawful t → sort_of t ≡ sort.Bool → adds items (Some (Formula t ∷ [])) ≡ Some (items ++ Formula t ∷ [])
formula_adds items t l e =
    let s : same_sort (sort_of t) sort.Bool ≡ true = ap (λ x. same_sort x sort.Bool) e in
    let w : items_sorted (Formula t ∷ []) ≡ true = rw (sorted_of t l, s) refl in
    ap (λ b. if b then Some (items ++ Formula t ∷ []) else None) w

after_push : (ts : List Tree) (items mid last : List Item) (ss : List Step) (s : Step) → AfterSteps ts items ss (λ left. left ≡ mid) → gives ts mid s ≡ Some last → AfterSteps ts items (ss ++ s ∷ []) (λ left. left ≡ last)
after_push ts items mid last [] s h g = (last, subst (λ x. gives ts x s ≡ Some last) (sym h) g, refl)
after_push ts items mid last (u ∷ ss) s h g = (h.0, h.1, after_push ts h.0 mid last ss s h.2 g)

fits_push : (ts : List Tree) (ss : List Step) (s : Step) → StepsFit ts ss → StepFits ts s → StepsFit ts (ss ++ s ∷ [])
fits_push ts [] s h f = (f, tt)
fits_push ts (u ∷ ss) s h f = (h.0, fits_push ts ss s h.1 f)

pub leave_push : (ts : List Tree) (items mid last : List Item) (ss : List Step) (s : Step) → StepsLeave ts items ss mid → StepFits ts s → gives ts mid s ≡ Some last → StepsLeave ts items (ss ++ s ∷ []) last
leave_push ts items mid last ss s h f g = record { there = fits_push ts ss s h.there f; run = after_push ts items mid last ss s h.run g }

length_push : (fs : List Tree) (f : Tree) → length (fs ++ f ∷ []) ≡ length fs + 1
length_push [] f = refl
length_push (g ∷ fs) f = let e = length_push fs f in omega (arith, e)

-- a step that gives one formula
pub holds_push : (ts fs gs : List Tree) (g : Tree) (t u : Trace) (s : Step) → u.steps ≡ t.steps ++ s ∷ [] → u.count ≡ t.count + 1 → Holds ts fs gs t → StepFits ts s → gives ts (as_items gs) s ≡ Some (as_items gs ++ Formula g ∷ []) → Holds ts fs (gs ++ g ∷ []) u
holds_push ts fs gs g t u s steps count h f e =
    let there : gives ts (as_items gs) s ≡ Some (as_items (gs ++ g ∷ [])) = e ∙ ap (λ is. Some is) (sym (items-append gs (g ∷ []))) in
    record {
      leaves = subst (λ ss. StepsLeave ts (as_items fs) ss (as_items (gs ++ g ∷ []))) (sym steps) (leave_push ts (as_items fs) (as_items gs) (as_items (gs ++ g ∷ [])) t.steps s h.leaves f there);
      count = let n = length_push gs g in let c = h.count in omega (arith, count, c, n);
    }

pub holds_last : (ts fs gs : List Tree) (g : Tree) (t : Trace) (n : ℕ) → n ≡ t.count + 1 → Holds ts fs gs t → item (as_items (gs ++ g ∷ [])) n ≡ Some (Formula g)
holds_last ts fs gs g t n num h = let e : n ≡ length gs + 1 = let c = h.count in omega (arith, num, c) in item_last gs n g e
