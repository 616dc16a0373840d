-- Each formula of a goal is rewritten to its canonical form.
use Rattle.std.proofs.Common.{◌≡◌, ℕ, zero, suc, ◌+◌, ◌<◌, List, [], ◌∷◌, ◌++◌, length, take, get_or, All, Some, Ok, refl, sym, ap, subst, ◌∙◌, arith, append_assoc}
use Rattle.std.specs.List.{AllZip, slice_get}
use Rattle.std.proofs.lemmas.List.{take_more}
use Rattle.std.proofs.lemmas.Option.{slice_get_read}
use Rattle.qterm.specs.declared.name.Sort.TheVariants as sort
use Rattle.qterm.specs.Tree.{Tree, True, And, sort_of, IsLawful}
use Rattle.qterm.specs.Store.{Has, HasSort, tree_at, trees_of, trees_at}
use Rattle.qterm.proofs.Alls.{All-nil, All-cons, All-head, All-tail}
use Rattle.qlin.specs.Canon.{canon}
use Rattle.qcanon_laws.proofs.Sorts.{Good, Finds, canon_good}
use Rattle.tac_cert.specs.declared.cert.Step.TheVariants as step
use Rattle.tac_cert.specs.Items.{Formula}
use Rattle.tac_cert.specs.Gives.{gives}
use Rattle.tac_cert.specs.Accepts.{as_items}
use Rattle.goal_depth.specs.Depths.{IsShallow, AreShallow}
use Rattle.goal_depth.proofs.Lists.{form_shallow, can_be_named}
use Rattle.reduce_base.specs.Forms.{IsForm}
use Rattle.reduce_base.specs.Trace.{IsAt}
use Rattle.reduce_base.proofs.Pushing.{formula_there, rewrite_gives, part_gives, at_before, at_behind}

zip_at : (R : ℕ → ℕ → Type 0) (is cs : List ℕ) (k c : ℕ) → AllZip R is cs → k < length cs → c ≡ get_or cs k c → (i : ℕ) × (slice_get is k ≡ Some i) × R i c
zip_at R [] [] k c h l g = absurd (omega (arith, l))
zip_at R [] (d ∷ cs) k c h l g = absurd h
zip_at R (i ∷ is) [] k c h l g = absurd h
zip_at R (i ∷ is) (d ∷ cs) zero c h l g = (i, refl, subst (R i) (sym g) h.0)
zip_at R (i ∷ is) (d ∷ cs) (suc k) c h l g = zip_at R is cs k c h.1 (omega (arith, l)) g

all_get : (P : ℕ → Type 0) (is : List ℕ) (k i : ℕ) → All P is → slice_get is k ≡ Some i → P i
all_get P [] k i a h = cc
all_get P (j ∷ is) zero i a h = let e : j ≡ i = cc in subst P e (All-head P j is a)
all_get P (j ∷ is) (suc k) i a h = all_get P is k i (All-tail P j is a) h

shallow_get : (ts : List Tree) (is : List ℕ) (k i : ℕ) → AreShallow (trees_of ts is) → slice_get is k ≡ Some i → IsShallow (tree_at ts i)
shallow_get ts [] k i a h = cc
shallow_get ts (j ∷ is) zero i a h = let e : j ≡ i = cc in subst (λ x. IsShallow (tree_at ts x)) e a.0
shallow_get ts (j ∷ is) (suc k) i a h = shallow_get ts is k i a.1 h

form_good : (t c : Tree) → IsLawful t → canon t ≡ Ok c → Good (sort_of t) c
form_good t c l e = subst (Finds (Good (sort_of t))) e (canon_good t l)

-- the next formula can be rewritten
pub rewrite_next : (ts : List Tree) (is cs items : List ℕ) (k n c : ℕ) → All IsLawful ts → All (HasSort sort.Bool ts) is → AreShallow (trees_of ts is) → AllZip (IsForm ts ts) is cs → k < length cs → c ≡ get_or cs k c → n ≡ k + 1 → items ≡ is ++ take k cs
    → gives ts (as_items (trees_of ts items)) (step.Rw n c) ≡ Some (as_items (trees_of ts items) ++ Formula (tree_at ts c) ∷ [])
rewrite_next ts is cs items k n c w a s z l g num are =
    let f = zip_at (IsForm ts ts) is cs k c z l g in
    let i = f.0 in
    let has : HasSort sort.Bool ts i = all_get (HasSort sort.Bool ts) is k i a f.1 in
    let lawful : IsLawful (tree_at ts i) = w i True has.0 in
    let at : IsAt is n i = record { place = k; numbered = let e : n ≡ suc k = omega (arith, num) in e; there = f.1 } in
    let good = form_good (tree_at ts i) (tree_at ts c) lawful f.2.1 in
    let shallow = form_shallow (tree_at ts i) (tree_at ts c) lawful (shallow_get ts is k i s f.1) f.2.1 in
    rewrite_gives ts (as_items (trees_of ts items)) n c (tree_at ts i) (formula_there ts items n i (subst (λ x. IsAt x n i) (sym are) (at_before is (take k cs) n i at))) lawful f.2.1 good.0 (good.1 ∙ has.1)
    (can_be_named (tree_at ts c) shallow)

-- the next child can be taken
pub part_next : (ts : List Tree) (base us items : List ℕ) (number d k n c : ℕ) → All IsLawful ts → All (HasSort sort.Bool ts) us → IsAt base number d → tree_at ts d ≡ And (trees_at ts us) → k < length us → c ≡ get_or us k c → n ≡ k + 1 → items ≡ base ++ take k us
    → gives ts (as_items (trees_of ts items)) (step.Part number n) ≡ Some (as_items (trees_of ts items) ++ Formula (tree_at ts c) ∷ [])
part_next ts base us items number d k n c w a at e l g num are =
    let get : slice_get us k ≡ Some c = slice_get_read us (length us) k c refl l g in
    let has : HasSort sort.Bool ts c = all_get (HasSort sort.Bool ts) us k c a get in
    part_gives ts (as_items (trees_of ts items)) number n k c us (formula_there ts items number d (subst (λ x. IsAt x number d) (sym are) (at_before base (take k us) number d at)) ∙ ap Some e) get
    (let m : n ≡ suc k = omega (arith, num) in m) (w c True has.0) has.1

-- one item more
pub items_more : (base us items new : List ℕ) (k c : ℕ) → k < length us → c ≡ get_or us k c → items ≡ base ++ take k us → new ≡ items ++ c ∷ [] → new ≡ base ++ take (k + 1) us
items_more base us items new k c l g are e =
    e ∙ ap (λ x. x ++ c ∷ []) are ∙ append_assoc base (take k us) (c ∷ []) ∙ ap (λ x. base ++ (take k us ++ x ∷ [])) g ∙ ap (λ x. base ++ x) (sym (take_more us k c l))

-- the item behind the others
pub at_end : (items new : List ℕ) (n c : ℕ) → new ≡ items ++ c ∷ [] → n ≡ length items + 1 → IsAt new n c
at_end items new n c e num = subst (λ x. IsAt x n c) (sym e) (at_behind items (c ∷ []) 0 n c refl (let m : n ≡ length items + 0 + 1 = omega (arith, num) in m))

pub form_has : (ts : List Tree) (is cs : List ℕ) (k c : ℕ) → AllZip (IsForm ts ts) is cs → k < length cs → c ≡ get_or cs k c → Has ts c
form_has ts is cs k c z l g = (zip_at (IsForm ts ts) is cs k c z l g).2.0

pub forms_sorted : (ts : List Tree) (is cs : List ℕ) → All IsLawful ts → All (HasSort sort.Bool ts) is → AllZip (IsForm ts ts) is cs → All (HasSort sort.Bool ts) cs
forms_sorted ts [] [] w a z = All-nil (HasSort sort.Bool ts)
forms_sorted ts [] (c ∷ cs) w a z = absurd z
forms_sorted ts (i ∷ is) [] w a z = absurd z
forms_sorted ts (i ∷ is) (c ∷ cs) w a z =
    let has = All-head (HasSort sort.Bool ts) i is a in
    let good = form_good (tree_at ts i) (tree_at ts c) (w i True has.0) z.0.1 in
    All-cons (HasSort sort.Bool ts) c cs (z.0.0, good.1 ∙ has.1) (forms_sorted ts is cs w (All-tail (HasSort sort.Bool ts) i is a) z.1)
