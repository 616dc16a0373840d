-- The formulas of few names, kept among the items of a certificate.
use Rattle.std.proofs.Common.{◌≡◌, ℕ, ℤ, suc, ◌+◌, ◌<◌, ◌≤◌, Bool as Truth, true, false, cond, List, [], ◌∷◌, ◌++◌, length, take, get_or, Option, Some, None, refl, sym, ap, subst, ◌∙◌, arith}
use Rattle.std.specs.Prelude.{nat_lt}
use Rattle.std.proofs.lemmas.List.{take_more, take_all, append-nil}
use Rattle.std.proofs.lemmas.List.Elements.{filter-append}
use Rattle.std.proofs.lemmas.Option.{slice_get_read}
use Rattle.qterm.specs.Tree.{Tree}
use Rattle.qterm.specs.Store.{tree_at, trees_of}
use Rattle.qterm.proofs.KidsLaws.{length-trees_of}
use Rattle.tac_cert.specs.declared.cert.Step.{Step}
use Rattle.tac_cert.specs.declared.cert.Step.TheVariants as step
use Rattle.tac_cert.specs.Items.{Item, Formula, item}
use Rattle.tac_cert.specs.Formulas.{kept, put}
use Rattle.tac_cert.specs.Accepts.{as_items}
use Rattle.goal_depth.specs.Depths.{AreShallow}
use Rattle.proof_conv.specs.Leaves.{StepsLeave}
use Rattle.reduce_base.specs.Trace.{IsAt}
use Rattle.reduce_base.proofs.Pushing.{items_push, item_there, leave_push}
use Rattle.bound_lists.specs.DropWide.{is_narrow, narrow, has_wide}
use Rattle.tac_bounds.specs.declared.narrowing.Kept.{Kept}
use Rattle.tac_bounds.specs.Kept.{AreKept, narrow_ids}

-- over a store and over trees
pub narrow_trees : (ts : List Tree) (most : ℤ) (is : List ℕ) → trees_of ts (narrow_ids ts most is) ≡ narrow most (trees_of ts is)
narrow_trees ts most [] = refl
narrow_trees ts most (i ∷ is) = by (is_narrow most (tree_at ts i)) (narrow_trees ts most is)
  where
    by : (b : Truth) → trees_of ts (narrow_ids ts most is) ≡ narrow most (trees_of ts is) → trees_of ts (cond b (i ∷ narrow_ids ts most is) (narrow_ids ts most is)) ≡ cond b (tree_at ts i ∷ narrow most (trees_of ts is)) (narrow most (trees_of ts is))
    by true ih = ap (λ gs. tree_at ts i ∷ gs) ih
    by false ih = ih

-- some of formulas that are shallow
pub narrow_shallow : (most : ℤ) (fs : List Tree) → AreShallow fs → AreShallow (narrow most fs)
narrow_shallow most [] h = tt
narrow_shallow most (f ∷ fs) h = by (is_narrow most f) (narrow_shallow most fs h.1)
  where
    by : (b : Truth) → AreShallow (narrow most fs) → AreShallow (cond b (f ∷ narrow most fs) (narrow most fs))
    by true ih = (h.0, ih)
    by false ih = ih

-- ---- one formula more
ids_more : (ts : List Tree) (most : ℤ) (list : List ℕ) (at i : ℕ) → at < length list → i ≡ get_or list at i → narrow_ids ts most (take (at + 1) list) ≡ narrow_ids ts most (take at list) ++ narrow_ids ts most (i ∷ [])
ids_more ts most list at i l g =
    ap (narrow_ids ts most) (take_more list at i l ∙ ap (λ x. take at list ++ x ∷ []) (sym g)) ∙ filter-append (λ j. is_narrow most (tree_at ts j)) (take at list) (i ∷ [])

kept_more : (items xs : List Item) (ns : List ℕ) (n : ℕ) (x : Item) → kept items ns ≡ Some xs → item items n ≡ Some x → kept items (ns ++ n ∷ []) ≡ Some (xs ++ x ∷ [])
kept_more items xs [] n x h e = let s : xs ≡ [] = cc in ap (λ o. put o (Some [])) e ∙ ap (λ ys. Some (ys ++ x ∷ [])) (sym s)
kept_more items xs (m ∷ ns) n x h e = by (item items m) refl (kept items ns) refl (λ ys b. kept_more items ys ns n x b e)
  where
    by : (o : Option Item) → item items m ≡ o → (p : Option (List Item)) → kept items ns ≡ p → ((ys : List Item) → kept items ns ≡ Some ys → kept items (ns ++ n ∷ []) ≡ Some (ys ++ x ∷ [])) → put (item items m) (kept items (ns ++ n ∷ [])) ≡ Some (xs ++ x ∷ [])
    by None a p b more = absurd (let c : put None (kept items ns) ≡ Some xs = subst (λ o. put o (kept items ns) ≡ Some xs) a h in cc)
    by (Some y) a None b more = absurd (let c : put (Some y) None ≡ Some xs = subst (λ o. put (Some y) o ≡ Some xs) b (subst (λ o. put o (kept items ns) ≡ Some xs) a h) in cc)
    by (Some y) a (Some ys) b more =
        let c : put (Some y) (Some ys) ≡ Some xs = subst (λ o. put (Some y) o ≡ Some xs) b (subst (λ o. put o (kept items ns) ≡ Some xs) a h) in
        let d : y ∷ ys ≡ xs = cc in
        ap (λ o. put o (kept items (ns ++ n ∷ []))) a ∙ ap (put (Some y)) (more ys b) ∙ ap (λ zs. Some (zs ++ x ∷ [])) d

-- one that is dropped
pub dropped_more : (ts : List Tree) (most : ℤ) (list : List ℕ) (at i : ℕ) (k : Kept) → at < length list → i ≡ get_or list at i → is_narrow most (tree_at ts i) ≡ false → AreKept ts most list at k → AreKept ts most list (at + 1) k
dropped_more ts most list at i k l g wide h =
    let e : narrow_ids ts most (i ∷ []) ≡ [] = ap (λ b. cond b (i ∷ []) []) wide in
    record { ids = h.ids ∙ sym (append-nil (narrow_ids ts most (take at list))) ∙ sym (ap (λ x. narrow_ids ts most (take at list) ++ x) e) ∙ sym (ids_more ts most list at i l g); numbers = h.numbers }

-- one that is kept
pub kept_narrow : (ts : List Tree) (most : ℤ) (list : List ℕ) (at i n : ℕ) (k m : Kept) → at < length list → i ≡ get_or list at i → is_narrow most (tree_at ts i) ≡ true → n ≡ at + 1 → AreKept ts most list at k
    → m.ids.items ≡ k.ids.items ++ i ∷ [] → m.numbers ≡ k.numbers ++ n ∷ [] → AreKept ts most list (at + 1) m
kept_narrow ts most list at i n k m l g narrow num h ids numbers =
    let e : narrow_ids ts most (i ∷ []) ≡ i ∷ [] = ap (λ b. cond b (i ∷ []) []) narrow in
    let there : IsAt list n i = record { place = at; numbered = let f : n ≡ suc at = omega (arith, num) in f; there = slice_get_read list (length list) at i refl l g } in
    record {
      ids = ids ∙ ap (λ x. x ++ i ∷ []) h.ids ∙ sym (ap (λ x. narrow_ids ts most (take at list) ++ x) e) ∙ sym (ids_more ts most list at i l g);
      numbers =
          ap (kept (as_items (trees_of ts list))) numbers ∙ kept_more (as_items (trees_of ts list)) (as_items (trees_of ts k.ids.items)) k.numbers n (Formula (tree_at ts i)) h.numbers (item_there ts list n i there)
          ∙ ap Some (sym (items_push ts k.ids.items i)) ∙ ap (λ is. Some (as_items (trees_of ts is))) (sym ids);
    }

-- nothing is kept at first
pub kept_none : (ts : List Tree) (most : ℤ) (list : List ℕ) (k : Kept) → k.ids.items ≡ [] → k.numbers ≡ [] → AreKept ts most list 0 k
kept_none ts most list k ids numbers = record {
  ids = ids;
  numbers = ap (kept (as_items (trees_of ts list))) numbers ∙ ap (λ is. Some (as_items (trees_of ts is))) (sym ids);
}

-- ---- the whole list
pub kept_end : (ts : List Tree) (most : ℤ) (list : List ℕ) (at : ℕ) (k : Kept) → length list ≤ at → AreKept ts most list at k → AreKept ts most list (length list) k
kept_end ts most list at k l h = record { ids = h.ids ∙ ap (narrow_ids ts most) (take_all at list l) ∙ sym (ap (narrow_ids ts most) (take_all (length list) list (omega arith))); numbers = h.numbers }

pub kept_all : (ts : List Tree) (most : ℤ) (list : List ℕ) (k : Kept) → AreKept ts most list (length list) k → k.ids.items ≡ narrow_ids ts most list
kept_all ts most list k h = h.ids ∙ ap (narrow_ids ts most) (take_all (length list) list (omega arith))

pub kept_leads : (ts : List Tree) (most : ℤ) (list ids : List ℕ) (k : Kept) (ss rs : List Step) → AreKept ts most list (length list) k → ids ≡ k.ids.items → rs ≡ ss ++ step.Keep k.numbers ∷ []
    → (G : List Item) → StepsLeave ts G ss (as_items (trees_of ts list)) → StepsLeave ts G rs (as_items (trees_of ts ids))
kept_leads ts most list ids k ss rs h same behind G s =
    subst (λ qs. StepsLeave ts G qs (as_items (trees_of ts ids))) (sym behind) (subst (λ is. StepsLeave ts G (ss ++ step.Keep k.numbers ∷ []) (as_items (trees_of ts is))) (sym same)
    (leave_push ts G (as_items (trees_of ts list)) (as_items (trees_of ts k.ids.items)) ss (step.Keep k.numbers) s tt h.numbers))

-- whether any was dropped
pub dropped_is : (ts : List Tree) (most : ℤ) (list ids : List ℕ) (m n : ℕ) → ids ≡ narrow_ids ts most list → m ≡ length ids → n ≡ length list → nat_lt m n ≡ has_wide most (trees_of ts list)
dropped_is ts most list ids m n same a b =
    let left : m ≡ length (narrow most (trees_of ts list)) = a ∙ ap length same ∙ sym (length-trees_of ts (narrow_ids ts most list)) ∙ ap length (narrow_trees ts most list) in
    let right : n ≡ length (trees_of ts list) = b ∙ sym (length-trees_of ts list) in
    ap (λ x. nat_lt x n) left ∙ ap (nat_lt (length (narrow most (trees_of ts list)))) right
