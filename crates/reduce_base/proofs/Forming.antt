-- Canonical forms side by side with their formulas.
use Rattle.std.proofs.Common.{◌≡◌, ℕ, zero, suc, ◌+◌, ◌<◌, List, [], ◌∷◌, ◌++◌, length, take, get_or, All, Ok, Err, refl, sym, ap, subst, ◌∙◌, arith}
use Rattle.std.specs.List.{AllZip}
use Rattle.qterm.specs.Tree.{Tree}
use Rattle.qterm.specs.Store.{Has, tree_at, trees_of, Extends}
use Rattle.qterm.proofs.Alls.{All-nil, All-cons, All-head, All-tail}
use Rattle.qterm.proofs.Fitting.{Has_extends}
use Rattle.qlin.specs.Canon.{canon, after}
use Rattle.qlin.specs.CanonList.{canon_each}
use Rattle.qcanon.specs.declared.error.CanonError.{CanonError}
use Rattle.qcanon.specs.declared.error.CanonError.TheVariants.{TooWide, Memory}
use Rattle.qcanon.specs.Walk.{NamesFault}
use Rattle.std.proofs.lemmas.List.Elements.{all_zip_more}
use Rattle.reduce_base.specs.Forms.{IsForm}

-- in a store that has grown
pub forms_extend : (ts us vs : List Tree) (is cs : List ℕ) → Extends us vs → AllZip (IsForm ts us) is cs → AllZip (IsForm ts vs) is cs
forms_extend ts us vs [] [] e h = tt
forms_extend ts us vs [] (c ∷ cs) e h = absurd h
forms_extend ts us vs (i ∷ is) [] e h = absurd h
forms_extend ts us vs (i ∷ is) (c ∷ cs) e h = ((Has_extends us vs c e h.0.0, h.0.1 ∙ ap Ok (sym (e.same c h.0.0))), forms_extend ts us vs is cs e h.1)

-- with the formulas in the same store
pub forms_now : (ts us : List Tree) (is cs : List ℕ) → Extends ts us → All (Has ts) is → AllZip (IsForm ts us) is cs → AllZip (IsForm us us) is cs
forms_now ts us [] [] e a h = tt
forms_now ts us [] (c ∷ cs) e a h = absurd h
forms_now ts us (i ∷ is) [] e a h = absurd h
forms_now ts us (i ∷ is) (c ∷ cs) e a h = ((h.0.0, ap canon (e.same i (All-head (Has ts) i is a)) ∙ h.0.1), forms_now ts us is cs e (All-tail (Has ts) i is a) h.1)

pub forms_there : (ts us : List Tree) (is cs : List ℕ) → AllZip (IsForm ts us) is cs → All (Has us) cs
forms_there ts us [] [] h = All-nil (Has us)
forms_there ts us [] (c ∷ cs) h = absurd h
forms_there ts us (i ∷ is) [] h = absurd h
forms_there ts us (i ∷ is) (c ∷ cs) h = All-cons (Has us) c cs h.0.0 (forms_there ts us is cs h.1)

-- they are the canonical formulas
pub forms_each : (ts us : List Tree) (is cs : List ℕ) → AllZip (IsForm ts us) is cs → canon_each (trees_of ts is) ≡ Ok (trees_of us cs)
forms_each ts us [] [] h = refl
forms_each ts us [] (c ∷ cs) h = absurd h
forms_each ts us (i ∷ is) [] h = absurd h
forms_each ts us (i ∷ is) (c ∷ cs) h =
    ap (λ o. after o (λ x. after (canon_each (trees_of ts is)) (λ xs. Ok (x ∷ xs)))) h.0.1 ∙ ap (λ o. after o (λ xs. Ok (tree_at us c ∷ xs))) (forms_each ts us is cs h.1)

-- the first formula without a canonical form is that of the list
pub forms_fault : (ts us : List Tree) (is cs : List ℕ) (k f : ℕ) (w : Tree) → AllZip (IsForm ts us) (take k is) cs → k < length is → f ≡ get_or is k f → canon (tree_at ts f) ≡ Err w → canon_each (trees_of ts is) ≡ Err w
forms_fault ts us [] cs k f w h l g e = absurd (omega (arith, l))
forms_fault ts us (i ∷ is) cs zero f w h l g e =
    let same : f ≡ i = g in
    ap (λ o. after o (λ x. after (canon_each (trees_of ts is)) (λ xs. Ok (x ∷ xs)))) (ap (λ j. canon (tree_at ts j)) (sym same) ∙ e)
forms_fault ts us (i ∷ is) [] (suc k) f w h l g e = absurd h
forms_fault ts us (i ∷ is) (c ∷ cs) (suc k) f w h l g e =
    ap (λ o. after o (λ x. after (canon_each (trees_of ts is)) (λ xs. Ok (x ∷ xs)))) h.0.1 ∙ ap (λ o. after o (λ xs. Ok (tree_at us c ∷ xs))) (forms_fault ts us is cs k f w h.1 (omega (arith, l)) g e)

pub names_fault : (ts us vs : List Tree) (is cs : List ℕ) (k f : ℕ) (e : CanonError) → AllZip (IsForm ts us) (take k is) cs → k < length is → f ≡ get_or is k f → tree_at us f ≡ tree_at ts f → NamesFault vs (canon (tree_at us f)) e
    → NamesFault vs (canon_each (trees_of ts is)) e
names_fault ts us vs is cs k f (TooWide t) z l g same h = (h.0, forms_fault ts us is cs k f (tree_at vs t) z l g (ap canon (sym same) ∙ h.1))
names_fault ts us vs is cs k f (Memory m) z l g same h = tt

pub forms_more : (ts us vs : List Tree) (is cs new : List ℕ) (k f c : ℕ) → Extends us vs → k < length is → f ≡ get_or is k f → AllZip (IsForm ts us) (take k is) cs → tree_at us f ≡ tree_at ts f → Has vs c × (canon (tree_at us f) ≡ Ok (tree_at vs c)) → new ≡ cs ++ c ∷ []
    → AllZip (IsForm ts vs) (take (k + 1) is) new
forms_more ts us vs is cs new k f c e l g z same h are =
    subst (AllZip (IsForm ts vs) (take (k + 1) is)) (sym are) (all_zip_more (IsForm ts vs) is cs k f c l g (forms_extend ts us vs (take k is) cs e z) (h.0, ap canon (sym same) ∙ h.1))

pub has_at : (ts : List Tree) (is : List ℕ) (k f : ℕ) → All (Has ts) is → k < length is → f ≡ get_or is k f → Has ts f
has_at ts is k f h l g = subst (Has ts) (sym g) (h k f l)
