-- One more name is shifted.
use Rattle.std.proofs.Common.{◌≡◌, ℕ, ℤ, suc, zero, ◌≤◌, length, arith, List, [], ◌∷◌, ◌++◌, map, take, Option, refl, sym, ap, subst, ◌∙◌, append-nil, append_assoc, unwrap_or, if◌then◌else◌}
use Rattle.std.specs.Map.{lookup}
use Rattle.qterm.specs.declared.name.Name.{Name}
use Rattle.qterm.specs.declared.name.Sort.TheVariants as sort
use Rattle.qterm.specs.Tree.{Tree, Var, sort_of}
use Rattle.qterm.specs.Store.{tree_at, HasSort, Extends}
use Rattle.qeval.specs.Value.{same_name}
use Rattle.qeval.specs.Bounds.{low_of}
use Rattle.qsubst.specs.Names.{names_of}
use Rattle.qsubst.specs.Fresh.{is_taken, texts_of, AreFresh}
use Rattle.qsubst.specs.Substitution.{Substitution, replaced_each, images_at, AreImages}
use Rattle.qsubst.proofs.Looking.{or_else, lookup-append, lookup_images_same, images_at-append, replaced_each_agree}
use Rattle.qsubst.proofs.Rebuilding.{images_extend}
use Rattle.shift_lists.specs.declared.shifting.Shift.{Shift}
use Rattle.name_bounds.specs.Missing.{is_int}
use Rattle.shift_lists.specs.Shifts.{shift_by, shift_of, shifts_of, bases, old_names, new_names, shifted, images_of, AreInt, AreShifts}
use Rattle.shift_lists.specs.Steps.{AddsShift, Step, HasShifts, Shifts}
use Rattle.shift_lists.proofs.Freshness.{AreFresh-more, AreFresh-alike, IsFresh-after, taken_then}

map-push : {X Y : Type 0} (f : X → Y) (xs : List X) (x : X) → map f (xs ++ x ∷ []) ≡ map f xs ++ f x ∷ []
map-push f [] x = refl
map-push f (y ∷ ys) x = ap (λ zs. f y ∷ zs) (map-push f ys x)

shifts_of-append : (fs : List Tree) (xs ys : List Name) → shifts_of fs (xs ++ ys) ≡ shifts_of fs xs ++ shifts_of fs ys
shifts_of-append fs [] ys = refl
shifts_of-append fs (x ∷ xs) ys = ap (λ gs. shift_of fs x ++ gs) (shifts_of-append fs xs ys) ∙ sym (append_assoc (shift_of fs x) (shifts_of fs xs) (shifts_of fs ys))

images_of-append : (ss rs : List Shift) → images_of (ss ++ rs) ≡ images_of ss ++ images_of rs
images_of-append [] rs = refl
images_of-append (s ∷ ss) rs = ap (λ is. (s.name, shifted s) ∷ is) (images_of-append ss rs)

ints-push : (ss : List Shift) (s : Shift) → AreInt ss → s.name.sort ≡ sort.Int → s.fresh.sort ≡ sort.Int → AreInt (ss ++ s ∷ [])
ints-push [] s h p q = (p, q, tt)
ints-push (r ∷ ss) s h p q = (h.0, h.1, ints-push ss s h.2 p q)

-- the store grows
looks_extend : (S T : List Tree) (es : List (Name × ℕ)) (s : Substitution) → Extends S T → AreImages S es → ((n : Name) → lookup (same_name n) (images_at S es) ≡ lookup (same_name n) s) → (n : Name) → lookup (same_name n) (images_at T es) ≡ lookup (same_name n) s
looks_extend S T es s x a h n = ap (lookup (same_name n)) (images_extend S T es x a) ∙ h n

-- no name is shifted, or one is
pub has_more : (T U V : List (List ℕ)) (S ts fs : List Tree) (xs ys : List Name) (x : Name) (low : Option ℤ) (es ds : List (Name × ℕ)) (ss rs : List Shift) → Extends S ts → AreImages S es → ys ≡ xs ++ x ∷ [] → low ≡ low_of x fs
    → Step ts (if is_int x.sort then shift_by x low else []) U V es ds ss rs → HasShifts T S fs xs U es ss → HasShifts T ts fs ys V ds rs
has_more T U V S ts fs xs ys x low es ds ss rs ext a y l st h = by (if is_int x.sort then shift_by x low else []) (λ i. if is_int x.sort then shift_by x (l i) else []) st
  where
    all : shifts_of fs ys ≡ shifts_of fs xs ++ shift_of fs x
    all = ap (shifts_of fs) y ∙ shifts_of-append fs xs (x ∷ []) ∙ ap (λ gs. shifts_of fs xs ++ gs) (append-nil (shift_of fs x))

    by : (ps : List (Name × ℤ)) → ps ≡ shift_of fs x → Step ts ps U V es ds ss rs → HasShifts T ts fs ys V ds rs
    by [] e s =
        let none : shifts_of fs ys ≡ shifts_of fs xs = all ∙ ap (λ gs. shifts_of fs xs ++ gs) (sym e) ∙ append-nil (shifts_of fs xs) in
        subst (λ rs. HasShifts T ts fs ys V ds rs) (sym s.2) (subst (λ ds. HasShifts T ts fs ys V ds ss) (sym s.1) (subst (λ V. HasShifts T ts fs ys V es ss) (sym s.0)
        (record { lows = h.lows ∙ sym none; fresh = h.fresh; ints = h.ints; taken = h.taken; looks = looks_extend S ts es (images_of ss) ext a h.looks })))
    by (p ∷ []) e s = more s.0 s.1
      where
        more : p.0.sort ≡ sort.Int → AddsShift ts p.0 p.1 U V es ds ss rs → HasShifts T ts fs ys V ds rs
        more int d =
            let t = d.shift in
            let f : texts_of (new_names (ss ++ t ∷ [])) ≡ texts_of (new_names ss) ++ t.fresh.text ∷ [] = ap texts_of (map-push (λ (s : Shift). s.fresh) ss t) ∙ map-push (λ (n : Name). n.text) (new_names ss) t.fresh in
            let o : texts_of (old_names (ss ++ t ∷ [])) ≡ texts_of (old_names ss) ++ p.0.text ∷ [] =
            ap texts_of (map-push (λ (s : Shift). s.name) ss t) ∙ map-push (λ (n : Name). n.text) (old_names ss) t.name ∙ ap (λ (n : Name). texts_of (old_names ss) ++ n.text ∷ []) d.name in
            let lows : bases (ss ++ t ∷ []) ≡ shifts_of fs ys =
            map-push {Y = Name × ℤ} (λ (s : Shift). (s.name, s.by)) ss t ∙ (λ i. h.lows i ++ (d.name i, d.by i) ∷ []) ∙ ap (λ gs. shifts_of fs xs ++ gs) e ∙ sym all in
            let fresh = AreFresh-more T (texts_of (old_names ss)) (texts_of (new_names ss)) p.0.text t.fresh.text h.fresh (IsFresh-after T U (texts_of (new_names ss)) p.0.text t.fresh.text h.taken d.fresh) in
            let ints = ints-push ss t h.ints (ap (λ (n : Name). n.sort) d.name ∙ int) d.sort in
            let looks : (n : Name) → lookup (same_name n) (images_at ts ds) ≡ lookup (same_name n) (images_of (ss ++ t ∷ [])) =
            λ n. lookup_images_same ts (same_name n) ds (es ++ (p.0, d.term) ∷ []) (d.looks n) ∙ ap (lookup (same_name n)) (images_at-append ts es ((p.0, d.term) ∷ [])) ∙ lookup-append (same_name n) (images_at ts es) ((p.0, tree_at ts d.term) ∷ [])
            ∙ (λ i. or_else (looks_extend S ts es (images_of ss) ext a h.looks n i) (lookup (same_name n) ((sym d.name i, d.shows.is i) ∷ []))) ∙ sym (lookup-append (same_name n) (images_of ss) ((t.name, shifted t) ∷ []))
            ∙ ap (lookup (same_name n)) (sym (images_of-append ss (t ∷ []))) in
            subst (λ rs. HasShifts T ts fs ys V ds rs) (sym d.shifts)
            (record {
              lows = lows;
              fresh = subst (λ L. AreFresh T L (texts_of (new_names (ss ++ t ∷ [])))) (sym o) (subst (λ L. AreFresh T (texts_of (old_names ss) ++ p.0.text ∷ []) L) (sym f) fresh);
              ints = ints;
              taken = λ u. taken_then T U (texts_of (new_names ss)) V t.fresh.text h.taken d.taken u ∙ ap (λ L. is_taken (T ++ L) u) (sym f);
              looks = looks;
            })
    by (p ∷ q ∷ ps) e s = absurd s

-- nothing is shifted yet
pub has_none : (T : List (List ℕ)) (ts fs : List Tree) (es : List (Name × ℕ)) (ss : List Shift) → es ≡ [] → ss ≡ [] → HasShifts T ts fs [] T es ss
has_none T ts fs es ss e s =
    subst (λ es. HasShifts T ts fs [] T es ss) (sym e) (subst (λ ss. HasShifts T ts fs [] T [] ss) (sym s) (record { lows = refl; fresh = tt; ints = tt; taken = λ t. ap (λ L. is_taken L t) (sym (append-nil T)); looks = λ n. refl }))

-- the substitution that the table stands for
pub looks_replaced : (ts : List Tree) (es : List (Name × ℕ)) (ss : List Shift) (fs : List Tree) → ((n : Name) → lookup (same_name n) (images_at ts es) ≡ lookup (same_name n) (images_of ss)) → replaced_each (images_at ts es) fs ≡ replaced_each (images_of ss) fs
looks_replaced ts es ss fs h = replaced_each_agree (images_at ts es) (images_of ss) (λ n. ap (λ o. unwrap_or o (Var n)) (h n)) fs

-- a name that is shifted
pub step_one : (ts us : List Tree) (i : ℕ) (x : Name) (z : ℤ) (ps : List (Name × ℤ)) (T U : List (List ℕ)) (es fs : List (Name × ℕ)) (ss rs : List Shift) → HasSort sort.Int us i → tree_at us i ≡ Var x → ps ≡ (x, z) ∷ [] → AddsShift ts x z T U es fs ss rs → Step ts ps T U es fs ss rs
step_one ts us i x z ps T U es fs ss rs h e q a = subst (λ ps. Step ts ps T U es fs ss rs) (sym q) (sym (ap sort_of e) ∙ h.1, a)

-- all names are shifted
pub shifts_all : (T : List (List ℕ)) (ts fs : List Tree) (k : ℕ) (U : List (List ℕ)) (es : List (Name × ℕ)) (ss : List Shift) → length (names_of fs) ≤ k → HasShifts T ts fs (take k (names_of fs)) U es ss → Shifts T fs ss
shifts_all T ts fs k U es ss l h = record { lows = h.lows ∙ ap (shifts_of fs) (take_all (names_of fs) k l); fresh = h.fresh; ints = h.ints }
  where
    take_all : (ns : List Name) (k : ℕ) → length ns ≤ k → take k ns ≡ ns
    take_all [] zero h = refl
    take_all [] (suc k) h = refl
    take_all (n ∷ ns) zero h = absurd (omega (arith, h))
    take_all (n ∷ ns) (suc k) h = ap (λ ms. n ∷ ms) (take_all ns k (omega (arith, h)))

pub shifts_are : (T : List (List ℕ)) (g fs : List Tree) (ss : List Shift) → ((t : List ℕ) → is_taken T t ≡ is_taken (texts_of (names_of g)) t) → Shifts T fs ss → AreShifts g fs ss
shifts_are T g fs ss e h = record { lows = h.lows; fresh = AreFresh-alike T (texts_of (names_of g)) (texts_of (old_names ss)) (texts_of (new_names ss)) e h.fresh; ints = h.ints }
