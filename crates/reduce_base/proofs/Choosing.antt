-- Places without later repeats, and the parts of canonical formulas at their places.
use Rattle.std.proofs.Common.{◌≡◌, ℕ, suc, zero, ◌+◌, ◌<◌, ◌||◌, Bool as Truth, true, false, not, List, [], ◌∷◌, ◌++◌, map, length, take, drop, get_or, All, Some, refl, sym, ap, subst, ◌∙◌, arith, drop-cons, if◌then◌else◌}
use Rattle.std.specs.List.{list_any, slice_get}
use Rattle.std.proofs.lemmas.List.{take_more}
use Rattle.qcanon.proofs.Listing.{tidied_once, tidied_false}
use Rattle.std.proofs.lemmas.Option.{slice_get_read, get_or_from_slice_get}
use Rattle.indexmap.specs.IndexSet.{insert_all, insert_key}
use Rattle.qterm.specs.Tree.{Tree, False}
use Rattle.qterm.specs.declared.name.Sort.TheVariants as sort
use Rattle.qterm.specs.Store.{Has, HasSort, tree_at, trees_of, IsDistinct}
use Rattle.qterm.proofs.Alls.{All-nil, All-cons, All-head, All-tail, All-weaker}
use Rattle.qwalk.specs.Walk.{same_id}
use Rattle.qlin.specs.Order.{same}
use Rattle.qlin.specs.CanonList.{is_in, spread}
use Rattle.qcanon_laws.proofs.Canonical.{same_itself, not_same}
use Rattle.reduce_base.specs.declared.places.Place.{Place}
use Rattle.reduce_base.specs.Trace.{ArePlaced, IsAt, AreChosen}
use Rattle.reduce_base.proofs.Pushing.{at_before, at_behind}

-- the rest begins with the one that is read
pub rest_is : {X : Type 0} (xs : List X) (n : ℕ) (x : X) → n < length xs → x ≡ get_or xs n x → drop n xs ≡ x ∷ drop (n + 1) xs
rest_is xs n x h e = let one : suc n ≡ n + 1 = omega arith in drop-cons xs n x h ∙ (λ k. sym e k ∷ drop (one k) xs)

ids_push : (ps : List Place) (p : Place) → map (λ q. q.id) (ps ++ p ∷ []) ≡ map (λ q. q.id) ps ++ p.id ∷ []
ids_push [] p = refl
ids_push (q ∷ ps) p = ap (λ is. q.id ∷ is) (ids_push ps p)

pub ids_pushed : (ps qs : List Place) (p : Place) → qs ≡ ps ++ p ∷ [] → map (λ q. q.id) qs ≡ map (λ q. q.id) ps ++ p.id ∷ []
ids_pushed ps qs p e = ap (map (λ q. q.id)) e ∙ ids_push ps p

-- one place more is taken in, or was there
pub once_more : (places : List Place) (n : ℕ) (p : Place) (ks new all : List ℕ) → n < length places → p ≡ get_or places n p → insert_all same_id ks (map (λ q. q.id) (drop n places)) ≡ all → new ≡ insert_key same_id ks p.id
    → insert_all same_id new (map (λ q. q.id) (drop (n + 1) places)) ≡ all
once_more places n p ks new all l e h k =
    ap (λ x. insert_all same_id x (map (λ q. q.id) (drop (n + 1) places))) k ∙ sym (ap (λ ps. insert_all same_id ks (map (λ q. q.id) ps)) (rest_is places n p l e)) ∙ h

key_there : (ks : List ℕ) (i : ℕ) (b : Truth) → b ≡ not (list_any (same_id i) ks) → insert_key same_id ks i ≡ (if b then ks ++ i ∷ [] else ks)
key_there ks i b h = by (list_any (same_id i) ks) refl
  where
    by : (a : Truth) → list_any (same_id i) ks ≡ a → insert_key same_id ks i ≡ (if b then ks ++ i ∷ [] else ks)
    by true e = ap (λ a. if a then ks else ks ++ i ∷ []) e ∙ ap (λ a. if a then ks ++ i ∷ [] else ks) (sym (h ∙ ap not e))
    by false e = ap (λ a. if a then ks else ks ++ i ∷ []) e ∙ ap (λ a. if a then ks ++ i ∷ [] else ks) (sym (h ∙ ap not e))

pub key_new : (ks : List ℕ) (i : ℕ) (b : Truth) → b ≡ not (list_any (same_id i) ks) → true ≡ b → insert_key same_id ks i ≡ ks ++ i ∷ []
key_new ks i b h e = key_there ks i b h ∙ ap (λ a. if a then ks ++ i ∷ [] else ks) (sym e)

pub key_old : (ks : List ℕ) (i : ℕ) (b : Truth) → b ≡ not (list_any (same_id i) ks) → false ≡ b → insert_key same_id ks i ≡ ks
key_old ks i b h e = key_there ks i b h ∙ ap (λ a. if a then ks ++ i ∷ [] else ks) (sym e)

pub placed_get : (is : List ℕ) (ps : List Place) (n : ℕ) (p : Place) → ArePlaced is ps → n < length ps → p ≡ get_or ps n p → IsAt is p.number p.id
placed_get is [] n p h l e = absurd (omega (arith, l))
placed_get is (q ∷ ps) zero p h l e = subst (λ x. IsAt is x.number x.id) (sym e) h.0
placed_get is (q ∷ ps) (suc n) p h l e = placed_get is ps n p h.1 (omega (arith, l)) e

-- ---- false
pub false_next : (ts : List Tree) (is : List ℕ) (n i : ℕ) → n < length is → i ≡ get_or is n i → (tree_at ts i ≡ False → ⊥) → is_in False (trees_of ts (drop n is)) ≡ is_in False (trees_of ts (drop (n + 1) is))
false_next ts is n i l e not =
    ap (λ js. is_in False (trees_of ts js)) (rest_is is n i l e) ∙ ap (λ b. b || is_in False (trees_of ts (drop (n + 1) is))) (not_same False (tree_at ts i) (λ h. not (sym h)))

pub false_here : (ts : List Tree) (is : List ℕ) (n i : ℕ) → n < length is → i ≡ get_or is n i → tree_at ts i ≡ False → is_in False (trees_of ts (drop n is)) ≡ true
false_here ts is n i l e h =
    ap (λ js. is_in False (trees_of ts js)) (rest_is is n i l e) ∙ ap (λ b. b || is_in False (trees_of ts (drop (n + 1) is))) (ap (same False) h ∙ same_itself False)

-- a form at its place behind the formulas before the forms
pub form_place : (before forms start items more : List ℕ) (behind k n c : ℕ) → start ≡ before ++ forms → length before ≡ behind → items ≡ start ++ more → k < length forms → c ≡ get_or forms k c → n ≡ behind + k + 1 → IsAt items n c
form_place before forms start items more behind k n c s b i l g num =
    let get : slice_get forms k ≡ Some c = slice_get_read forms (length forms) k c refl l g in
    let at : IsAt (before ++ forms) n c = at_behind before forms k n c get (let m : n ≡ length before + k + 1 = omega (arith, num, b) in m) in
    subst (λ x. IsAt x n c) (sym i) (at_before start more n c (subst (λ x. IsAt x n c) (sym s) at))

-- formulas behind terms are terms
pub known_more : (ts : List Tree) (is js : List ℕ) → All (Has ts) is → All (HasSort sort.Bool ts) js → All (Has ts) (is ++ js)
known_more ts [] js h g = All-weaker (HasSort sort.Bool ts) (Has ts) js (λ i a. a.0) g
known_more ts (i ∷ is) js h g = All-cons (Has ts) i (is ++ js) (All-head (Has ts) i is h) (known_more ts is js (All-tail (Has ts) i is h) g)

-- the first formula that is false, behind others
pub false_place : (before forms items : List ℕ) (behind k n i c : ℕ) → items ≡ before ++ forms → length before ≡ behind → slice_get forms k ≡ Some i → c ≡ get_or forms k c → n ≡ behind + k + 1 → (c ≡ i) × IsAt items n c
false_place before forms items behind k n i c s b get g num =
    let same : c ≡ i = g ∙ get_or_from_slice_get forms k i c get in
    (same, subst (λ x. IsAt x n c) (sym s) (at_behind before forms k n c (get ∙ ap Some (sym same)) (let m : n ≡ length before + k + 1 = omega (arith, num, b) in m)))

map_push : {A B : Type 0} (f : A → B) (xs : List A) (x : A) → map f (xs ++ x ∷ []) ≡ map f xs ++ f x ∷ []
map_push f [] x = refl
map_push f (y ∷ xs) x = ap (λ ys. f y ∷ ys) (map_push f xs x)

pub map_more : {A B : Type 0} (f : A → B) (xs : List A) (k : ℕ) (x : A) (done new : List B) → k < length xs → x ≡ get_or xs k x → done ≡ map f (take k xs) → new ≡ done ++ f x ∷ [] → new ≡ map f (take (k + 1) xs)
map_more f xs k x done new l g d n = n ∙ ap (λ ys. ys ++ f x ∷ []) d ∙ ap (λ y. map f (take k xs) ++ f y ∷ []) g ∙ sym (ap (map f) (take_more xs k x l) ∙ map_push f (take k xs) (get_or xs k x))

-- the chosen places: that of `false` alone
pub chosen_false : (ts : List Tree) (before forms items : List ℕ) (behind k n i c : ℕ) (ps : List Place) → items ≡ before ++ forms → length before ≡ behind → slice_get forms k ≡ Some i → (tree_at ts i ≡ False) × (is_in False (trees_of ts forms) ≡ true)
    → c ≡ get_or forms k c → n ≡ behind + k + 1 → ps ≡ [] ++ record { number = n; id = c } ∷ [] → All (Has ts) forms → k < length forms → AreChosen ts items forms ps
chosen_false ts before forms items behind k n i c ps s b get is g num are has l =
    let f = false_place before forms items behind k n i c s b get g num in
    let ids : map (λ (q : Place). q.id) ps ≡ c ∷ [] = ap (map (λ (q : Place). q.id)) are in
    record {
      placed = subst (ArePlaced items) (sym are) (f.1, tt);
      tidy = tidied_false ts forms (map (λ (q : Place). q.id) ps) c (ap (tree_at ts) f.0 ∙ is.0) is.1 ids;
      known = subst (All (Has ts)) (sym ids) (All-cons (Has ts) c [] (subst (Has ts) (sym g) (has k c l)) (All-nil (Has ts)));
    }

-- or those of the parts, each once
pub chosen_parts : (ts : List Tree) (items forms : List ℕ) (ps qs rs : List Place) → IsDistinct ts → is_in False (trees_of ts forms) ≡ false → qs ≡ ps → trees_of ts (map (λ (q : Place). q.id) ps) ≡ spread (trees_of ts forms) → ArePlaced items ps
    → All (Has ts) (map (λ (q : Place). q.id) ps) → map (λ (q : Place). q.id) rs ≡ insert_all same_id [] (map (λ (q : Place). q.id) qs) → ((is : List ℕ) → ArePlaced is qs → ArePlaced is rs) → AreChosen ts items forms rs
chosen_parts ts items forms ps qs rs d plain eq parts placed known kept on =
    let t = tidied_once ts forms (map (λ (q : Place). q.id) ps) (map (λ (q : Place). q.id) rs) d known plain parts (kept ∙ ap (λ xs. insert_all same_id [] (map (λ (q : Place). q.id) xs)) eq) in
    record { placed = on items (subst (ArePlaced items) (sym eq) placed); tidy = t.0; known = t.1 }
