-- Keeping items.
use Rattle.std.proofs.Common.{◌≡◌, ℕ, suc, zero, ◌+◌, ◌<◌, ◌≤◌, List, [], ◌∷◌, ◌++◌, length, get_or, drop, Option, Some, None, refl, sym, ap, subst, ◌∙◌, arith}
use Rattle.std.proofs.lemmas.List.{get_or_default}
use Rattle.qterm.specs.Tree.{Tree}
use Rattle.tac_cert.specs.Formulas as formulas
use Rattle.cert_items.specs.declared.held.Held.{Held}
use Rattle.cert_items.specs.Held.{item as held_item, put, kept, shown_all, shown_some, IsIn, AllIn}
use Rattle.cert_items.proofs.Growing.{item_shown, item_held, shown_item, IfHeld}

abbrev pub joined : List Held → Option (List Held) → Option (List Held)
joined xs None = None
joined xs (Some ys) = Some (xs ++ ys)

append_one : (xs ys : List Held) (h : Held) → xs ++ (h ∷ ys) ≡ (xs ++ h ∷ []) ++ ys
append_one [] ys h = refl
append_one (x ∷ xs) ys h = ap (λ r. x ∷ r) (append_one xs ys h)

append_none : (xs : List Held) → xs ++ [] ≡ xs
append_none [] = refl
append_none (x ∷ xs) = ap (λ r. x ∷ r) (append_none xs)

joined_put : (xs : List Held) (h : Held) (o : Option (List Held)) → joined xs (put (Some h) o) ≡ joined (xs ++ h ∷ []) o
joined_put xs h None = refl
joined_put xs h (Some ys) = ap Some (append_one xs ys h)

pub joined_none : (xs : List Held) (o : Option (List Held)) → xs ≡ [] → joined xs o ≡ o
joined_none xs o e = ap (λ ys. joined ys o) e ∙ by o
  where
    by : (o : Option (List Held)) → joined [] o ≡ o
    by None = refl
    by (Some ys) = refl

drop_number : (ns : List ℕ) (k n : ℕ) → k < length ns → n ≡ get_or ns k n → drop k ns ≡ n ∷ drop (k + 1) ns
drop_number ns k n l e = let s : k + 1 ≡ suc k = omega arith in rw s (by ns k l e)
  where
    by : (ns : List ℕ) (k : ℕ) → k < length ns → n ≡ get_or ns k n → drop k ns ≡ n ∷ drop (suc k) ns
    by [] k l e = absurd (omega (arith, l))
    by (m ∷ ns) zero l e = λ i. sym e i ∷ ns
    by (m ∷ ns) (suc k) l e = by ns k (omega (arith, l)) e

pub kept_next : (items xs more : List Held) (ns : List ℕ) (k n : ℕ) (o : Option Held) (h : Held) → k < length ns → n ≡ get_or ns k 0 → o ≡ held_item items n → o ≡ Some h → more ≡ xs ++ h ∷ []
    → joined more (kept items (drop (k + 1) ns)) ≡ joined xs (kept items (drop k ns))
kept_next items xs more ns k n o h l e f g m =
    sym (ap (λ js. joined xs (kept items js)) (drop_number ns k n l (e ∙ get_or_default ns k 0 n l)) ∙ ap (λ x. joined xs (put x (kept items (drop (k + 1) ns)))) (sym f ∙ g) ∙ joined_put xs h (kept items (drop (k + 1) ns)) ∙ ap (λ ys. joined ys (kept items (drop (k + 1) ns))) (sym m))

pub kept_stop : (items xs : List Held) (ns : List ℕ) (k n : ℕ) (o : Option Held) → k < length ns → n ≡ get_or ns k 0 → o ≡ held_item items n → o ≡ None → joined xs (kept items (drop k ns)) ≡ None
kept_stop items xs ns k n o l e f g =
    ap (λ js. joined xs (kept items js)) (drop_number ns k n l (e ∙ get_or_default ns k 0 n l)) ∙ ap (λ x. joined xs (put x (kept items (drop (k + 1) ns)))) (sym f ∙ g)

pub kept_all : (items xs : List Held) (ns : List ℕ) (k : ℕ) → length ns ≤ k → joined xs (kept items (drop k ns)) ≡ Some xs
kept_all items xs ns k l = ap (λ js. joined xs (kept items js)) (none_left ns k l) ∙ ap Some (append_none xs)
  where
    none_left : (ns : List ℕ) (k : ℕ) → length ns ≤ k → drop k ns ≡ []
    none_left [] zero l = refl
    none_left [] (suc k) l = refl
    none_left (n ∷ ns) zero l = absurd (omega (arith, l))
    none_left (n ∷ ns) (suc k) l = none_left ns k (omega (arith, l))

-- what is kept, as trees
shown_put : (ts : List Tree) (o : Option Held) (p : Option (List Held)) → shown_some ts (put o p) ≡ formulas.put (shown_item ts o) (shown_some ts p)
shown_put ts None p = refl
shown_put ts (Some h) None = refl
shown_put ts (Some h) (Some hs) = refl

pub kept_shown : (ts : List Tree) (hs : List Held) (ns : List ℕ) → shown_some ts (kept hs ns) ≡ formulas.kept (shown_all ts hs) ns
kept_shown ts hs [] = refl
kept_shown ts hs (n ∷ ns) = shown_put ts (held_item hs n) (kept hs ns) ∙ (λ i. formulas.put (sym (item_shown ts hs n) i) (kept_shown ts hs ns i))

-- an item that is kept is there
pub kept_in : (ts : List Tree) (hs : List Held) (n : ℕ) (o : Option Held) (h : Held) → AllIn ts hs → o ≡ held_item hs n → o ≡ Some h → IsIn ts h
kept_in ts hs n o h a e f = subst (IfHeld ts) (sym e ∙ f) (item_held ts hs n a)
