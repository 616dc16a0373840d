-- One turn of a loop that puts formulas or steps at the end.
use Rattle.std.proofs.Common.{◌≡◌, ℕ, ℤ, zero, suc, is_some, ◌||◌, ◌+◌, ◌^◌, ◌<◌, ◌≤◌, Bool as Truth, true, false, not, cond, length, take, drop, get_or, map, Some, unwrap_or, List, [], ◌∷◌, ◌++◌, All, refl, sym, ap, subst, ◌∙◌, arith, append-nil, append_assoc, add-one, drop-cons, if◌then◌else◌}
use Rattle.std.specs.Prelude.{pos, negsuc}
use Rattle.std.proofs.lemmas.List.{take_more}
use Rattle.std.proofs.lemmas.Grind.{pow_more}
use Rattle.std.specs.Map.{lookup}
use Rattle.std.specs.List.{list_any}
use Rattle.qterm.specs.declared.name.Name.{Name}
use Rattle.qterm.specs.declared.name.Sort.{Sort}
use Rattle.qterm.specs.declared.name.Sort.TheVariants as sort
use Rattle.qterm.specs.Tree.{Tree, Var, Num, Sum, Scale, Le}
use Rattle.qterm.specs.Kids.{row}
use Rattle.qterm.specs.declared.term.Term.{Term}
use Rattle.qterm.specs.declared.term.Term.TheVariants as term
use Rattle.qterm.specs.Store.{grow, tree_at, trees_at, trees_of, Has, HasSort, Shows, Extends}
use Rattle.qterm.proofs.Alls.{All-push, All-weaker}
use Rattle.qterm.proofs.KidsLaws.{row-trees_of, trees_of-append}
use Rattle.qterm.proofs.Fitting.{All_HasSort_extends}
use Rattle.qterm.proofs.Extending.{trees_of_extends, Extends_trans}
use Rattle.qeval.specs.Value.{same_name}
use Rattle.qsubst.specs.Substitution.{images_at, replaced_each, AreImages}
use Rattle.qsubst.proofs.Looking.{or_else, lookup-append, lookup_images_same, images_at-append, replaced_each_agree}
use Rattle.qsubst.proofs.Rebuilding.{images_extend}
use Rattle.bit_lists.specs.declared.splits.Split.{Split}
use Rattle.bit_lists.specs.Splits.{all_bits, AllInt, AreInt}
use Rattle.bit_lists.specs.Row.{weighted, bit_sum, images_of, is_split, bounds_split, is_bound, unbounded, bit_bounds, sum_bound, following}
use Rattle.bit_lists.specs.Lifting.{form_of, forget_of}
use Rattle.bit_lists.specs.Steps.{AreSmall, HasImages}

-- ---- lists, element by element
drop_is : {X : Type 0} (xs : List X) (k : ℕ) (x : X) → k < length xs → x ≡ get_or xs k x → drop k xs ≡ x ∷ drop (k + 1) xs
drop_is xs k x l e = rw (add-one, drop-cons xs k x l, ← e) refl

drop_end : {X : Type 0} (xs : List X) (k : ℕ) → length xs ≤ k → drop k xs ≡ []
drop_end [] zero l = refl
drop_end [] (suc k) l = refl
drop_end (y ∷ ys) zero l = absurd (omega (arith, l))
drop_end (y ∷ ys) (suc k) l = drop_end ys k (omega (arith, l))

-- what is there, and what is still to come, are all
pub next : {X Y : Type 0} (f : List X → List Y) (xs : List X) (k : ℕ) (x : X) (one done new all : List Y) → ((rest : List X) → f (x ∷ rest) ≡ one ++ f rest) → k < length xs → x ≡ get_or xs k x → new ≡ done ++ one → done ++ f (drop k xs) ≡ all → new ++ f (drop (k + 1) xs) ≡ all
next f xs k x one done new all c l e n h =
    ap (λ y. y ++ f (drop (k + 1) xs)) n ∙ append_assoc done one (f (drop (k + 1) xs)) ∙ ap (λ y. done ++ y) (sym (c (drop (k + 1) xs)) ∙ sym (ap f (drop_is xs k x l e))) ∙ h

pub ended : {X Y : Type 0} (f : List X → List Y) (xs : List X) (k : ℕ) (done all : List Y) → f [] ≡ [] → length xs ≤ k → done ++ f (drop k xs) ≡ all → done ≡ all
ended f xs k done all z l h = sym (append-nil done) ∙ ap (λ y. done ++ y) (sym z ∙ sym (ap f (drop_end xs k l))) ∙ h

-- an element of a list has what all have
pub int_at : (bs : List Name) (k : ℕ) (b : Name) → AllInt bs → k < length bs → b ≡ get_or bs k b → b.sort ≡ sort.Int
int_at [] k b i l e = absurd (omega (arith, l))
int_at (c ∷ bs) zero b i l e = ap (λ (n : Name). n.sort) e ∙ i.0
int_at (c ∷ bs) (suc k) b i l e = int_at bs k b i.1 (omega (arith, l)) e

pub bits_at : (ss : List Split) (k : ℕ) (s : Split) → AreInt ss → k < length ss → s ≡ get_or ss k s → AllInt s.bits
bits_at [] k s i l e = absurd (omega (arith, l))
bits_at (r ∷ ss) zero s i l e = subst (λ (s : Split). AllInt s.bits) (sym e) i.1
bits_at (r ∷ ss) (suc k) s i l e = bits_at ss k s i.2 (omega (arith, l)) e

pub name_at : (ss : List Split) (k : ℕ) (s : Split) → AreInt ss → k < length ss → s ≡ get_or ss k s → s.name.sort ≡ sort.Int
name_at [] k s i l e = absurd (omega (arith, l))
name_at (r ∷ ss) zero s i l e = ap (λ (s : Split). s.name.sort) e ∙ i.0
name_at (r ∷ ss) (suc k) s i l e = name_at ss k s i.2 (omega (arith, l)) e

pub small_at : (ss : List Split) (k : ℕ) (s : Split) → AreSmall ss → k < length ss → s ≡ get_or ss k s → length s.bits ≤ 127
small_at [] k s i l e = absurd (omega (arith, l))
small_at (r ∷ ss) zero s i l e = subst (λ (s : Split). length s.bits ≤ 127) (sym e) i.0
small_at (r ∷ ss) (suc k) s i l e = small_at ss k s i.1 (omega (arith, l)) e

-- ---- formulas that follow
have : (s : Sort) (ts : List Tree) (is : List ℕ) → All (HasSort s ts) is → All (Has ts) is
have s ts is h = All-weaker (HasSort s ts) (Has ts) is (λ i k. k.0) h

-- one formula more at the end, over a store that has grown
pub pushed : (old new : List Tree) (is js : List ℕ) (i : ℕ) (t : Tree) → Extends old new → All (HasSort sort.Bool old) is → js ≡ is ++ i ∷ [] → Shows new i t → trees_of new js ≡ trees_of old is ++ t ∷ []
pushed old new is js i t x h e s = ap (trees_of new) e ∙ trees_of-append new is (i ∷ []) ∙ (λ k. trees_of_extends old new is x (have sort.Bool old is h) k ++ s.is k ∷ [])

pub two_pushed : (A B C : List Tree) (f g : Tree) → B ≡ A ++ f ∷ [] → C ≡ B ++ g ∷ [] → C ≡ A ++ f ∷ g ∷ []
two_pushed A B C f g p q = q ∙ ap (λ b. b ++ g ∷ []) p ∙ append_assoc A (f ∷ []) (g ∷ [])

pub both_pushed : (A B C cs bs : List Tree) → B ≡ A ++ cs → C ≡ B ++ bs → C ≡ A ++ (cs ++ bs)
both_pushed A B C cs bs p q = q ∙ ap (λ b. b ++ bs) p ∙ append_assoc A cs bs

pub following_cons : (s : Split) (ss : List Split) → following (s ∷ ss) ≡ (bit_bounds s.bits ++ sum_bound s) ++ following ss
following_cons s ss = sym (append_assoc (bit_bounds s.bits) (sum_bound s) (following ss))

-- ---- formulas that stay
pub unbounded_cons : (ss : List Split) (t : Tree) (rest : List Tree) → unbounded ss (t ∷ rest) ≡ (if is_bound ss t then [] else t ∷ []) ++ unbounded ss rest
unbounded_cons ss t rest = by (is_bound ss t)
  where
    by : (b : Truth) → cond (not b) (t ∷ unbounded ss rest) (unbounded ss rest) ≡ (if b then [] else t ∷ []) ++ unbounded ss rest
    by true = refl
    by false = refl

-- ---- steps
map-both : {X Y : Type 0} (f : X → Y) (xs ys : List X) → map f (xs ++ ys) ≡ map f xs ++ map f ys
map-both f [] ys = refl
map-both f (x ∷ xs) ys = ap (λ zs. f x ∷ zs) (map-both f xs ys)

pub forgets_cons : (s : Split) (ss : List Split) → map forget_of (all_bits (s ∷ ss)) ≡ map forget_of s.bits ++ map forget_of (all_bits ss)
forgets_cons s ss = map-both forget_of s.bits (all_bits ss)

pub form_next : (bs : List Name) (k : ℕ) (b : Name) (p : ℤ) (done new all : List (ℤ × Name)) → k < length bs → b ≡ get_or bs k b → p ≡ pos (2 ^ k) → new ≡ done ++ (p, b) ∷ [] → done ++ form_of (2 ^ k) (drop k bs) ≡ all → new ++ form_of (2 ^ (k + 1)) (drop (k + 1) bs) ≡ all
form_next bs k b p done new all l e q n h =
    let rest = drop (k + 1) bs in
    ap (λ y. y ++ form_of (2 ^ (k + 1)) rest) (n ∙ ap (λ z. done ++ (z, b) ∷ []) q) ∙ append_assoc done ((pos (2 ^ k), b) ∷ []) (form_of (2 ^ (k + 1)) rest)
    ∙ ap (λ y. done ++ y) (ap (λ w. (pos (2 ^ k), b) ∷ form_of w rest) (pow_more 2 k) ∙ sym (ap (form_of (2 ^ k)) (drop_is bs k b l e))) ∙ h

pub form_ended : (bs : List Name) (k : ℕ) (done all : List (ℤ × Name)) → length bs ≤ k → done ++ form_of (2 ^ k) (drop k bs) ≡ all → done ≡ all
form_ended bs k done all l h = sym (append-nil done) ∙ ap (λ y. done ++ y) (sym (ap (form_of (2 ^ k)) (drop_end bs k l))) ∙ h

-- ---- sums
-- us is the store before a turn, vs the one after it
pub weighted_next : (us vs : List Tree) (bs : List Name) (old new : List ℕ) (k j : ℕ) (b : Name) (p : ℤ) (all : List Tree) → Extends us vs → All (HasSort sort.Int us) old → k < length bs → b ≡ get_or bs k b → p ≡ pos (2 ^ k) → Shows vs j (Scale p (Var b)) → new ≡ old ++ j ∷ []
    → trees_of us old ++ weighted (2 ^ k) (drop k bs) ≡ all → trees_of vs new ++ weighted (2 ^ (k + 1)) (drop (k + 1) bs) ≡ all
weighted_next us vs bs old new k j b p all f a l e r s n h =
    let rest = drop (k + 1) bs in
    let here : tree_at vs j ≡ Scale (pos (2 ^ k)) (Var b) = s.is ∙ ap (λ z. Scale z (Var b)) r in
    let before = trees_of_extends us vs old f (have sort.Int us old a) in
    ap (λ y. y ++ weighted (2 ^ (k + 1)) rest) (ap (trees_of vs) n ∙ trees_of-append vs old (j ∷ []) ∙ (λ x. before x ++ here x ∷ []))
    ∙ append_assoc (trees_of us old) (Scale (pos (2 ^ k)) (Var b) ∷ []) (weighted (2 ^ (k + 1)) rest)
    ∙ ap (λ y. trees_of us old ++ y) (ap (λ w. Scale (pos (2 ^ k)) (Var b) ∷ weighted w rest) (pow_more 2 k) ∙ sym (ap (weighted (2 ^ k)) (drop_is bs k b l e))) ∙ h

pub weighted_ended : (bs : List Name) (k : ℕ) (done all : List Tree) → length bs ≤ k → done ++ weighted (2 ^ k) (drop k bs) ≡ all → done ≡ all
weighted_ended bs k done all l h = sym (append-nil done) ∙ ap (λ y. done ++ y) (sym (ap (weighted (2 ^ k)) (drop_end bs k l))) ∙ h

pub sum_row : (ts : List Tree) (is : List ℕ) (bs : List Tree) → trees_of ts is ≡ bs → Sum (trees_at ts is) ≡ Sum (row bs)
sum_row ts is bs e = ap Sum (sym (row-trees_of ts is) ∙ ap row e)

-- ---- images
images_both : (ss rs : List Split) → images_of (ss ++ rs) ≡ images_of ss ++ images_of rs
images_both [] rs = refl
images_both (s ∷ ss) rs = ap (λ is. (s.name, bit_sum s.bits) ∷ is) (images_both ss rs)

pub no_images : (ts : List Tree) (es : List (Name × ℕ)) → es ≡ [] → HasImages ts es []
no_images ts es e n = ap (λ es. lookup (same_name n) (images_at ts es)) e

-- us is the store before a turn, vs the one after it
pub more_images : (us vs : List Tree) (es fs : List (Name × ℕ)) (ss : List Split) (k i : ℕ) (s : Split) (x : Name) → Extends us vs → AreImages us es → k < length ss → s ≡ get_or ss k s → x ≡ s.name → Shows vs i (bit_sum s.bits) → ((n : Name) → lookup (same_name n) fs ≡ lookup (same_name n) (es ++ (x, i) ∷ [])) → HasImages us es (take k ss) → HasImages vs fs (take (k + 1) ss)
more_images us vs es fs ss k i s x f a l e q w looks h n =
    lookup_images_same vs (same_name n) fs (es ++ (x, i) ∷ []) (looks n) ∙ ap (lookup (same_name n)) (images_at-append vs es ((x, i) ∷ [])) ∙ lookup-append (same_name n) (images_at vs es) ((x, tree_at vs i) ∷ [])
    ∙ (λ j. or_else ((ap (lookup (same_name n)) (images_extend us vs es f a) ∙ h n) j) (lookup (same_name n) ((q j, w.is j) ∷ []))) ∙ sym (lookup-append (same_name n) (images_of (take k ss)) ((s.name, bit_sum s.bits) ∷ []))
    ∙ ap (lookup (same_name n)) (sym (images_both (take k ss) (s ∷ [])) ∙ ap (λ r. images_of (take k ss ++ r ∷ [])) e ∙ ap images_of (sym (take_more ss k s l)))

take_all : (ss : List Split) (k : ℕ) → length ss ≤ k → take k ss ≡ ss
take_all [] zero h = refl
take_all [] (suc k) h = refl
take_all (n ∷ ns) zero h = absurd (omega (arith, h))
take_all (n ∷ ns) (suc k) h = ap (λ ms. n ∷ ms) (take_all ns k (omega (arith, h)))

pub all_images : (ts : List Tree) (es : List (Name × ℕ)) (ss : List Split) (k : ℕ) → length ss ≤ k → HasImages ts es (take k ss) → HasImages ts es ss
all_images ts es ss k l h n = h n ∙ ap (λ rs. lookup (same_name n) (images_of rs)) (take_all ss k l)

pub replaced_same : (ts : List Tree) (es : List (Name × ℕ)) (ss : List Split) (fs : List Tree) → HasImages ts es ss → replaced_each (images_at ts es) fs ≡ replaced_each (images_of ss) fs
replaced_same ts es ss fs h = replaced_each_agree (images_at ts es) (images_of ss) (λ n. ap (λ o. unwrap_or o (Var n)) (h n)) fs

-- S is the store before, T the one with the terms of the splits, U the one with the formulas replaced
pub all_split : (S T U W : List Tree) (es : List (Name × ℕ)) (ss : List Split) (list kept found all : List ℕ) → Extends S T → All (HasSort sort.Bool S) list → HasImages T es ss → trees_of T kept ≡ unbounded ss (trees_of T list) → trees_of U found ≡ replaced_each (images_at T es) (trees_of T kept)
    → trees_of W all ≡ trees_of U found ++ following ss → trees_of W all ≡ replaced_each (images_of ss) (unbounded ss (trees_of S list)) ++ following ss
all_split S T U W es ss list kept found all x b h k f a =
    let same = trees_of_extends S T list x (have sort.Bool S list b) in
    a ∙ ap (λ fs. fs ++ following ss) (f ∙ replaced_same T es ss (trees_of T kept) h ∙ ap (replaced_each (images_of ss)) (k ∙ ap (unbounded ss) same))

pub have_formulas : (ts : List Tree) (is : List ℕ) → All (HasSort sort.Bool ts) is → All (Has ts) is
have_formulas ts is h = have sort.Bool ts is h

known_there : (ts : List Tree) (p : Name → Truth) (es : List (Name × ℕ)) → is_some (lookup p es) ≡ is_some (lookup p (images_at ts es))
known_there ts p [] = refl
known_there ts p (e ∷ es) = by (p e.0) (known_there ts p es)
  where
    by : (b : Truth) → is_some (lookup p es) ≡ is_some (lookup p (images_at ts es)) → is_some (cond b (Some e.1) (lookup p es)) ≡ is_some (cond b (Some (tree_at ts e.1)) (lookup p (images_at ts es)))
    by true ih = refl
    by false ih = ih

known_split : (x : Name) (ss : List Split) → is_some (lookup (same_name x) (images_of ss)) ≡ list_any (λ (s : Split). same_name x s.name) ss
known_split x [] = refl
known_split x (s ∷ ss) = by (same_name x s.name) (known_split x ss)
  where
    by : (b : Truth) → is_some (lookup (same_name x) (images_of ss)) ≡ list_any (λ (s : Split). same_name x s.name) ss → is_some (cond b (Some (bit_sum s.bits)) (lookup (same_name x) (images_of ss))) ≡ (b || list_any (λ (s : Split). same_name x s.name) ss)
    by true ih = refl
    by false ih = ih

-- a name has a term in the table where it is split
pub known : (ts : List Tree) (es : List (Name × ℕ)) (ss : List Split) (x : Name) → HasImages ts es ss → is_some (lookup (same_name x) es) ≡ is_split ss (Var x)
known ts es ss x h = known_there ts (same_name x) es ∙ ap is_some (h x) ∙ known_split x ss

-- a term that is no product is bounded where it is split
pub not_scale : (ts : List Tree) (k : Term) (ss : List Split) (z : ℤ) → ((y : ℤ) (i : ℕ) → k ≡ term.Scale y i → ⊥) → is_split ss (grow ts k) ≡ bounds_split ss (grow ts k) z
not_scale ts (term.Scale y a) ss z h = absurd (h y a refl)
not_scale ts term.True ss z h = refl
not_scale ts term.False ss z h = refl
not_scale ts (term.Var n) ss z h = refl
not_scale ts (term.Num y) ss z h = refl
not_scale ts (term.Sum is) ss z h = refl
not_scale ts (term.Le a b) ss z h = refl
not_scale ts (term.Eq a b) ss z h = refl
not_scale ts (term.Iff a b) ss z h = refl
not_scale ts (term.Not a) ss z h = refl
not_scale ts (term.And is) ss z h = refl
not_scale ts (term.Or is) ss z h = refl
not_scale ts (term.Ite c a b) ss z h = refl

pub sorts_push : (s : Sort) (us vs : List Tree) (old new : List ℕ) (i : ℕ) → Extends us vs → All (HasSort s us) old → HasSort s vs i → new ≡ old ++ i ∷ [] → All (HasSort s vs) new
sorts_push s us vs old new i e a h n = subst (All (HasSort s vs)) (sym n) (All-push (HasSort s vs) old i (All_HasSort_extends s us vs old e a) h)

-- the bounds of a bit: S is the store before, V has the bit, T its lower bound and U its upper one
pub two_bounds : (S V T U : List Tree) (is js ks : List ℕ) (b low up : ℕ) (x y : Name) → Extends S V → Extends V T → Extends T U → All (HasSort sort.Bool S) is → y ≡ x → Shows V b (Var y) → Shows T low (Le (Scale (negsuc 0) (tree_at V b)) (Num (pos 0))) → HasSort sort.Bool T low → js ≡ is ++ low ∷ []
    → Shows U up (Le (tree_at T b) (Num (pos 1))) → ks ≡ js ++ up ∷ [] → trees_of U ks ≡ trees_of S is ++ Le (Scale (negsuc 0) (Var x)) (Num (pos 0)) ∷ Le (Var x) (Num (pos 1)) ∷ []
two_bounds S V T U is js ks b low up x y f g h a e v l d m u n =
    let here : tree_at V b ≡ Var x = v.is ∙ ap Var e in
    let there : tree_at T b ≡ Var x = g.same b v.has ∙ here in
    let fg = Extends_trans S V T f g in
    two_pushed (trees_of S is) (trees_of T js) (trees_of U ks) (Le (Scale (negsuc 0) (Var x)) (Num (pos 0))) (Le (Var x) (Num (pos 1)))
    (pushed S T is js low (Le (Scale (negsuc 0) (Var x)) (Num (pos 0))) fg a m (subst (λ t. Shows T low (Le (Scale (negsuc 0) t) (Num (pos 0)))) here l))
    (pushed T U js ks up (Le (Var x) (Num (pos 1))) h (sorts_push sort.Bool S T is js low fg a d m) n (subst (λ t. Shows U up (Le t (Num (pos 1)))) there u))

-- a bound that is put at the end where a test fails
pub if_pushed : (A B : List Tree) (t : Tree) (b d : Truth) → b ≡ d → b ≡ false → B ≡ A ++ t ∷ [] → B ≡ A ++ (if d then [] else t ∷ [])
if_pushed A B t b d e n p = p ∙ ap (λ c. A ++ (if c then [] else t ∷ [])) (sym n ∙ e)

pub none_pushed : (A : List Tree) (t : Tree) (b d : Truth) → b ≡ d → b ≡ true → A ≡ A ++ (if d then [] else t ∷ [])
none_pushed A t b d e n = sym (append-nil A) ∙ ap (λ c. A ++ (if c then [] else t ∷ [])) (sym n ∙ e)
