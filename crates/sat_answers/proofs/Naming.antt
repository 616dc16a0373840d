-- The names of formulas in name order: none stands twice, and those of clauses are Bool.
use Rattle.std.proofs.Common.{◌≡◌, ℕ, zero, suc, ◌<◌, List, [], ◌∷◌, length, get_or, Contains, inl, inr, refl, sym, ap, ◌∙◌, arith, Option, Some, None, if◌then◌else◌, Bool as Truth, true, false}
use Rattle.std.specs.declared.cmp.Ordering.{Ordering}
use Rattle.std.specs.declared.cmp.Ordering.TheVariants.{Less, Equal, Greater}
use Rattle.std.specs.Ordering.{ordering_reverse}
use Rattle.std.proofs.lemmas.List.Elements.{Contains-append_cases}
use Rattle.qterm.specs.declared.name.Name.{Name}
use Rattle.qterm.specs.declared.name.Sort.{Sort}
use Rattle.qterm.specs.declared.name.Sort.TheVariants as sort
use Rattle.qterm.specs.Tree.{Tree, Trees, False, Var, Not, Or, none, more}
use Rattle.qterm.proofs.Members.{Contains_none, Contains_cases}
use Rattle.qlin.specs.Order.{name_cmp, by_order}
use Rattle.qlin.proofs.Orders.{name_cmp_total, itself, less≢equal}
use Rattle.qsubst.specs.Names.{names, names_all, names_in, insert_name, in_order, names_of}
use Rattle.qsubst.proofs.Occurring.{from_subterms_of, cmp_vars}
use Rattle.qgoal.specs.Meaning.{HasName}
use Rattle.rup.specs.declared.literal.Lit.{Lit as Numbered}
use Rattle.tac_cert.specs.Names.{is_int}
use Rattle.tac_cert.specs.Clauses.{Lit, name_lit, lit_of, negated_lit, put_lit, lits_in, lits_of}
use Rattle.sat_clauses.specs.Coding.{AreRead}

-- ---- each name once
abbrev IsUnder : Name → List Name → Type 0
IsUnder n [] = Unit {0}
IsUnder n (m ∷ ms) = (name_cmp n m ≡ Less) × IsUnder n ms

abbrev Rises : List Name → Type 0
Rises [] = Unit {0}
Rises (n ∷ ns) = IsUnder n ns × Rises ns

under_all : (k n : Name) (ms : List Name) → name_cmp k n ≡ Less → IsUnder n ms → IsUnder k ms
under_all k n [] e u = tt
under_all k n (m ∷ ms) e u = (name_cmp_total.trans k n m e u.0, under_all k n ms e u.1)

under_insert : (k n : Name) (ms : List Name) → name_cmp k n ≡ Less → IsUnder k ms → IsUnder k (insert_name n ms)
under_insert k n [] e u = (e, tt)
under_insert k n (m ∷ ms) e u = by (name_cmp n m) (under_insert k n ms e u.1)
  where
    by : (o : Ordering) → IsUnder k (insert_name n ms) → IsUnder k (by_order o (n ∷ m ∷ ms) (m ∷ ms) (m ∷ insert_name n ms))
    by Less h = (e, u)
    by Equal h = u
    by Greater h = (u.0, h)

insert_rises : (n : Name) (ms : List Name) → Rises ms → Rises (insert_name n ms)
insert_rises n [] r = (tt, tt)
insert_rises n (m ∷ ms) r = by (name_cmp n m) refl (insert_rises n ms r.1)
  where
    by : (o : Ordering) → name_cmp n m ≡ o → Rises (insert_name n ms) → Rises (by_order o (n ∷ m ∷ ms) (m ∷ ms) (m ∷ insert_name n ms))
    by Less e h = ((e, under_all n m ms e r.0), r)
    by Equal e h = r
    by Greater e h = (under_insert m n ms (name_cmp_total.antisymm m n ∙ ap ordering_reverse e) r.0, h)

order_rises : (ns : List Name) → Rises (in_order ns)
order_rises [] = tt
order_rises (n ∷ ns) = insert_rises n (in_order ns) (order_rises ns)

not_under : (n : Name) → name_cmp n n ≡ Less → ⊥
not_under n e = less≢equal (sym e ∙ sym (cmp_vars n n) ∙ itself (Var n))

under_at : (n : Name) (ns : List Name) (j : ℕ) (d : Name) → IsUnder n ns → j < length ns → n ≡ get_or ns j d → ⊥
under_at n [] j d u l e = absurd (omega (arith, l))
under_at n (m ∷ ms) zero d u l e = not_under n (ap (name_cmp n) e ∙ u.0)
under_at n (m ∷ ms) (suc j) d u l e = under_at n ms j d u.1 (omega (arith, l)) e

once : (ns : List Name) (i j : ℕ) (d : Name) → Rises ns → i < length ns → j < length ns → get_or ns i d ≡ get_or ns j d → i ≡ j
once [] i j d r p q e = absurd (omega (arith, p))
once (n ∷ ns) zero zero d r p q e = refl
once (n ∷ ns) zero (suc j) d r p q e = absurd (under_at n ns j d r.0 (omega (arith, q)) e)
once (n ∷ ns) (suc i) zero d r p q e = absurd (under_at n ns i d r.0 (omega (arith, p)) (sym e))
once (n ∷ ns) (suc i) (suc j) d r p q e = ap suc (once ns i j d r.1 (omega (arith, p)) (omega (arith, q)) e)

pub names_once : (cs : List Tree) (i j : ℕ) (d : Name) → i < length (names_of cs) → j < length (names_of cs) → get_or (names_of cs) i d ≡ get_or (names_of cs) j d → i ≡ j
unfolding names_of
names_once cs i j d p q e = once (in_order (names_in cs)) i j d (order_rises (names_in cs)) p q e

-- ---- the names of clauses are Bool
bool_sort : (s : Sort) → is_int s ≡ false → s ≡ sort.Bool
bool_sort sort.Bool e = refl
bool_sort sort.Int e = cc

name_bool : (n : Name) (p : Truth) (l : Lit) → name_lit n p ≡ Some l → n.sort ≡ sort.Bool
name_bool n p l e = by (is_int n.sort) refl e
  where
    by : (b : Truth) → is_int n.sort ≡ b → (if b then None else Some (record { name = n; positive = p })) ≡ Some l → n.sort ≡ sort.Bool
    by true h e = cc
    by false h e = bool_sort n.sort h

one_name : (m n : Name) → Contains (m ∷ []) n → n ≡ m
one_name m n h = elim (Contains_cases m [] n h) [
  | inl e ↦ e
  | inr k ↦ absurd (Contains_none n k)
]

var_bool : (m : Name) (p : Truth) (l : Lit) → name_lit m p ≡ Some l → (n : Name) → Contains (m ∷ []) n → n.sort ≡ sort.Bool
var_bool m p l e n h = ap (λ (x : Name). x.sort) (one_name m n h) ∙ name_bool m p l e

negated_bool : (t : Tree) (l : Lit) → negated_lit t ≡ Some l → (n : Name) → Contains (names t) n → n.sort ≡ sort.Bool
unfolding names
negated_bool (Var m) l e n h = var_bool m false l e n h
negated_bool t l e n h = cc

lit_bool : (t : Tree) (l : Lit) → lit_of t ≡ Some l → (n : Name) → Contains (names t) n → n.sort ≡ sort.Bool
unfolding names
lit_bool (Var m) l e n h = var_bool m true l e n h
lit_bool (Not t) l e n h = negated_bool t l e n h
lit_bool t l e n h = cc

lits_bool : (ts : Trees) (c : List Lit) → lits_in ts ≡ Some c → (n : Name) → Contains (names_all ts) n → n.sort ≡ sort.Bool
unfolding names_all
lits_bool none c e n h = absurd (Contains_none n h)
lits_bool (more t ts) c e n h = by (lit_of t) (lits_in ts) refl refl e (λ ls q k. lits_bool ts ls q n k)
  where
    by : (o : Option Lit) (os : Option (List Lit)) → lit_of t ≡ o → lits_in ts ≡ os → put_lit o os ≡ Some c → ((ls : List Lit) → lits_in ts ≡ Some ls → Contains (names_all ts) n → n.sort ≡ sort.Bool) → n.sort ≡ sort.Bool
    by None os p q e f = cc
    by (Some l) None p q e f = cc
    by (Some l) (Some ls) p q e f = elim (Contains-append_cases (names t) (names_all ts) n h) [
      | inl k ↦ lit_bool t l p n k
      | inr k ↦ f ls q k
    ]

single_bool : (t : Tree) (c : List Lit) → put_lit (lit_of t) (Some []) ≡ Some c → (n : Name) → Contains (names t) n → n.sort ≡ sort.Bool
single_bool t c e n h = by (lit_of t) refl e
  where
    by : (o : Option Lit) → lit_of t ≡ o → put_lit o (Some []) ≡ Some c → n.sort ≡ sort.Bool
    by None p e = cc
    by (Some l) p e = lit_bool t l p n h

clause_bool : (t : Tree) (c : List Lit) → lits_of t ≡ Some c → (n : Name) → Contains (names t) n → n.sort ≡ sort.Bool
unfolding names
clause_bool False c e n h = absurd (Contains_none n h)
clause_bool (Or ts) c e n h = lits_bool ts c e n h
clause_bool t c e n h = single_bool t c e n h

read_bool : (f : ℕ → Name) (cs : List Tree) (known : List (List Numbered)) → AreRead f cs known → (n : Name) → Contains (names_in cs) n → n.sort ≡ sort.Bool
unfolding names_in
read_bool f [] known r n h = absurd (Contains_none n h)
read_bool f (t ∷ ts) [] r n h = absurd r
read_bool f (t ∷ ts) (c ∷ known) r n h = elim (Contains-append_cases (names t) (names_in ts) n h) [
  | inl k ↦ clause_bool t _ r.0 n k
  | inr k ↦ read_bool f ts known r.1 n k
]

-- a name of formulas that are clauses is Bool
pub bool_names : (f : ℕ → Name) (cs : List Tree) (known : List (List Numbered)) → AreRead f cs known → (n : Name) → HasName cs n → n.sort ≡ sort.Bool
bool_names f cs known r n h = read_bool f cs known r n (from_subterms_of cs n h)
