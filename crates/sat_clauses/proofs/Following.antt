-- What follows from numbered clauses follows from the formulas that they were read from.
use Rattle.std.proofs.Common.{◌≡◌, ℕ, zero, suc, ◌-◌, Bool as Truth, true, false, ◌&&◌, List, [], ◌∷◌, refl, sym, ap, subst, ◌∙◌, if◌then◌else◌, Some, None, nat_eq, slice_get}
use Rattle.std.specs.List.{list_all}
use Rattle.qterm.specs.declared.name.Name.{Name}
use Rattle.qterm.specs.Tree.{Tree}
use Rattle.rup.specs.declared.literal.Lit.{Lit as Numbered}
use Rattle.rup.specs.Literals as numbers
use Rattle.rup.specs.Rup as rup
use Rattle.tac_cert.specs.Items.{formula_of}
use Rattle.tac_cert.specs.Accepts.{as_items}
use Rattle.tac_cert.specs.Clauses.{lits_of, lits_at}
use Rattle.tac_cert.specs.Rup.{has, has_pair, follows, is_rup}
use Rattle.sat_clauses.specs.Coding.{clause_with, shown_clause, AreBelow, AllBelow, AreRead, AreDifferent}
use Rattle.sat_clauses.proofs.Coded.{Names, names_same, Says, Within, pair_same, has_same, follows_same}

-- ---- items by their numbers
at_place : (f : ℕ → Name) (ts : List Tree) (known : List (List Numbered)) (k : ℕ) → AreRead f ts known → lits_at (formula_of (slice_get (as_items ts) k)) ≡ shown_clause f (slice_get known k)
at_place f [] [] k r = refl
at_place f (t ∷ ts) (c ∷ cs) zero r = r.0
at_place f (t ∷ ts) (c ∷ cs) (suc k) r = at_place f ts cs k r.1
at_place f [] (c ∷ cs) k r = absurd r
at_place f (t ∷ ts) [] k r = absurd r

read_says : (f : ℕ → Name) (v : ℕ) (n : Names f v) (ts : List Tree) (known : List (List Numbered)) → AreRead f ts known → Says f v n (as_items ts) known
read_says f v n ts known r h = by (nat_eq h 0)
  where
    by : (b : Truth) → lits_at (formula_of (if b then None else slice_get (as_items ts) (h - 1))) ≡ shown_clause f (if b then None else slice_get known (h - 1))
    by true = refl
    by false = at_place f ts known (h - 1) r

below_at : (v : ℕ) (known : List (List Numbered)) (k : ℕ) (c : List Numbered) → AllBelow v known → slice_get known k ≡ Some c → AreBelow v c
below_at v [] k c b e = cc
below_at v (x ∷ xs) zero c b e = let is : x ≡ c = cc in subst (AreBelow v) is b.0
below_at v (x ∷ xs) (suc k) c b e = below_at v xs k c b.1 e

all_within : (f : ℕ → Name) (v : ℕ) (n : Names f v) (known : List (List Numbered)) → AllBelow v known → Within f v n known
all_within f v n known b h c e = by (nat_eq h 0) e
  where
    by : (z : Truth) → (if z then None else slice_get known (h - 1)) ≡ Some c → AreBelow v c
    by true q = cc
    by false q = below_at v known (h - 1) c b q

-- ---- the law
pub rup_follows : (f : ℕ → Name) (v : ℕ) (ts : List Tree) (known : List (List Numbered)) (t : Tree) (c : List Numbered) (hints : List ℕ) → AreDifferent v f → AreRead f ts known → AllBelow v known → AreBelow v c → lits_of t ≡ Some (clause_with f c) → rup.rup known c hints ≡ true → is_rup (as_items ts) t hints ≡ true
rup_follows f v ts known t c hints d r b n is e =
    let same = names_same f v d in
    ap (λ o. follows (as_items ts) o hints) is ∙ sym (follows_same f v same (as_items ts) known (read_says f v same ts known r) (all_within f v same known b) c hints n) ∙ e

pub pairs_same : (f : ℕ → Name) (v : ℕ) (c : List Numbered) → AreDifferent v f → AreBelow v c → has_pair (clause_with f c) ≡ numbers.has_pair c
pairs_same f v c d n = sym (pair_same f v (names_same f v d) c n)

pub contains_same : (f : ℕ → Name) (v : ℕ) (c k : List Numbered) → AreDifferent v f → AreBelow v c → AreBelow v k → list_all (has (clause_with f c)) (clause_with f k) ≡ numbers.within k c
contains_same f v c [] d n m = refl
contains_same f v c (l ∷ k) d n m = λ i. sym (has_same f v (names_same f v d) c l n m.0) i && contains_same f v c k d n m.1 i
