-- Reading clauses one by one.
use Rattle.std.proofs.Common.{◌≡◌, ℕ, zero, suc, ◌+◌, ◌<◌, ◌≤◌, List, [], ◌∷◌, ◌++◌, length, get_or, take, drop, Option, Some, None, refl, sym, ap, subst, ◌∙◌, arith}
use Rattle.std.specs.Prelude.{IfSome}
use Rattle.std.proofs.lemmas.List.{take_more, take_all}
use Rattle.qterm.specs.declared.name.Name.{Name}
use Rattle.qterm.specs.Tree.{Tree}
use Rattle.qterm.specs.Store.{tree_at, trees_of}
use Rattle.qterm.proofs.KidsLaws.{length-trees_of, trees_of-append}
use Rattle.rup.specs.declared.literal.Lit.{Lit as Numbered}
use Rattle.tac_cert.specs.Clauses.{lits_of}
use Rattle.sat_clauses.specs.Coding.{clause_with, shown_clause, AreBelow, AllBelow, AreRead, IsFirstOther}

pub read_push : (f : ℕ → Name) (ts : List Tree) (cs : List (List Numbered)) (t : Tree) (c : List Numbered) → AreRead f ts cs → lits_of t ≡ Some (clause_with f c) → AreRead f (ts ++ t ∷ []) (cs ++ c ∷ [])
read_push f [] [] t c r e = (e, tt)
read_push f (u ∷ ts) (k ∷ cs) t c r e = (r.0, read_push f ts cs t c r.1 e)
read_push f [] (k ∷ cs) t c r e = absurd r
read_push f (u ∷ ts) [] t c r e = absurd r

pub all_below_push : (v : ℕ) (cs : List (List Numbered)) (c : List Numbered) → AllBelow v cs → AreBelow v c → AllBelow v (cs ++ c ∷ [])
all_below_push v [] c b e = (e, tt)
all_below_push v (k ∷ cs) c b e = (b.0, all_below_push v cs c b.1 e)

taken : (ts : List Tree) (is : List ℕ) (i k : ℕ) → i < length is → k ≡ get_or is i k → trees_of ts (take (i + 1) is) ≡ trees_of ts (take i is) ++ tree_at ts k ∷ []
taken ts is i k l e = ap (trees_of ts) (take_more is i k l ∙ ap (λ x. take i is ++ x ∷ []) (sym e)) ∙ trees_of-append ts (take i is) (k ∷ [])

some_lits : (f : ℕ → Name) (o : Option (List Numbered)) (c : List Numbered) (t : Tree) → o ≡ Some c → shown_clause f o ≡ lits_of t → lits_of t ≡ Some (clause_with f c)
some_lits f o c t e h = sym h ∙ ap (shown_clause f) e

-- one formula more
pub read_more : (f : ℕ → Name) (ts : List Tree) (is : List ℕ) (i k : ℕ) (cs more : List (List Numbered)) (o : Option (List Numbered)) (c : List Numbered) → i < length is → k ≡ get_or is i k → AreRead f (trees_of ts (take i is)) cs → shown_clause f o ≡ lits_of (tree_at ts k) → o ≡ Some c → more ≡ cs ++ c ∷ []
    → AreRead f (trees_of ts (take (i + 1) is)) more
read_more f ts is i k cs more o c l e r h s m =
    subst (AreRead f (trees_of ts (take (i + 1) is))) (sym m) (subst (λ us. AreRead f us (cs ++ c ∷ [])) (sym (taken ts is i k l e)) (read_push f (trees_of ts (take i is)) cs (tree_at ts k) c r (some_lits f o c (tree_at ts k) s h)))

pub below_more : (v : ℕ) (cs more : List (List Numbered)) (o : Option (List Numbered)) (c : List Numbered) → AllBelow v cs → IfSome o (AreBelow v) → o ≡ Some c → more ≡ cs ++ c ∷ [] → AllBelow v more
below_more v cs more o c b h s m = subst (AllBelow v) (sym m) (all_below_push v cs c b (subst (λ (x : Option (List Numbered)). IfSome x (AreBelow v)) s h))

-- all are read
pub read_whole : (f : ℕ → Name) (ts : List Tree) (is : List ℕ) (i : ℕ) (cs : List (List Numbered)) → length is ≤ i → AreRead f (trees_of ts (take i is)) cs → AreRead f (trees_of ts is) cs
read_whole f ts is i cs l r = subst (λ us. AreRead f (trees_of ts us) cs) (take_all i is l) r

-- the first that is none
split_at : (ts : List Tree) (is : List ℕ) (i k : ℕ) → i < length is → k ≡ get_or is i k → trees_of ts is ≡ trees_of ts (take i is) ++ tree_at ts k ∷ trees_of ts (drop (suc i) is)
split_at ts [] i k l e = absurd (omega (arith, l))
split_at ts (j ∷ is) zero k l e = λ x. tree_at ts (sym e x) ∷ trees_of ts is
split_at ts (j ∷ is) (suc i) k l e = ap (λ us. tree_at ts j ∷ us) (split_at ts is i k (omega (arith, l)) e)

pub other_at : (f : ℕ → Name) (ts : List Tree) (is : List ℕ) (i k n : ℕ) (cs : List (List Numbered)) (o : Option (List Numbered)) → i < length is → k ≡ get_or is i k → n ≡ i + 1 → AreRead f (trees_of ts (take i is)) cs → shown_clause f o ≡ lits_of (tree_at ts k) → o ≡ None → IsFirstOther f (trees_of ts is) n
other_at f ts is i k n cs o l e number r h s = record {
  before = trees_of ts (take i is);
  other = tree_at ts k;
  after = trees_of ts (drop (suc i) is);
  are = split_at ts is i k l e;
  number = (let a = length-trees_of ts (take i is) in let b = front is i l in omega (arith, a, b, number));
  clauses = cs;
  read = r;
  no_clause = sym h ∙ ap (shown_clause f) s;
}
  where
    front : (is : List ℕ) (i : ℕ) → i < length is → length (take i is) ≡ i
    front [] i l = absurd (omega (arith, l))
    front (j ∷ is) zero l = refl
    front (j ∷ is) (suc i) l = ap suc (front is i (omega (arith, l)))
