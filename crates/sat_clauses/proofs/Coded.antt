-- Unit propagation over numbered variables is that over the names of the numbers.
use Rattle.std.proofs.Common.{◌≡◌, ℕ, ◌<◌, ◌==◌, Bool as Truth, true, false, ◌&&◌, ◌||◌, not, List, [], ◌∷◌, ◌++◌, map, refl, sym, ap, subst, ◌∙◌, arith, if◌then◌else◌, Option, Some, None, eqb-true, rules}
use Rattle.std.specs.List.{list_any, list_all}
use Rattle.std.proofs.lemmas.Bool.Decides.{nat_tests}
use Rattle.qterm.specs.declared.name.Name.{Name}
use Rattle.qeval.specs.Value.{same_name}
use Rattle.qeval.proofs.Valuations.{same_name_exact}
use Rattle.rup.specs.declared.literal.Lit.{Lit as Numbered}
use Rattle.rup.specs.declared.propagation.Status.{Status as NumberedStatus}
use Rattle.rup.specs.declared.propagation.Status.TheVariants as numbered
use Rattle.rup.specs.Literals as numbers
use Rattle.rup.specs.Rup as rup
use Rattle.tac_cert.specs.Items.{Item, formula_at}
use Rattle.tac_cert.specs.Clauses.{Lit, lits_at}
use Rattle.tac_cert.specs.Rup.{same_sign, same_lit, negate_lit, has, has_pair, open_of, Status, Falsified, Forces, Neither, status_by, status_of, leads, runs_out, follows}
use Rattle.sat_clauses.specs.Coding.{lit_with, shown_clause, AreBelow, AreDifferent}

signs : (a b : Truth) → numbers.same_sign a b ≡ same_sign a b
signs true b = refl
signs false b = refl

-- a status, with names
abbrev pub shown_status : (ℕ → Name) → NumberedStatus → Status
shown_status f numbered.Falsified = Falsified
shown_status f (numbered.Forces l) = Forces (lit_with f l)
shown_status f numbered.Neither = Neither

-- numbers are the same exactly where their names are
abbrev pub Names : (ℕ → Name) → ℕ → Type 0
Names f v = (i j : ℕ) → i < v → j < v → (i == j) ≡ same_name (f i) (f j)

name_itself : (n : Name) → same_name n n ≡ true
name_itself n = search rules

pub names_same : (f : ℕ → Name) (v : ℕ) → AreDifferent v f → Names f v
names_same f v d i j p q = by (i == j) refl
  where
    by : (t : Truth) → (i == j) ≡ t → t ≡ same_name (f i) (f j)
    by true e = let k : i ≡ j = eqb-true i j e in sym (ap (λ n. same_name (f i) (f n)) (sym k) ∙ name_itself (f i))
    by false e = other (same_name (f i) (f j)) refl
      where
        apart : (t : Truth) → t ≡ true → t ≡ false → ⊥
        apart t x y = cc

        other : (t : Truth) → same_name (f i) (f j) ≡ t → false ≡ t
        other true s = let k : i ≡ j = d i j p q (same_name_exact (f i) (f j) s) in absurd (apart (i == j) (let z : (i == j) ≡ true = grind (arith, nat_tests) in z) e)
        other false s = refl

module _ (f : ℕ → Name) (v : ℕ) (alike : Names f v) where
  lits_same : (a b : Numbered) → a.var < v → b.var < v → numbers.same_lit a b ≡ same_lit (lit_with f a) (lit_with f b)
  lits_same a b p q = λ i. alike a.var b.var p q i && signs a.positive b.positive i

  pub has_same : (xs : List Numbered) (l : Numbered) → AreBelow v xs → l.var < v → numbers.has xs l ≡ has (map (lit_with f) xs) (lit_with f l)
  has_same [] l n p = refl
  has_same (x ∷ xs) l n p = λ i. lits_same x l n.0 p i || has_same xs l n.1 p i

  pub pair_same : (c : List Numbered) → AreBelow v c → numbers.has_pair c ≡ has_pair (map (lit_with f) c)
  pair_same c n = by c n
    where
      by : (xs : List Numbered) → AreBelow v xs → list_any (λ x. numbers.has c (numbers.negate x)) xs ≡ list_any (λ x. has (map (lit_with f) c) (negate_lit x)) (map (lit_with f) xs)
      by [] m = refl
      by (x ∷ xs) m = λ i. has_same c (numbers.negate x) n m.0 i || by xs m.1 i

  open_same : (trues c : List Numbered) → AreBelow v trues → AreBelow v c → map (lit_with f) (rup.open_of trues c) ≡ open_of (map (lit_with f) trues) (map (lit_with f) c)
  open_same trues [] t n = refl
  open_same trues (l ∷ ls) t n = by (numbers.has trues (numbers.negate l)) (has (map (lit_with f) trues) (negate_lit (lit_with f l))) (has_same trues (numbers.negate l) t n.0) (open_same trues ls t n.1)
    where
      by : (a b : Truth) → a ≡ b → map (lit_with f) (rup.open_of trues ls) ≡ open_of (map (lit_with f) trues) (map (lit_with f) ls) → map (lit_with f) (if not a then l ∷ rup.open_of trues ls else rup.open_of trues ls) ≡ (if not b then lit_with f l ∷ open_of (map (lit_with f) trues) (map (lit_with f) ls) else open_of (map (lit_with f) trues) (map (lit_with f) ls))
      by true true e h = h
      by false false e h = ap (λ xs. lit_with f l ∷ xs) h
      by true false e h = cc
      by false true e h = cc

  open_below : (trues c : List Numbered) → AreBelow v c → AreBelow v (rup.open_of trues c)
  open_below trues [] n = tt
  open_below trues (l ∷ ls) n = by (numbers.has trues (numbers.negate l)) (open_below trues ls n.1)
    where
      by : (b : Truth) → AreBelow v (rup.open_of trues ls) → AreBelow v (if not b then l ∷ rup.open_of trues ls else rup.open_of trues ls)
      by true h = h
      by false h = (n.0, h)

  all_same : (l : Numbered) (ls : List Numbered) → l.var < v → AreBelow v ls → list_all (λ m. numbers.same_lit m l) ls ≡ list_all (λ m. same_lit m (lit_with f l)) (map (lit_with f) ls)
  all_same l [] p n = refl
  all_same l (m ∷ ls) p n = λ i. lits_same m l n.0 p i && all_same l ls p n.1 i

  by_same : (trues c : List Numbered) → AreBelow v trues → AreBelow v c → shown_status f (rup.status_by trues c) ≡ status_by (map (lit_with f) trues) (map (lit_with f) c)
  by_same trues [] t n = refl
  by_same trues (l ∷ ls) t n = by (not (numbers.has trues l) && list_all (λ m. numbers.same_lit m l) ls) (not (has (map (lit_with f) trues) (lit_with f l)) && list_all (λ m. same_lit m (lit_with f l)) (map (lit_with f) ls)) (λ i. not (has_same trues l t n.0 i) && all_same l ls n.0 n.1 i)
    where
      by : (a b : Truth) → a ≡ b → shown_status f (if a then numbered.Forces l else numbered.Neither) ≡ (if b then Forces (lit_with f l) else Neither)
      by true true e = refl
      by false false e = refl
      by true false e = cc
      by false true e = cc

  pub status_same : (trues c : List Numbered) → AreBelow v trues → AreBelow v c → shown_status f (rup.status trues c) ≡ status_of (map (lit_with f) trues) (Some (map (lit_with f) c))
  status_same trues c t n = by_same trues (rup.open_of trues c) t (open_below trues c n) ∙ ap (status_by (map (lit_with f) trues)) (open_same trues c t n)

  forced_by : (trues c : List Numbered) → AreBelow v c → (s : NumberedStatus) → rup.status_by trues c ≡ s → (l : Numbered) → s ≡ numbered.Forces l → l.var < v
  forced_by trues [] n s e l h = cc
  forced_by trues (m ∷ ls) n s e l h = by (not (numbers.has trues m) && list_all (λ k. numbers.same_lit k m) ls) e
    where
      by : (a : Truth) → (if a then numbered.Forces m else numbered.Neither) ≡ s → l.var < v
      by true q = let r : m ≡ l = cc in subst (λ (k : Numbered). k.var < v) r n.0
      by false q = cc

  pub status_below : (trues c : List Numbered) → AreBelow v c → (l : Numbered) → rup.status trues c ≡ numbered.Forces l → l.var < v
  status_below trues c n l h = forced_by trues (rup.open_of trues c) (open_below trues c n) (rup.status trues c) refl l h

  below_push : (xs : List Numbered) (l : Numbered) → AreBelow v xs → l.var < v → AreBelow v (xs ++ l ∷ [])
  below_push [] l n p = (p, tt)
  below_push (x ∷ xs) l n p = (n.0, below_push xs l n.1 p)

  map_push : (xs : List Numbered) (l : Numbered) → map (lit_with f) (xs ++ l ∷ []) ≡ map (lit_with f) xs ++ lit_with f l ∷ []
  map_push [] l = refl
  map_push (x ∷ xs) l = ap (λ ys. lit_with f x ∷ ys) (map_push xs l)

  -- the items of these numbers are the numbered clauses
  abbrev pub Says : List Item → List (List Numbered) → Type 0
  Says items known = (h : ℕ) → lits_at (formula_at items h) ≡ shown_clause f (rup.item known h)

  -- the clauses have variables below v
  abbrev pub Within : List (List Numbered) → Type 0
  Within known = (h : ℕ) (c : List Numbered) → rup.item known h ≡ Some c → AreBelow v c

  -- the hints run out alike from any values
  abbrev Alike : List Item → List (List Numbered) → List ℕ → Type 0
  Alike items known hints = (us : List Numbered) → AreBelow v us → rup.runs_out known us hints ≡ runs_out items (map (lit_with f) us) hints

  pub runs_same : (items : List Item) (known : List (List Numbered)) → Says items known → Within known → (trues : List Numbered) (hints : List ℕ) → AreBelow v trues → rup.runs_out known trues hints ≡ runs_out items (map (lit_with f) trues) hints
  runs_same items known s w trues [] t = refl
  runs_same items known s w trues (h ∷ hints) t = by (λ us q. runs_same items known s w us hints q) (rup.item known h) refl
    where
      ends_same : (hs : List ℕ) (F : Numbered → Truth) (G : Lit → Truth) → rup.leads numbered.Falsified hs F ≡ leads Falsified hs G
      ends_same [] F G = refl
      ends_same (x ∷ hs) F G = refl

      next : Alike items known hints → (x : NumberedStatus) → ((l : Numbered) → x ≡ numbered.Forces l → l.var < v) → rup.leads x hints (λ l. rup.runs_out known (trues ++ l ∷ []) hints) ≡ leads (shown_status f x) hints (λ l. runs_out items (map (lit_with f) trues ++ l ∷ []) hints)
      next rest numbered.Falsified b = ends_same hints (λ l. rup.runs_out known (trues ++ l ∷ []) hints) (λ l. runs_out items (map (lit_with f) trues ++ l ∷ []) hints)
      next rest (numbered.Forces l) b = rest (trues ++ l ∷ []) (below_push trues l t (b l refl)) ∙ ap (λ ys. runs_out items ys hints) (map_push trues l)
      next rest numbered.Neither b = refl

      ends : (o : Option (List Lit)) → lits_at (formula_at items h) ≡ o → runs_out items (map (lit_with f) trues) (h ∷ hints) ≡ leads (status_of (map (lit_with f) trues) o) hints (λ l. runs_out items (map (lit_with f) trues ++ l ∷ []) hints)
      ends o e = ap (λ x. leads (status_of (map (lit_with f) trues) x) hints (λ l. runs_out items (map (lit_with f) trues ++ l ∷ []) hints)) e

      by : Alike items known hints → (o : Option (List Numbered)) → rup.item known h ≡ o → rup.runs_out known trues (h ∷ hints) ≡ runs_out items (map (lit_with f) trues) (h ∷ hints)
      by rest None e =
          ap (λ x. rup.leads (rup.status_of trues x) hints (λ l. rup.runs_out known (trues ++ l ∷ []) hints)) e ∙ sym (ends None (s h ∙ ap (shown_clause f) e))
      by rest (Some c) e =
          ap (λ x. rup.leads (rup.status_of trues x) hints (λ l. rup.runs_out known (trues ++ l ∷ []) hints)) e
          ∙ next rest (rup.status trues c) (λ l q. status_below trues c (w h c e) l q)
          ∙ ap (λ x. leads x hints (λ l. runs_out items (map (lit_with f) trues ++ l ∷ []) hints)) (status_same trues c t (w h c e))
          ∙ sym (ends (Some (map (lit_with f) c)) (s h ∙ ap (shown_clause f) e))

  negations_same : (c : List Numbered) → map (lit_with f) (numbers.negate_all c) ≡ map negate_lit (map (lit_with f) c)
  negations_same [] = refl
  negations_same (l ∷ ls) = ap (λ xs. negate_lit (lit_with f l) ∷ xs) (negations_same ls)

  negations_below : (c : List Numbered) → AreBelow v c → AreBelow v (numbers.negate_all c)
  negations_below [] n = tt
  negations_below (l ∷ ls) n = (n.0, negations_below ls n.1)

  -- a clause follows from the items where it does from the numbered clauses
  pub follows_same : (items : List Item) (known : List (List Numbered)) → Says items known → Within known → (c : List Numbered) (hints : List ℕ) → AreBelow v c → rup.rup known c hints ≡ follows items (Some (map (lit_with f) c)) hints
  follows_same items known s w c hints n =
      λ i. not (pair_same c n i) && (runs_same items known s w (numbers.negate_all c) hints (negations_below c n) ∙ ap (λ ys. runs_out items ys hints) (negations_same c)) i
