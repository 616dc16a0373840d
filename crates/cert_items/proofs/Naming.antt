-- A name occurs in the items where its term is one of those below them.
use Rattle.std.proofs.Common.{◌≡◌, ◌↔◌, IsTrue, ℕ, suc, inl, inr, Bool as Truth, true, false, not, ◌||◌, List, [], ◌∷◌, ◌++◌, get_or, refl, sym, ap, subst, ◌∙◌, arith, rules}
use Rattle.std.specs.Prelude.{ℤ}
use Rattle.std.specs.List.{list_any, Contains}
use Rattle.std.proofs.lemmas.List.Folds.{list_any-append, list_any_at}
use Rattle.qterm.specs.declared.name.Name.{Name}
use Rattle.qterm.specs.declared.name.Sort.{Sort}
use Rattle.qterm.specs.declared.name.Sort.TheVariants as sort
use Rattle.qterm.specs.Tree.{Tree, Trees, True, False, Var, Num, Sum, Scale, Le, Eq, Iff, Not, And, Or, Ite, none, more}
use Rattle.qterm.specs.Store.{tree_at, trees_of, Has, Extends, Shows, IsDistinct}
use Rattle.qterm.proofs.KidsLaws.{trees_of-append}
use Rattle.qlin.specs.Lin.{parts_at}
use Rattle.qwalk.specs.Subterms.{subterms, subterms_all, subterms_of}
use Rattle.qwalk.specs.Walk.{same_id}
use Rattle.qwalk.proofs.Finding.{Contains-trees_of, trees_of-Contains}
use Rattle.tac_cert.specs.Names.{same_text, among, in_tree, in_trees, is_int}
use Rattle.tac_cert.specs.Items.{in_parts, in_bits, in_item, in_items}
use Rattle.cert_items.specs.declared.held.Held.{Held}
use Rattle.cert_items.specs.declared.held.Held.TheVariants as variant
use Rattle.cert_items.specs.Held.{shown, shown_all}
use Rattle.cert_items.specs.Truth.{with_sort}
use Rattle.qwalk.specs.Seen.{AreSubterms}
use Rattle.qwalk.proofs.Seeing.{AreSubterms-within, AreSubterms-whole}
use Rattle.cert_items.specs.Seen.{monomials, roots, all_roots, IsApart}
use Rattle.cert_items.proofs.Bools.{or_cases, both_ways}

or_none : (b : Truth) → (b || false) ≡ b
or_none true = refl
or_none false = refl

or_true : (b : Truth) → (b || true) ≡ true
or_true true = refl
or_true false = refl

or_assoc : (a b c : Truth) → ((a || b) || c) ≡ (a || (b || c))
or_assoc true b c = refl
or_assoc false b c = refl

bool_same : (a b : Truth) → (a ≡ true → b ≡ true) → (b ≡ true → a ≡ true) → a ≡ b
bool_same true b f g = sym (f refl)
bool_same false true f g = g refl
bool_same false false f g = refl

-- the tree is a name with one of the texts
abbrev named : List Name → Tree → Truth
named ns (Var n) = among ns n
named ns _ = false

-- ---- in a tree, in terms of its subterms
module _ (ns : List Name) where
  one : (xs : List Tree) (t : Tree) → named ns t ≡ false → list_any (named ns) (xs ++ t ∷ []) ≡ list_any (named ns) xs
  one xs t h = list_any-append (named ns) xs (t ∷ []) ∙ ap (λ b. list_any (named ns) xs || (b || false)) h ∙ or_none (list_any (named ns) xs)

  two : (xs ys : List Tree) (t : Tree) → named ns t ≡ false → list_any (named ns) (xs ++ (ys ++ t ∷ [])) ≡ (list_any (named ns) xs || list_any (named ns) ys)
  two xs ys t h = list_any-append (named ns) xs (ys ++ t ∷ []) ∙ ap (λ b. list_any (named ns) xs || b) (one ys t h)

  mutual
    unfolding subterms subterms_all

    pub tree_any : (t : Tree) → in_tree ns t ≡ list_any (named ns) (subterms t)
    tree_any True = refl
    tree_any False = refl
    tree_any (Var n) = sym (or_none (among ns n))
    tree_any (Num z) = refl
    tree_any (Sum ts) = trees_any ts ∙ sym (one (subterms_all ts) (Sum ts) refl)
    tree_any (Scale z a) = tree_any a ∙ sym (one (subterms a) (Scale z a) refl)
    tree_any (Le a b) = (λ i. tree_any a i || tree_any b i) ∙ sym (two (subterms a) (subterms b) (Le a b) refl)
    tree_any (Eq a b) = (λ i. tree_any a i || tree_any b i) ∙ sym (two (subterms a) (subterms b) (Eq a b) refl)
    tree_any (Iff a b) = (λ i. tree_any a i || tree_any b i) ∙ sym (two (subterms a) (subterms b) (Iff a b) refl)
    tree_any (Not a) = tree_any a ∙ sym (one (subterms a) (Not a) refl)
    tree_any (And ts) = trees_any ts ∙ sym (one (subterms_all ts) (And ts) refl)
    tree_any (Or ts) = trees_any ts ∙ sym (one (subterms_all ts) (Or ts) refl)
    tree_any (Ite c a b) =
        (λ i. tree_any c i || (tree_any a i || tree_any b i))
        ∙ sym (list_any-append (named ns) (subterms c) (subterms a ++ (subterms b ++ Ite c a b ∷ [])) ∙ ap (λ x. list_any (named ns) (subterms c) || x) (two (subterms a) (subterms b) (Ite c a b) refl))

    pub trees_any : (ts : Trees) → in_trees ns ts ≡ list_any (named ns) (subterms_all ts)
    trees_any none = refl
    trees_any (more t ts) = (λ i. tree_any t i || trees_any ts i) ∙ sym (list_any-append (named ns) (subterms t) (subterms_all ts))

  list_of : (us : List Tree) → list_any (in_tree ns) us ≡ list_any (named ns) (subterms_of us)
  unfolding subterms_of
  list_of [] = refl
  list_of (u ∷ us) = (λ i. tree_any u i || list_of us i) ∙ sym (list_any-append (named ns) (subterms u) (subterms_of us))

  -- ---- in the items
  in_monomials : (ts : List Tree) (ps : List (ℤ × ℕ)) → in_parts ns (parts_at ts ps) ≡ list_any (in_tree ns) (trees_of ts (monomials ps))
  in_monomials ts [] = refl
  in_monomials ts (p ∷ ps) = ap (λ b. in_tree ns (tree_at ts p.1) || b) (in_monomials ts ps)

  in_roots : (ts : List Tree) (h : Held) → in_item ns (shown ts h) ≡ list_any (in_tree ns) (trees_of ts (roots h))
  in_roots ts (variant.Formula i) = sym (or_none (in_tree ns (tree_at ts i)))
  in_roots ts (variant.OfWord w) =
      ap (λ b. b || in_bits ns (trees_of ts w.bits)) (in_monomials ts w.form.parts)
      ∙ sym (ap (list_any (in_tree ns)) (trees_of-append ts (monomials w.form.parts) w.bits) ∙ list_any-append (in_tree ns) (trees_of ts (monomials w.form.parts)) (trees_of ts w.bits))

  in_all_roots : (ts : List Tree) (hs : List Held) → in_items ns (shown_all ts hs) ≡ list_any (in_tree ns) (trees_of ts (all_roots hs))
  in_all_roots ts [] = refl
  in_all_roots ts (h ∷ hs) =
      (λ i. in_roots ts h i || in_all_roots ts hs i)
      ∙ sym (ap (list_any (in_tree ns)) (trees_of-append ts (roots h) (all_roots hs)) ∙ list_any-append (in_tree ns) (trees_of ts (roots h)) (trees_of ts (all_roots hs)))

  -- ---- in the terms below them
  any_there : (xs : List Tree) → list_any (named ns) xs ≡ true → (s : Tree) × Contains xs s × (named ns s ≡ true)
  any_there [] h = cc
  any_there (x ∷ xs) h =
      elim (or_cases (named ns x) (list_any (named ns) xs) h) [
        | inl a ↦ (x, (0, omega arith, refl), a)
        | inr b ↦ let r = any_there xs b in (r.0, (suc r.1.0, omega (arith, r.1.1), r.1.2), r.2)
      ]

  there_any : (xs : List Tree) (s : Tree) → Contains xs s → named ns s ≡ true → list_any (named ns) xs ≡ true
  there_any xs s c h = list_any_at (named ns) xs c.0 s c.1 (ap (named ns) c.2 ∙ h)

  same_any : (xs ys : List Tree) → ((s : Tree) → Contains xs s → Contains ys s) → ((s : Tree) → Contains ys s → Contains xs s) → list_any (named ns) xs ≡ list_any (named ns) ys
  same_any xs ys f g =
      bool_same (list_any (named ns) xs) (list_any (named ns) ys)
      (λ h. let r = any_there xs h in there_any ys r.0 (f r.0 r.1) r.2)
      (λ h. let r = any_there ys h in there_any xs r.0 (g r.0 r.1) r.2)

  seen_any : (ts : List Tree) (hs : List Held) (ks : List ℕ) → AreSubterms ts (all_roots hs) ks → in_items ns (shown_all ts hs) ≡ list_any (named ns) (trees_of ts ks)
  seen_any ts hs ks so =
      in_all_roots ts hs ∙ list_of (trees_of ts (all_roots hs)) ∙ same_any (subterms_of (trees_of ts (all_roots hs))) (trees_of ts ks) so.complete (AreSubterms-within ts (all_roots hs) ks so)

  -- names that aren't in the items are in none of the terms below them
  pub seen_apart : (ts : List Tree) (hs : List Held) (ks : List ℕ) → AreSubterms ts (all_roots hs) ks → in_items ns (shown_all ts hs) ≡ false → IsApart ts ns ks
  seen_apart ts hs ks so f k c = by (in_tree ns (tree_at ts k)) refl
    where
      whole : AreSubterms ts ks ks
      whole = AreSubterms-whole ts (all_roots hs) ks so

      none : list_any (in_tree ns) (trees_of ts ks) ≡ false
      none =
          list_of (trees_of ts ks) ∙ same_any (subterms_of (trees_of ts ks)) (trees_of ts ks) whole.complete (AreSubterms-within ts ks ks whole)
          ∙ sym (seen_any ts hs ks so) ∙ f

      by : (b : Truth) → in_tree ns (tree_at ts k) ≡ b → in_tree ns (tree_at ts k) ≡ false
      by false e = e
      by true e =
          let there = Contains-trees_of ts ks k c in
          absurd (both_ways (list_any (in_tree ns) (trees_of ts ks)) (list_any_at (in_tree ns) (trees_of ts ks) there.0 (tree_at ts k) there.1 (ap (in_tree ns) there.2 ∙ e)) none)

-- ---- one name
text_same : (m n : Name) → same_text n m ≡ true → m.text ≡ n.text
text_same m n h = let e : n.text ≡ m.text = search rules in sym e

same_name_is : (m n : Name) → m.text ≡ n.text → m ≡ record { text = n.text; sort = m.sort }
same_name_is m n e = λ i. record { text = e i; sort = m.sort }

pub id_there : (ks : List ℕ) (k : ℕ) → list_any (same_id k) ks ≡ true → Contains ks k
id_there [] k h = cc
id_there (x ∷ ks) k h =
    elim (or_cases (same_id k x) (list_any (same_id k) ks) h) [
      | inl a ↦ let e : k ≡ x = search rules in (0, omega arith, sym e)
      | inr b ↦ let r = id_there ks k b in (suc r.0, omega (arith, r.1), r.2)
    ]

pub there_id : (ks : List ℕ) (k : ℕ) → Contains ks k → list_any (same_id k) ks ≡ true
there_id ks k c =
    let e : get_or ks c.0 k ≡ k = c.2 in
    list_any_at (same_id k) ks c.0 k c.1 (let s : same_id k k ≡ true = search rules in ap (same_id k) e ∙ s)

-- a test whether a number stands in a list
pub has_same : (ks : List ℕ) (k : ℕ) (b : Truth) → (IsTrue b ↔ Contains ks k) → b ≡ list_any (same_id k) ks
has_same ks k true h = sym (there_id ks k (h.0 refl))
has_same ks k false h = by (list_any (same_id k) ks) refl
  where
    by : (t : Truth) → list_any (same_id k) ks ≡ t → false ≡ t
    by true e = let f : false ≡ true = h.1 (id_there ks k e) in cc
    by false e = refl

module _ (ts us : List Tree) (ks : List ℕ) (n : Name) (e : Extends ts us) (d : IsDistinct us) (has : (k : ℕ) → Contains ks k → Has ts k) where
  found_name : (s : Sort) (p : ℕ) → Shows us p (Var (with_sort n s)) → list_any (same_id p) ks ≡ true → list_any (named (n ∷ [])) (trees_of ts ks) ≡ true
  found_name s p h a =
      let c = id_there ks p a in
      let t : tree_at ts p ≡ Var (with_sort n s) = sym (e.same p (has p c)) ∙ h.is in
      let text : same_text n (with_sort n s) ≡ true = search rules in
      there_any (n ∷ []) (trees_of ts ks) (tree_at ts p) (Contains-trees_of ts ks p c) (ap (named (n ∷ [])) t ∙ ap (λ b. b || false) text)

  name_found : (p q : ℕ) → Shows us p (Var (with_sort n sort.Bool)) → Shows us q (Var (with_sort n sort.Int)) → list_any (named (n ∷ [])) (trees_of ts ks) ≡ true → (list_any (same_id p) ks || list_any (same_id q) ks) ≡ true
  name_found p q hp hq h = by r.0 refl r.2
    where
      r : (s : Tree) × Contains (trees_of ts ks) s × (named (n ∷ []) s ≡ true)
      r = any_there (n ∷ []) (trees_of ts ks) h

      k : (k : ℕ) × Contains ks k × (tree_at ts k ≡ r.0)
      k = trees_of-Contains ts ks r.0 r.1

      at : (s : Sort) (p : ℕ) → Shows us p (Var (with_sort n s)) → r.0 ≡ Var (with_sort n s) → list_any (same_id p) ks ≡ true
      at s p hp g =
          let here : tree_at us k.0 ≡ Var (with_sort n s) = e.same k.0 (has k.0 k.1) ∙ k.2 ∙ g in
          let l : Has ts k.0 = has k.0 k.1 in
          let f : k.0 ≡ p = d k.0 p (omega (arith, e.longer, l)) hp.has (here ∙ sym hp.is) in
          there_id ks p (subst (Contains ks) f k.1)

      by_sort : (m : Name) (s : Sort) → m.sort ≡ s → r.0 ≡ Var m → m.text ≡ n.text → (list_any (same_id p) ks || list_any (same_id q) ks) ≡ true
      by_sort m sort.Bool f g x =
          let a = at sort.Bool p hp (g ∙ (λ i. Var record { text = x i; sort = f i })) in
          ap (λ b. b || list_any (same_id q) ks) a
      by_sort m sort.Int f g x =
          let a = at sort.Int q hq (g ∙ (λ i. Var record { text = x i; sort = f i })) in
          ap (λ b. list_any (same_id p) ks || b) a ∙ or_true (list_any (same_id p) ks)

      by : (s : Tree) → r.0 ≡ s → named (n ∷ []) s ≡ true → (list_any (same_id p) ks || list_any (same_id q) ks) ≡ true
      by (Var m) g x = by_sort m m.sort refl g (text_same m n (sym (or_none (same_text n m)) ∙ x))
      by True g x = cc
      by False g x = cc
      by (Num z) g x = cc
      by (Sum ts) g x = cc
      by (Scale z a) g x = cc
      by (Le a b) g x = cc
      by (Eq a b) g x = cc
      by (Iff a b) g x = cc
      by (Not a) g x = cc
      by (And ts) g x = cc
      by (Or ts) g x = cc
      by (Ite c a b) g x = cc

-- whether a name occurs in the items
pub occurs_by_ids : (ts us : List Tree) (hs : List Held) (ks : List ℕ) (n : Name) (p q : ℕ) → Extends ts us → IsDistinct us → AreSubterms ts (all_roots hs) ks
    → Shows us p (Var (with_sort n sort.Bool)) → Shows us q (Var (with_sort n sort.Int)) → (list_any (same_id p) ks || list_any (same_id q) ks) ≡ in_items (n ∷ []) (shown_all ts hs)
occurs_by_ids ts us hs ks n p q e d so hp hq =
    bool_same (list_any (same_id p) ks || list_any (same_id q) ks) (list_any (named (n ∷ [])) (trees_of ts ks))
    (λ h. elim (or_cases (list_any (same_id p) ks) (list_any (same_id q) ks) h) [
      | inl a ↦ found_name ts us ks n e d so.has sort.Bool p hp a
      | inr b ↦ found_name ts us ks n e d so.has sort.Int q hq b
    ])
    (name_found ts us ks n e d so.has p q hp hq)
    ∙ sym (seen_any (n ∷ []) ts hs ks so)

-- ---- several names
named_more : (n : Name) (ns : List Name) (t : Tree) → named (n ∷ ns) t ≡ (named (n ∷ []) t || named ns t)
named_more n ns (Var m) = ap (λ b. b || among ns m) (sym (or_none (same_text n m)))
named_more n ns True = refl
named_more n ns False = refl
named_more n ns (Num z) = refl
named_more n ns (Sum ts) = refl
named_more n ns (Scale z a) = refl
named_more n ns (Le a b) = refl
named_more n ns (Eq a b) = refl
named_more n ns (Iff a b) = refl
named_more n ns (Not a) = refl
named_more n ns (And ts) = refl
named_more n ns (Or ts) = refl
named_more n ns (Ite c a b) = refl

shuffle : (a b c d : Truth) → ((a || b) || (c || d)) ≡ ((a || c) || (b || d))
shuffle true b c d = refl
shuffle false true true d = refl
shuffle false true false d = refl
shuffle false false c d = refl

named_all : (n : Name) (ns : List Name) (xs : List Tree) → list_any (named (n ∷ ns)) xs ≡ (list_any (named (n ∷ [])) xs || list_any (named ns) xs)
named_all n ns [] = refl
named_all n ns (x ∷ xs) = (λ i. named_more n ns x i || named_all n ns xs i) ∙ shuffle (named (n ∷ []) x) (named ns x) (list_any (named (n ∷ [])) xs) (list_any (named ns) xs)

items_any : (ns : List Name) (ts : List Tree) (hs : List Held) → in_items ns (shown_all ts hs) ≡ list_any (named ns) (subterms_of (trees_of ts (all_roots hs)))
items_any ns ts hs = in_all_roots ns ts hs ∙ list_of ns (trees_of ts (all_roots hs))

pub occurs_more : (n : Name) (ns : List Name) (ts : List Tree) (hs : List Held) → in_items (n ∷ ns) (shown_all ts hs) ≡ (in_items (n ∷ []) (shown_all ts hs) || in_items ns (shown_all ts hs))
occurs_more n ns ts hs =
    let xs = subterms_of (trees_of ts (all_roots hs)) in
    items_any (n ∷ ns) ts hs ∙ named_all n ns xs ∙ sym (λ i. items_any (n ∷ []) ts hs i || items_any ns ts hs i)

none_named : (xs : List Tree) → list_any (named []) xs ≡ false
none_named [] = refl
none_named (x ∷ xs) = (λ i. none_at x i || none_named xs i)
  where
    none_at : (t : Tree) → named [] t ≡ false
    none_at (Var m) = refl
    none_at True = refl
    none_at False = refl
    none_at (Num z) = refl
    none_at (Sum ts) = refl
    none_at (Scale z a) = refl
    none_at (Le a b) = refl
    none_at (Eq a b) = refl
    none_at (Iff a b) = refl
    none_at (Not a) = refl
    none_at (And ts) = refl
    none_at (Or ts) = refl
    none_at (Ite c a b) = refl

pub occurs_none : (ts : List Tree) (hs : List Held) → in_items [] (shown_all ts hs) ≡ false
occurs_none ts hs = items_any [] ts hs ∙ none_named (subterms_of (trees_of ts (all_roots hs)))

-- ---- sorts
pub bool_sort : (s : Sort) → not (is_int s) ≡ true → s ≡ sort.Bool
bool_sort sort.Bool h = refl
bool_sort sort.Int h = cc

pub int_sort : (s : Sort) → is_int s ≡ true → s ≡ sort.Int
int_sort sort.Int h = refl
int_sort sort.Bool h = cc
