-- The lines of terms that come one after the other, and which terms have lines then.
use Rattle.std.proofs.Common.{◌≡◌, ℕ, Bool, true, false, ◌||◌, if◌then◌else◌, true≢false, List, [], ◌∷◌, ◌++◌, refl, ap, sym, subst, ◌∙◌, append_assoc, append-nil}
use Rattle.std.specs.List.{list_any}
use Rattle.std.specs.Ordering.{is_eq}
use Rattle.std.specs.declared.cmp.Ordering.{Ordering}
use Rattle.std.specs.declared.cmp.Ordering.TheVariants.{Less, Equal, Greater}
use Rattle.std.proofs.lemmas.List.Folds.{list_any-append}
use Rattle.qterm.specs.Tree.{Tree, Trees, none, more}
use Rattle.qterm.specs.Kids.{kids}
use Rattle.qlin.specs.Order.{same, tree_cmp}
use Rattle.qlin.proofs.Orders.{by_kids, itself, equal}
use Rattle.qwalk.specs.Subterms.{subterms, subterms_all, subterms_of}
use Rattle.qwalk.proofs.SubtermsLaws.{subterms_kids}
use Rattle.cert_text.specs.TermLines.{has_line, term_lines, with_lines, term_line}
use Rattle.cert_text.specs.Waiting.{HaveLines}

pub either : (P : Bool → Type 0) (b : Bool) → P true → P false → P b
either P true p q = p
either P false p q = q

is_eq-true : (o : Ordering) → is_eq o ≡ true → o ≡ Equal
is_eq-true Less e = absurd (true≢false (sym e))
is_eq-true Equal e = refl
is_eq-true Greater e = absurd (true≢false (sym e))

pub same-itself : (t : Tree) → same t t ≡ true
same-itself t = ap is_eq (itself t)

pub same-equal : (t u : Tree) → same t u ≡ true → t ≡ u
same-equal t u e = equal t u (is_eq-true (tree_cmp t u) e)

-- ---- one term
pub passed_one : (known : List Tree) (t : Tree) (rest : List Tree) → has_line known t ≡ true → (term_lines known (t ∷ rest) ≡ term_lines known rest) × (with_lines known (t ∷ rest) ≡ with_lines known rest)
unfolding term_lines with_lines
passed_one known t rest has =
    (ap (λ b. if b then term_lines known rest else (term_line known t ++ term_lines (known ++ t ∷ []) rest)) has, ap (λ b. if b then with_lines known rest else with_lines (known ++ t ∷ []) rest) has)

pub added_one : (known : List Tree) (t : Tree) (rest : List Tree) → has_line known t ≡ false → (term_lines known (t ∷ rest) ≡ term_line known t ++ term_lines (known ++ t ∷ []) rest) × (with_lines known (t ∷ rest) ≡ with_lines (known ++ t ∷ []) rest)
unfolding term_lines with_lines
added_one known t rest has =
    (ap (λ b. if b then term_lines known rest else (term_line known t ++ term_lines (known ++ t ∷ []) rest)) has, ap (λ b. if b then with_lines known rest else with_lines (known ++ t ∷ []) rest) has)

pub none_more : (known : List Tree) → (term_lines known [] ≡ []) × (with_lines known [] ≡ known)
unfolding term_lines with_lines
none_more known = (refl, refl)

-- ---- terms behind others
pub with_lines-append : (known us vs : List Tree) → with_lines known (us ++ vs) ≡ with_lines (with_lines known us) vs
unfolding with_lines
with_lines-append known [] vs = refl
with_lines-append known (u ∷ us) vs =
    either (λ b. (if b then with_lines known (us ++ vs) else with_lines (known ++ u ∷ []) (us ++ vs)) ≡ with_lines (if b then with_lines known us else with_lines (known ++ u ∷ []) us) vs) (has_line known u)
    (with_lines-append known us vs) (with_lines-append (known ++ u ∷ []) us vs)

pub term_lines-append : (known us vs : List Tree) → term_lines known (us ++ vs) ≡ term_lines known us ++ term_lines (with_lines known us) vs
unfolding term_lines with_lines
term_lines-append known [] vs = refl
term_lines-append known (u ∷ us) vs =
    either (λ b. (if b then term_lines known (us ++ vs) else (term_line known u ++ term_lines (known ++ u ∷ []) (us ++ vs)))
    ≡ (if b then term_lines known us else (term_line known u ++ term_lines (known ++ u ∷ []) us)) ++ term_lines (if b then with_lines known us else with_lines (known ++ u ∷ []) us) vs) (has_line known u)
    (term_lines-append known us vs)
    (ap (λ (bs : List ℕ). term_line known u ++ bs) (term_lines-append (known ++ u ∷ []) us vs) ∙ sym (append_assoc (term_line known u) (term_lines (known ++ u ∷ []) us) (term_lines (with_lines (known ++ u ∷ []) us) vs)))

-- ---- a term that has a line keeps it
pub has_more : (known extra : List Tree) (t : Tree) → has_line known t ≡ true → has_line (known ++ extra) t ≡ true
has_more known extra t has = list_any-append (same t) known extra ∙ ap (λ b. b || list_any (same t) extra) has

pub has_still : (known us : List Tree) (t : Tree) → has_line known t ≡ true → has_line (with_lines known us) t ≡ true
unfolding with_lines
has_still known [] t has = has
has_still known (u ∷ us) t has =
    either (λ b. has_line (if b then with_lines known us else with_lines (known ++ u ∷ []) us) t ≡ true) (has_line known u)
    (has_still known us t has) (has_still (known ++ u ∷ []) us t (has_more known (u ∷ []) t has))

pub have_more : (known extra : List Tree) (us : Trees) → HaveLines known us → HaveLines (known ++ extra) us
have_more known extra none all = tt
have_more known extra (more u us) all = (has_more known extra u all.0, have_more known extra us all.1)

last_has : (known : List Tree) (t : Tree) → has_line (known ++ t ∷ []) t ≡ true
last_has known t = list_any-append (same t) known (t ∷ []) ∙ ap (λ b. list_any (same t) known || (b || false)) (same-itself t) ∙ or_last (list_any (same t) known)
  where
    or_last : (b : Bool) → (b || true) ≡ true
    or_last true = refl
    or_last false = refl

-- ---- what is written has a line
one_has : (known : List Tree) (t : Tree) → has_line (with_lines known (t ∷ [])) t ≡ true
one_has known t = by (has_line known t) refl
  where
    by : (b : Bool) → has_line known t ≡ b → has_line (with_lines known (t ∷ [])) t ≡ true
    by true has = ap (λ (ks : List Tree). has_line ks t) ((passed_one known t [] has).1 ∙ (none_more known).1) ∙ has
    by false has = ap (λ (ks : List Tree). has_line ks t) ((added_one known t [] has).1 ∙ (none_more (known ++ t ∷ [])).1) ∙ last_has known t

term_has : (known : List Tree) (t : Tree) → has_line (with_lines known (subterms t)) t ≡ true
term_has known t =
    ap (λ (ks : List Tree). has_line (with_lines known ks) t) (subterms_kids t) ∙ ap (λ (ks : List Tree). has_line ks t) (with_lines-append known (subterms_all (kids t)) (t ∷ []))
    ∙ one_has (with_lines known (subterms_all (kids t))) t

pub row_has : (known : List Tree) (us : Trees) → HaveLines (with_lines known (subterms_all us)) us
unfolding subterms_all
row_has known none = tt
row_has known (more u us) =
    let e = sym (with_lines-append known (subterms u) (subterms_all us)) in
    (subst (λ (ks : List Tree). has_line ks u ≡ true) e (has_still (with_lines known (subterms u)) (subterms_all us) u (term_has known u)), subst (λ (ks : List Tree). HaveLines ks us) e (row_has (with_lines known (subterms u)) us))

-- ---- the subterms of a term with a line are passed over
abbrev pub IsClosed : List Tree → Type 0
IsClosed known = (t : Tree) → has_line known t ≡ true → HaveLines known (kids t)

abbrev pub Passes : List Tree → List Tree → Type 0
Passes known us = (rest : List Tree) → (term_lines known (us ++ rest) ≡ term_lines known rest) × (with_lines known (us ++ rest) ≡ with_lines known rest)

both_pass : (known us vs : List Tree) → Passes known us → Passes known vs → Passes known (us ++ vs)
both_pass known us vs p q rest =
    (ap (term_lines known) (append_assoc us vs rest) ∙ (p (vs ++ rest)).0 ∙ (q rest).0, ap (with_lines known) (append_assoc us vs rest) ∙ (p (vs ++ rest)).1 ∙ (q rest).1)

pub all_passed : (known : List Tree) → IsClosed known → (t : Tree) → has_line known t ≡ true → Passes known (subterms t)
unfolding subterms_all
all_passed known closed =
    by_kids (λ t. has_line known t ≡ true → Passes known (subterms t)) (λ us. HaveLines known us → Passes known (subterms_all us))
    (λ t below has. subst (Passes known) (sym (subterms_kids t)) (both_pass known (subterms_all (kids t)) (t ∷ []) (below (closed t has)) (λ rest. passed_one known t rest has)))
    (λ all rest. (refl, refl))
    (λ t us p q all. both_pass known (subterms t) (subterms_all us) (p all.0) (q all.1))

-- one more line
pub closed_more : (known : List Tree) (s : Tree) → IsClosed known → HaveLines known (kids s) → IsClosed (known ++ s ∷ [])
closed_more known s closed due t has = by (has_line known t) refl (same t s) refl
  where
    by : (b : Bool) → has_line known t ≡ b → (c : Bool) → same t s ≡ c → HaveLines (known ++ s ∷ []) (kids t)
    by true e c f = have_more known (s ∷ []) (kids t) (closed t e)
    by false e true f = subst (λ u. HaveLines (known ++ s ∷ []) (kids u)) (sym (same-equal t s f)) (have_more known (s ∷ []) (kids s) due)
    by false e false f = absurd (true≢false (sym has ∙ list_any-append (same t) known (s ∷ []) ∙ ap (λ b. b || (same t s || false)) e ∙ ap (λ b. b || false) f))

-- ---- the subterms of one term, of two, and of none
pub of_one : (t : Tree) (us : List Tree) → us ≡ t ∷ [] → subterms_of us ≡ subterms t
unfolding subterms_of
of_one t us is = ap subterms_of is ∙ append-nil (subterms t)

pub of_two : (t u : Tree) (us : List Tree) → us ≡ t ∷ u ∷ [] → subterms_of us ≡ subterms t ++ subterms u
unfolding subterms_of
of_two t u us is = ap subterms_of is ∙ ap (λ (vs : List Tree). subterms t ++ vs) (append-nil (subterms u))

pub of_none : (us : List Tree) → us ≡ [] → subterms_of us ≡ []
unfolding subterms_of
of_none us is = ap subterms_of is
