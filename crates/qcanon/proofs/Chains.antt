-- Nested And and Or: the canonical form is the junction of the formulas under them.
use Rattle.std.proofs.Common.{◌≡◌, refl, sym, ap, subst, ◌∙◌, Bool as Truth, true, false, not, ◌||◌, true≢false, inl, inr, ◌⊎◌, Ok, if◌then◌else◌}
use Rattle.std.specs.declared.cmp.Ordering.{Ordering}
use Rattle.std.specs.declared.cmp.Ordering.TheVariants.{Less, Equal, Greater}
use Rattle.qterm.specs.Tree.{Tree, Trees, True, False, And, Or, none, more}
use Rattle.qlin.specs.Order.{tree_cmp, by_order, same}
use Rattle.qlin.specs.Atom.{truth_tree}
use Rattle.qlin.specs.Junction.{has_constant, members, joined, packed, junction, gathered, insert, inserts, sorted}
use Rattle.qlin.specs.Canon.{canon, canons, after}
use Rattle.qlin.proofs.Sorting.{In, unique, inserts_up, in_sorted, sorted_in}
use Rattle.qcanon_laws.proofs.Canonical.{IsCanonical, AreCanonical, IsPlain, ArePlain, is_kind, some≢none, not_constant, same_itself, fixed}
use Rattle.qnegation.specs.Junction.{joined_lists, flat}
use Rattle.qcanon.specs.Chain.{leaves, all_leaves}
use Rattle.qnegation.proofs.Junctions.{gathered_is, inserts_joined, flat_joined}

-- ---- sorted lists
in_first : (x : Tree) (ts us : Trees) → In x ts → In x (joined_lists ts us)
in_first x none us h = absurd h
in_first x (more t ts) us (inl e) = inl e
in_first x (more t ts) us (inr h) = inr (in_first x ts us h)

in_second : (x : Tree) (ts us : Trees) → In x us → In x (joined_lists ts us)
in_second x none us h = h
in_second x (more t ts) us h = inr (in_second x ts us h)

in_joined : (x : Tree) (ts us : Trees) → In x (joined_lists ts us) → In x ts ⊎ In x us
in_joined x none us h = inr h
in_joined x (more t ts) us (inl e) = inl (inl e)
in_joined x (more t ts) us (inr h) = elim (in_joined x ts us h) [ inl a ↦ inl (inr a) | inr b ↦ inr b ]

-- the first trees may be sorted before all are
sorted_first : (ts us : Trees) → sorted (joined_lists (sorted ts) us) ≡ sorted (joined_lists ts us)
sorted_first ts us =
    unique (sorted (joined_lists (sorted ts) us)) (sorted (joined_lists ts us)) (inserts_up (joined_lists (sorted ts) us) none tt) (inserts_up (joined_lists ts us) none tt)
    (λ x h. in_sorted x (joined_lists ts us) (elim (in_joined x (sorted ts) us (sorted_in x (joined_lists (sorted ts) us) h)) [ inl a ↦ in_first x ts us (sorted_in x ts a) | inr b ↦ in_second x ts us b ]))
    (λ x h. in_sorted x (joined_lists (sorted ts) us) (elim (in_joined x ts us (sorted_in x (joined_lists ts us) h)) [ inl a ↦ in_first x (sorted ts) us (in_sorted x ts a) | inr b ↦ in_second x (sorted ts) us b ]))

-- the members of some formulas before those of others
gathered_joined : (k : Truth) (ts us : Trees) → inserts (gathered k ts) (gathered k us) ≡ gathered k (joined_lists ts us)
gathered_joined k ts us =
    (λ i. inserts (sym (gathered_is k ts) i) (sym (gathered_is k us) i)) ∙ sym (inserts_joined (sorted (flat k ts)) (flat k us) none) ∙ sorted_first (flat k ts) (flat k us)
    ∙ ap sorted (sym (flat_joined k ts us)) ∙ gathered_is k (joined_lists ts us)

-- ---- the members are plain
insert_plain : (k : Truth) (t : Tree) (ts : Trees) → IsPlain k t → ArePlain k ts → ArePlain k (insert t ts)
insert_plain k t none p h = (p, tt)
insert_plain k t (more u us) p h = by (tree_cmp t u) (insert_plain k t us p h.1)
  where
    by : (o : Ordering) → ArePlain k (insert t us) → ArePlain k (by_order o (more t (more u us)) (more u us) (more u (insert t us)))
    by Less ih = (p, h)
    by Equal ih = h
    by Greater ih = (h.0, ih)

inserts_plain : (k : Truth) (ts us : Trees) → ArePlain k ts → ArePlain k us → ArePlain k (inserts ts us)
inserts_plain k none us p h = h
inserts_plain k (more t ts) us p h = insert_plain k t (inserts ts us) p.0 (inserts_plain k ts us p.1 h)

members_plain : (k : Truth) (t : Tree) → IsCanonical t → same t (truth_tree (not k)) ≡ false → ArePlain k (members k t)
members_plain true True c e = tt
members_plain true False c e = absurd (true≢false (sym (same_itself False) ∙ e))
members_plain true (And ts) c e = c.1.plain
members_plain true t c e = ((refl, refl), tt)
members_plain false False c e = tt
members_plain false True c e = absurd (true≢false (sym (same_itself True) ∙ e))
members_plain false (Or ts) c e = c.1.plain
members_plain false t c e = ((refl, refl), tt)

neither : (a b : Truth) → (a || b) ≡ false → (a ≡ false) × (b ≡ false)
neither true b e = absurd (true≢false e)
neither false b e = (refl, e)

gathered_plain : (k : Truth) (ts : Trees) → AreCanonical ts → has_constant (not k) ts ≡ false → ArePlain k (gathered k ts)
gathered_plain k none c e = tt
gathered_plain k (more t ts) c e =
    let q = neither (same t (truth_tree (not k))) (has_constant (not k) ts) e in
    inserts_plain k (members k t) (gathered k ts) (members_plain k t c.0 q.0) (gathered_plain k ts c.1 q.1)

-- ---- a junction among the formulas
itself_alone : (k : Truth) (t : Tree) → IsPlain k t → members k t ≡ more t none
itself_alone true True p = absurd (some≢none p.0)
itself_alone true (And ts) p = absurd (true≢false p.1)
itself_alone true t p = refl
itself_alone false False p = absurd (some≢none p.0)
itself_alone false (Or ts) p = absurd (true≢false p.1)
itself_alone false t p = refl

members_packed : (k : Truth) (ts : Trees) → ArePlain k ts → members k (packed k ts) ≡ ts
members_packed true none p = refl
members_packed false none p = refl
members_packed k (more t none) p = itself_alone k t p.0
members_packed true (more t (more u us)) p = refl
members_packed false (more t (more u us)) p = refl

packed_free : (k : Truth) (ts : Trees) → ArePlain k ts → same (packed k ts) (truth_tree (not k)) ≡ false
packed_free true none p = refl
packed_free false none p = refl
packed_free k (more t none) p = not_constant t (not k) p.0.0
packed_free true (more t (more u us)) p = refl
packed_free false (more t (more u us)) p = refl

-- the junction is the absorbing constant only where this is one of the formulas
junction_constant : (k : Truth) (ts : Trees) → AreCanonical ts → same (junction k ts) (truth_tree (not k)) ≡ has_constant (not k) ts
junction_constant k ts c = by (has_constant (not k) ts) refl
  where
    by : (b : Truth) → has_constant (not k) ts ≡ b → same (if b then truth_tree (not k) else packed k (gathered k ts)) (truth_tree (not k)) ≡ b
    by true e = same_itself (truth_tree (not k))
    by false e = packed_free k (gathered k ts) (gathered_plain k ts c e)

-- its members are theirs
junction_members : (k : Truth) (ts : Trees) → AreCanonical ts → has_constant (not k) ts ≡ false → members k (junction k ts) ≡ gathered k ts
junction_members k ts c e = ap (λ b. members k (if b then truth_tree (not k) else packed k (gathered k ts))) e ∙ members_packed k (gathered k ts) (gathered_plain k ts c e)

-- two lists of formulas with the same junction, also behind others
record AreAlike (k : Truth) (ts us : Trees) : Type 0 where
  constant : has_constant (not k) ts ≡ has_constant (not k) us
  gathers : has_constant (not k) ts ≡ false → gathered k ts ≡ gathered k us

same_junction : (k : Truth) (ts us : Trees) → AreAlike k ts us → junction k ts ≡ junction k us
same_junction k ts us a = by (has_constant (not k) ts) refl
  where
    by : (b : Truth) → has_constant (not k) ts ≡ b → junction k ts ≡ junction k us
    by true e = ap (λ b. if b then truth_tree (not k) else packed k (gathered k ts)) e ∙ sym (ap (λ b. if b then truth_tree (not k) else packed k (gathered k us)) (sym a.constant ∙ e))
    by false e = ap (λ b. if b then truth_tree (not k) else packed k (gathered k ts)) e ∙ ap (packed k) (a.gathers e) ∙ sym (ap (λ b. if b then truth_tree (not k) else packed k (gathered k us)) (sym a.constant ∙ e))

constant_joined : (k : Truth) (ts us : Trees) → has_constant k (joined_lists ts us) ≡ (has_constant k ts || has_constant k us)
constant_joined k none us = refl
constant_joined k (more t ts) us = ap (λ b. same t (truth_tree k) || b) (constant_joined k ts us) ∙ turn (same t (truth_tree k)) (has_constant k ts) (has_constant k us)
  where
    turn : (a b c : Truth) → (a || (b || c)) ≡ ((a || b) || c)
    turn true b c = refl
    turn false b c = refl

-- the formula c among others is as good as the formulas ds among them
abbrev StandsFor : Truth → Tree → Trees → Type 0
StandsFor k c ds = (cs vs : Trees) → AreAlike k cs vs → AreAlike k (more c cs) (joined_lists ds vs)

alone_stands : (k : Truth) (t : Tree) → StandsFor k t (more t none)
alone_stands k t cs vs a = record {
  constant = ap (λ b. same t (truth_tree (not k)) || b) a.constant;
  gathers = λ e. ap (inserts (members k t)) (a.gathers (neither (same t (truth_tree (not k))) (has_constant (not k) cs) e).1);
}

junction_stands : (k : Truth) (ds : Trees) → AreCanonical ds → StandsFor k (junction k ds) ds
junction_stands k ds c cs vs a = record {
  constant = (λ i. junction_constant k ds c i || a.constant i) ∙ sym (constant_joined (not k) ds vs);
  gathers = λ e.
      let q = neither (same (junction k ds) (truth_tree (not k))) (has_constant (not k) cs) e in
      (λ i. inserts (junction_members k ds c (sym (junction_constant k ds c) ∙ q.0) i) (a.gathers q.1 i)) ∙ gathered_joined k ds vs;
}

-- ---- nested formulas
canonical_first : (ts us : Trees) → AreCanonical (joined_lists ts us) → AreCanonical ts
canonical_first none us h = tt
canonical_first (more t ts) us h = (h.0, canonical_first ts us h.1)

canonical_second : (ts us : Trees) → AreCanonical (joined_lists ts us) → AreCanonical us
canonical_second none us h = h
canonical_second (more t ts) us h = canonical_second ts us h.1

record Nested (k : Truth) (t : Tree) : Type 0 where
  form : Tree
  found : canon t ≡ Ok form
  stands : StandsFor k form (leaves k t)

record AllNested (k : Truth) (ts : Trees) : Type 0 where
  forms : Trees
  found : canons ts ≡ Ok forms
  alike : AreAlike k forms (all_leaves k ts)

by_kids : (k : Truth) (t : Tree) (ts : Trees) → leaves k t ≡ all_leaves k ts → canon t ≡ after (canons ts) (λ cs. Ok (junction k cs)) → AreCanonical (all_leaves k ts) → AllNested k ts → Nested k t
by_kids k t ts l e c n = record {
  form = junction k (all_leaves k ts);
  found = e ∙ ap (λ r. after r (λ cs. Ok (junction k cs))) n.found ∙ ap Ok (same_junction k n.forms (all_leaves k ts) n.alike);
  stands = subst (StandsFor k (junction k (all_leaves k ts))) (sym l) (junction_stands k (all_leaves k ts) c);
}

as_it_is : (k : Truth) (t : Tree) → leaves k t ≡ more t none → IsCanonical t → Nested k t
as_it_is k t l c = record { form = t; found = fixed t c; stands = subst (StandsFor k t) (sym l) (alone_stands k t) }

mutual
  nested : (k : Truth) (t : Tree) → AreCanonical (leaves k t) → Nested k t
  nested true (And ts) c = by_kids true (And ts) ts refl refl c (all_nested true ts c)
  nested false (Or ts) c = by_kids false (Or ts) ts refl refl c (all_nested false ts c)
  nested true t c = as_it_is true t refl c.0
  nested false t c = as_it_is false t refl c.0

  all_nested : (k : Truth) (ts : Trees) → AreCanonical (all_leaves k ts) → AllNested k ts
  all_nested k none c = record { forms = none; found = refl; alike = record { constant = refl; gathers = λ e. refl } }
  all_nested k (more t ts) c =
      let one = nested k t (canonical_first (leaves k t) (all_leaves k ts) c) in
      let others = all_nested k ts (canonical_second (leaves k t) (all_leaves k ts) c) in
      record {
        forms = more one.form others.forms;
        found = ap (λ r. after r (λ x. after (canons ts) (λ cs. Ok (more x cs)))) one.found ∙ ap (λ r. after r (λ cs. Ok (more one.form cs))) others.found;
        alike = one.stands others.forms (all_leaves k ts) others.alike;
      }

-- the canonical form of And or Or is the junction of the formulas under it
pub canon_joined : (k : Truth) (ts : Trees) → AreCanonical (all_leaves k ts) → canon (joined k ts) ≡ Ok (junction k (all_leaves k ts))
canon_joined true ts c = let n = all_nested true ts c in ap (λ r. after r (λ cs. Ok (junction true cs))) n.found ∙ ap Ok (same_junction true n.forms (all_leaves true ts) n.alike)
canon_joined false ts c = let n = all_nested false ts c in ap (λ r. after r (λ cs. Ok (junction false cs))) n.found ∙ ap Ok (same_junction false n.forms (all_leaves false ts) n.alike)

-- so is that of each formula
pub canon_leaves : (k : Truth) (t : Tree) → AreCanonical (leaves k t) → canon t ≡ Ok (junction k (leaves k t))
canon_leaves true (And ts) c = canon_joined true ts c
canon_leaves false (Or ts) c = canon_joined false ts c
canon_leaves true t c = fixed t c.0
canon_leaves false t c = fixed t c.0

-- ---- the formulas under a canonical one
plain_leaf : (k : Truth) (t : Tree) → is_kind k t ≡ false → leaves k t ≡ more t none
plain_leaf true (And ts) e = absurd (true≢false e)
plain_leaf false (Or ts) e = absurd (true≢false e)
plain_leaf true t e = refl
plain_leaf false t e = refl

plain_leaves : (k : Truth) (ts : Trees) → ArePlain k ts → all_leaves k ts ≡ ts
plain_leaves k none p = refl
plain_leaves k (more t ts) p = λ i. joined_lists (plain_leaf k t p.0.1 i) (plain_leaves k ts p.1 i)

pub canonical_leaves : (k : Truth) (t : Tree) → IsCanonical t → AreCanonical (leaves k t)
canonical_leaves true (And ts) c = subst AreCanonical (sym (plain_leaves true ts c.1.plain)) c.0
canonical_leaves false (Or ts) c = subst AreCanonical (sym (plain_leaves false ts c.1.plain)) c.0
canonical_leaves true t c = (c, tt)
canonical_leaves false t c = (c, tt)
