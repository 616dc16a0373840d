-- What a step that shifts names keeps: models go up and down, and are lifted.
use Rattle.std.proofs.Common.{◌≡◌, ℕ, zero, suc, ℤ, pos, negsuc, map, Option, if◌then◌else◌, ◌⊎◌, inl, inr, Bool as Truth, true, false, true≢false, cond, unwrap_or, Some, None, List, [], ◌∷◌, Ok, refl, sym, ap, subst, ◌∙◌, arith}
use Rattle.std.specs.Prelude.{◌+ℤ◌, ◌-ℤ◌, ◌++◌}
use Rattle.std.proofs.lemmas.Int.{ints}
use Rattle.std.specs.List.{Contains}
use Rattle.std.specs.Map.{lookup}
use Rattle.qterm.specs.declared.name.Name.{Name}
use Rattle.qterm.specs.declared.name.Sort.{Sort}
use Rattle.qterm.specs.declared.name.Sort.TheVariants as sort
use Rattle.qterm.specs.Tree.{Tree, Var}
use Rattle.qeval.specs.declared.model.Value.{Value}
use Rattle.qeval.specs.declared.model.Value.TheVariants.{Bool, Int}
use Rattle.qeval.specs.Value.{Valuation, HasSort, IsSorted, value_of, zero_of, same_name, int_of, bool_of}
use Rattle.qeval.specs.Eval.{val, truth}
use Rattle.qeval.proofs.Valuations.{same_name_exact, HasSort-value_of}
use Rattle.qlin.specs.CanonList.{canon_list}
use Rattle.qlist_laws.specs.Law.{KeepsModels}
use Rattle.qgoal.specs.Meaning.{IsModel, HasName, Up, Down}
use Rattle.std.specs.declared.cmp.Ordering.{Ordering}
use Rattle.std.specs.declared.cmp.Ordering.TheVariants.{Less, Equal, Greater}
use Rattle.qlin.specs.Order.{name_cmp, by_order}
use Rattle.qeval.specs.Bounds.{low_of}
use Rattle.name_bounds.specs.Missing.{is_int}
use Rattle.model_conv.specs.Lift.{lifted}
use Rattle.model_conv.proofs.Lifts.{lifted_both}
use Rattle.model_conv.proofs.Forgets.{lifted_sorted}
use Rattle.qsubst.specs.Names.{names, names_all, names_in, names_of, insert_name, in_order}
use Rattle.qsubst.specs.Fresh.{texts_of, AreFresh}
use Rattle.qsubst.specs.Substitution.{Substitution, image, replaced, replaced_each, after}
use Rattle.qsubst.proofs.Members.{Member, Member-from_Contains, Contains-from_Member, Contains-first, Contains-one, Contains-none, Member-map}
use Rattle.qsubst.proofs.Occurring.{from_subterms_of}
use Rattle.qsubst.proofs.Values.{image_value, puts_values, val_agrees, names_replaced_each}
use Rattle.qsubst.proofs.Looking.{same_name_itself}
use Rattle.qlist_laws.specs.Formulas.{AreFormulas}
use Rattle.qlist_laws.proofs.Lists.{keeps_list_names}
use Rattle.std.proofs.lemmas.List.Elements.{Contains-append_left, Contains-append_right, Contains-append_cases}
use Rattle.shift_lists.specs.declared.shifting.Shift.{Shift}
use Rattle.shift_lists.specs.Shifts.{shift_by, shift_of, shifts_of, bases, shifted, images_of, old_names, new_names, AreInt, AreShifts, Lifts}
use Rattle.shift_lists.specs.Lifting.{assign_of, forget_of, lifting}
use Rattle.shift_lists.proofs.Carrying.{KeepsApart, lifting_lawful, forgotten, assigned}
use Rattle.shift_lists.proofs.Freshness.{fresh_not_taken, fresh_apart, occurs_taken, text_has}

-- ---- the terms that are put for names
pub image_cases : (ss : List Shift) (n : Name) → (image (images_of ss) n ≡ Var n) ⊎ ((s : Shift) × Member s ss × (s.name ≡ n) × (image (images_of ss) n ≡ shifted s))
image_cases [] n = inl refl
image_cases (r ∷ ss) n = by (same_name n r.name) refl (image_cases ss n)
  where
    by : (b : Truth) → same_name n r.name ≡ b → (image (images_of ss) n ≡ Var n) ⊎ ((s : Shift) × Member s ss × (s.name ≡ n) × (image (images_of ss) n ≡ shifted s))
        → (image (images_of (r ∷ ss)) n ≡ Var n) ⊎ ((s : Shift) × Member s (r ∷ ss) × (s.name ≡ n) × (image (images_of (r ∷ ss)) n ≡ shifted s))
    by true q ih = inr (r, inl refl, sym (same_name_exact n r.name q), ap (λ b. unwrap_or (cond b (Some (shifted r)) (lookup (same_name n) (images_of ss))) (Var n)) q)
    by false q ih =
        let e : image (images_of (r ∷ ss)) n ≡ image (images_of ss) n = ap (λ b. unwrap_or (cond b (Some (shifted r)) (lookup (same_name n) (images_of ss))) (Var n)) q in
        elim ih [ inl p ↦ inl (e ∙ p) | inr h ↦ inr (h.0, inr h.1, h.2, e ∙ h.3) ]

-- formulas with their names replaced
replaced_there : (s : Substitution) (fs : List Tree) (f : Tree) → Member f fs → Member (replaced s f) (replaced_each s fs)
replaced_there s [] f h = absurd h
replaced_there s (g ∷ fs) f (inl e) = inl (ap (replaced s) e)
replaced_there s (g ∷ fs) f (inr h) = inr (replaced_there s fs f h)

replaced_from : (s : Substitution) (fs : List Tree) (t : Tree) → Member t (replaced_each s fs) → (f : Tree) × Member f fs × (t ≡ replaced s f)
replaced_from s [] t h = absurd h
replaced_from s (g ∷ fs) t (inl e) = (g, inl refl, e)
replaced_from s (g ∷ fs) t (inr h) = let r = replaced_from s fs t h in (r.0, inr r.1, r.2)

-- a name of a formula is one of the formulas
name_among : (fs : List Tree) (f : Tree) (n : Name) → Member f fs → Contains (names f) n → Contains (names_in fs) n
unfolding names_in
name_among [] f n h c = absurd h
name_among (g ∷ fs) f n (inl e) c = Contains-append_left (names g) (names_in fs) n (subst (λ t. Contains (names t) n) e c)
name_among (g ∷ fs) f n (inr h) c = Contains-append_right (names g) (names_in fs) n (name_among fs f n h c)

names_var : (m n : Name) → Contains (names (Var m)) n → n ≡ m
unfolding names
names_var m n c = Contains-one m n c

names_shifted : (s : Shift) (n : Name) → Contains (names (shifted s)) n → n ≡ s.fresh
unfolding names names_all
names_shifted s n c =
    elim (Contains-append_cases (s.fresh ∷ []) [] n c) [
      | inl p ↦ Contains-one s.fresh n p
      | inr q ↦ absurd (Contains-none n q)
    ]

-- ---- the valuation that gives the fresh names their values
abbrev pub undone : List Shift → Valuation → Valuation
undone [] V = V
undone (s ∷ ss) V = (s.fresh, Int (int_of (value_of V s.name) -ℤ s.by)) ∷ undone ss V

undone_sorted : (ss : List Shift) (V : Valuation) → AreInt ss → IsSorted V → IsSorted (undone ss V)
undone_sorted [] V i h = h
undone_sorted (s ∷ ss) V i h = (i.1, undone_sorted ss V i.2 h)

after_sorted : (ss : List Shift) (V : Valuation) → AreInt ss → IsSorted V → IsSorted (after V (images_of ss))
after_sorted [] V i h = h
after_sorted (s ∷ ss) V i h = (i.0, after_sorted ss V i.2 h)

-- a name that isn't fresh keeps its value
undone_other : (ss : List Shift) (V : Valuation) (n : Name) → ((s : Shift) → Member s ss → n ≡ s.fresh → ⊥) → value_of (undone ss V) n ≡ value_of V n
undone_other [] V n h = refl
undone_other (s ∷ ss) V n h = by (same_name n s.fresh) refl (undone_other ss V n (λ r m. h r (inr m)))
  where
    by : (b : Truth) → same_name n s.fresh ≡ b → value_of (undone ss V) n ≡ value_of V n → value_of (undone (s ∷ ss) V) n ≡ value_of V n
    by true q ih = absurd (h s (inl refl) (same_name_exact n s.fresh q))
    by false q ih = ap (λ b. unwrap_or (cond b (Some (Int (int_of (value_of V s.name) -ℤ s.by))) (lookup (same_name n) (undone ss V))) (zero_of n.sort)) q ∙ ih

-- no two fresh names are the same
abbrev AreApart : List Shift → Type 0
AreApart [] = Unit {0}
AreApart (s ∷ ss) = ((r : Shift) → Member r ss → r.fresh ≡ s.fresh → ⊥) × AreApart ss

apart_from : (T : List (List ℕ)) (ss : List Shift) → AreFresh T (texts_of (old_names ss)) (texts_of (new_names ss)) → AreApart ss
apart_from T [] f = tt
apart_from T (s ∷ ss) f = (
  λ r m e. fresh_apart T (texts_of (old_names ss)) (texts_of (new_names ss)) s.name.text s.fresh.text r.fresh.text f (text_has r.fresh (new_names ss) (Member-map (λ (s : Shift). s.fresh) r ss m)) (ap (λ (n : Name). n.text) e),
  apart_from (T ++ s.fresh.text ∷ []) ss f.1,
)

-- a fresh name has the value of the name that it stands for, less the number
undone_at : (ss : List Shift) (V : Valuation) (s : Shift) → AreApart ss → Member s ss → value_of (undone ss V) s.fresh ≡ Int (int_of (value_of V s.name) -ℤ s.by)
undone_at [] V s a m = absurd m
undone_at (r ∷ ss) V s a (inl e) =
    subst (λ (s : Shift). value_of (undone (r ∷ ss) V) s.fresh ≡ Int (int_of (value_of V s.name) -ℤ s.by)) (sym e)
    (ap (λ b. unwrap_or (cond b (Some (Int (int_of (value_of V r.name) -ℤ r.by))) (lookup (same_name r.fresh) (undone ss V))) (zero_of r.fresh.sort)) (same_name_itself r.fresh))
undone_at (r ∷ ss) V s a (inr m) = by (same_name s.fresh r.fresh) refl (undone_at ss V s a.1 m)
  where
    by : (b : Truth) → same_name s.fresh r.fresh ≡ b → value_of (undone ss V) s.fresh ≡ Int (int_of (value_of V s.name) -ℤ s.by) → value_of (undone (r ∷ ss) V) s.fresh ≡ Int (int_of (value_of V s.name) -ℤ s.by)
    by true q ih = absurd (a.0 s m (same_name_exact s.fresh r.fresh q))
    by false q ih = ap (λ b. unwrap_or (cond b (Some (Int (int_of (value_of V r.name) -ℤ r.by))) (lookup (same_name s.fresh) (undone ss V))) (zero_of s.fresh.sort)) q ∙ ih

-- ---- numbers
int_back : (r : Sort) (v : Value) → r ≡ sort.Int → HasSort r v → Int (int_of v) ≡ v
int_back r (Int z) e h = refl
int_back r (Bool b) e h = absurd (apart (sym h ∙ e))
  where
    IsBool : Sort → Type 0
    IsBool sort.Bool = Unit {0}
    IsBool sort.Int = ⊥

    apart : sort.Bool ≡ sort.Int → ⊥
    apart q = cc

sum_back : (a b : ℤ) → (pos 0 +ℤ (a -ℤ b)) +ℤ b ≡ a
sum_back a b = omega (arith, ints)

member_int : (ss : List Shift) (s : Shift) → AreInt ss → Member s ss → s.name.sort ≡ sort.Int
member_int [] s i m = absurd m
member_int (r ∷ ss) s i (inl e) = ap (λ (s : Shift). s.name.sort) e ∙ i.0
member_int (r ∷ ss) s i (inr m) = member_int ss s i.2 m

-- ---- the names that are replaced
insert_from : (n m : Name) (ms : List Name) → Member n (insert_name m ms) → (n ≡ m) ⊎ Member n ms
insert_from n m [] h = h
insert_from n m (k ∷ ks) h = by (name_cmp m k) h (λ g. insert_from n m ks g)
  where
    by : (o : Ordering) → Member n (by_order o (m ∷ k ∷ ks) (k ∷ ks) (k ∷ insert_name m ks)) → (Member n (insert_name m ks) → (n ≡ m) ⊎ Member n ks) → (n ≡ m) ⊎ Member n (k ∷ ks)
    by Less g ih = g
    by Equal g ih = inr g
    by Greater g ih = elim g [ inl p ↦ inr (inl p) | inr q ↦ elim (ih q) [ inl r ↦ inl r | inr t ↦ inr (inr t) ] ]

order_from : (n : Name) (ns : List Name) → Member n (in_order ns) → Member n ns
order_from n [] h = absurd h
order_from n (m ∷ ms) h = elim (insert_from n m (in_order ms) h) [ inl p ↦ inl p | inr q ↦ inr (order_from n ms q) ]

shift_by_from : (x : Name) (low : Option ℤ) (p : Name × ℤ) → Member p (shift_by x low) → p.0 ≡ x
shift_by_from x None p h = absurd h
shift_by_from x (Some (pos zero)) p h = absurd h
shift_by_from x (Some (pos (suc k))) p h = elim h [ inl e ↦ ap (λ (q : Name × ℤ). q.0) e | inr g ↦ absurd g ]
shift_by_from x (Some (negsuc k)) p h = elim h [ inl e ↦ ap (λ (q : Name × ℤ). q.0) e | inr g ↦ absurd g ]

shift_from : (fs : List Tree) (x : Name) (p : Name × ℤ) → Member p (shift_of fs x) → p.0 ≡ x
shift_from fs x p h = by (is_int x.sort) h
  where
    by : (b : Truth) → Member p (if b then shift_by x (low_of x fs) else []) → p.0 ≡ x
    by true g = shift_by_from x (low_of x fs) p g
    by false g = absurd g

append_from : (p : Name × ℤ) (xs ys : List (Name × ℤ)) → Member p (xs ++ ys) → Member p xs ⊎ Member p ys
append_from p [] ys h = inr h
append_from p (x ∷ xs) ys (inl e) = inl (inl e)
append_from p (x ∷ xs) ys (inr h) = elim (append_from p xs ys h) [ inl a ↦ inl (inr a) | inr b ↦ inr b ]

shifts_from : (fs : List Tree) (xs : List Name) (p : Name × ℤ) → Member p (shifts_of fs xs) → Member p.0 xs
shifts_from fs [] p h = absurd h
shifts_from fs (x ∷ xs) p h = elim (append_from p (shift_of fs x) (shifts_of fs xs) h) [ inl a ↦ inl (shift_from fs x p a) | inr b ↦ inr (shifts_from fs xs p b) ]

-- a name that is replaced is one of the formulas
replaced_occurs : (fs : List Tree) (ss : List Shift) (r : Shift) → bases ss ≡ shifts_of fs (names_of fs) → Member r ss → Contains (names_in fs) r.name
unfolding names_of
replaced_occurs fs ss r e m =
    let there : Member (r.name, r.by) (bases ss) = Member-map {Y = Name × ℤ} (λ (s : Shift). (s.name, s.by)) r ss m in
    Contains-from_Member r.name (names_in fs) (order_from r.name (names_in fs) (shifts_from fs (names_of fs) (r.name, r.by) (subst (Member (r.name, r.by)) e there)))

-- ---- the step
module _ (keeps : KeepsModels) (g c h : List Tree) (ss : List Shift) (w : AreFormulas g) (e : canon_list g ≡ Ok c) (a : AreShifts g c ss) (v : AreFormulas (replaced_each (images_of ss) c)) (d : canon_list (replaced_each (images_of ss) c) ≡ Ok h) where
  s : Substitution
  s = images_of ss

  -- a fresh name doesn't occur in the goal
  not_there : (r : Shift) → Member r ss → Contains (names_in g) r.fresh → ⊥
  not_there r m k =
      true≢false (sym (occurs_taken g r.fresh k) ∙ fresh_not_taken (texts_of (names_of g)) (texts_of (old_names ss)) (texts_of (new_names ss)) r.fresh.text a.fresh (text_has r.fresh (new_names ss) (Member-map (λ (s : Shift). s.fresh) r ss m)))

  pub lifts : Lifts g h (images_of ss)
  lifts V W m k same = (keeps W g c w e).0 (record { sorted = k; holds = λ f q. holds f q })
    where
      model : IsModel V (replaced_each (images_of ss) c)
      model = (keeps V (replaced_each (images_of ss) c) h v d).0 m

      holds : (f : Tree) → Contains c f → truth W f ≡ true
      holds f q =
          let there : Contains (replaced_each (images_of ss) c) (replaced (images_of ss) f) =
          Contains-from_Member (replaced (images_of ss) f) (replaced_each (images_of ss) c) (replaced_there (images_of ss) c f (Member-from_Contains f c q)) in
          let agree : val W f ≡ val (after V (images_of ss)) f =
          val_agrees W (after V (images_of ss)) f
          (λ n o. same n (keeps_list_names g c n e (name_among c f n (Member-from_Contains f c q) o)) ∙ image_value V (images_of ss) n) in
          ap bool_of (agree ∙ sym (puts_values V (images_of ss) f)) ∙ model.holds (replaced (images_of ss) f) there

  pub up : Up g h
  up V m =
      record {
        model = after V (images_of ss);
        is = lifts V (after V (images_of ss)) m (after_sorted ss V a.ints m.sorted) (λ n q. sym (image_value V (images_of ss) n));
        agrees = λ n p q. sym (image_value V (images_of ss) n) ∙ ap (val V) (stays n q p);
      }
    where
      stays : (n : Name) → HasName h n → HasName g n → image (images_of ss) n ≡ Var n
      stays n p q =
          let o : Contains (names_in g) n = from_subterms_of g n q in
          let r = names_replaced_each (images_of ss) c n (keeps_list_names (replaced_each (images_of ss) c) h n d (from_subterms_of h n p)) in
          elim (image_cases ss r.0) [
            | inl z ↦
                let t : n ≡ r.0 = names_var r.0 n (subst (λ u. Contains (names u) n) z r.2) in
                subst (λ k. image (images_of ss) k ≡ Var k) (sym t) z
            | inr z ↦
                let t : n ≡ z.0.fresh = names_shifted z.0 n (subst (λ u. Contains (names u) n) z.3 r.2) in
                absurd (not_there z.0 z.1 (subst (Contains (names_in g)) t o))
          ]

  pub down : Down g (h ∷ [])
  down V m = (
    h,
    Contains-first h [],
    record {
      model = undone ss V;
      is = (keeps (undone ss V) (replaced_each (images_of ss) c) h v d).1 (record { sorted = undone_sorted ss V a.ints m.sorted; holds = λ t q. holds t (replaced_from (images_of ss) c t (Member-from_Contains t (replaced_each (images_of ss) c) q)) });
      agrees = λ n p q. other n (from_subterms_of g n q);
    },
  )
    where
      other : (n : Name) → Contains (names_in g) n → value_of (undone ss V) n ≡ value_of V n
      other n o = undone_other ss V n (λ r k q. not_there r k (subst (Contains (names_in g)) q o))

      model : IsModel V c
      model = (keeps V g c w e).1 m

      back : (n : Name) → Contains (names_in g) n → val (undone ss V) (image (images_of ss) n) ≡ value_of V n
      back n o =
          elim (image_cases ss n) [
            | inl z ↦ ap (val (undone ss V)) z ∙ other n o
            | inr z ↦
                let r = z.0 in
                let num : int_of (value_of (undone ss V) r.fresh) ≡ int_of (value_of V r.name) -ℤ r.by = ap int_of (undone_at ss V r (apart_from (texts_of (names_of g)) ss a.fresh) z.1) in
                ap (val (undone ss V)) z.3 ∙ ap (λ k. Int ((pos 0 +ℤ k) +ℤ r.by)) num ∙ ap Int (sum_back (int_of (value_of V r.name)) r.by)
                ∙ int_back r.name.sort (value_of V r.name) (member_int ss r a.ints z.1) (HasSort-value_of V r.name m.sorted) ∙ ap (value_of V) z.2
          ]

      holds : (t : Tree) → (f : Tree) × Member f c × (t ≡ replaced (images_of ss) f) → truth (undone ss V) t ≡ true
      holds t q =
          let f = q.0 in
          let agree : val (after (undone ss V) (images_of ss)) f ≡ val V f =
          val_agrees (after (undone ss V) (images_of ss)) V f
          (λ n o. sym (image_value (undone ss V) (images_of ss) n) ∙ back n (keeps_list_names g c n e (name_among c f n q.1 o))) in
          ap (λ u. bool_of (val (undone ss V) u)) q.2 ∙ ap bool_of (puts_values (undone ss V) (images_of ss) f ∙ agree) ∙ model.holds f (Contains-from_Member f c q.1)

  -- no fresh name is one that is replaced
  apart : KeepsApart ss
  apart r q m k t = not_there r m (subst (Contains (names_in g)) (sym t) (keeps_list_names g c q.name e (replaced_occurs c ss q a.lows k)))

  -- the steps of lifting carry models back
  pub carried : (V : Valuation) → IsModel V h → IsModel (lifted (lifting ss) V) g
  carried V m = lifts V (lifted (lifting ss) V) m (lifted_sorted (lifting ss) V (lifting_lawful ss a.ints) m.sorted) value
    where
      value : (n : Name) → Contains (names_in g) n → value_of (lifted (lifting ss) V) n ≡ val V (image (images_of ss) n)
      value n o =
          ap (λ W. value_of W n) (lifted_both (map forget_of ss) (map assign_of ss) V)
          ∙ forgotten ss (lifted (map assign_of ss) V) n (λ r k q. not_there r k (subst (Contains (names_in g)) q o)) ∙ assigned ss V n apart
