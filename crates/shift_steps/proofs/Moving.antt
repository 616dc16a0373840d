-- The shifted names of a formula are replaced, one after another, and so in all formulas.
use Rattle.std.proofs.Common.{◌≡◌, ◌≤◌, ◌<◌, ◌+◌, ℕ, zero, suc, inl, inr, Bool as Truth, true, false, true≢false, ◌||◌, cond, if◌then◌else◌, unwrap_or, List, [], ◌∷◌, ◌++◌, map, length, take, get_or, Option, Some, None, refl, sym, ap, subst, ◌∙◌, arith, append_assoc, append-nil, ◌⊎◌}
use Rattle.std.specs.Prelude.{nat_le}
use Rattle.std.specs.List.{Contains, list_any}
use Rattle.std.specs.Map.{lookup}
use Rattle.std.specs.declared.cmp.Ordering.{Ordering}
use Rattle.std.specs.declared.cmp.Ordering.TheVariants.{Less, Equal, Greater}
use Rattle.std.specs.Cmp.Lexicographic.{nat_list_eq_equiv}
use Rattle.std.proofs.lemmas.List.{take_more, take_all}
use Rattle.std.proofs.lemmas.List.Folds.{list_any-append}
use Rattle.qterm.specs.declared.name.Name.{Name}
use Rattle.qterm.specs.declared.name.Sort.TheVariants as sort
use Rattle.qterm.specs.Tree.{Tree, Var, Num, Sum, none, more, sort_of, IsLawful}
use Rattle.qterm.specs.Store.{tree_at, trees_of, Shows, IsDistinct}
use Rattle.qeval.specs.Value.{same_name}
use Rattle.qeval.proofs.Valuations.{same_name_exact}
use Rattle.qlin.specs.Order.{name_cmp, by_order}
use Rattle.qlin.proofs.Orders.{equal}
use Rattle.qsubst.specs.Names.{names, names_in, names_of, insert_name, in_order}
use Rattle.qsubst.specs.Substitution.{Substitution, image, replaced, replaced_each, HaveSorts}
use Rattle.qsubst.proofs.Looking.{or_else, same_name_itself}
use Rattle.qsubst.proofs.Members.{Member, Member-from_Contains}
use Rattle.qsubst.proofs.Occurring.{cmp_vars}
use Rattle.qsubst.proofs.Values.{replaced_sort}
use Rattle.qlist_laws.specs.Formulas.{AreFormulas}
use Rattle.tac_cert.specs.declared.cert.Step.TheVariants as step
use Rattle.tac_cert.specs.Names.{same_text}
use Rattle.tac_cert.specs.Depth.{depth, deepest_term, is_shallow}
use Rattle.tac_cert.specs.Items.{Formula, item}
use Rattle.tac_cert.specs.Formulas.{kept}
use Rattle.tac_cert.specs.Accepts.{as_items}
use Rattle.goal_depth.specs.Depths.{counted, deepest, AreShallow}
use Rattle.shift_lists.specs.declared.shifting.Shift.{Shift}
use Rattle.shift_lists.specs.Shifts.{shifted, images_of, shift_one, AreInt}
use Rattle.shift_lists.proofs.ShiftSteps.{image_cases}
use Rattle.shift_steps.specs.declared.trace.Trace.{Trace}
use Rattle.shift_steps.specs.declared.defining.Turn.{Turn}
use Rattle.shift_steps.specs.Items.{IsPushed, Holds}
use Rattle.shift_steps.specs.Defining.{defining, with_definitions, IsTurn}
use Rattle.shift_steps.specs.Replacing.{Replaces, AreReady, IsReady, Moves, ShiftsOn, AreShifted}
use Rattle.shift_steps.proofs.Putting.{in_turn, agrees, replaced_none, deeper}
use Rattle.shift_steps.proofs.Stepping.{items-append, formula_before, item_there, kept_before, kept_more, holds_push, holds_last}
use Rattle.shift_steps.proofs.Apart.{fresh_free}
use Rattle.shift_steps.proofs.Giving.{subst_gives}
use Rattle.shift_steps.proofs.Tables.{member_ints, member_narrow, lookup_more, none_found}

-- ---- the terms that are put for names
pub low_images : (rs : List Shift) (n : Name) → depth (image (images_of rs) n) ≤ 2
low_images rs n =
    elim (image_cases rs n) [
      | inl e ↦ subst (λ t. depth t ≤ 2) (sym e) (omega arith)
      | inr h ↦ subst (λ t. depth t ≤ 2) (sym h.3) (omega arith)
    ]

pub one_images : (rs : List Shift) (n : Name) → counted (image (images_of rs) n) ≡ 1
one_images rs n =
    elim (image_cases rs n) [
      | inl e ↦ ap counted e
      | inr h ↦ ap counted h.3
    ]

images_sorts : (rs : List Shift) → AreInt rs → HaveSorts (images_of rs)
images_sorts [] h = tt
images_sorts (r ∷ rs) h = ((tt, h.1, (tt, refl, tt)), sym h.0, images_sorts rs h.2)

ints_push : (rs : List Shift) (s : Shift) → AreInt rs → s.name.sort ≡ sort.Int → s.fresh.sort ≡ sort.Int → AreInt (rs ++ s ∷ [])
ints_push [] s h p q = (p, q, tt)
ints_push (r ∷ rs) s h p q = (h.0, h.1, ints_push rs s h.2 p q)

enough : deepest + 1 ≤ deepest_term
unfolding deepest deepest_term
enough = omega arith

le_true : (m n : ℕ) → m ≤ n → nat_le m n ≡ true
le_true m n h = grind arith

can_be_named : (rs : List Shift) (f : Tree) → IsReady f → is_shallow (replaced (images_of rs) f) ≡ true
can_be_named rs f h =
    let d = deeper (images_of rs) (low_images rs) f in
    let e = enough in
    let k = h.shallow.deep in
    le_true (depth (replaced (images_of rs) f)) deepest_term (omega (arith, d, e, k))

-- ---- one name after others
not_named : (m n : Name) → same_text m n ≡ false → same_name m n ≡ false
not_named m n h = by (same_name m n) refl
  where
    by : (b : Truth) → same_name m n ≡ b → same_name m n ≡ false
    by false q = q
    by true q = absurd (true≢false (sym (nat_list_eq_equiv.refl m.text) ∙ ap (λ (k : Name). same_text m k) (same_name_exact m n q) ∙ h))

-- a term that was put for a name has no name that is replaced
stays : (s r : Shift) → same_name r.fresh s.name ≡ false → replaced (shift_one s) (shifted r) ≡ shifted r
stays s r h = ap (λ b. Sum (more (unwrap_or (cond b (Some (shifted s)) None) (Var r.fresh)) (more (Num r.by) none))) h

at_name : (rs : List Shift) (s : Shift) (m : Name) → ((r : Shift) → Member r rs → same_name r.fresh s.name ≡ false) → image (images_of (rs ++ s ∷ [])) m ≡ replaced (shift_one s) (image (images_of rs) m)
at_name [] s m h = refl
at_name (r ∷ rs) s m h = by (same_name m r.name) refl (at_name rs s m (λ q k. h q (inr k)))
  where
    put : (qs : List Shift) (b : Truth) → same_name m r.name ≡ b → image (images_of (r ∷ qs)) m ≡ unwrap_or (cond b (Some (shifted r)) (lookup (same_name m) (images_of qs))) (Var m)
    put qs b q = ap (λ k. unwrap_or (cond k (Some (shifted r)) (lookup (same_name m) (images_of qs))) (Var m)) q

    by : (b : Truth) → same_name m r.name ≡ b → image (images_of (rs ++ s ∷ [])) m ≡ replaced (shift_one s) (image (images_of rs) m) → image (images_of (r ∷ (rs ++ s ∷ []))) m ≡ replaced (shift_one s) (image (images_of (r ∷ rs)) m)
    by true q ih = put (rs ++ s ∷ []) true q ∙ sym (stays s r (h r (inl refl))) ∙ sym (ap (replaced (shift_one s)) (put rs true q))
    by false q ih = put (rs ++ s ∷ []) false q ∙ ih ∙ sym (ap (replaced (shift_one s)) (put rs false q))

-- ---- steps after steps
pub moves_none : (ts fs all : List Tree) (t : Trace) (n : ℕ) (f : Tree) → Moves ts fs all t t n n f f
moves_none ts fs all t n f gs h e =
    let s : gs ≡ gs ++ [] = sym (append-nil gs) in
    ([], subst (λ hs. Holds ts fs (all ++ hs) t) s h, subst (λ hs. item (as_items (all ++ hs)) n ≡ Some (Formula f)) s e)

moves_then : (ts fs all : List Tree) (t u v : Trace) (l m n : ℕ) (f g h : Tree) → Moves ts fs all t u l m f g → Moves ts fs all u v m n g h → Moves ts fs all t v l n f h
moves_then ts fs all t u v l m n f g h a b gs held e =
    let p = a gs held e in
    let q = b (gs ++ p.0) p.1 p.2 in
    let s : (gs ++ p.0) ++ q.0 ≡ gs ++ (p.0 ++ q.0) = append_assoc gs p.0 q.0 in
    (p.0 ++ q.0, subst (λ hs. Holds ts fs (all ++ hs) v) s q.1, subst (λ hs. item (as_items (all ++ hs)) n ≡ Some (Formula h)) s q.2)

-- ---- the names that are done

done_more : (m n : Name) (done : List Name) → list_any (same_name m) (done ++ n ∷ []) ≡ (list_any (same_name m) done || (same_name m n || false))
done_more m n done = list_any-append (same_name m) done (n ∷ [])

-- of the shifts those of the names that are done
abbrev pub Finds : List Shift → List Shift → List Name → Type 0
Finds ss rs done = (m : Name) → lookup (same_name m) (images_of rs) ≡ (if list_any (same_name m) done then lookup (same_name m) (images_of ss) else None)

-- the name isn't shifted
finds_none : (ss rs : List Shift) (n : Name) (done : List Name) → lookup (same_name n) (images_of ss) ≡ None → Finds ss rs done → Finds ss rs (done ++ n ∷ [])
finds_none ss rs n done lacks h m = by (list_any (same_name m) done) refl (same_name m n) refl
  where
    goes : (a b : Truth) → list_any (same_name m) done ≡ a → same_name m n ≡ b → list_any (same_name m) (done ++ n ∷ []) ≡ (a || (b || false))
    goes a b p q = done_more m n done ∙ (λ i. p i || (q i || false))

    by : (a : Truth) → list_any (same_name m) done ≡ a → (b : Truth) → same_name m n ≡ b → lookup (same_name m) (images_of rs) ≡ (if list_any (same_name m) (done ++ n ∷ []) then lookup (same_name m) (images_of ss) else None)
    by true p b q = h m ∙ ap (λ c. if c then lookup (same_name m) (images_of ss) else None) (p ∙ sym (goes true b p q))
    by false p true q =
        h m ∙ ap (λ c. if c then lookup (same_name m) (images_of ss) else None) p ∙ sym lacks ∙ ap (λ k. lookup (same_name k) (images_of ss)) (sym (same_name_exact m n q))
        ∙ sym (ap (λ c. if c then lookup (same_name m) (images_of ss) else None) (goes false true p q))
    by false p false q = h m ∙ ap (λ c. if c then lookup (same_name m) (images_of ss) else None) (p ∙ sym (goes false false p q))

-- it is
finds_one : (ss rs : List Shift) (s : Shift) (done : List Name) → lookup (same_name s.name) (images_of ss) ≡ Some (shifted s) → Finds ss rs done → Finds ss (rs ++ s ∷ []) (done ++ s.name ∷ [])
finds_one ss rs s done found h m = by (list_any (same_name m) done) refl (same_name m s.name) refl
  where
    there : same_name m s.name ≡ true → lookup (same_name m) (images_of ss) ≡ Some (shifted s)
    there q = ap (λ k. lookup (same_name k) (images_of ss)) (same_name_exact m s.name q) ∙ found

    goes : (a b : Truth) → list_any (same_name m) done ≡ a → same_name m s.name ≡ b → (if list_any (same_name m) (done ++ s.name ∷ []) then lookup (same_name m) (images_of ss) else None) ≡ (if a || (b || false) then lookup (same_name m) (images_of ss) else None)
    goes a b p q = ap (λ c. if c then lookup (same_name m) (images_of ss) else None) (done_more m s.name done ∙ (λ i. p i || (q i || false)))

    looks : (a b : Truth) → list_any (same_name m) done ≡ a → same_name m s.name ≡ b → lookup (same_name m) (images_of (rs ++ s ∷ [])) ≡ or_else (if a then lookup (same_name m) (images_of ss) else None) (cond b (Some (shifted s)) None)
    looks a b p q = lookup_more rs s m ∙ (λ i. or_else (h m i) (cond (q i) (Some (shifted s)) None)) ∙ ap (λ c. or_else (if c then lookup (same_name m) (images_of ss) else None) (cond b (Some (shifted s)) None)) p

    none_last : (o : Option Tree) → or_else o None ≡ o
    none_last None = refl
    none_last (Some x) = refl

    by : (a : Truth) → list_any (same_name m) done ≡ a → (b : Truth) → same_name m s.name ≡ b → lookup (same_name m) (images_of (rs ++ s ∷ [])) ≡ (if list_any (same_name m) (done ++ s.name ∷ []) then lookup (same_name m) (images_of ss) else None)
    by true p true q = looks true true p q ∙ ap (λ o. or_else o (Some (shifted s))) (there q) ∙ sym (there q) ∙ sym (goes true true p q)
    by true p false q = looks true false p q ∙ none_last (lookup (same_name m) (images_of ss)) ∙ sym (goes true false p q)
    by false p true q = looks false true p q ∙ sym (there q) ∙ sym (goes false true p q)
    by false p false q = looks false false p q ∙ sym (goes false false p q)

-- ---- a formula
-- the names that are done are replaced, and no others
pub record PartWay (ts fs : List Tree) (ss : List Shift) (t u : Trace) (from to : ℕ) (f : Tree) (done : List Name) : Type 0 where
  pub some : List Shift
  pub ints : AreInt some
  pub among : (r : Shift) → Member r some → Member r ss
  pub finds : Finds ss some done
  pub moves : Moves ts fs (with_definitions fs ss) t u from to f (replaced (images_of some) f)

pub part_none : (ts fs : List Tree) (ss : List Shift) (t : Trace) (n : ℕ) (f : Tree) → PartWay ts fs ss t t n n f []
part_none ts fs ss t n f = record {
  some = [];
  ints = tt;
  among = λ r m. absurd m;
  finds = λ m. refl;
  moves = subst (λ g. Moves ts fs (with_definitions fs ss) t t n n f g) (sym (replaced_none f)) (moves_none ts fs (with_definitions fs ss) t n f);
}

member_push : (rs : List Shift) (s r : Shift) → Member r (rs ++ s ∷ []) → Member r rs ⊎ (r ≡ s)
member_push [] s r (inl e) = inr e
member_push [] s r (inr m) = absurd m
member_push (q ∷ rs) s r (inl e) = inl (inl e)
member_push (q ∷ rs) s r (inr m) = elim (member_push rs s r m) [ inl k ↦ inl (inr k) | inr k ↦ inr k ]

module _ (ts fs : List Tree) (ss : List Shift) (table : ℕ → Option Turn) (ready : AreReady ts fs ss table) (f : Tree) (isf : IsReady f) (t u v : Trace) (from to last i : ℕ) (done : List Name) (h : PartWay ts fs ss t u from to f done) where
  abbrev all : List Tree
  all = with_definitions fs ss

  module _ (w : Turn) (k : IsTurn ts all ss i w) (pushed : IsPushed u v (step.Subst w.equation i w.term to) last) where
    abbrev s : Shift
    s = k.shift

    m : Member s ss
    m = Member-from_Contains s ss k.among

    sorts : (s.name.sort ≡ sort.Int) × (s.fresh.sort ≡ sort.Int)
    sorts = member_ints ss s ready.can.ints m

    abbrev qs : List Shift
    qs = h.some ++ s ∷ []

    ints : AreInt qs
    ints = ints_push h.some s h.ints sorts.0 sorts.1

    turned : replaced (images_of qs) f ≡ replaced (shift_one s) (replaced (images_of h.some) f)
    turned = in_turn (images_of h.some) (shift_one s) (images_of qs) (λ n. at_name h.some s n (λ r c. not_named r.fresh s.name (fresh_free fs ss r s ready.can (h.among r c) m))) f

    apart : s.name ≡ s.fresh → ⊥
    apart e = true≢false (sym (nat_list_eq_equiv.refl s.fresh.text) ∙ ap (λ (n : Name). same_text s.fresh n) (sym e) ∙ fresh_free fs ss s s ready.can m m)

    one : Moves ts fs all u v to last (replaced (images_of h.some) f) (replaced (images_of qs) f)
    one gs held at =
        let g = replaced (images_of h.some) f in
        let r = replaced_sort (images_of qs) (images_sorts qs ints) f isf.lawful in
        let deep : is_shallow (replaced (shift_one s) g) ≡ true = ap is_shallow (sym turned) ∙ can_be_named qs f isf in
        let gives =
        subst_gives s sorts.0 sorts.1 ts (as_items (all ++ gs)) w.equation i w.term to g (member_narrow ss s ready.can.narrow m) apart k.at k.term (formula_before all gs w.equation (defining s) k.equation) at deep (subst IsLawful turned r.0)
        (ap sort_of (sym turned) ∙ r.1 ∙ isf.formula) in
        let held' = holds_push ts fs (all ++ gs) (replaced (shift_one s) g) u v (step.Subst w.equation i w.term to) pushed.steps pushed.count held (k.at.has, k.term.has) gives in
        let last' = holds_last ts fs (all ++ gs) (replaced (shift_one s) g) u last pushed.is held in
        let assoc : (all ++ gs) ++ replaced (shift_one s) g ∷ [] ≡ all ++ (gs ++ replaced (images_of qs) f ∷ []) = append_assoc all gs (replaced (shift_one s) g ∷ []) ∙ ap (λ y. all ++ (gs ++ y ∷ [])) (sym turned) in (
          replaced (images_of qs) f ∷ [],
          subst (λ hs. Holds ts fs hs v) assoc held',
          subst (λ hs. item (as_items hs) last ≡ Some (Formula (replaced (images_of qs) f))) assoc (last' ∙ ap (λ y. Some (Formula y)) (sym turned)),
        )

    shifted_more : PartWay ts fs ss t v from last f (done ++ s.name ∷ [])
    shifted_more = record {
      some = qs;
      ints = ints;
      among = λ r c. elim (member_push h.some s r c) [ inl p ↦ h.among r p | inr q ↦ subst (λ x. Member x ss) (sym q) m ];
      finds = finds_one ss h.some s done k.found h.finds;
      moves = moves_then ts fs all t u v from to last f (replaced (images_of h.some) f) (replaced (images_of qs) f) h.moves one;
    }

  pub part_more : (n : Name) → IsDistinct ts → Shows ts i (Var n) → Replaces (table i) i u v to last → PartWay ts fs ss t v from last f (done ++ n ∷ [])
  part_more n d at r = by (table i) refl r
    where
      by : (o : Option Turn) → table i ≡ o → Replaces o i u v to last → PartWay ts fs ss t v from last f (done ++ n ∷ [])
      by None e (same, still) =
          subst (λ x. PartWay ts fs ss t x from last f (done ++ n ∷ [])) (sym same)
          (subst (λ x. PartWay ts fs ss t u from x f (done ++ n ∷ [])) (sym still)
          (record { some = h.some; ints = h.ints; among = h.among; finds = finds_none ss h.some n done (none_found ts all ss table i n d ready.turns at e) h.finds; moves = h.moves }))
      by (Some w) e p =
          let k = ready.turns.right i w e in
          let same : k.shift.name ≡ n = let q : Var k.shift.name ≡ Var n = sym k.at.is ∙ at.is in cc in
          subst (λ x. PartWay ts fs ss t v from last f (done ++ x ∷ [])) same (shifted_more w k p)

-- all names of the formula
insert_has : (n m : Name) (ms : List Name) → (n ≡ m) ⊎ Member n ms → Member n (insert_name m ms)
insert_has n m [] h = h
insert_has n m (k ∷ ks) h = by (name_cmp m k) refl (λ g. insert_has n m ks g)
  where
    by : (o : Ordering) → name_cmp m k ≡ o → ((n ≡ m) ⊎ Member n ks → Member n (insert_name m ks)) → Member n (by_order o (m ∷ k ∷ ks) (k ∷ ks) (k ∷ insert_name m ks))
    by Less e ih = h
    by Equal e ih = let v : Var m ≡ Var k = equal (Var m) (Var k) (cmp_vars m k ∙ e) in let w : m ≡ k = cc in elim h [ inl p ↦ inl (p ∙ w) | inr q ↦ q ]
    by Greater e ih = elim h [ inl p ↦ inr (ih (inl p)) | inr q ↦ elim q [ inl r ↦ inl r | inr s ↦ inr (ih (inr s)) ] ]

order_has : (n : Name) (ns : List Name) → Member n ns → Member n (in_order ns)
order_has n [] h = absurd h
order_has n (m ∷ ms) (inl e) = insert_has n m (in_order ms) (inl e)
order_has n (m ∷ ms) (inr h) = insert_has n m (in_order ms) (inr (order_has n ms h))

any_of : (n : Name) (ns : List Name) → Member n ns → list_any (same_name n) ns ≡ true
any_of n [] m = absurd m
any_of n (k ∷ ns) (inl e) = ap (λ b. b || list_any (same_name n) ns) (ap (same_name n) (sym e) ∙ same_name_itself n)
any_of n (k ∷ ns) (inr m) = by (same_name n k) (any_of n ns m)
  where
    by : (b : Truth) → list_any (same_name n) ns ≡ true → (b || list_any (same_name n) ns) ≡ true
    by true e = refl
    by false e = e

name_done : (f : Tree) (n : Name) → Contains (names f) n → list_any (same_name n) (names_of (f ∷ [])) ≡ true
unfolding names_of names_in
name_done f n c = any_of n (in_order (names f ++ [])) (order_has n (names f ++ []) (subst (Member n) (sym (append-nil (names f))) (Member-from_Contains n (names f) c)))

pub part_end : (ts fs : List Tree) (ss : List Shift) (t u : Trace) (from to : ℕ) (f : Tree) (k : ℕ) → length (names_of (f ∷ [])) ≤ k → PartWay ts fs ss t u from to f (take k (names_of (f ∷ []))) → Moves ts fs (with_definitions fs ss) t u from to f (replaced (images_of ss) f)
part_end ts fs ss t u from to f k l h =
    let finds : Finds ss h.some (names_of (f ∷ [])) = subst (Finds ss h.some) (take_all k (names_of (f ∷ [])) l) h.finds in
    let same : replaced (images_of h.some) f ≡ replaced (images_of ss) f =
    agrees (images_of h.some) (images_of ss) f (λ n c. ap (λ o. unwrap_or o (Var n)) (finds n ∙ ap (λ b. if b then lookup (same_name n) (images_of ss) else None) (name_done f n c))) in
    subst (λ g. Moves ts fs (with_definitions fs ss) t u from to f g) same h.moves

-- ---- all formulas
pub as_many_trees : (ts : List Tree) (is : List ℕ) → length (trees_of ts is) ≡ length is
as_many_trees ts [] = refl
as_many_trees ts (i ∷ is) = ap (λ n. suc n) (as_many_trees ts is)

-- the formula at a place of a list
pub tree_there : (ts : List Tree) (is : List ℕ) (k i : ℕ) → k < length is → i ≡ get_or is k i → tree_at ts i ≡ get_or (trees_of ts is) k (tree_at ts i)
tree_there ts [] k i l e = absurd (omega (arith, l))
tree_there ts (j ∷ is) zero i l e = ap (tree_at ts) e
tree_there ts (j ∷ is) (suc k) i l e = tree_there ts is k i (omega (arith, l)) e

each-append : (s : Substitution) (fs gs : List Tree) → replaced_each s (fs ++ gs) ≡ replaced_each s fs ++ replaced_each s gs
each-append s [] gs = refl
each-append s (f ∷ fs) gs = ap (λ hs. replaced s f ∷ hs) (each-append s fs gs)

formulas_at : (fs : List Tree) (k : ℕ) (f : Tree) → k < length fs → f ≡ get_or fs k f → AreFormulas fs → AreShallow fs → IsReady f
formulas_at [] k f l e w d = absurd (omega (arith, l))
formulas_at (g ∷ fs) zero f l e w d = subst IsReady (sym e) (record { lawful = w.0; formula = w.1; shallow = d.0 })
formulas_at (g ∷ fs) (suc k) f l e w d = formulas_at fs k f (omega (arith, l)) e w.2 d.1

pub shifted_none : (ts fs : List Tree) (ss : List Shift) (t : Trace) (numbers : List ℕ) → numbers ≡ [] → Holds ts fs (with_definitions fs ss) t → AreShifted ts fs ss t numbers []
shifted_none ts fs ss t numbers e h = record {
  new = [];
  holds = subst (λ gs. Holds ts fs gs t) (sym (append-nil (with_definitions fs ss))) h;
  are = ap (kept (as_items (with_definitions fs ss ++ []))) e;
}

pub shifted_next : (ts fs : List Tree) (ss : List Shift) (table : ℕ → Option Turn) (t u : Trace) (numbers : List ℕ) (first last k : ℕ) (f : Tree) → AreReady ts fs ss table → AreFormulas fs → AreShallow fs → k < length fs → f ≡ get_or fs k f → first ≡ k + 1
    → ShiftsOn ts table t u first last f → AreShifted ts fs ss t numbers (take k fs) → AreShifted ts fs ss u (numbers ++ last ∷ []) (take (k + 1) fs)
shifted_next ts fs ss table t u numbers first last k f ready w d l e num on h =
    let all = with_definitions fs ss in
    let s = images_of ss in
    let at = formula_before all h.new first f (formula_before fs (map defining ss) first f (item_there fs k first f f l e num)) in
    let p = on fs ss ready (formulas_at fs k f l e w d) h.new h.holds at in
    let same : take (k + 1) fs ≡ take k fs ++ f ∷ [] = take_more fs k f l ∙ ap (λ g. take k fs ++ g ∷ []) (sym e) in
    let list : as_items (replaced_each s (take k fs)) ++ Formula (replaced s f) ∷ [] ≡ as_items (replaced_each s (take (k + 1) fs)) =
    sym (items-append (replaced_each s (take k fs)) (replaced s f ∷ [])) ∙ ap as_items (sym (each-append s (take k fs) (f ∷ []))) ∙ ap (λ gs. as_items (replaced_each s gs)) (sym same) in
    let assoc : all ++ (h.new ++ p.0) ≡ (all ++ h.new) ++ p.0 = sym (append_assoc all h.new p.0) in
    let old : kept (as_items (all ++ (h.new ++ p.0))) numbers ≡ Some (as_items (replaced_each s (take k fs))) =
    ap (λ gs. kept (as_items gs) numbers) assoc ∙ ap (λ is. kept is numbers) (items-append (all ++ h.new) p.0) ∙ kept_before (as_items (all ++ h.new)) (as_items p.0) numbers (as_items (replaced_each s (take k fs))) h.are in
    record {
      new = h.new ++ p.0;
      holds = p.1;
      are = kept_more (as_items (all ++ (h.new ++ p.0))) (as_items (replaced_each s (take k fs))) numbers last (Formula (replaced s f)) old p.2 ∙ ap Some list;
    }

pub shifted_end : (ts fs : List Tree) (ss : List Shift) (u : Trace) (numbers : List ℕ) (k : ℕ) → length fs ≤ k → AreShifted ts fs ss u numbers (take k fs) → AreShifted ts fs ss u numbers fs
shifted_end ts fs ss u numbers k l h = subst (AreShifted ts fs ss u numbers) (take_all k fs l) h
