-- One more definition, with its place in the table.
use Rattle.std.proofs.Common.{◌≡◌, ◌≤◌, ◌<◌, ◌+◌, ℕ, zero, suc, inl, inr, Bool as Truth, true, false, cond, List, [], ◌∷◌, ◌++◌, map, length, take, get_or, Option, Some, None, refl, sym, ap, subst, ◌∙◌, arith, append_assoc, append-nil, nat_eq, rules}
use Rattle.std.specs.List.{Contains}
use Rattle.std.specs.Map.{lookup}
use Rattle.std.proofs.lemmas.List.{take_more, take_all}
use Rattle.std.proofs.lemmas.Bool.{eqb-true}
use Rattle.qterm.specs.declared.name.Name.{Name}
use Rattle.qterm.specs.declared.name.Sort.TheVariants as sort
use Rattle.qterm.specs.Tree.{Tree, Var}
use Rattle.qterm.specs.Store.{Shows, Extends, IsDistinct}
use Rattle.qterm.proofs.Extending.{Shows_extends}
use Rattle.qeval.specs.Value.{same_name}
use Rattle.qeval.proofs.Valuations.{same_name_exact}
use Rattle.qlin.specs.Number.{in_range}
use Rattle.qsubst.proofs.Looking.{or_else, lookup-append, same_name_itself}
use Rattle.qsubst.proofs.Members.{Member, Contains-from_Member, Contains-one, Contains-none}
use Rattle.qsubst.proofs.Taken.{map-append}
use Rattle.std.proofs.lemmas.List.Elements.{Contains-append_left, Contains-append_right, Contains-append_cases}
use Rattle.tac_cert.specs.declared.cert.Step.TheVariants as step
use Rattle.tac_cert.specs.Accepts.{as_items}
use Rattle.proof_conv.proofs.Staying.{steps_stay}
use Rattle.shift_lists.specs.declared.shifting.Shift.{Shift}
use Rattle.shift_lists.specs.Shifts.{shifted, images_of, AreInt}
use Rattle.shift_steps.specs.declared.trace.Trace.{Trace}
use Rattle.shift_steps.specs.declared.defining.Turn.{Turn}
use Rattle.shift_steps.specs.Items.{Holds}
use Rattle.shift_steps.specs.Defining.{AreNarrow, defining, with_definitions, CanShift, IsTurn, HasTurn, HasTurns, first_of, Defines, AreDefined}
use Rattle.shift_steps.proofs.Stepping.{formula_before, holds_push, holds_last}
use Rattle.shift_steps.proofs.Apart.{not_before, fresh_free}
use Rattle.shift_steps.proofs.Giving.{def_gives}

-- ---- shifts among others
pub place_has : (ss : List Shift) (k : ℕ) (s : Shift) → k < length ss → s ≡ get_or ss k s → Member s ss
place_has [] k s l e = absurd (omega (arith, l))
place_has (r ∷ ss) zero s l e = inl e
place_has (r ∷ ss) (suc k) s l e = inr (place_has ss k s (omega (arith, l)) e)

pub member_ints : (ss : List Shift) (s : Shift) → AreInt ss → Member s ss → (s.name.sort ≡ sort.Int) × (s.fresh.sort ≡ sort.Int)
member_ints [] s h m = absurd m
member_ints (r ∷ ss) s h (inl e) = (ap (λ (q : Shift). q.name.sort) e ∙ h.0, ap (λ (q : Shift). q.fresh.sort) e ∙ h.1)
member_ints (r ∷ ss) s h (inr m) = member_ints ss s h.2 m

pub member_narrow : (ss : List Shift) (s : Shift) → AreNarrow ss → Member s ss → in_range s.by ≡ true
member_narrow [] s h m = absurd m
member_narrow (r ∷ ss) s h (inl e) = ap (λ (q : Shift). in_range q.by) e ∙ h.0
member_narrow (r ∷ ss) s h (inr m) = member_narrow ss s h.1 m

images-append : (ss rs : List Shift) → images_of (ss ++ rs) ≡ images_of ss ++ images_of rs
images-append [] rs = refl
images-append (s ∷ ss) rs = ap (λ is. (s.name, shifted s) ∷ is) (images-append ss rs)

-- looking a name up behind one more shift
pub lookup_more : (rs : List Shift) (s : Shift) (n : Name) → lookup (same_name n) (images_of (rs ++ s ∷ [])) ≡ or_else (lookup (same_name n) (images_of rs)) (cond (same_name n s.name) (Some (shifted s)) None)
lookup_more rs s n = ap (lookup (same_name n)) (images-append rs (s ∷ [])) ∙ lookup-append (same_name n) (images_of rs) ((s.name, shifted s) ∷ [])

-- what is found comes from a shift of the name
pub found_from : (ss : List Shift) (n : Name) (v : Tree) → lookup (same_name n) (images_of ss) ≡ Some v → (s : Shift) × Member s ss × (s.name ≡ n) × (v ≡ shifted s)
found_from [] n v h = absurd (let e : None ≡ Some v = h in cc)
found_from (s ∷ ss) n v h = by (same_name n s.name) refl (found_from ss n v)
  where
    by : (b : Truth) → same_name n s.name ≡ b → (lookup (same_name n) (images_of ss) ≡ Some v → (r : Shift) × Member r ss × (r.name ≡ n) × (v ≡ shifted r)) → (r : Shift) × Member r (s ∷ ss) × (r.name ≡ n) × (v ≡ shifted r)
    by true q ih = (s, inl refl, sym (same_name_exact n s.name q), let e : Some (shifted s) ≡ Some v = subst (λ b. cond b (Some (shifted s)) (lookup (same_name n) (images_of ss)) ≡ Some v) q h in cc)
    by false q ih = let r = ih (subst (λ b. cond b (Some (shifted s)) (lookup (same_name n) (images_of ss)) ≡ Some v) q h) in (r.0, inr r.1, r.2, r.3)

-- a name without a turn isn't shifted
pub none_found : (ts gs : List Tree) (ss : List Shift) (table : ℕ → Option Turn) (i : ℕ) (n : Name) → IsDistinct ts → HasTurns ts gs ss table → Shows ts i (Var n) → table i ≡ None → lookup (same_name n) (images_of ss) ≡ None
none_found ts gs ss table i n d h at none = by (lookup (same_name n) (images_of ss)) refl
  where
    by : (o : Option Tree) → lookup (same_name n) (images_of ss) ≡ o → lookup (same_name n) (images_of ss) ≡ None
    by None q = q
    by (Some v) q =
        let f = found_from ss n v q in
        let t = h.all f.0 (Contains-from_Member f.0 ss f.1) in
        let same : t.key ≡ i = d t.key i t.at.has at.has (t.at.is ∙ ap Var f.2 ∙ sym at.is) in
        absurd (let e : Some t.turn ≡ None = sym t.has ∙ ap table same ∙ none in cc)

-- ---- definitions behind others
definitions_more : (fs : List Tree) (rs : List Shift) (s : Shift) → with_definitions fs (rs ++ s ∷ []) ≡ with_definitions fs rs ++ defining s ∷ []
definitions_more fs rs s = ap (λ gs. fs ++ gs) (map-append defining rs (s ∷ [])) ∙ sym (append_assoc fs (map defining rs) (defining s ∷ []))

first_some : (o p : Option Turn) (t : Turn) → o ≡ Some t → first_of o p ≡ Some t
first_some o p t e = ap (λ q. first_of q p) e

module _ (T U fs : List Tree) (ss rs : List Shift) (s : Shift) (t u : Trace) (f g : ℕ → Option Turn) (grown : Extends T U) (d : Defines U t u f g s) (h : HasTurns T (with_definitions fs rs) rs f) (held : Holds U fs (with_definitions fs rs) t) where
  abbrev all : List Tree
  all = with_definitions fs rs

  abbrev qs : List Shift
  qs = rs ++ s ∷ []

  -- the table as it was, over the store that has grown
  as_was : HasTurns U all rs f
  as_was = record {
    right = λ i v e. let k = h.right i v e in record { shift = k.shift; among = k.among; at = Shows_extends T U i (Var k.shift.name) grown k.at; found = k.found; equation = k.equation; term = Shows_extends T U v.term (shifted k.shift) grown k.term };
    all = λ r c. let k = h.all r c in record { key = k.key; at = Shows_extends T U k.key (Var r.name) grown k.at; turn = k.turn; has = k.has };
  }

  -- what was there
  old_turn : (i : ℕ) (v : Turn) → f i ≡ Some v → IsTurn U (all ++ defining s ∷ []) qs i v
  old_turn i v e =
      let k = as_was.right i v e in
      record {
        shift = k.shift;
        among = Contains-append_left rs (s ∷ []) k.shift k.among;
        at = k.at;
        found = lookup_more rs s k.shift.name ∙ ap (λ o. or_else o (cond (same_name k.shift.name s.name) (Some (shifted s)) None)) k.found;
        equation = formula_before all (defining s ∷ []) v.equation (defining k.shift) k.equation;
        term = k.term;
      }

  -- what is new
  new_turn : f d.key ≡ None → IsTurn U (all ++ defining s ∷ []) qs d.key d.turn
  new_turn e =
      let n = none_found U all rs f d.key s.name d.distinct as_was d.at e in
      record {
        shift = s;
        among = Contains-append_right rs (s ∷ []) s (Contains-from_Member s (s ∷ []) (inl refl));
        at = d.at;
        found = lookup_more rs s s.name ∙ (λ i. or_else (n i) (cond (same_name_itself s.name i) (Some (shifted s)) None));
        equation = holds_last U fs all (defining s) t d.turn.equation d.equation held;
        term = d.puts;
      }

  right : (i : ℕ) (v : Turn) → g i ≡ Some v → IsTurn U (all ++ defining s ∷ []) qs i v
  right i v e = by (f i) refl (sym (d.table i) ∙ e)
    where
      new : (b : Truth) → nat_eq d.key i ≡ b → f i ≡ None → cond b (Some d.turn) None ≡ Some v → IsTurn U (all ++ defining s ∷ []) qs i v
      new true q n k =
          let at : d.key ≡ i = eqb-true d.key i q in
          let same : d.turn ≡ v = cc in
          subst (λ j. IsTurn U (all ++ defining s ∷ []) qs j v) at (subst (IsTurn U (all ++ defining s ∷ []) qs d.key) same (new_turn (ap f at ∙ n)))
      new false q n k = absurd (let e : None ≡ Some v = k in cc)

      by : (o : Option Turn) → f i ≡ o → first_of (f i) (cond (nat_eq d.key i) (Some d.turn) None) ≡ Some v → IsTurn U (all ++ defining s ∷ []) qs i v
      by (Some w) q k = old_turn i v (q ∙ subst (λ o. first_of o (cond (nat_eq d.key i) (Some d.turn) None) ≡ Some v) q k)
      by None q k = new (nat_eq d.key i) refl q (subst (λ o. first_of o (cond (nat_eq d.key i) (Some d.turn) None) ≡ Some v) q k)

  -- the name of the shift has a turn
  own : HasTurn U g s
  own = by (f d.key) refl
    where
      itself : nat_eq d.key d.key ≡ true
      itself = search rules

      by : (o : Option Turn) → f d.key ≡ o → HasTurn U g s
      by (Some w) q = record { key = d.key; at = d.at; turn = w; has = d.table d.key ∙ first_some (f d.key) (cond (nat_eq d.key d.key) (Some d.turn) None) w q }
      by None q = record { key = d.key; at = d.at; turn = d.turn; has = d.table d.key ∙ (λ i. first_of (q i) (cond (itself i) (Some d.turn) None)) }

  each : (r : Shift) → Contains qs r → HasTurn U g r
  each r c =
      elim (Contains-append_cases rs (s ∷ []) r c) [
        | inl k ↦ let a = as_was.all r k in record { key = a.key; at = a.at; turn = a.turn; has = d.table a.key ∙ first_some (f a.key) (cond (nat_eq d.key a.key) (Some d.turn) None) a.turn a.has }
        | inr k ↦ subst (HasTurn U g) (sym (Contains-one s r k)) own
      ]

  turns_more : HasTurns U (with_definitions fs qs) qs g
  turns_more = subst (λ gs. HasTurns U gs qs g) (sym (definitions_more fs rs s)) (record { right = right; all = each })

pub define_more : (T U fs : List Tree) (ss : List Shift) (k : ℕ) (s : Shift) (t u : Trace) (f g : ℕ → Option Turn) → Extends T U → k < length ss → s ≡ get_or ss k s → CanShift fs ss → Defines U t u f g s → AreDefined T fs (take k ss) t f → AreDefined U fs (take (k + 1) ss) u g
define_more T U fs ss k s t u f g grown l e can d h =
    let rs = take k ss in
    let m = place_has ss k s l e in
    let i = member_ints ss s can.ints m in
    let held : Holds U fs (with_definitions fs rs) t = record { leaves = steps_stay T U (as_items fs) t.steps (as_items (with_definitions fs rs)) grown h.holds.leaves; count = h.holds.count } in
    let gives = def_gives s i.0 i.1 U (as_items (with_definitions fs rs)) d.term d.shows (not_before fs ss k s can l e) (fresh_free fs ss s s can m m) in
    let holds = holds_push U fs (with_definitions fs rs) (defining s) t u (step.Def s.fresh d.term) d.steps d.count held d.shows.has gives in
    let same : take (k + 1) ss ≡ rs ++ s ∷ [] = take_more ss k s l ∙ ap (λ r. rs ++ r ∷ []) (sym e) in
    subst (λ qs. AreDefined U fs qs u g) (sym same) (record { holds = subst (λ gs. Holds U fs gs u) (sym (definitions_more fs rs s)) holds; turns = turns_more T U fs ss rs s t u f g grown d h.turns held })

-- nothing is defined at first
pub define_none : (S T fs : List Tree) (t : Trace) (f : ℕ → Option Turn) → ((i : ℕ) → f i ≡ None) → Extends S T → Holds S fs fs t → AreDefined T fs [] t f
define_none S T fs t f none grown h = record {
  holds = subst (λ gs. Holds T fs gs t) (sym (append-nil fs)) (record { leaves = steps_stay S T (as_items fs) t.steps (as_items fs) grown h.leaves; count = h.count });
  turns = record { right = λ i v e. absurd (let q : None ≡ Some v = sym (none i) ∙ e in cc); all = λ s c. absurd (Contains-none s c) };
}

-- all are
pub define_end : (T fs : List Tree) (ss : List Shift) (k : ℕ) (u : Trace) (g : ℕ → Option Turn) → length ss ≤ k → AreDefined T fs (take k ss) u g → AreDefined T fs ss u g
define_end T fs ss k u g l h = subst (λ qs. AreDefined T fs qs u g) (take_all k ss l) h
