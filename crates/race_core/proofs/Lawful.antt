-- Steps keep a state lawful, and add at most one lemma.
use Rattle.std.proofs.Common.{◌≡◌, ℕ, zero, suc, ◌+◌, ◌^◌, ◌<◌, ◌≤◌, Bool, true, false, cond, eqb, ltb, List, [], ◌∷◌, ◌++◌, length, replicate, set, slice_get, Option, Some, None, sym, refl, ap, subst, ⊎_elim, arith, length-set}
use Rattle.std.proofs.lemmas.Option.{cond_some, same_Some}
use Rattle.race_core.specs.declared.machine.Place.{Place}
use Rattle.race_core.specs.declared.machine.Place.TheVariants.{Root, At}
use Rattle.race_core.specs.declared.machine.BranchState.{BranchState}
use Rattle.race_core.specs.declared.machine.BranchState.TheVariants.{Running, Won, Lost, Failed, Cancelled}
use Rattle.race_core.specs.declared.machine.Race.{Race}
use Rattle.race_core.specs.declared.machine.RaceState.{RaceState}
use Rattle.race_core.specs.declared.machine.RaceKind.{RaceKind}
use Rattle.race_core.specs.declared.machine.RaceKind.TheVariants.{Begin, Poll, Win, Fail, Draw, Collect}
use Rattle.race_core.specs.declared.machine.RaceStep.{RaceStep}
use Rattle.race_core.specs.Machine.{race_at, word_of, branch_of, chain_branch, may_act, any_running, is_at, with_branch, mark, with_races, seen, polled, poll_on, won, collect, step_of, step, taken}
use Rattle.race_core.specs.Lawful.{IsEarlier, IsLawful}
use Rattle.race_core.proofs.Lists.{at_set, within, at_snoc}
use Rattle.race_core.proofs.Keeps.{actor}

lawful_set : (xs : List Race) (k : ℕ) (x y : Race) → slice_get xs k ≡ Some x → y.parent ≡ x.parent → length y.branches ≡ length x.branches → IsLawful xs → IsLawful (set xs k y)
lawful_set xs k x y at p n h j z is = ⊎_elim
    (λ t. subst (λ i. IsEarlier i z.parent × (length z.branches < 2 ^ 32)) (sym t.0) (subst (λ r. IsEarlier k r.parent × (length r.branches < 2 ^ 32)) t.1 (let a = h k x at in (subst (λ q. IsEarlier k q) (sym p) a.0, (let b = a.1 in omega arith)))))
    (λ t. h j z t.1)
    (at_set xs k j y z is)

lawful_mark : (xs : List Race) (r word b : ℕ) (v : BranchState) → IsLawful xs → IsLawful (mark xs r (race_at xs r) word b v)
lawful_mark xs zero word b v h = h
lawful_mark xs (suc k) word b v h = by (slice_get xs k) refl
  where
    by : (o : Option Race) → slice_get xs k ≡ o → IsLawful (mark xs (suc k) o word b v)
    by None e = h
    by (Some x) e = lawful_set xs k x (with_branch x word b v) e refl (length-set x.branches b v) h

all_long : (n : ℕ) → length (replicate n Running) ≡ n
all_long zero = refl
all_long (suc n) = ap suc (all_long n)

lawful_begin : (xs : List Race) (p : Place) (n : ℕ) → may_act xs p ≡ true → n < 2 ^ 32 → IsLawful xs → IsLawful (xs ++ record { parent = p; word = 0; branches = replicate n Running } ∷ [])
lawful_begin xs p n may fits h k z is = ⊎_elim (λ t. h k z t) (λ t. subst (λ r. IsEarlier k r.parent × (length r.branches < 2 ^ 32)) t.1 (earlier p may t.0, (let e = all_long n in omega arith))) (at_snoc xs _ z k is)
  where
    earlier : (p : Place) → may_act xs p ≡ true → k ≡ length xs → IsEarlier k p
    earlier Root may e = tt
    earlier (At r b) may e = let a = actor xs r b may in let i = within xs a.k a.x a.at in let m = a.number in omega arith

lawful_won : (xs : List Race) (r b w : ℕ) → IsLawful xs → IsLawful (won xs r b w)
lawful_won xs r b zero h = lawful_mark xs r (b + 1) b Won h
lawful_won xs r b (suc w) h = lawful_mark xs r (w + 1) b Lost h

lawful_seen : (xs : List Race) (r b q w : ℕ) (o : Option BranchState) → IsLawful xs → IsLawful (seen xs r b q w o)
lawful_seen xs r b q w None h = h
lawful_seen xs r b q w (Some Running) h = lawful_mark xs r (word_of (race_at xs r)) b (Cancelled q w) h
lawful_seen xs r b q w (Some Won) h = h
lawful_seen xs r b q w (Some Lost) h = h
lawful_seen xs r b q w (Some Failed) h = h
lawful_seen xs r b q w (Some (Cancelled p v)) h = h

lawful_polled : (xs : List Race) (p : Place) (q word c : ℕ) → IsLawful xs → IsLawful (polled xs p q word c)
lawful_polled xs Root q word c h = h
lawful_polled xs (At r b) q zero c h = h
lawful_polled xs (At r b) q (suc w) c h = by (eqb w c)
  where
    by : (t : Bool) → IsLawful (cond t xs (seen xs r b q w (branch_of (race_at xs r) b)))
    by true = h
    by false = lawful_seen xs r b q w (branch_of (race_at xs r) b) h

abbrev pub Kept : RaceState → RaceState → Type 0
Kept s t = IsLawful t.races × (t.lemmas ≤ s.lemmas + 1)

kept_by : (s t : RaceState) (kind : RaceKind) (p : Place) (race n : ℕ) → IsLawful s.races → n < 2 ^ 32 → step_of s kind p race n ≡ Some t → Kept s t
kept_by s t Begin p race n h fits e = by (may_act s.races p) refl (ltb (length s.races) 4095) e
  where
    new : RaceState
    new = with_races s (s.races ++ record { parent = p; word = 0; branches = replicate n Running } ∷ [])

    by : (a : Bool) → may_act s.races p ≡ a → (b : Bool) → cond a (cond b (Some new) None) None ≡ Some t → Kept s t
    by true m true e = subst (λ u. Kept s u) (same_Some _ _ e) (lawful_begin s.races p n m fits h, omega arith)
    by true m false e = absurd (cc)
    by false m b e = absurd (cc)
kept_by s t Poll p race n h fits e = by (may_act s.races p) (chain_branch s.races p race) e
  where
    by : (a : Bool) (o : Option ℕ) → cond a (poll_on s p race o) None ≡ Some t → Kept s t
    by false o e = absurd (cc)
    by true None e = absurd (cc)
    by true (Some c) e = subst (λ u. Kept s u) (same_Some _ _ e) (lawful_polled s.races p race (word_of (race_at s.races race)) c h, omega arith)
kept_by s t Win Root race n h fits e = absurd (cc)
kept_by s t Win (At r b) race n h fits e = let m = cond_some _ _ t e in subst (λ u. Kept s u) m.1 (lawful_won s.races r b (word_of (race_at s.races r)) h, omega arith)
kept_by s t Fail Root race n h fits e = absurd (cc)
kept_by s t Fail (At r b) race n h fits e = let m = cond_some _ _ t e in subst (λ u. Kept s u) m.1 (lawful_mark s.races r (word_of (race_at s.races r)) b Failed h, omega arith)
kept_by s t Draw p race n h fits e = let m = cond_some _ _ t e in subst (λ u. Kept s u) m.1 (h, omega arith)
kept_by s t Collect p race n h fits e = by (race_at s.races race) e
  where
    both : (x y : Bool) → cond x (cond y None (Some s)) None ≡ Some t → Kept s t
    both true false e = subst (λ u. Kept s u) (same_Some _ _ e) (h, omega arith)
    both true true e = absurd (cc)
    both false y e = absurd (cc)

    by : (o : Option Race) → collect s p o ≡ Some t → Kept s t
    by None e = absurd (cc)
    by (Some x) e = both (is_at x.parent p) (any_running x.branches) e

pub kept : (s t : RaceState) (x : RaceStep) → IsLawful s.races → x.branch < 2 ^ 32 → step s x ≡ Some t → Kept s t
kept s t x h fits e = kept_by s t x.kind x.actor x.race x.branch h fits e

-- a step that was taken
pub was_taken : (b : Bool) (s : RaceState) (o : Option RaceState) → b ≡ true → taken b s ≡ o → o ≡ Some s
was_taken true s o h e = sym e
was_taken false s o h e = absurd (cc)
