-- What each step keeps of every race, and what it says of a race that is collected.
use Rattle.std.proofs.Common.{◌≡◌, ◌≢◌, ◌⊎◌, ℕ, zero, suc, ◌+◌, ◌<◌, ◌≤◌, Bool, true, false, cond, eqb, ltb, List, [], ◌∷◌, ◌++◌, length, replicate, set, slice_get, Option, Some, None, sym, refl, ap, ◌∙◌, subst, inl, inr, ⊎_elim, arith, eq-eqb, ne_eqb}
use Rattle.std.proofs.lemmas.Option.{cond_some, option_and_then_some, same_Some}
use mathlib.Core.Logic.{dite}
use native.Mathlib.Decide.{ℕ_discrete}
use Rattle.race_core.specs.declared.machine.Place.{Place}
use Rattle.race_core.specs.declared.machine.Place.TheVariants.{Root, At}
use Rattle.race_core.specs.declared.machine.BranchState.{BranchState}
use Rattle.race_core.specs.declared.machine.BranchState.TheVariants.{Running, Won, Lost, Failed, Cancelled}
use Rattle.race_core.specs.declared.machine.Race.{Race}
use Rattle.race_core.specs.declared.machine.RaceState.{RaceState}
use Rattle.race_core.specs.declared.machine.RaceKind.{RaceKind}
use Rattle.race_core.specs.declared.machine.RaceKind.TheVariants.{Begin, Poll, Win, Fail, Draw, Collect}
use Rattle.race_core.specs.declared.machine.RaceStep.{RaceStep}
use Rattle.race_core.specs.Machine.{race_at, parent_of, word_of, branch_of, walk, chain_branch, still_acts, may_act, is_running, any_running, is_at, with_branch, mark, with_races, seen, polled, poll_on, won, collect, step_of, step, run, start}
use Rattle.race_core.specs.Settled.{IsBeaten, IsCutOff, HasWinner, HasNone, CollectsSettled}
use Rattle.race_core.proofs.Lists.{at_set, set_here, set_else, within, at_longer, at_snoc, at_replicate}

-- of the race at index k, whose number is suc k: its parent is a race before it
abbrev pub IsBelow : ℕ → Place → Type 0
IsBelow k Root = Unit {0}
IsBelow k (At r b) = r ≤ k

abbrev pub GoodBranch : List Race → ℕ → ℕ → ℕ → BranchState → Type 0
GoodBranch races k word b Running = Unit {0}
GoodBranch races k word b Won = word ≡ b + 1
GoodBranch races k word b Lost = word ≢ 0
GoodBranch races k word b Failed = Unit {0}
GoodBranch races k word b (Cancelled q w) = (c : ℕ) × (chain_branch races (At (suc k) b) q ≡ Some c) × (word_of (race_at races q) ≡ w + 1)

pub record GoodRace (races : List Race) (k : ℕ) (x : Race) : Type 0 where
  pub below : IsBelow k x.parent
  pub branch : (b : ℕ) (v : BranchState) → slice_get x.branches b ≡ Some v → GoodBranch races k x.word b v
  pub winner : (w : ℕ) → x.word ≡ w + 1 → slice_get x.branches w ≡ Some Won

abbrev pub Good : List Race → Type 0
Good races = (k : ℕ) (x : Race) → slice_get races k ≡ Some x → GoodRace races k x

-- the parents stay, and a word that names a winner stays
pub record Grows (xs ys : List Race) : Type 0 where
  pub parents : (k : ℕ) → k < length xs → parent_of (slice_get xs k) ≡ parent_of (slice_get ys k)
  pub words : (q w : ℕ) → word_of (race_at xs q) ≡ w + 1 → word_of (race_at ys q) ≡ w + 1

walk_same : (n : ℕ) (xs ys : List Race) → ((k : ℕ) → k < n → parent_of (slice_get xs k) ≡ parent_of (slice_get ys k)) → (p : Place) (q : ℕ) → walk n xs p q ≡ walk n ys p q
walk_same zero xs ys same p q = refl
walk_same (suc k) xs ys same Root q = refl
walk_same (suc k) xs ys same (At r b) q =
    let rest : (p : Place) → walk k xs p q ≡ walk k ys p q = λ p. walk_same k xs ys (λ j h. same j (omega arith)) p q in
    let inner : walk k xs (parent_of (slice_get xs k)) q ≡ walk k ys (parent_of (slice_get ys k)) q = rest (parent_of (slice_get xs k)) ∙ ap (λ p. walk k ys p q) (same k (omega arith)) in
    let outer : walk k xs (At r b) q ≡ walk k ys (At r b) q = rest (At r b) in cc

walk_from : (n r b : ℕ) (xs : List Race) (q : ℕ) → r ≤ n → walk n xs (At r b) q ≡ walk r xs (At r b) q
walk_from zero r b xs q le = let z : r ≡ 0 = omega arith in subst (λ m. walk 0 xs (At r b) q ≡ walk m xs (At r b) q) (sym z) refl
walk_from (suc k) r b xs q le = dite (ℕ_discrete r (suc k))
    (λ e. subst (λ m. walk (suc k) xs (At r b) q ≡ walk m xs (At r b) q) (sym e) refl)
    (λ ne. let f : eqb r (suc k) ≡ false = ne_eqb r (suc k) ne in rw f (walk_from k r b xs q (omega arith)))

chain_from : (n : ℕ) (xs : List Race) (p : Place) (q : ℕ) → IsBelow n p → walk n xs p q ≡ chain_branch xs p q
chain_from zero xs Root q h = refl
chain_from (suc n) xs Root q h = refl
chain_from n xs (At r b) q h = walk_from n r b xs q h

chain_same : (n : ℕ) (xs ys : List Race) → ((k : ℕ) → k < n → parent_of (slice_get xs k) ≡ parent_of (slice_get ys k)) → (p : Place) (q : ℕ) → IsBelow n p → chain_branch xs p q ≡ chain_branch ys p q
chain_same n xs ys same p q h = sym (chain_from n xs p q h) ∙ (walk_same n xs ys same p q ∙ chain_from n ys p q h)

-- from a branch of another race on, the chain is its parent's
pub chain_up : (xs : List Race) (k b q : ℕ) (x : Race) → slice_get xs k ≡ Some x → IsBelow k x.parent → q ≢ suc k → chain_branch xs (At (suc k) b) q ≡ chain_branch xs x.parent q
chain_up xs k b q x is below ne =
    let here : eqb (suc k) (suc k) ≡ true = eq-eqb (suc k) (suc k) refl in
    let other : eqb (suc k) q ≡ false = ne_eqb (suc k) q (λ e. ne (sym e)) in
    rw (here, other) (ap (λ o. walk k xs (parent_of o) q) is ∙ chain_from k xs x.parent q below)

moved : (xs ys : List Race) (k word b : ℕ) (v : BranchState) → Grows xs ys → k < length xs → GoodBranch xs k word b v → GoodBranch ys k word b v
moved xs ys k word b Running g h t = t
moved xs ys k word b Won g h t = t
moved xs ys k word b Lost g h t = t
moved xs ys k word b Failed g h t = t
moved xs ys k word b (Cancelled q w) g h t =
    (t.0, sym (chain_same (suc k) xs ys (λ j l. g.parents j (omega arith)) (At (suc k) b) q (omega arith)) ∙ t.1, g.words q w t.2)

still_good : (xs ys : List Race) (k : ℕ) (x : Race) → Grows xs ys → slice_get xs k ≡ Some x → GoodRace xs k x → GoodRace ys k x
still_good xs ys k x g at t = record { below = t.below; branch = λ b v is. moved xs ys k x.word b v g (within xs k x at) (t.branch b v is); winner = t.winner }

-- one race is changed, and its parent stays
module _ (xs : List Race) (k : ℕ) (x y : Race) (at : slice_get xs k ≡ Some x) (parent : y.parent ≡ x.parent) (word : (w : ℕ) → x.word ≡ w + 1 → y.word ≡ w + 1) where
  abbrev Ys : List Race
  Ys = set xs k y

  parents_stay : (j : ℕ) → parent_of (slice_get xs j) ≡ parent_of (slice_get Ys j)
  parents_stay j = dite (ℕ_discrete j k)
      (λ e. subst (λ i. parent_of (slice_get xs i) ≡ parent_of (slice_get Ys i)) (sym e) (ap parent_of at ∙ (sym parent ∙ sym (ap parent_of (set_here xs k y x at)))))
      (λ ne. sym (ap parent_of (set_else xs k j y ne)))

  words_stay : (q w : ℕ) → word_of (race_at xs q) ≡ w + 1 → word_of (race_at Ys q) ≡ w + 1
  words_stay zero w e = e
  words_stay (suc j) w e = dite (ℕ_discrete j k)
      (λ s. let old : word_of (slice_get xs k) ≡ w + 1 = subst (λ i. word_of (slice_get xs i) ≡ w + 1) s e in
      subst (λ i. word_of (slice_get Ys i) ≡ w + 1) (sym s) (ap word_of (set_here xs k y x at) ∙ word w (sym (ap word_of at) ∙ old)))
      (λ ne. ap word_of (set_else xs k j y ne) ∙ e)

  pub grown : Grows xs Ys
  grown = record { parents = λ j h. parents_stay j; words = words_stay }

  pub changed : Good xs → ((b : ℕ) (v : BranchState) → slice_get y.branches b ≡ Some v → GoodBranch Ys k y.word b v) → ((w : ℕ) → y.word ≡ w + 1 → slice_get y.branches w ≡ Some Won) → Good Ys
  changed good bs ws j z is = ⊎_elim
      (λ t. subst (λ i. GoodRace Ys i z) (sym t.0) (subst (λ r. GoodRace Ys k r) t.1 (record { below = subst (λ p. IsBelow k p) (sym parent) (good k x at).below; branch = bs; winner = ws })))
      (λ t. still_good xs Ys j z grown t.1 (good j z t.1))
      (at_set xs k j y z is)

-- where the word is 0 no branch has won or lost
no_word : (ys : List Race) (k word word' c : ℕ) (v : BranchState) → word ≡ 0 → GoodBranch ys k word c v → GoodBranch ys k word' c v
no_word ys k word word' c Running z t = tt
no_word ys k word word' c Won z t = absurd (omega arith)
no_word ys k word word' c Lost z t = absurd (t z)
no_word ys k word word' c Failed z t = tt
no_word ys k word word' c (Cancelled q w) z t = t

abbrev pub Acting : BranchState → Type 0
Acting Running = Unit {0}
Acting Won = ⊥
Acting Lost = ⊥
Acting Failed = ⊥
Acting (Cancelled q w) = Unit {0}

-- a branch that ends without a win, or is cancelled: the word stays
module _ (xs : List Race) (k b : ℕ) (x : Race) (u v : BranchState) (good : Good xs) (at : slice_get xs k ≡ Some x) (was : slice_get x.branches b ≡ Some u) (acts : Acting u) where
  not_won : u ≢ Won
  not_won e = subst Acting e acts

  pub marked : GoodBranch xs k x.word b v → Good (set xs k (with_branch x x.word b v))
  marked ok = let y : Race = with_branch x x.word b v in let g : Grows xs (set xs k y) = grown xs k x y at refl (λ w e. e) in
      changed xs k x y at refl (λ w e. e) good
      (λ c w is. ⊎_elim
      (λ t. subst (λ i. GoodBranch (set xs k y) k x.word i w) (sym t.0) (subst (λ z. GoodBranch (set xs k y) k x.word b z) t.1 (moved xs (set xs k y) k x.word b v g (within xs k x at) ok)))
      (λ t. moved xs (set xs k y) k x.word c w g (within xs k x at) ((good k x at).branch c w t.1))
      (at_set x.branches b c v w is))
      (λ w e. let won : slice_get x.branches w ≡ Some Won = (good k x at).winner w e in
      set_else x.branches b w v (λ s. not_won (same_Some u Won (sym was ∙ (ap (λ i. slice_get x.branches i) (sym s) ∙ won)))) ∙ won)

  -- it wins
  pub crowned : x.word ≡ 0 → Good (set xs k (with_branch x (b + 1) b Won))
  crowned none = let y : Race = with_branch x (b + 1) b Won in
      let word : (w : ℕ) → x.word ≡ w + 1 → y.word ≡ w + 1 = λ w e. absurd (omega arith) in
      let g : Grows xs (set xs k y) = grown xs k x y at refl word in
      changed xs k x y at refl word good
      (λ c w is. ⊎_elim
      (λ t. subst (λ z. GoodBranch (set xs k y) k (b + 1) c z) t.1 (ap (λ i. i + 1) (sym t.0)))
      (λ t. no_word (set xs k y) k x.word (b + 1) c w none (moved xs (set xs k y) k x.word c w g (within xs k x at) ((good k x at).branch c w t.1)))
      (at_set x.branches b c Won w is))
      (λ w e. let s : w ≡ b = omega arith in subst (λ i. slice_get y.branches i ≡ Some Won) (sym s) (set_here x.branches b Won u was))

acts_b : (o : Option BranchState) → still_acts o ≡ true → (u : BranchState) × (o ≡ Some u) × Acting u
acts_b None e = absurd (cc)
acts_b (Some Running) e = (Running, refl, tt)
acts_b (Some Won) e = absurd (cc)
acts_b (Some Lost) e = absurd (cc)
acts_b (Some Failed) e = absurd (cc)
acts_b (Some (Cancelled q w)) e = (Cancelled q w, refl, tt)

-- who acts as a branch is one that runs or is cancelled
pub record Actor (xs : List Race) (r b : ℕ) : Type 0 where
  pub k : ℕ
  pub number : r ≡ suc k
  pub x : Race
  pub u : BranchState
  pub at : slice_get xs k ≡ Some x
  pub was : slice_get x.branches b ≡ Some u
  pub acts : Acting u

acts_in : (xs : List Race) (k b : ℕ) (o : Option Race) → slice_get xs k ≡ o → still_acts (branch_of o b) ≡ true → Actor xs (suc k) b
acts_in xs k b None is e = absurd (cc)
acts_in xs k b (Some x) is e = let t = acts_b (slice_get x.branches b) e in record { k = k; number = refl; x = x; u = t.0; at = is; was = t.1; acts = t.2 }

pub actor : (xs : List Race) (r b : ℕ) → may_act xs (At r b) ≡ true → Actor xs r b
actor xs zero b e = absurd (cc)
actor xs (suc k) b e = acts_in xs k b (slice_get xs k) refl e

-- `mark` at a race that is there
pub mark_at : (xs : List Race) (r b word : ℕ) (v : BranchState) (a : Actor xs r b) → mark xs r (race_at xs r) word b v ≡ set xs a.k (with_branch a.x word b v)
mark_at xs r b word v a = ap (λ i. mark xs i (race_at xs i) word b v) a.number ∙ ap (λ o. mark xs (suc a.k) o word b v) a.at

pub word_at : (xs : List Race) (r b : ℕ) (a : Actor xs r b) → word_of (race_at xs r) ≡ a.x.word
word_at xs r b a = ap (λ i. word_of (race_at xs i)) a.number ∙ ap word_of a.at

mark_good : (xs : List Race) (r b : ℕ) (v : BranchState) (a : Actor xs r b) → Good xs → GoodBranch xs a.k a.x.word b v → Good (mark xs r (race_at xs r) (word_of (race_at xs r)) b v)
mark_good xs r b v a good ok = subst Good (sym (mark_at xs r b (word_of (race_at xs r)) v a))
    (subst (λ w. Good (set xs a.k (with_branch a.x w b v))) (sym (word_at xs r b a)) (marked xs a.k b a.x a.u v good a.at a.was a.acts ok))

won_good : (xs : List Race) (r b w : ℕ) (a : Actor xs r b) → Good xs → word_of (race_at xs r) ≡ w → Good (won xs r b w)
won_good xs r b zero a good is = subst Good (sym (mark_at xs r b (b + 1) Won a)) (crowned xs a.k b a.x a.u Won good a.at a.was a.acts (sym (word_at xs r b a) ∙ is))
won_good xs r b (suc w) a good is = let e : w + 1 ≡ word_of (race_at xs r) = omega arith in
    subst (λ n. Good (mark xs r (race_at xs r) n b Lost)) (sym e) (mark_good xs r b Lost a good (λ z. let f = word_at xs r b a in absurd (omega arith)))

seen_good : (xs : List Race) (r b q w c : ℕ) (a : Actor xs r b) → Good xs → chain_branch xs (At r b) q ≡ Some c → word_of (race_at xs q) ≡ w + 1 → (o : Option BranchState) → Good (seen xs r b q w o)
seen_good xs r b q w c a good ch is None = good
seen_good xs r b q w c a good ch is (Some Running) = mark_good xs r b (Cancelled q w) a good (c, subst (λ i. chain_branch xs (At i b) q ≡ Some c) a.number ch, is)
seen_good xs r b q w c a good ch is (Some Won) = good
seen_good xs r b q w c a good ch is (Some Lost) = good
seen_good xs r b q w c a good ch is (Some Failed) = good
seen_good xs r b q w c a good ch is (Some (Cancelled p v)) = good

polled_good : (xs : List Race) (p : Place) (q word c : ℕ) → may_act xs p ≡ true → Good xs → chain_branch xs p q ≡ Some c → word_of (race_at xs q) ≡ word → Good (polled xs p q word c)
polled_good xs Root q word c may good ch is = good
polled_good xs (At r b) q zero c may good ch is = good
polled_good xs (At r b) q (suc w) c may good ch is = named (eqb w c)
  where
    named : (t : Bool) → Good (cond t xs (seen xs r b q w (branch_of (race_at xs r) b)))
    named true = good
    named false = seen_good xs r b q w c (actor xs r b may) good ch (is ∙ omega arith) (branch_of (race_at xs r) b)

-- what follows from a step that was made
pub made : (b : Bool) (s t : RaceState) → cond b (Some s) None ≡ Some t → (b ≡ true) × (s ≡ t)
made b s t e = cond_some b s t e

begun : (xs : List Race) (p : Place) (n : ℕ) → may_act xs p ≡ true → Good xs → Good (xs ++ record { parent = p; word = 0; branches = replicate n Running } ∷ [])
begun xs p n may good k z is =
    let y : Race = record { parent = p; word = 0; branches = replicate n Running } in
    let ys : List Race = xs ++ y ∷ [] in
    let g : Grows xs ys = record { parents = λ j h. ap parent_of (sym (at_longer xs (y ∷ []) j h)); words = λ q w e. longer_word xs (y ∷ []) q w e } in
    ⊎_elim (λ t. still_good xs ys k z g t (good k z t))
    (λ t. subst (λ r. GoodRace ys k r) t.1 (record {
      below = below_all xs p k may t.0;
      branch = λ b v e. subst (λ u. GoodBranch ys k 0 b u) (at_replicate n Running v b e) tt;
      winner = λ w e. absurd (omega arith);
    }))
    (at_snoc xs y z k is)
  where
    longer_word : (xs ms : List Race) (q w : ℕ) → word_of (race_at xs q) ≡ w + 1 → word_of (race_at (xs ++ ms) q) ≡ w + 1
    longer_word xs ms zero w e = e
    longer_word xs ms (suc j) w e = there (slice_get xs j) refl e
      where
        there : (o : Option Race) → slice_get xs j ≡ o → word_of o ≡ w + 1 → word_of (slice_get (xs ++ ms) j) ≡ w + 1
        there None is e = absurd (omega arith)
        there (Some x) is e = ap word_of (at_longer xs ms j (within xs j x is) ∙ is) ∙ e

    below_all : (xs : List Race) (p : Place) (k : ℕ) → may_act xs p ≡ true → k ≡ length xs → IsBelow k p
    below_all xs Root k may e = tt
    below_all xs (At r b) k may e = let a = actor xs r b may in let h = within xs a.k a.x a.at in let m = a.number in omega arith

step_good : (s t : RaceState) (kind : RaceKind) (p : Place) (race branch : ℕ) → Good s.races → step_of s kind p race branch ≡ Some t → Good t.races
step_good s t Begin p race branch good e = begins (may_act s.races p) refl (ltb (length s.races) 4095) e
  where
    new : RaceState
    new = with_races s (s.races ++ record { parent = p; word = 0; branches = replicate branch Running } ∷ [])

    begins : (a : Bool) → may_act s.races p ≡ a → (b : Bool) → cond a (cond b (Some new) None) None ≡ Some t → Good t.races
    begins true may true e = subst (λ u. Good u.races) (same_Some _ _ e) (begun s.races p branch may good)
    begins true may false e = absurd (cc)
    begins false may b e = absurd (cc)
step_good s t Poll p race branch good e = polls (may_act s.races p) refl (chain_branch s.races p race) refl e
  where
    polls : (a : Bool) → may_act s.races p ≡ a → (o : Option ℕ) → chain_branch s.races p race ≡ o → cond a (poll_on s p race o) None ≡ Some t → Good t.races
    polls false may o ch e = absurd (cc)
    polls true may None ch e = absurd (cc)
    polls true may (Some c) ch e = subst (λ u. Good u.races) (same_Some _ _ e) (polled_good s.races p race (word_of (race_at s.races race)) c may good ch refl)
step_good s t Win Root race branch good e = absurd (cc)
step_good s t Win (At r b) race branch good e = let m = cond_some _ _ t e in subst (λ u. Good u.races) m.1 (won_good s.races r b _ (actor s.races r b m.0) good refl)
step_good s t Fail Root race branch good e = absurd (cc)
step_good s t Fail (At r b) race branch good e = let m = cond_some _ _ t e in subst (λ u. Good u.races) m.1 (mark_good s.races r b Failed (actor s.races r b m.0) good tt)
step_good s t Draw p race branch good e = let m = cond_some _ _ t e in subst (λ u. Good u.races) m.1 good
step_good s t Collect p race branch good e = collects (race_at s.races race) e
  where
    collects : (o : Option Race) → collect s p o ≡ Some t → Good t.races
    collects None e = absurd (cc)
    collects (Some x) e = both (is_at x.parent p) (any_running x.branches) e
      where
        both : (a b : Bool) → cond a (cond b None (Some s)) None ≡ Some t → Good t.races
        both true false e = subst (λ u. Good u.races) (same_Some _ _ e) good
        both true true e = absurd (cc)
        both false b e = absurd (cc)

pub run_good : (steps : List RaceStep) (s t : RaceState) → Good s.races → run s steps ≡ Some t → Good t.races
run_good [] s t good e = subst (λ u. Good u.races) (same_Some _ _ e) good
run_good (x ∷ xs) s t good e = option_and_then_some (λ u. run u xs) (step s x) t e (λ u is rest. run_good xs u t (step_good s u x.kind x.actor x.race x.branch good is) rest)

-- no branch runs
none_running : (vs : List BranchState) (b : ℕ) (v : BranchState) → any_running vs ≡ false → slice_get vs b ≡ Some v → is_running v ≡ false
none_running [] b v h is = absurd (cc)
none_running (x ∷ xs) b v h is = first (is_running x) refl h (λ i q. none_running xs i v q) b is
  where
    first : (t : Bool) → is_running x ≡ t → cond t true (any_running xs) ≡ false → ((i : ℕ) → any_running xs ≡ false → slice_get xs i ≡ Some v → is_running v ≡ false) → (b : ℕ) → slice_get (x ∷ xs) b ≡ Some v → is_running v ≡ false
    first true e h more b is = absurd (cc)
    first false e h more zero is = ap is_running (sym (same_Some x v is)) ∙ e
    first false e h more (suc b) is = more b h is

beaten : (xs : List Race) (k word w b : ℕ) (v : BranchState) → is_running v ≡ false → word ≡ w + 1 → b ≢ w → GoodBranch xs k word b v → IsBeaten v
beaten xs k word w b Running r e ne g = absurd (cc)
beaten xs k word w b Won r e ne g = absurd (ne (omega arith))
beaten xs k word w b Lost r e ne g = tt
beaten xs k word w b Failed r e ne g = tt
beaten xs k word w b (Cancelled q u) r e ne g = tt

cut_off : (xs : List Race) (k b : ℕ) (x : Race) (v : BranchState) → slice_get xs k ≡ Some x → IsBelow k x.parent → is_running v ≡ false → x.word ≡ 0 → GoodBranch xs k x.word b v → IsCutOff xs x v
cut_off xs k b x Running at h r e g = absurd (cc)
cut_off xs k b x Won at h r e g = absurd (omega arith)
cut_off xs k b x Lost at h r e g = g e
cut_off xs k b x Failed at h r e g = tt
cut_off xs k b x (Cancelled q w) at h r e g =
    let ne : q ≢ suc k = λ s. let z : word_of (race_at xs q) ≡ x.word = ap (λ i. word_of (race_at xs i)) s ∙ ap word_of at in let f = g.2 in absurd (omega arith) in
    (g.0, sym (chain_up xs k b q x at h ne) ∙ g.1)

settled : (xs : List Race) (k : ℕ) (x : Race) → slice_get xs k ≡ Some x → GoodRace xs k x → any_running x.branches ≡ false → (w : ℕ) → x.word ≡ w → HasWinner x ⊎ HasNone xs x
settled xs k x at good quiet zero e = inr (e, λ b v is. cut_off xs k b x v at good.below (none_running x.branches b v quiet is) e (good.branch b v is))
settled xs k x at good quiet (suc w) e = let f : x.word ≡ w + 1 = e ∙ omega arith in
    inl (w, f, good.winner w f, λ b v is ne. beaten xs k x.word w b v (none_running x.branches b v quiet is) f ne (good.branch b v is))

collected : (s t : RaceState) (p : Place) (x : Race) (o : Option Race) → o ≡ Some x → collect s p o ≡ Some t → any_running x.branches ≡ false
collected s t p x None is e = absurd (cc)
collected s t p x (Some y) is e = subst (λ z. any_running z.branches ≡ false) (same_Some y x is) (both (is_at y.parent p) (any_running y.branches) refl e)
  where
    both : (a b : Bool) → any_running y.branches ≡ b → cond a (cond b None (Some s)) None ≡ Some t → any_running y.branches ≡ false
    both true false q e = q
    both true true q e = absurd (cc)
    both false b q e = absurd (cc)

at_number : (xs : List Race) (r : ℕ) (x : Race) → race_at xs r ≡ Some x → Good xs → any_running x.branches ≡ false → HasWinner x ⊎ HasNone xs x
at_number xs zero x is good quiet = absurd (cc)
at_number xs (suc k) x is good quiet = settled xs k x is (good k x is) quiet x.word refl

pub collects_settled : CollectsSettled
collects_settled pool steps s t e x ran kind at made =
    let good : Good s.races = run_good steps (start pool) s (λ k y is. absurd (cc)) ran in
    let took : step_of s Collect e.actor e.race e.branch ≡ Some t = ap (λ k. step_of s k e.actor e.race e.branch) (sym kind) ∙ made in
    at_number s.races e.race x at good (collected s t e.actor x (race_at s.races e.race) at took)
