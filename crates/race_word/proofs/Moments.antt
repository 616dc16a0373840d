-- The rule holds from the start on, and table and machine show the same.
use Rattle.std.proofs.Common.{◌≡◌, ◌≢◌, ℕ, zero, suc, ◌+◌, true, List, [], ◌∷◌, sym, refl, ap, subst, arith}
use Rattle.std.specs.Prelude.{slice_index}
use Rattle.race_core.specs.declared.machine.RaceState.{RaceState}
use Rattle.race_core.specs.Machine.{start}
use Rattle.race_word.specs.declared.view.View.{View}
use Rattle.race_word.specs.declared.view.Terms.{Terms}
use Rattle.race_word.specs.Views.{held, count}
use Rattle.race_word.specs.Rule.{Table, total, word_of, size_of, Holds}
use Rattle.race_word.specs.Shown.{Shown, Same, TableStep, opens, polls, collects, tries, tickets, parts_with, takes_in, after, after_claim, table_step, event, table_shows, machine_shows}
use Rattle.race_word.specs.Moments.{IsFirst, Move, Reached, RuleHolds, IsQuiet, Pace, both, alone, Together, ShowTheSame}
use Rattle.race_word.proofs.Moves.{begins}
use Rattle.race_word.proofs.Points.{points}
use Rattle.race_word.proofs.Shows.{steps_show}
use Rattle.race_word.proofs.Follows.{same_then, same_back, stay_together}

first_holds : (terms : Terms) (s : Table) → IsFirst terms s → Holds terms s
first_holds terms s f = let k = begins terms s.words f.workers f.pool f.long f.words in
    subst (λ (vs : List View). Holds terms (record { words = s.words; homes = s.homes; views = vs })) (sym f.views) (record {
      fits = k.fits;
      long = k.long;
      shared_out = k.shared_out;
      races = k.races;
      races_most = k.races_most;
      lemmas = k.lemmas;
      lemmas_most = k.lemmas_most;
      drawn = k.drawn;
      sized = k.sized;
      small = k.small;
      parts = k.parts;
      in_range = k.in_range;
      knows = k.knows;
    })

reached_holds : (terms : Terms) (ms : List Move) (s : Table) → Reached terms ms s → Holds terms s
reached_holds terms [] s f = first_holds terms s f
reached_holds terms (m ∷ ms) s (old, before, move) = subst (λ z. Holds terms z) (sym move.becomes) (steps_show terms old m.seat move.view m.step (reached_holds terms ms old before) move.sits move.may).0

pub rule_holds : RuleHolds
rule_holds terms ms s r = let h = reached_holds terms ms s r in (h, points terms s h)

-- at the start
first_same : (terms : Terms) (s : Table) → IsFirst terms s → Same (machine_shows (start terms.pool)) (table_shows s)
first_same terms s f = record { races = (let z = f.words 0 in omega arith); size = size; word = word; won = won; lemmas = sym (f.words 1) }
  where
    size : (r : ℕ) → (machine_shows (start terms.pool)).size r ≡ size_of s.views r
    size zero = ap (λ vs. size_of vs 0) (sym f.views)
    size (suc k) = ap (λ vs. size_of vs (suc k)) (sym f.views)

    word : (r : ℕ) → (machine_shows (start terms.pool)).word r ≡ word_of s.words r
    word zero = refl
    word (suc k) = sym (f.words (k + 2))

    won : (r b : ℕ) → (machine_shows (start terms.pool)).won r b ≡ total (λ v. count (held r (size_of s.views r) b true) v.parts) s.views
    won zero b = ap (λ (vs : List View). total (λ v. count (held 0 (size_of vs 0) b true) v.parts) vs) (sym f.views)
    won (suc k) b = ap (λ (vs : List View). total (λ v. count (held (suc k) (size_of vs (suc k)) b true) v.parts) vs) (sym f.views)

-- a quiet step
claim_rests : (r b w : ℕ) (x : Shown) → w ≢ 0 → after_claim r b w x ≡ x
claim_rests r b zero x ne = absurd (ne refl)
claim_rests r b (suc w) x ne = refl

quiet_rests : (x : TableStep) (s : Table) → IsQuiet x s → after (event x s) (table_shows s) ≡ table_shows s
quiet_rests (opens n) s q = ap (λ e. after e (table_shows s)) q
quiet_rests (polls k) s q = refl
quiet_rests (collects k) s q = refl
quiet_rests (tries k b) s q = claim_rests (suc k) b (slice_index s.words (k + 2)) (table_shows s) q
quiet_rests tickets s q = absurd q
quiet_rests (parts_with r mid m) s q = refl
quiet_rests (takes_in other u) s q = refl

together_holds : (terms : Terms) (ps : List Pace) (s : Table) (m : RaceState) → Together terms ps s m → Holds terms s
together_holds terms [] s m (f, e) = first_holds terms s f
together_holds terms (both x e ∷ ps) s m (old, state, before, move, is, made) = subst (λ z. Holds terms z) (sym move.becomes) (steps_show terms old x.seat move.view x.step (together_holds terms ps old state before) move.sits move.may).0
together_holds terms (alone x ∷ ps) s m (old, before, move, quiet) = subst (λ z. Holds terms z) (sym move.becomes) (steps_show terms old x.seat move.view x.step (together_holds terms ps old m before) move.sits move.may).0

pub show_the_same : ShowTheSame
show_the_same terms [] s m (f, e) = subst (λ z. Same (machine_shows z) (table_shows s)) (sym e) (first_same terms s f)
show_the_same terms (both x e ∷ ps) s m (old, state, before, move, is, made) =
    let a = stay_together terms old x.seat move.view x.step state m e (together_holds terms ps old state before) move.sits move.may (show_the_same terms ps old state before) is made in
    subst (λ z. Same (machine_shows m) (table_shows z)) (sym move.becomes) a.1
show_the_same terms (alone x ∷ ps) s m (old, before, move, quiet) =
    let a = steps_show terms old x.seat move.view x.step (together_holds terms ps old m before) move.sits move.may in
    let b : Same (table_shows (table_step x.step old x.seat move.view)) (table_shows old) = subst (λ z. Same (table_shows (table_step x.step old x.seat move.view)) z) (quiet_rests x.step old quiet) a.1 in
    subst (λ z. Same (machine_shows m) (table_shows z)) (sym move.becomes) (same_then _ _ _ (show_the_same terms ps old m before) (same_back _ _ b))
