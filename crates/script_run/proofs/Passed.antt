-- The commands that make no record: their deeds, and what they leave sound.
use Rattle.std.proofs.Common.{◌≡◌, ◌-◌, ℕ, zero, suc, List, [], ◌∷◌, ◌++◌, take, length, slice_get, All, Option, Some, None, Result, Ok, Err, IfOk, refl, ap, sym, subst, ◌∙◌}
use Rattle.qterm.specs.declared.name.Sort.TheVariants as sort
use Rattle.qterm.specs.Tree.{Tree}
use Rattle.qterm.specs.Store.{tree_at, trees_of, HasSort}
use Rattle.qterm.proofs.Alls.{All-head, All-tail, All-nil, All-cons, All-push}
use Rattle.qterm.proofs.KidsLaws.{trees_of-append}
use Rattle.goal_depth.specs.Depths.{IsShallow, AreShallow}
use Rattle.smt_words.specs.Command.{PlacedTree, Assert, Push, Pop}
use Rattle.script_text.specs.declared.session.Mark.{Mark}
use Rattle.script_text.specs.declared.session.Session.{Session}
use Rattle.script_text.specs.Levels.{cut_to, closed}
use Rattle.script_text.specs.Session.{SessionTree, asserted, pushed, popped}
use Rattle.script_text.specs.Shown.{success_text}
use Rattle.script_text.specs.Output.{Setting, Writes, deed, deed_of, done}
use Rattle.script_text.proofs.Levels.{trees_of-take}
use Rattle.script_shown.specs.declared.stop.Stop.{Stop}
use Rattle.script_run.specs.Steps.{IsSound}

-- a command without other output, by the session that it leaves
pub done_when : {T : Type 0} (items : T → List ℕ) (r : Result T Stop) (k : Setting) (s new next : SessionTree) (p : PlacedTree)
    → deed_of k s p ≡ done next → new ≡ next → IfOk r (λ t. items t ≡ success_text new.print_success) → IfOk r (λ t. deed_of k s p ≡ Writes (items t) new)
done_when items (Ok t) k s new next p is same text = is ∙ ap done (sym same) ∙ ap (λ all. Writes all new) (sym text)
done_when items (Err e) k s new next p is same text = tt

pub deed_asserts : (k : Setting) (s : SessionTree) (p : PlacedTree) (t : Tree) → p.command ≡ Assert t → deed_of k s p ≡ done (asserted s t)
unfolding deed
deed_asserts k s p t is = rw is refl

pub deed_pushes : (k : Setting) (s : SessionTree) (p : PlacedTree) (levels : ℕ) → p.command ≡ Push levels → deed_of k s p ≡ done (pushed s levels)
unfolding deed
deed_pushes k s p levels is = rw is refl

pub deed_pops : (k : Setting) (s : SessionTree) (p : PlacedTree) (levels : ℕ) → p.command ≡ Pop levels → deed_of k s p ≡ done (popped s levels)
unfolding deed
deed_pops k s p levels is = rw is refl

-- ---- assertions
shallow_push : (fs : List Tree) (f : Tree) → AreShallow fs → IsShallow f → AreShallow (fs ++ f ∷ [])
shallow_push [] f h new = (new, tt)
shallow_push (g ∷ fs) f h new = (h.0, shallow_push fs f h.1 new)

shallow_take : (n : ℕ) (fs : List Tree) → AreShallow fs → AreShallow (take n fs)
shallow_take zero fs h = tt
shallow_take (suc n) [] h = tt
shallow_take (suc n) (f ∷ fs) h = (h.0, shallow_take n fs h.1)

all_take : {X : Type 0} (P : X → Type 0) (n : ℕ) (xs : List X) → All P xs → All P (take n xs)
all_take P zero xs h = All-nil P
all_take P (suc n) [] h = All-nil P
all_take P (suc n) (x ∷ xs) h = All-cons P x (take n xs) (All-head P x xs h) (all_take P n xs (All-tail P x xs h))

-- a session with these assertions is sound
sound_with : (ts : List Tree) (asserts : List ℕ) (new : Session) → new.asserts ≡ asserts → All (HasSort sort.Bool ts) asserts → AreShallow (trees_of ts asserts) → IsSound ts new
sound_with ts asserts new is has shallow = record {
  asserts = subst (All (HasSort sort.Bool ts)) (sym is) has;
  shallow = subst (λ ids. AreShallow (trees_of ts ids)) (sym is) shallow;
}

pub sound_asserted : (ts : List Tree) (s new : Session) (id : ℕ) → new.asserts ≡ s.asserts ++ id ∷ [] → HasSort sort.Bool ts id → IsShallow (tree_at ts id) → IsSound ts s → IsSound ts new
sound_asserted ts s new id is has shallow sound =
    sound_with ts (s.asserts ++ id ∷ []) new is (All-push (HasSort sort.Bool ts) s.asserts id sound.asserts has) (rw trees_of-append (shallow_push (trees_of ts s.asserts) (tree_at ts id) sound.shallow shallow))

sound_cut : (ts : List Tree) (s : Session) (left : ℕ) (mark : Option Mark) → IsSound ts s → IsSound ts (cut_to s left mark)
sound_cut ts s left (Some mark) sound =
    sound_with ts (take mark.asserts s.asserts) (cut_to s left (Some mark)) refl (all_take (HasSort sort.Bool ts) mark.asserts s.asserts sound.asserts) (rw trees_of-take (shallow_take mark.asserts (trees_of ts s.asserts) sound.shallow))
sound_cut ts s left None sound = sound_with ts s.asserts (cut_to s left None) refl sound.asserts sound.shallow

pub sound_closed : (ts : List Tree) (s new : Session) (levels : ℕ) → new ≡ closed s levels → IsSound ts s → IsSound ts new
sound_closed ts s new levels is sound =
    let left = length s.marks - levels in
    subst (IsSound ts) (sym is) (sound_cut ts s left (slice_get s.marks left) sound)

-- what holds at all holds of a text
pub if_ok : {T : Type 0} (P : Type 0) (r : Result T Stop) → P → IfOk r (λ _. P)
if_ok P (Ok t) h = h
if_ok P (Err e) h = tt
