-- Steps of reading inside frames.
use Rattle.std.proofs.Common.{◌≡◌, ◌+◌, ℕ, List, [], ◌∷◌, All, Option, None, Some, Result, Ok, Err, length, reverse, refl, ap, sym, subst, ◌∙◌, arith}
use Rattle.sexp_read.specs.declared.sexp.Sexp.{Sexp}
use Rattle.std.specs.Borrow.{Bor}
use Rattle.qterm.specs.Tree.{Tree}
use Rattle.qterm.specs.Store.{tree_at, Has}
use Rattle.qterm.proofs.Alls.{All-tail}
use Rattle.strat_text.specs.Form.{form_of}
use Rattle.smt_words.specs.declared.error.ScriptError.{ScriptError}
use Rattle.smt_words.specs.declared.error.ReadError.{ReadError}
use Rattle.smt_names.specs.declared.state.State.{State as StateId}
use Rattle.smt_names.specs.Table.{AreThere}
use Rattle.smt_names.specs.Reading.{State, and_then}
use Rattle.smt_names.specs.Given.{IsIn, Goes, scopes_in, seen}
use Rattle.smt_names.proofs.Laws.{and_then_assoc}
use Rattle.smt_names.proofs.Readings.{refuses_next}
use Rattle.smt_term.specs.declared.frame.Frame.{Frame}
use Rattle.smt_term.specs.declared.frame.Turn.{Turn}
use Rattle.smt_term.specs.declared.frame.Turn.TheVariants as turn
use Rattle.smt_term.specs.declared.stack.Next.{Next}
use Rattle.smt_term.specs.declared.stack.Next.TheVariants as next
use Rattle.smt_term.specs.Term.{read_term}
use Rattle.smt_term.specs.Frames.{with_term, around, outside, goes_on, weight, left_in, left_in_all}
use Rattle.smt_term.specs.Turns.{frame_in, frames_in, IsFrame, turn_around, turn_reads, Turns}
use Rattle.smt_term.specs.Steps.{Steps, IsLast, IsStep, turned, last_of, turn_of}
use Rattle.smt_term.proofs.Waiting.{frames_extends, AreFrames_extends, frame_scopes, around_there, goes_on_same}

-- no frame is left
pub last_step : (bytes : List ℕ) (ts : List Tree) (s : StateId) (id : ℕ) → Has ts id → IsLast bytes ts s (turn.Done id) [] ts s id
unfolding goes_on outside
last_step bytes ts s id h = record { reads = refl; scopes = refl; has = h }

-- nothing goes on where there is no frame
pub goes_on_none : (r : Result (Tree × State) ScriptError) (scopes : _) → and_then r (goes_on scopes []) ≡ r
unfolding goes_on
goes_on_none (Ok p) scopes = refl
goes_on_none (Err e) scopes = refl

module _ (bytes : List ℕ) (ts us : List Tree) (s t : StateId) (f : Frame) (fs : List Frame) (there : IsIn ts s) (goes : Goes ts s us t) (frames : All (IsFrame ts) (f ∷ fs)) where
  -- a term goes to the innermost frame
  pub up_step : (id : ℕ) (answer : Result Turn ReadError)
      → Turns bytes (around (frame_in bytes ts f) s.scopes) (1 + left_in (frame_in bytes ts f)) us t (with_term (scopes_in ts s.scopes) (frame_in bytes ts f) (tree_at ts id) (seen ts s)) answer
      → Steps bytes ts s (turn.Done id) (f ∷ fs) us t fs (turned answer)
  unfolding goes_on outside left_in_all
  up_step id (Err e) h = refuses_next e (with_term (scopes_in ts s.scopes) (frame_in bytes ts f) (tree_at ts id) (seen ts s)) (goes_on (around (frame_in bytes ts f) (scopes_in ts s.scopes)) (frames_in bytes ts fs)) h
  up_step id (Ok next) h =
      let F = frame_in bytes ts f in
      let S = scopes_in ts s.scopes in
      let behind : All (IsFrame ts) fs = All-tail (IsFrame ts) f fs frames in
      let base : All (AreThere ts) (around F s.scopes) = around_there ts F s.scopes there.scopes in
      let same = frames_extends bytes ts us fs goes.extends behind in
      record {
        reads = ap (λ r. and_then r (goes_on (around F S) (frames_in bytes ts fs))) h.reads
            ∙ ap (and_then (turn_reads bytes us t next)) (ap (λ R. goes_on R (frames_in bytes ts fs)) (frame_scopes bytes ts f s.scopes) ∙ sym (goes_on_same bytes ts us next fs t.scopes (around F s.scopes) goes.extends base behind h.scopes));
        scopes = ap (λ gs. outside gs (turn_around bytes us next t.scopes)) same ∙ ap (outside (frames_in bytes ts fs)) h.scopes;
        has = h.has;
        frames = AreFrames_extends ts us fs goes.extends behind;
        less = rw same (omega (arith, h.below));
      }

  -- an s-expression is begun inside a frame
  pub down_step : (x : Bor Sexp) (at : ℕ) (answer : Result Turn ReadError)
      → Turns bytes s.scopes (weight (form_of bytes x.now)) us t (read_term (scopes_in ts s.scopes) (form_of bytes x.now) at (seen ts s)) answer
      → Steps bytes ts s (turn.Down f x at) fs us t (f ∷ fs) (turned answer)
  unfolding goes_on outside left_in_all
  down_step x at (Err e) h =
      let F = frame_in bytes ts f in
      let S = scopes_in ts s.scopes in
      refuses_next e (and_then (read_term S (form_of bytes x.now) at (seen ts s)) (with_term S F)) (goes_on (around F S) (frames_in bytes ts fs))
      (refuses_next e (read_term S (form_of bytes x.now) at (seen ts s)) (with_term S F) h)
  down_step x at (Ok next) h =
      let F = frame_in bytes ts f in
      let S = scopes_in ts s.scopes in
      let same = frames_extends bytes ts us (f ∷ fs) goes.extends frames in
      let heavy = ap left_in_all same in
      record {
        reads = and_then_assoc (read_term S (form_of bytes x.now) at (seen ts s)) (with_term S F) (goes_on (around F S) (frames_in bytes ts fs))
            ∙ ap (λ r. and_then r (goes_on S (frames_in bytes ts (f ∷ fs)))) h.reads
            ∙ ap (and_then (turn_reads bytes us t next)) (sym (goes_on_same bytes ts us next (f ∷ fs) t.scopes s.scopes goes.extends there.scopes frames h.scopes));
        scopes = ap (λ gs. outside gs (turn_around bytes us next t.scopes)) same ∙ ap (outside (frames_in bytes ts (f ∷ fs))) h.scopes;
        has = h.has;
        frames = AreFrames_extends ts us (f ∷ fs) goes.extends frames;
        less = omega (arith, h.below, heavy);
      }

module _ (bytes : List ℕ) (ts : List Tree) (s : StateId) (now : Turn) (fs : List Frame) (us : List Tree) (t : StateId) (gs : List Frame) where
  -- the term of all is there
  pub step_last : (n : Next) (id : ℕ) → Steps bytes ts s now fs us t gs (Ok n) → last_of n ≡ Some id → IsLast bytes ts s now fs us t id
  step_last (next.Term i) id h e = (let same : i ≡ id = cc in subst (IsLast bytes ts s now fs us t) same h)
  step_last (next.Turn then_turn) id h e = absurd (none_some e)
    where
      none_some : ◌≡◌ {A = Option ℕ} None (Some id) → ⊥
      none_some e = cc

  -- a turn is left
  pub step_next : (n : Next) → Steps bytes ts s now fs us t gs (Ok n) → last_of n ≡ None → IsStep bytes ts s now fs us t gs (turn_of n)
  step_next (next.Term i) h e = absurd (some_none e)
    where
      some_none : ◌≡◌ {A = Option ℕ} (Some i) None → ⊥
      some_none e = cc
  step_next (next.Turn then_turn) h e = h

-- no frame is left where none was taken
pub no_frames : (fs : List Frame) → length fs ≡ 0 → reverse fs ≡ []
no_frames [] h = refl
no_frames (f ∷ fs) h = absurd (omega (arith, h))
