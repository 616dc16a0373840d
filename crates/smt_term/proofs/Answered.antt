-- What turns answer for readings.
use Rattle.std.proofs.Common.{◌≡◌, ◌<◌, ◌≤◌, ℕ, List, [], ◌∷◌, All, append-nil, Result, Ok, Err, refl, ap, sym, subst, ◌∙◌, arith}
use Rattle.qterm.specs.Tree.{Tree}
use Rattle.std.specs.Prelude.{IfOk}
use Rattle.qterm.specs.Store.{tree_at, Has, Extends}
use Rattle.qterm.proofs.Alls.{All-tail}
use Rattle.qterm.proofs.Extending.{Extends_refl}
use Rattle.smt_words.specs.declared.error.ScriptError.{ScriptError}
use Rattle.smt_words.specs.declared.error.ReadError.{ReadError}
use Rattle.smt_words.specs.declared.error.ReadError.TheVariants.{Refused, Memory}
use Rattle.smt_names.specs.declared.state.State.{State as StateId}
use Rattle.smt_names.specs.Table.{Entry, AreThere}
use Rattle.smt_names.specs.Text.{behind_first}
use Rattle.smt_names.specs.Reading.{State, Reader}
use Rattle.smt_names.specs.Given.{Answers, Gives, IsIn, Goes, seen}
use Rattle.smt_names.proofs.Readings.{seen_extends}
use Rattle.smt_term.specs.declared.frame.Turn.{Turn}
use Rattle.smt_term.specs.Turns.{Turns, done_with}

-- a looser bound
pub turns_below : (bytes : List ℕ) (base : List (List Entry)) (low high : ℕ) (us : List Tree) (t : StateId) (reading : Result (Tree × State) ScriptError) (answer : Result Turn ReadError)
    → low ≤ high → Turns bytes base low us t reading answer → Turns bytes base high us t reading answer
turns_below bytes base low high us t reading (Ok next) l h = record { reads = h.reads; scopes = h.scopes; has = h.has; below = omega (arith, l, h.below) }
turns_below bytes base low high us t reading (Err e) l h = h

-- the same of an equal reading
pub turns_same : (bytes : List ℕ) (base : List (List Entry)) (bound : ℕ) (us : List Tree) (t : StateId) (r reading : Result (Tree × State) ScriptError) (answer : Result Turn ReadError)
    → reading ≡ r → Turns bytes base bound us t r answer → Turns bytes base bound us t reading answer
turns_same bytes base bound us t r reading answer e h = subst (λ x. Turns bytes base bound us t x answer) (sym e) h

-- a term that a reading gives, in the scopes that were there
pub turns_given : (bytes : List ℕ) (base : List (List Entry)) (bound : ℕ) (us : List Tree) (t : StateId) (answer : Result ℕ ReadError) (reading : Result (Tree × State) ScriptError) → 1 < bound → t.scopes ≡ base → IfOk answer (Has us)
    → Gives (tree_at us) us t answer reading → Turns bytes base bound us t reading (done_with answer)
turns_given bytes base bound us t (Ok id) reading l is h a = record { reads = a; scopes = is; has = h; below = l }
turns_given bytes base bound us t (Err (Refused f)) reading l is h a = a
turns_given bytes base bound us t (Err (Memory cause)) reading l is h a = tt

-- a term that is there at once
pub turns_done : (bytes : List ℕ) (bound : ℕ) (ts us : List Tree) (s : StateId) (answer : Result ℕ ReadError) (reading : Reader Tree) → 1 < bound → Extends ts us → IsIn ts s
    → Answers us (seen ts s) answer reading → Turns bytes s.scopes bound us s (reading (seen ts s)) (done_with answer)
turns_done bytes bound ts us s (Ok id) reading l e there a = record { reads = a.1 ∙ ap (λ t. Ok (tree_at us id, t)) (sym (seen_extends ts us s e there)); scopes = refl; has = a.0; below = l }
turns_done bytes bound ts us s (Err (Refused f)) reading l e there a = a
turns_done bytes bound ts us s (Err (Memory cause)) reading l e there a = tt

-- a scope is left
pub goes_left : (ts : List Tree) (s : StateId) (scopes : List (List Entry)) → IsIn ts s → scopes ≡ behind_first s.scopes → Goes ts s ts (record s { scopes = scopes })
goes_left ts s scopes there is = record {
  extends = Extends_refl ts;
  there = record { symbols = there.symbols; scopes = subst (All (AreThere ts)) (sym is) (left s.scopes there.scopes); bound = there.bound };
  symbols = ([], sym (append-nil s.symbols));
}
  where
    left : (all : List (List Entry)) → All (AreThere ts) all → All (AreThere ts) (behind_first all)
    left [] h = h
    left (x ∷ all) h = All-tail (AreThere ts) x all h
