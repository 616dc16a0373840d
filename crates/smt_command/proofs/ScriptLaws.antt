-- The commands of a script are lawful, each behind those before it.
use Rattle.std.specs.declared.alloc.AllocError.{AllocError}
use Rattle.std.proofs.Common.{◌≡◌, ℕ, zero, suc, ◌+◌, ◌-◌, Bool, true, false, List, [], ◌∷◌, length, map, All, Result, Ok, Err, refl, sym, subst}
use Rattle.std.specs.Prelude.{⊤, IfOk}
use Rattle.sexp_read.specs.declared.sexp.Next.{Next}
use Rattle.sexp_read.specs.declared.sexp.Next.TheVariants.{Item, End, Bad}
use Rattle.sexp_read.specs.Atoms.{start_of}
use Rattle.sexp_read.specs.Sexp.{next_at}
use Rattle.strat_text.specs.Grammar.{Names}
use Rattle.smt_words.specs.declared.error.ScriptError.{ScriptError}
use Rattle.qterm.specs.Tree.{Tree}
use Rattle.qterm.proofs.Alls.{All-head, All-tail, All-nil, All-cons}
use Rattle.smt_words.specs.declared.command.Command.{Command}
use Rattle.smt_words.specs.declared.command.Command.TheVariants as command
use Rattle.smt_words.specs.declared.command.Asked.{Asked}
use Rattle.smt_words.specs.declared.script.Placed.{Placed}
use Rattle.smt_words.specs.declared.script.Script.{Script}
use Rattle.smt_words.specs.Command.{CommandTree, PlacedTree, ScriptTree, asked_tree, command_tree, placed_tree, script_tree}
use Rattle.smt_command.specs.Change.{InForce, nothing}
use Rattle.smt_command.specs.Given.{IsSpanIn, HasTerms, IsCommandIn}
use Rattle.smt_command.specs.Laws.{IsLawful, IsSpan, AreSpans, IsShallow, levels_after, AreLawful}
use Rattle.smt_command.specs.Terms.{read_command}
use Rattle.smt_command.specs.Script.{First, Ends, Goes, first_of, goes_to, behind, then_in_force, is_exit, before_rest, script_from, script_after, script_of}
use Rattle.smt_command.proofs.Placed.{IsPlacedIn}
use Rattle.smt_command.proofs.Keeping.{IsSettled, command_settled}

-- what stands at a place is lawful
pub record IsLawfulCommand (bytes : List ℕ) (s : InForce) (c : CommandTree) (t : InForce) : Type 0 where
  pub lawful : IsLawful (length s.levels) c
  pub spans : AreSpans bytes c
  pub shallow : IsShallow c
  pub levels : length t.levels ≡ levels_after (length s.levels) c

abbrev IsLawfulFirst : List ℕ → InForce → First → Type 0
IsLawfulFirst bytes s (Ends fault) = ⊤
IsLawfulFirst bytes s (Goes placed end t) = IsLawfulCommand bytes s placed.command t

goes_lawful : (bytes : List ℕ) (s : InForce) (place end : ℕ) (r : Result (CommandTree × InForce) ScriptError) → IfOk r (IsSettled bytes s) → IsLawfulFirst bytes s (goes_to place end r)
goes_lawful bytes s place end (Ok p) h = record { lawful = h.lawful; spans = h.spans; shallow = h.shallow; levels = h.levels }
goes_lawful bytes s place end (Err e) h = tt

first_lawful : (names : Names) (bytes : List ℕ) (s : InForce) (next : Next) → IsLawfulFirst bytes s (first_of names bytes s next)
first_lawful names bytes s End = tt
first_lawful names bytes s (Bad place what) = tt
first_lawful names bytes s (Item sexp end) = goes_lawful bytes s (start_of sexp) end (read_command names bytes sexp s) (command_settled names bytes sexp s)

-- a lawful command before lawful ones
before_lawful : (bytes : List ℕ) (s t : InForce) (placed : PlacedTree) (rest : ScriptTree) → IsLawfulCommand bytes s placed.command t → AreLawful bytes (length t.levels) rest.commands → AreLawful bytes (length s.levels) (before_rest placed rest).commands
unfolding AreLawful
before_lawful bytes s t placed rest h k = by (is_exit placed.command) refl
  where
    by : (b : Bool) → is_exit placed.command ≡ b → AreLawful bytes (length s.levels) (before_rest placed rest).commands
    by true e = rw e (h.lawful, h.spans, h.shallow, tt)
    by false e = rw e (h.lawful, h.spans, h.shallow, subst (λ n. AreLawful bytes n rest.commands) h.levels k)

-- what stands at a place before lawful commands
from_lawful : (bytes : List ℕ) (s : InForce) (first : First) (rest : ScriptTree) → IsLawfulFirst bytes s first → AreLawful bytes (length (then_in_force first).levels) rest.commands → AreLawful bytes (length s.levels) (script_from first rest).commands
unfolding AreLawful
from_lawful bytes s (Ends fault) rest h k = tt
from_lawful bytes s (Goes placed end t) rest h k = before_lawful bytes s t placed rest h k

-- the commands from a place on are lawful
after_lawful : (names : Names) (bytes : List ℕ) (skip : ℕ) (rest : List ℕ) (at : ℕ) (s : InForce) → AreLawful bytes (length s.levels) (script_after names bytes skip rest at s).commands
unfolding script_after AreLawful
after_lawful names bytes skip [] at s = tt
after_lawful names bytes (suc skip) (b ∷ rest) at s = after_lawful names bytes skip rest (at + 1) s
after_lawful names bytes zero (b ∷ rest) at s =
    let first = first_of names bytes s (next_at bytes at) in
    from_lawful bytes s first (script_after names bytes (behind first - (at + 1)) rest (at + 1) (then_in_force first))
    (first_lawful names bytes s (next_at bytes at))
    (after_lawful names bytes (behind first - (at + 1)) rest (at + 1) (then_in_force first))

-- the commands that bytes spell are lawful
pub script_lawful : (names : Names) (bytes : List ℕ) → AreLawful bytes 0 (script_of names bytes).commands
unfolding script_of
script_lawful names bytes = after_lawful names bytes 0 bytes 0 nothing

-- ---- the commands over a store
-- lawful asked terms, over the trees of a store
asked_in_bytes : (bytes : List ℕ) (ts : List Tree) (asked : List Asked) → All (IsSpan bytes) (map (asked_tree ts) asked) → All (IsSpanIn bytes) asked
asked_in_bytes bytes ts [] h = All-nil (IsSpanIn bytes)
asked_in_bytes bytes ts (a ∷ asked) h =
    All-cons (IsSpanIn bytes) a asked (All-head (IsSpan bytes) (asked_tree ts a) (map (asked_tree ts) asked) h)
    (asked_in_bytes bytes ts asked (All-tail (IsSpan bytes) (asked_tree ts a) (map (asked_tree ts) asked) h))

-- a lawful command whose terms are in the store
command_in : (bytes : List ℕ) (ts : List Tree) (c : Command) → HasTerms ts c → AreSpans bytes (command_tree ts c) → IsShallow (command_tree ts c) → IsCommandIn ts bytes c
command_in bytes ts (command.Assert id) h spans shallow = (h, shallow)
command_in bytes ts (command.GetValue asked) h spans shallow = (h, asked_in_bytes bytes ts asked spans)
command_in bytes ts other h spans shallow = tt

-- lawful commands whose terms are in the store
pub commands_in : (bytes : List ℕ) (ts : List Tree) (levels : ℕ) (ps : List Placed) → All (IsPlacedIn ts) ps → AreLawful bytes levels (map (placed_tree ts) ps) → All (λ (p : Placed). IsCommandIn ts bytes p.command) ps
unfolding AreLawful
commands_in bytes ts levels [] h k = All-nil (λ (p : Placed). IsCommandIn ts bytes p.command)
commands_in bytes ts levels (p ∷ ps) h k =
    All-cons (λ (p : Placed). IsCommandIn ts bytes p.command) p ps
    (command_in bytes ts p.command (All-head (IsPlacedIn ts) p ps h) k.1 k.2)
    (commands_in bytes ts (levels_after levels (command_tree ts p.command)) ps (All-tail (IsPlacedIn ts) p ps h) k.3)

-- the commands of a script that the bytes spell
pub script_in : (names : Names) (bytes : List ℕ) (ts : List Tree) (r : Result Script AllocError) → IfOk r (λ s. script_tree ts s ≡ script_of names bytes) → IfOk r (λ s. All (IsPlacedIn ts) s.commands)
    → IfOk r (λ s. All (λ (p : Placed). IsCommandIn ts bytes p.command) s.commands)
script_in names bytes ts (Ok s) told has = commands_in bytes ts 0 s.commands has (subst (λ (t : ScriptTree). AreLawful bytes 0 t.commands) (sym told) (script_lawful names bytes))
script_in names bytes ts (Err e) told has = tt
