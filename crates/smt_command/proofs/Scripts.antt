-- The script from a place on is its first command and the script behind it.
use Rattle.std.proofs.Common.{◌≡◌, ℕ, zero, suc, ◌+◌, ◌-◌, ◌<◌, ◌≤◌, true, false, List, [], ◌∷◌, ◌++◌, length, drop, get_or, Option, None, Result, Ok, Err, refl, ap, sym, ◌∙◌, arith, add-one, append_assoc, append-nil}
use Rattle.std.proofs.Math.Seq.{drop-cons}
use Rattle.std.proofs.lemmas.List.{drop-drop, drop_all}
use Rattle.sexp_read.specs.declared.sexp.Next.{Next}
use Rattle.sexp_read.specs.declared.sexp.Next.TheVariants.{Item, End, Bad}
use Rattle.sexp_read.specs.Atoms.{start_of}
use Rattle.sexp_read.specs.Sexp.{next_at, EndsWithin}
use Rattle.strat_text.specs.Grammar.{Names}
use Rattle.smt_words.specs.declared.error.ScriptError.{ScriptError}
use Rattle.smt_words.specs.Command.{CommandTree, PlacedTree, ScriptTree}
use Rattle.smt_command.specs.Change.{InForce}
use Rattle.smt_command.specs.Terms.{read_command}
use Rattle.smt_command.specs.Script.{First, Ends, Goes, first_of, goes_to, behind, then_in_force, is_exit, before_rest, script_from, script_after, script_at}

-- commands before the rest of the script
abbrev pub after_commands : List PlacedTree → ScriptTree → ScriptTree
after_commands front rest = record { commands = front ++ rest.commands; fault = rest.fault }

-- the bytes from a place on begin with the byte there
drop_at : (bytes : List ℕ) (at : ℕ) → at < length bytes → drop at bytes ≡ get_or bytes at 0 ∷ drop (at + 1) bytes
drop_at bytes at h = rw add-one (drop-cons bytes at 0 h)

-- nothing comes behind an exit
exits : (placed : PlacedTree) (rest : ScriptTree) → is_exit placed.command ≡ true → before_rest placed rest ≡ record { commands = placed ∷ []; fault = None }
exits placed rest e = rw e refl

-- the rest comes behind any other command
stays : (placed : PlacedTree) (rest : ScriptTree) → is_exit placed.command ≡ false → before_rest placed rest ≡ record { commands = placed ∷ rest.commands; fault = rest.fault }
stays placed rest e = rw e refl

module _ (names : Names) (bytes : List ℕ) where
  -- bytes that are skipped are dropped
  script_after-drop : (skip : ℕ) (rest : List ℕ) (at : ℕ) (s : InForce) → script_after names bytes skip rest at s ≡ script_after names bytes 0 (drop skip rest) (at + skip) s
  unfolding script_after
  script_after-drop zero rest at s = ap (λ n. script_after names bytes 0 rest n s) (omega arith)
  script_after-drop (suc skip) [] at s = refl
  script_after-drop (suc skip) (b ∷ rest) at s = script_after-drop skip rest (at + 1) s ∙ ap (λ n. script_after names bytes 0 (drop skip rest) n s) (omega arith)

  module _ (at : ℕ) (s : InForce) (within : at < length bytes) where
    -- the script from a place on, by what stands there
    script_first : (first : First) → first_of names bytes s (next_at bytes at) ≡ first
        → script_at names bytes at s ≡ script_from first (script_after names bytes (behind first - (at + 1)) (drop (at + 1) bytes) (at + 1) (then_in_force first))
    unfolding script_after
    script_first first is = rw (sym is, drop_at bytes at within) refl

    -- it ends where no command stands
    pub script_ends : (fault : Option ScriptError) → first_of names bytes s (next_at bytes at) ≡ Ends fault → script_at names bytes at s ≡ record { commands = []; fault = fault }
    script_ends fault is = script_first (Ends fault) is

    -- an exit is the last command
    pub script_exits : (placed : PlacedTree) (end : ℕ) (t : InForce) → first_of names bytes s (next_at bytes at) ≡ Goes placed end t → is_exit placed.command ≡ true
        → script_at names bytes at s ≡ record { commands = placed ∷ []; fault = None }
    script_exits placed end t is exit = script_first (Goes placed end t) is ∙ exits placed (script_after names bytes (end - (at + 1)) (drop (at + 1) bytes) (at + 1) t) exit

    -- another command comes before the script behind it
    pub script_goes : (placed : PlacedTree) (end : ℕ) (t : InForce) → at < end → first_of names bytes s (next_at bytes at) ≡ Goes placed end t → is_exit placed.command ≡ false
        → (front : List PlacedTree) → after_commands front (script_at names bytes at s) ≡ after_commands (front ++ placed ∷ []) (script_at names bytes end t)
    script_goes placed end t forth is exit front =
        let later : script_after names bytes (end - (at + 1)) (drop (at + 1) bytes) (at + 1) t ≡ script_at names bytes end t =
        script_after-drop (end - (at + 1)) (drop (at + 1) bytes) (at + 1) t
        ∙ ap (λ rest. script_after names bytes 0 rest (at + 1 + (end - (at + 1))) t) (drop-drop (end - (at + 1)) (at + 1) bytes)
        ∙ (let e : at + 1 + (end - (at + 1)) ≡ end = omega arith in ap (λ n. script_after names bytes 0 (drop n bytes) n t) e) in
        ap (after_commands front)
        (script_first (Goes placed end t) is ∙ stays placed (script_after names bytes (end - (at + 1)) (drop (at + 1) bytes) (at + 1) t) exit
        ∙ ap (λ r. let s : ScriptTree = record { commands = placed ∷ r.commands; fault = r.fault } in s) later)
        ∙ ap (λ cs. let s : ScriptTree = record { commands = cs; fault = (script_at names bytes end t).fault } in s) (sym (append_assoc front (placed ∷ []) (script_at names bytes end t).commands))

  -- there is nothing behind the bytes
  pub script_over : (at : ℕ) (s : InForce) → length bytes ≤ at → script_at names bytes at s ≡ record { commands = []; fault = None }
  unfolding script_after
  script_over at s h = rw (drop_all at bytes h) refl

  -- the place behind a command is that behind its s-expression
  goes_end : (r : Result (CommandTree × InForce) ScriptError) (placed : PlacedTree) (place at end : ℕ) (t : InForce) → goes_to place at r ≡ Goes placed end t → at ≡ end
  goes_end (Ok p) placed place at end t e = cc
  goes_end (Err f) placed place at end t e = cc

  -- a command ends where its s-expression does
  pub goes_within : (s : InForce) (next : Next) (placed : PlacedTree) (low high end : ℕ) (t : InForce) → first_of names bytes s next ≡ Goes placed end t → EndsWithin low high next → (low < end) × (end ≤ high)
  goes_within s (Item sexp at) placed low high end t e within = rw (sym (goes_end (read_command names bytes sexp s) placed (start_of sexp) at end t e)) within
  goes_within s End placed low high end t e within = cc
  goes_within s (Bad place what) placed low high end t e within = cc

-- commands before an end are all
pub all_told : (front : List PlacedTree) (fault : Option ScriptError) (rest all : ScriptTree) → rest ≡ record { commands = []; fault = fault } → after_commands front rest ≡ all
    → (let s : ScriptTree = record { commands = front; fault = fault } in s) ≡ all
all_told front fault rest all e told = ap (λ cs. let s : ScriptTree = record { commands = cs; fault = fault } in s) (sym (append-nil front)) ∙ ap (after_commands front) (sym e) ∙ told

-- commands up to an exit are all
pub exit_told : (front cs : List PlacedTree) (placed : PlacedTree) (rest all : ScriptTree) → cs ≡ front ++ placed ∷ [] → rest ≡ record { commands = placed ∷ []; fault = None } → after_commands front rest ≡ all
    → (let s : ScriptTree = record { commands = cs; fault = None } in s) ≡ all
exit_told front cs placed rest all is e told = ap (λ cs. let s : ScriptTree = record { commands = cs; fault = None } in s) is ∙ ap (after_commands front) (sym e) ∙ told
