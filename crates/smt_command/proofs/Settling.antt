-- A command that is read, and then what it changes.
use Rattle.std.proofs.Common.{◌≡◌, ℕ, List, [], ◌++◌, Result, Ok, Err, length, ap, sym, subst, ◌∙◌}
use Rattle.std.specs.Prelude.{⊤, false, IfOk, IsErrAnd, Some}
use Rattle.sexp_read.specs.declared.sexp.Sexp.{Sexp}
use Rattle.sexp_read.specs.Atoms.{start_of}
use Rattle.qterm.specs.Tree.{Tree}
use Rattle.qterm.specs.Store.{Extends, trees_of}
use Rattle.strat_text.specs.Grammar.{Names}
use Rattle.smt_words.specs.declared.command.Command.{Command}
use Rattle.smt_words.specs.declared.error.ScriptError.{ScriptError}
use Rattle.smt_words.specs.declared.error.ReadError.{ReadError}
use Rattle.smt_words.specs.declared.error.ReadError.TheVariants.{Refused, Memory}
use Rattle.smt_words.specs.Command.{CommandTree, command_tree}
use Rattle.smt_names.specs.declared.state.State.{State as StateId}
use Rattle.smt_names.specs.Table.{symbols_in}
use Rattle.smt_names.specs.Reading.{State}
use Rattle.smt_names.specs.Given.{Refuses, scopes_in, seen}
use Rattle.term_limits.specs.Limits.{IsCounted}
use Rattle.smt_command.specs.declared.symbols.Symbols.{Symbols}
use Rattle.smt_command.specs.declared.reading.Found.TheVariants as found
use Rattle.smt_command.specs.Change.{InForce, in_force, changed}
use Rattle.smt_command.specs.Laws.{IsLawful, IsNew}
use Rattle.smt_command.specs.Limits.{terms_of, limited}
use Rattle.smt_command.specs.Reading.{Test, and}
use Rattle.smt_command.specs.Terms.{read_sexp, settled, read_command}
use Rattle.smt_command.proofs.Tests.{refuses_and}
use Rattle.smt_command.specs.Script.{goes_to, command_at}
use Rattle.smt_command.specs.Given.{Reads, HasTerms, IsFound}
use Rattle.smt_command.proofs.Placed.{command_tree_extends}
use Rattle.smt_command.proofs.Keeping.{IsRead, begun, read_gives}

module _ (names : Names) (bytes : List ℕ) (sexp : Sexp) (ts : List Tree) (old : Symbols) (st : StateId) (levels : ℕ)
    (symbols : st.symbols ≡ old.state.symbols) (scopes : st.scopes ≡ []) (bound : st.bound ≡ []) (in_body : st.in_body ≡ false) (l : levels ≡ length old.levels) where
  -- what is in force where the command begins
  start : State
  start = record { symbols = symbols_in ts old.state.symbols; bound = []; in_body = false }

  -- the command as it is defined
  abbrev Reading : Type 0
  Reading = Result (CommandTree × State) ScriptError

  same : read_sexp names (scopes_in ts st.scopes) levels bytes sexp (seen ts st) ≡ read_sexp names [] (length old.levels) bytes sexp (record { symbols = symbols_in ts old.state.symbols; bound = []; in_body = false })
  same = begun names bytes sexp ts old st levels symbols scopes bound in_body l

  settled_err : (e : ReadError) (r : Reading) → Refuses e r → Refuses e (settled (start_of sexp) (in_force ts old) r)
  settled_err (Refused f) r h = ap (settled (start_of sexp) (in_force ts old)) h
  settled_err (Memory cause) r h = tt

  -- the refusal is that of the command
  pub taken_fault : (us : List Tree) (new : Symbols) (e : ReadError) (answer : Result Command ReadError) → IsErrAnd answer (λ told. told ≡ e) → Refuses e (read_sexp names (scopes_in ts st.scopes) levels bytes sexp (seen ts st))
      → Reads us new answer (read_command names bytes sexp (in_force ts old))
  taken_fault us new e (Ok c) told h = absurd told
  taken_fault us new e (Err d) told h =
      subst (λ x. Refuses x (read_command names bytes sexp (in_force ts old))) (sym told)
      (settled_err e (read_sexp names [] (length old.levels) bytes sexp (record { symbols = symbols_in ts old.state.symbols; bound = []; in_body = false })) (subst (Refuses e) same h))

  module _ (us : List Tree) (u : StateId) (c : Command) (given : read_sexp names (scopes_in ts st.scopes) levels bytes sexp (seen ts st) ≡ Ok (command_tree us c, seen us u)) where
    read_law : IsRead (length old.levels) bytes (command_tree us c, seen us u)
    read_law =
        let all : IfOk (read_sexp names (scopes_in ts st.scopes) levels bytes sexp (seen ts st)) (IsRead levels bytes) = read_gives levels bytes names (scopes_in ts st.scopes) (seen ts st) sexp in
        let law : IsRead levels bytes (command_tree us c, seen us u) = subst (λ (r : Reading). IfOk r (IsRead levels bytes)) given all in
        subst (λ n. IsRead n bytes (command_tree us c, seen us u)) l law

    -- it is lawful
    pub taken_lawful : IsLawful (length old.levels) (command_tree us c)
    taken_lawful = read_law.lawful

    -- a declared name is new
    pub taken_new : IsNew (symbols_in us u.symbols) (command_tree us c)
    taken_new = read_law.new

    -- its terms, with those that count beside them
    abbrev held : Test ⊤
    held = limited (start_of sexp) (trees_of ts old.asserts.ids) (terms_of (command_tree us c) ++ trees_of us u.bound)

    -- what is in force behind it
    abbrev behind : InForce
    behind = record { symbols = symbols_in us u.symbols; asserts = trees_of ts old.asserts.ids; levels = old.levels }

    abbrev behind_it : Result (CommandTree × InForce) ScriptError
    behind_it = Ok (command_tree us c, changed (command_tree us c) behind)

    -- the limits are passed
    pub taken_past : (vs : List Tree) (new : Symbols) (e : ReadError) (answer : Result Command ReadError) → IsErrAnd answer (λ told. told ≡ e) → Refuses e held → Reads vs new answer (read_command names bytes sexp (in_force ts old))
    taken_past vs new e (Ok d) told h = absurd told
    taken_past vs new e (Err d) told h =
        subst (λ x. Refuses x (read_command names bytes sexp (in_force ts old))) (sym told)
        (subst (Refuses e) (sym (ap (settled (start_of sexp) (in_force ts old)) (sym same ∙ given))) (refuses_and e held (λ _. behind_it) h))

    -- what is in force behind it
    pub taken_read : (vs : List Tree) (mid new : Symbols) → mid.state.symbols ≡ u.symbols → trees_of us mid.asserts.ids ≡ trees_of ts old.asserts.ids → mid.levels ≡ old.levels → held ≡ Ok tt → in_force vs new ≡ changed (command_tree us c) (in_force us mid) → Extends us vs → HasTerms us c
        → read_command names bytes sexp (in_force ts old) ≡ Ok (command_tree vs c, in_force vs new)
    taken_read vs mid new ms ma ml kept is e has =
        let middle : in_force us mid ≡ behind = λ i. record { symbols = symbols_in us (ms i); asserts = ma i; levels = ml i } in
        ap (settled (start_of sexp) (in_force ts old)) (sym same ∙ given)
        ∙ ap (λ r. and r (λ _. behind_it)) kept
        ∙ (λ i. Ok (sym (command_tree_extends us vs c e has) i, (sym (is ∙ ap (changed (command_tree us c)) middle)) i))

-- ---- what stands at a place
module _ (names : Names) (bytes : List ℕ) (s : InForce) (sexp : Sexp) (end place : ℕ) (is : place ≡ start_of sexp) where
  -- a command
  pub found_command : (us : List Tree) (new : Symbols) (c : Command) → read_command names bytes sexp s ≡ Ok (command_tree us c, in_force us new) → HasTerms us c → IsCounted us new.asserts
      → IsFound us new (command_at names bytes s sexp end) (found.Goes (record { command = c; place = place }) end)
  found_command us new c given has counted =
      (ap (goes_to (start_of sexp) end) given ∙ ap (λ p. goes_to p end (Ok (command_tree us c, in_force us new))) (sym is), has, counted)

  -- a refusal
  pub found_refusal : (us : List Tree) (new : Symbols) (e : ScriptError) → read_command names bytes sexp s ≡ Err e → IsFound us new (command_at names bytes s sexp end) (found.Ends (Some e))
  found_refusal us new e given = ap (goes_to (start_of sexp) end) given
