-- The commands that are read are lawful.
use Rattle.std.proofs.Common.{◌≡◌, ◌≤◌, ◌+◌, ℕ, Bool, true, false, ◌||◌, if◌then◌else◌, List, Option, None, Some, Result, Ok, Err, refl, subst, arith}
use Rattle.std.specs.Prelude.{⊤, IfOk, is_some, nat_le}
use Rattle.std.proofs.lemmas.Bool.Decides.{nat_tests}
use Rattle.qterm.specs.Tree.{Tree}
use Rattle.qterm.specs.Name.{IsNameText}
use Rattle.strat_text.specs.Form.{Form, Forms, none, more, place_of, digits_of}
use Rattle.strat_text.specs.Grammar.{Names}
use Rattle.strat_text.specs.declared.strategy.Strategy.{Strategy}
use Rattle.strat_text.specs.declared.strategy.TheConstants.{DEPTH}
use Rattle.strat_text.specs.Reading.{read_strategy}
use Rattle.smt_theory.specs.Operator.{is_theory_name}
use Rattle.smt_words.specs.declared.error.ScriptError.{ScriptError}
use Rattle.smt_words.specs.declared.error.What.TheVariants.{BadShape, Redeclared}
use Rattle.smt_names.specs.Reading.{refusal}
use Rattle.smt_words.specs.declared.command.Command.{Command}
use Rattle.smt_words.specs.declared.command.Command.TheVariants as code
use Rattle.smt_words.specs.declared.word.Word.{Word}
use Rattle.smt_words.specs.declared.word.Word.TheVariants as word
use Rattle.smt_words.specs.declared.word.OptionKind.{OptionKind}
use Rattle.smt_words.specs.declared.word.OptionKind.TheVariants as kind
use Rattle.smt_words.specs.Command.{CommandTree, SetLogic, Declare, Assert, Push, Pop, CheckSat, GetModel, GetValue, GetProof, GetInfo, Echo, ResetAssertions, Exit, command_tree}
use Rattle.smt_words.specs.Words.{option_kind, info_named}
use Rattle.smt_names.specs.Table.{Symbol, meaning_of}
use Rattle.smt_names.specs.Text.{name_of, keyword_of, string_of, is_name_text}
use Rattle.smt_names.specs.Names.{new_name, is_taken, free_name}
use Rattle.smt_names.proofs.Texts.{text_decides}
use Rattle.smt_command.specs.Given.{HasTerms}
use Rattle.smt_command.specs.Reading.{Test, and, only, most_levels, read_logic, logic_in, declared, read_sort, read_const, read_fun, fun_declared, no_sorts, truth_of, is_there, print_success, option_with, option_alone, option_by, option_keyed, read_option, info_value, read_set_info, info_keyed, read_get_info, pushed, popped, read_count, strategy_of, using, read_using, echoed, read_echo, plain_command}

-- ---- tests
-- what a test gives where it gives something
only_gives : {A : Type 0} (P : A → Type 0) (at : ℕ) (forms : Forms) (a : A) → P a → IfOk (only at forms a) P
only_gives P at none a h = h
only_gives P at (more form forms) a h = tt

and_gives : {A B : Type 0} (P : B → Type 0) (r : Test A) (next : A → Test B) → ((a : A) → r ≡ Ok a → IfOk (next a) P) → IfOk (and r next) P
and_gives P (Ok a) next h = h a refl
and_gives P (Err e) next h = tt

if_gives : {A : Type 0} (P : A → Type 0) (b : Bool) (x y : Test A) → IfOk x P → IfOk y P → IfOk (if b then x else y) P
if_gives P true x y h k = h
if_gives P false x y h k = k

-- a refusal gives nothing
err_not_ok : {A : Type 0} (f : ScriptError) (a : A) → (let r : Result A ScriptError = Err f in r) ≡ Ok a → ⊥
err_not_ok f a e = cc

-- ---- names
right_false : (a b : Bool) → (a || b) ≡ false → b ≡ false
right_false true b h = cc
right_false false b h = h

is_none : {A : Type 0} (o : Option A) → is_some o ≡ false → o ≡ None
is_none None h = refl
is_none (Some a) h = cc

-- a new name has a lawful text, and is none of the symbols
pub record IsFree (symbols : List Symbol) (text : List ℕ) : Type 0 where
  pub allowed : IsNameText text
  pub new : meaning_of symbols text ≡ None

free_gives : (symbols : List Symbol) (at place : ℕ) (o : Option (List ℕ)) (text : List ℕ) → free_name at place (is_taken symbols) o ≡ Ok text → IsFree symbols text
free_gives symbols at place None text e = absurd (err_not_ok (refusal BadShape at) text e)
free_gives symbols at place (Some name) text e = by (is_name_text name) refl (is_taken symbols name) refl
  where
    by : (b : Bool) → is_name_text name ≡ b → (t : Bool) → is_taken symbols name ≡ t → IsFree symbols text
    by false h t k = absurd (err_not_ok (refusal BadShape at) text (rw h at e))
    by true h true k = absurd (err_not_ok (refusal Redeclared place) text (rw (h, k) at e))
    by true h false k =
        let same : name ≡ text = cc (rw (h, k) at e) in
        subst (IsFree symbols) same (record {
          allowed = (text_decides name).0 h;
          new = is_none (meaning_of symbols name) (right_false (is_theory_name name) (is_some (meaning_of symbols name)) k);
        })

new_gives : (symbols : List Symbol) (at : ℕ) (form : Form) (text : List ℕ) → new_name symbols at form ≡ Ok text → IsFree symbols text
new_gives symbols at form text e = free_gives symbols at (place_of form) (name_of form) text e

-- ---- commands without terms
-- what such a command keeps, where so many levels are open
abbrev pub IsPlainLawful : List Symbol → ℕ → CommandTree → Type 0
IsPlainLawful symbols levels (Declare name) = IsFree symbols name.text
IsPlainLawful symbols levels (Push n) = levels + n ≤ most_levels
IsPlainLawful symbols levels (Pop n) = n ≤ levels
IsPlainLawful symbols levels (Assert t) = ⊥
IsPlainLawful symbols levels (GetValue asked) = ⊥
IsPlainLawful symbols levels other = ⊤

module _ (symbols : List Symbol) (levels : ℕ) where
  abbrev Keeps : Test CommandTree → Type 0
  Keeps r = IfOk r (IsPlainLawful symbols levels)

  logic_gives : (at : ℕ) (forms : Forms) → Keeps (read_logic at forms)
  logic_gives at none = tt
  logic_gives at (more form rest) = and_gives (IsPlainLawful symbols levels) (logic_in at (place_of form) (name_of form)) (λ _. only at rest SetLogic) (λ a e. only_gives (IsPlainLawful symbols levels) at rest SetLogic tt)

  declared_gives : (at : ℕ) (forms : Forms) (text : List ℕ) → IsFree symbols text → Keeps (declared at forms text)
  declared_gives at none text h = tt
  declared_gives at (more form rest) text h = and_gives (IsPlainLawful symbols levels) (read_sort at form) _ (λ s e. only_gives (IsPlainLawful symbols levels) at rest _ h)

  const_gives : (at : ℕ) (forms : Forms) → Keeps (read_const symbols at forms)
  const_gives at none = tt
  const_gives at (more form rest) = and_gives (IsPlainLawful symbols levels) (new_name symbols at form) (declared at rest) (λ text e. declared_gives at rest text (new_gives symbols at form text e))

  fun_declared_gives : (at : ℕ) (forms : Forms) (text : List ℕ) → IsFree symbols text → Keeps (fun_declared at forms text)
  fun_declared_gives at none text h = tt
  fun_declared_gives at (more form rest) text h = and_gives (IsPlainLawful symbols levels) (no_sorts at form) (λ _. declared at rest text) (λ a e. declared_gives at rest text h)

  fun_gives : (at : ℕ) (forms : Forms) → Keeps (read_fun symbols at forms)
  fun_gives at none = tt
  fun_gives at (more form rest) = and_gives (IsPlainLawful symbols levels) (new_name symbols at form) (fun_declared at rest) (λ text e. fun_declared_gives at rest text (new_gives symbols at form text e))

  success_gives : (at : ℕ) (o : Option Bool) → Keeps (print_success at o)
  success_gives at None = tt
  success_gives at (Some on) = tt

  with_gives : (at : ℕ) (k : OptionKind) (value : Form) → Keeps (option_with at k value)
  with_gives at kind.PrintSuccess value = success_gives at (truth_of value)
  with_gives at kind.Truth value = if_gives (IsPlainLawful symbols levels) (is_there (truth_of value)) _ _ tt tt
  with_gives at kind.Number value = if_gives (IsPlainLawful symbols levels) (is_there (digits_of value)) _ _ tt tt
  with_gives at kind.Other value = tt

  alone_gives : (at : ℕ) (k : OptionKind) → Keeps (option_alone at k)
  alone_gives at kind.PrintSuccess = tt
  alone_gives at kind.Truth = tt
  alone_gives at kind.Number = tt
  alone_gives at kind.Other = tt

  by_gives : (at : ℕ) (k : OptionKind) (forms : Forms) → Keeps (option_by at k forms)
  by_gives at k none = alone_gives at k
  by_gives at k (more value none) = if_gives (IsPlainLawful symbols levels) (is_there (keyword_of value)) _ _ tt (with_gives at k value)
  by_gives at k (more value (more form forms)) = tt

  keyed_gives : (at : ℕ) (rest : Forms) (o : Option (List ℕ)) → Keeps (option_keyed at rest o)
  keyed_gives at rest None = tt
  keyed_gives at rest (Some key) = by_gives at (option_kind key) rest

  option_gives : (at : ℕ) (forms : Forms) → Keeps (read_option at forms)
  option_gives at none = tt
  option_gives at (more key rest) = keyed_gives at rest (keyword_of key)

  value_gives : (at : ℕ) (forms : Forms) → Keeps (info_value at forms)
  value_gives at none = tt
  value_gives at (more value none) = if_gives (IsPlainLawful symbols levels) (is_there (keyword_of value)) _ _ tt tt
  value_gives at (more value (more form forms)) = tt

  set_info_gives : (at : ℕ) (forms : Forms) → Keeps (read_set_info at forms)
  set_info_gives at none = tt
  set_info_gives at (more key rest) = if_gives (IsPlainLawful symbols levels) (is_there (keyword_of key)) _ _ (value_gives at rest) tt

  info_keyed_gives : (at : ℕ) (rest : Forms) (o : Option (List ℕ)) → Keeps (info_keyed at rest o)
  info_keyed_gives at rest None = tt
  info_keyed_gives at rest (Some key) = only_gives (IsPlainLawful symbols levels) at rest (GetInfo (info_named key)) tt

  get_info_gives : (at : ℕ) (forms : Forms) → Keeps (read_get_info at forms)
  get_info_gives at none = tt
  get_info_gives at (more key rest) = info_keyed_gives at rest (keyword_of key)

  le_true : (a b : ℕ) → nat_le a b ≡ true → a ≤ b
  le_true a b h = grind (arith, nat_tests)

  pushed_gives : (at n : ℕ) → Keeps (pushed at levels n)
  pushed_gives at n = by (nat_le (levels + n) most_levels) refl
    where
      by : (b : Bool) → nat_le (levels + n) most_levels ≡ b → Keeps (pushed at levels n)
      by true h = rw h (le_true (levels + n) most_levels h)
      by false h = rw h tt

  popped_gives : (at n : ℕ) → Keeps (popped at levels n)
  popped_gives at n = by (nat_le n levels) refl
    where
      by : (b : Bool) → nat_le n levels ≡ b → Keeps (popped at levels n)
      by true h = rw h (le_true n levels h)
      by false h = rw h tt

  using_keeps : (checks : Bool) (s : Strategy) → IsPlainLawful symbols levels (using checks s)
  using_keeps true s = tt
  using_keeps false s = tt

  using_gives : (names : Names) (checks : Bool) (at : ℕ) (forms : Forms) → Keeps (read_using names checks at forms)
  using_gives names checks at none = tt
  using_gives names checks at (more form rest) =
      and_gives (IsPlainLawful symbols levels) (strategy_of (read_strategy names form DEPTH)) (λ s. only at rest (using checks s)) (λ s e. only_gives (IsPlainLawful symbols levels) at rest (using checks s) (using_keeps checks s))

  echoed_gives : (at : ℕ) (rest : Forms) (o : Option (List ℕ)) → Keeps (echoed at rest o)
  echoed_gives at rest None = tt
  echoed_gives at rest (Some text) = only_gives (IsPlainLawful symbols levels) at rest (Echo text) tt

  echo_gives : (at : ℕ) (forms : Forms) → Keeps (read_echo at forms)
  echo_gives at none = tt
  echo_gives at (more form rest) = echoed_gives at rest (string_of form)

  -- each command without terms is lawful
  pub plain_gives : (names : Names) (w : Word) (at : ℕ) (args : Forms) → Keeps (plain_command names symbols levels w at args)
  unfolding plain_command
  plain_gives names word.SetLogic at args = logic_gives at args
  plain_gives names word.SetOption at args = option_gives at args
  plain_gives names word.SetInfo at args = set_info_gives at args
  plain_gives names word.DeclareConst at args = const_gives at args
  plain_gives names word.DeclareFun at args = fun_gives at args
  plain_gives names word.Push at args = and_gives (IsPlainLawful symbols levels) (read_count at args) (pushed at levels) (λ n e. pushed_gives at n)
  plain_gives names word.Pop at args = and_gives (IsPlainLawful symbols levels) (read_count at args) (popped at levels) (λ n e. popped_gives at n)
  plain_gives names word.CheckSat at args = only_gives (IsPlainLawful symbols levels) at args CheckSat tt
  plain_gives names word.CheckSatUsing at args = using_gives names true at args
  plain_gives names word.Apply at args = using_gives names false at args
  plain_gives names word.GetModel at args = only_gives (IsPlainLawful symbols levels) at args GetModel tt
  plain_gives names word.GetProof at args = only_gives (IsPlainLawful symbols levels) at args GetProof tt
  plain_gives names word.GetInfo at args = get_info_gives at args
  plain_gives names word.Echo at args = echo_gives at args
  plain_gives names word.ResetAssertions at args = only_gives (IsPlainLawful symbols levels) at args ResetAssertions tt
  plain_gives names word.Exit at args = only_gives (IsPlainLawful symbols levels) at args Exit tt
  plain_gives names other at args = tt

  -- it has no terms
  pub plain_in : (ts us : List Tree) (c : Command) → IsPlainLawful symbols levels (command_tree ts c) → HasTerms us c
  plain_in ts us (code.Assert id) h = absurd h
  plain_in ts us (code.GetValue asked) h = absurd h
  plain_in ts us other h = tt
