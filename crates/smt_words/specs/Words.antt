-- The words of commands, options, logics and sorts.
use Rattle.std.specs.Prelude.{ℕ, Bool, ◌||◌, if◌then◌else◌, List, Option, None, Some, codes}
use Rattle.std.specs.Str.{bytes_eq}
use Rattle.qterm.specs.declared.name.Sort.{Sort}
use Rattle.qterm.specs.declared.name.Sort.TheVariants as sort
use Rattle.smt_words.specs.declared.word.Word.{Word}
use Rattle.smt_words.specs.declared.word.Word.TheVariants as word
use Rattle.smt_words.specs.declared.word.OptionKind.{OptionKind}
use Rattle.smt_words.specs.declared.word.OptionKind.TheVariants as kind
use Rattle.smt_words.specs.declared.command.Info.{Info}
use Rattle.smt_words.specs.declared.command.Info.TheVariants as info

-- the words that begin commands
unfoldable pub word_named : List ℕ → Option Word
word_named text =
    if bytes_eq text (codes "set-logic") then Some word.SetLogic else
    if bytes_eq text (codes "set-option") then Some word.SetOption else
    if bytes_eq text (codes "set-info") then Some word.SetInfo else
    if bytes_eq text (codes "declare-const") then Some word.DeclareConst else
    if bytes_eq text (codes "declare-fun") then Some word.DeclareFun else
    if bytes_eq text (codes "define-fun") then Some word.DefineFun else
    if bytes_eq text (codes "assert") then Some word.Assert else
    if bytes_eq text (codes "push") then Some word.Push else
    if bytes_eq text (codes "pop") then Some word.Pop else
    if bytes_eq text (codes "check-sat") then Some word.CheckSat else
    if bytes_eq text (codes "check-sat-using") then Some word.CheckSatUsing else
    if bytes_eq text (codes "apply") then Some word.Apply else
    if bytes_eq text (codes "get-model") then Some word.GetModel else
    if bytes_eq text (codes "get-value") then Some word.GetValue else
    if bytes_eq text (codes "get-proof") then Some word.GetProof else
    if bytes_eq text (codes "get-info") then Some word.GetInfo else
    if bytes_eq text (codes "echo") then Some word.Echo else
    if bytes_eq text (codes "reset-assertions") then Some word.ResetAssertions else
    if bytes_eq text (codes "exit") then Some word.Exit else None

-- the logics
abbrev pub is_logic : List ℕ → Bool
is_logic text = bytes_eq text (codes "QF_LIA") || bytes_eq text (codes "QF_IDL") || bytes_eq text (codes "ALL")

-- the sorts
abbrev pub sort_named : List ℕ → Option Sort
sort_named text = if bytes_eq text (codes "Bool") then Some sort.Bool else if bytes_eq text (codes "Int") then Some sort.Int else None

-- the options, by what their values are; every other keyword is one that is not supported
unfoldable pub option_kind : List ℕ → OptionKind
option_kind key =
    if bytes_eq key (codes ":print-success") then kind.PrintSuccess else
    if bytes_eq key (codes ":produce-models") then kind.Truth else
    if bytes_eq key (codes ":produce-proofs") then kind.Truth else
    if bytes_eq key (codes ":produce-unsat-cores") then kind.Truth else
    if bytes_eq key (codes ":random-seed") then kind.Number else
    if bytes_eq key (codes ":verbosity") then kind.Number else kind.Other

-- the flags of `get-info`
unfoldable pub info_named : List ℕ → Info
info_named key =
    if bytes_eq key (codes ":name") then info.Name else
    if bytes_eq key (codes ":version") then info.Version else
    if bytes_eq key (codes ":error-behavior") then info.ErrorBehavior else
    if bytes_eq key (codes ":reason-unknown") then info.ReasonUnknown else info.Other
