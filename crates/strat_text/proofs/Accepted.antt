-- What spells a strategy is read as it.
use Rattle.std.proofs.Common.{◌≡◌, ℕ, suc, ◌≤◌, ◌<◌, ◌^◌, true, false, ℤ, List, [], ◌∷◌, length, Option, None, Some, Result, Ok, refl, ap, sym, ◌∙◌, arith}
use Rattle.std.proofs.lemmas.Bool.Decides.{nat_tests}
use Rattle.std.specs.Prelude.{nat_le}
use Rattle.sexp_read.specs.Lexical.{is_simple_symbol}
use Rattle.sexp_read.specs.declared.sexp.AtomKind.TheVariants as kind
use Rattle.strat_text.specs.declared.error.StratError.{StratError}
use Rattle.strat_text.specs.declared.words.Head.{Head}
use Rattle.strat_text.specs.declared.words.Head.TheVariants as head
use Rattle.strat_text.specs.declared.words.Operator.{Operator}
use Rattle.strat_text.specs.declared.words.Operator.TheVariants as operator
use Rattle.strat_text.specs.declared.probe.ProbeExpr.{ProbeExpr}
use Rattle.strat_text.specs.declared.probe.ProbeExpr.TheVariants as probe
use Rattle.strat_text.specs.declared.strategy.ParamKey.{ParamKey}
use Rattle.strat_text.specs.declared.strategy.Strategy.{Strategy}
use Rattle.strat_text.specs.declared.strategy.Strategy.TheVariants as strategy
use Rattle.strat_text.specs.declared.strategy.TheConstants.{BRANCHES, TURNS}
use Rattle.strat_text.specs.Form.{Form, atom, list, Forms, none, more, symbol_of, numeral_of, place_of}
use Rattle.strat_text.specs.Words.{operator_in, probe_named, key_of}
use Rattle.strat_text.specs.Number.{number_of, signed, is_wide, is_within}
use Rattle.strat_text.specs.Grammar.{Names, is_known, IsProbeForm, IsStrategyForm, SpellsProbe, by_word, by_number, by_lt, by_le, by_gt, by_ge, by_eq, by_and, by_or, by_not, SpellProbes, no_probes, more_probes, SpellSettings, no_settings, more_settings, Spells, by_name, by_then, by_or_else, by_par_or, by_par_then, by_if, by_when, by_fail_if, by_repeat, by_repeat_times, by_params, by_try_for, SpellEach, no_parts, more_parts}
use Rattle.strat_text.specs.Reading.{and_then, in_front, least_of, probe_number, probe_word, probe_form, probe_combined, read_probe, read_probes, read_setting, read_settings, with_setting, with_settings, name_read, strategy_form, read_strategy, read_each, then_of, or_else_of, par_or_of, par_then_of, branches, limited, within, repeat_of, try_for_of, params_of}

-- a simple symbol is an atom
pub record IsWord (form : Form) (word : List ℕ) : Type 0 where
  pub place : ℕ
  pub is : form ≡ atom kind.Symbol word place

no_text : {A : Type 0} (w : List ℕ) → ◌≡◌ {A = Option (List ℕ)} None (Some w) → A
no_text w e = absurd cc

same_text : (v w : List ℕ) → ◌≡◌ {A = Option (List ℕ)} (Some v) (Some w) → v ≡ w
same_text v w e = cc

pub word_is : (form : Form) (word : List ℕ) → symbol_of form ≡ Some word → IsWord form word
word_is (atom kind.Symbol text at) word e = record { place = at; is = ap (λ w. atom kind.Symbol w at) (same_text text word e) }
word_is (atom kind.Quoted text at) word e = no_text word e
word_is (atom kind.Numeral text at) word e = no_text word e
word_is (atom kind.Decimal text at) word e = no_text word e
word_is (atom kind.Bits text at) word e = no_text word e
word_is (atom kind.Text text at) word e = no_text word e
word_is (atom kind.Keyword text at) word e = no_text word e
word_is (list items at) word e = no_text word e

-- a list by the operator that it begins with
form_read : (word : Operator) (form : Form) (args : Forms) (is : IsProbeForm word form args) → read_probe form ≡ probe_form is.place args (read_probes args) (Some word)
unfolding read_probe
form_read word form args is = ap read_probe is.is ∙ ap (probe_form is.place args (read_probes args)) is.begins

no_number : {A : Type 0} (z : ℤ) → ◌≡◌ {A = Option ℤ} None (Some z) → A
no_number z e = absurd cc

number_fits : (at : ℕ) (z : ℤ) → is_wide z ≡ false → probe_number at (Some z) ≡ Ok (probe.Num z)
number_fits at z e = rw e refl

-- a list that is a number begins with a minus
minus_read : (first : Form) (args : Forms) (at : ℕ) (z : ℤ) (o : Option Operator) → operator_in first ≡ o → signed o args ≡ Some z → is_wide z ≡ false →
    probe_form at args (read_probes args) o ≡ Ok (probe.Num z)
minus_read first args at z None is e fits = no_number z e
minus_read first args at z (Some operator.Minus) is e fits = ap (probe_number at) e ∙ number_fits at z fits
minus_read first args at z (Some operator.Lt) is e fits = no_number z e
minus_read first args at z (Some operator.Le) is e fits = no_number z e
minus_read first args at z (Some operator.Gt) is e fits = no_number z e
minus_read first args at z (Some operator.Ge) is e fits = no_number z e
minus_read first args at z (Some operator.Eq) is e fits = no_number z e
minus_read first args at z (Some operator.And) is e fits = no_number z e
minus_read first args at z (Some operator.Or) is e fits = no_number z e
minus_read first args at z (Some operator.Not) is e fits = no_number z e

number_read : (form : Form) (z : ℤ) → number_of form ≡ Some z → is_wide z ≡ false → read_probe form ≡ Ok (probe.Num z)
unfolding read_probe
number_read (atom kind.Symbol text at) z e fits = no_number z e
number_read (atom kind.Quoted text at) z e fits = no_number z e
number_read (atom kind.Numeral text at) z e fits = ap (probe_number at) e ∙ number_fits at z fits
number_read (atom kind.Decimal text at) z e fits = no_number z e
number_read (atom kind.Bits text at) z e fits = no_number z e
number_read (atom kind.Text text at) z e fits = no_number z e
number_read (atom kind.Keyword text at) z e fits = no_number z e
number_read (list none at) z e fits = no_number z e
number_read (list (more first args) at) z e fits = minus_read first args at z (operator_in first) refl e fits

word_read : (form : Form) (p : ProbeExpr) (word : List ℕ) → IsWord form word → probe_named word ≡ Some p → read_probe form ≡ Ok p
unfolding read_probe
word_read form p word is named = ap read_probe is.is ∙ ap (probe_word is.place) named

least_fits : {A : Type 0} (least at : ℕ) (items : List A) → least ≤ length items → least_of least at items ≡ Ok items
least_fits least at items h = let test : nat_le least (length items) ≡ true = grind (arith, nat_tests) in rw test refl

two_read : (a b : Form) (left right : ProbeExpr) → read_probe a ≡ Ok left → read_probe b ≡ Ok right → read_probes (more a (more b none)) ≡ Ok (left ∷ right ∷ [])
unfolding read_probes
two_read a b left right first second = rw (first, second) refl

one_read : (a : Form) (part : ProbeExpr) → read_probe a ≡ Ok part → read_probes (more a none) ≡ Ok (part ∷ [])
unfolding read_probes
one_read a part first = rw first refl

more_read : (form : Form) (forms : Forms) (p : ProbeExpr) (ps : List ProbeExpr) → read_probe form ≡ Ok p → read_probes forms ≡ Ok ps → read_probes (more form forms) ≡ Ok (p ∷ ps)
unfolding read_probes
more_read form forms p ps first rest = rw (first, rest) refl

none_read : read_probes none ≡ Ok []
unfolding read_probes
none_read = refl

mutual
  pub spelled_probe_read : (form : Form) (p : ProbeExpr) → SpellsProbe form p → read_probe form ≡ Ok p
  spelled_probe_read form p (by_word word is named) = word_read form p word (word_is form word is) named
  spelled_probe_read form p (by_number z is fits same) = number_read form z is fits ∙ ap (λ q. Ok q) (sym same)
  spelled_probe_read form p (by_lt a b left right is first second same) =
      form_read operator.Lt form (more a (more b none)) is
      ∙ ap (λ r. and_then r (probe_combined is.place operator.Lt)) (two_read a b left right (spelled_probe_read a left first) (spelled_probe_read b right second)) ∙ ap (λ q. Ok q) (sym same)
  spelled_probe_read form p (by_le a b left right is first second same) =
      form_read operator.Le form (more a (more b none)) is
      ∙ ap (λ r. and_then r (probe_combined is.place operator.Le)) (two_read a b left right (spelled_probe_read a left first) (spelled_probe_read b right second)) ∙ ap (λ q. Ok q) (sym same)
  spelled_probe_read form p (by_gt a b left right is first second same) =
      form_read operator.Gt form (more a (more b none)) is
      ∙ ap (λ r. and_then r (probe_combined is.place operator.Gt)) (two_read a b left right (spelled_probe_read a left first) (spelled_probe_read b right second)) ∙ ap (λ q. Ok q) (sym same)
  spelled_probe_read form p (by_ge a b left right is first second same) =
      form_read operator.Ge form (more a (more b none)) is
      ∙ ap (λ r. and_then r (probe_combined is.place operator.Ge)) (two_read a b left right (spelled_probe_read a left first) (spelled_probe_read b right second)) ∙ ap (λ q. Ok q) (sym same)
  spelled_probe_read form p (by_eq a b left right is first second same) =
      form_read operator.Eq form (more a (more b none)) is
      ∙ ap (λ r. and_then r (probe_combined is.place operator.Eq)) (two_read a b left right (spelled_probe_read a left first) (spelled_probe_read b right second)) ∙ ap (λ q. Ok q) (sym same)
  spelled_probe_read form p (by_and args parts is inner some same) =
      form_read operator.And form args is ∙ ap (λ r. and_then r (probe_combined is.place operator.And)) (spelled_probes_read args parts inner)
      ∙ ap (λ r. and_then r (λ all. Ok (probe.And all))) (least_fits 1 is.place parts some) ∙ ap (λ q. Ok q) (sym same)
  spelled_probe_read form p (by_or args parts is inner some same) =
      form_read operator.Or form args is ∙ ap (λ r. and_then r (probe_combined is.place operator.Or)) (spelled_probes_read args parts inner)
      ∙ ap (λ r. and_then r (λ all. Ok (probe.Or all))) (least_fits 1 is.place parts some) ∙ ap (λ q. Ok q) (sym same)
  spelled_probe_read form p (by_not a part is first same) =
      form_read operator.Not form (more a none) is ∙ ap (λ r. and_then r (probe_combined is.place operator.Not)) (one_read a part (spelled_probe_read a part first)) ∙ ap (λ q. Ok q) (sym same)

  pub spelled_probes_read : (forms : Forms) (ps : List ProbeExpr) → SpellProbes forms ps → read_probes forms ≡ Ok ps
  spelled_probes_read _ _ no_probes = none_read
  spelled_probes_read _ _ (more_probes {form = form} {forms = forms} {p = p} {ps = ps} first rest) = more_read form forms p ps (spelled_probe_read form p first) (spelled_probes_read forms ps rest)

-- a list by the word that it begins with, with its arguments
strategy_read : (names : Names) (word : Head) (form arg : Form) (args : Forms) (left : ℕ) (is : IsStrategyForm word form (more arg args)) →
    read_strategy names form (suc left) ≡ strategy_form is.place arg args (read_strategy names arg left) (read_each names args left) (Some word)
unfolding read_strategy
strategy_read names word form arg args left is =
    ap (λ f. read_strategy names f (suc left)) is.is ∙ ap (strategy_form is.place arg args (read_strategy names arg left) (read_each names args left)) is.begins

name_fits : (names : Names) (name : List ℕ) (at : ℕ) → is_simple_symbol name ≡ true → is_known names name ≡ true → name_read names name at ≡ Ok (strategy.Prim name)
name_fits names name at simple known = rw (simple, known) refl

name_is_read : (names : Names) (form : Form) (name : List ℕ) (left : ℕ) → IsWord form name → is_simple_symbol name ≡ true → is_known names name ≡ true → read_strategy names form (suc left) ≡ Ok (strategy.Prim name)
unfolding read_strategy
name_is_read names form name left is simple known = ap (λ f. read_strategy names f (suc left)) is.is ∙ name_fits names name is.place simple known

branches_fit : (at : ℕ) (parts : List Strategy) → length parts ≤ BRANCHES → branches at parts ≡ Ok (strategy.ParOr parts)
branches_fit at parts h = let test : nat_le (length parts) BRANCHES ≡ true = grind (arith, nat_tests) in rw test refl

within_fits : (most place n : ℕ) → n ≤ most → within most place n ≡ Ok n
within_fits most place n h = let test : nat_le n most ≡ true = grind (arith, nat_tests) in rw test refl

limited_fits : (at most : ℕ) (form : Form) (n : ℕ) → numeral_of form ≡ Some n → n ≤ most → limited at most form (numeral_of form) ≡ Ok n
limited_fits at most form n is h = ap (limited at most form) is ∙ within_fits most (place_of form) n h

each_none : (names : Names) (left : ℕ) → read_each names none left ≡ Ok []
unfolding read_each
each_none names left = refl

each_more : (names : Names) (form : Form) (forms : Forms) (left : ℕ) (s : Strategy) (ss : List Strategy) →
    read_strategy names form left ≡ Ok s → read_each names forms left ≡ Ok ss → read_each names (more form forms) left ≡ Ok (s ∷ ss)
unfolding read_each
each_more names form forms left s ss first rest = rw (first, rest) refl

each_one : (names : Names) (a : Form) (left : ℕ) (s : Strategy) → read_strategy names a left ≡ Ok s → read_each names (more a none) left ≡ Ok (s ∷ [])
each_one names a left s first = each_more names a none left s [] first (each_none names left)

each_two : (names : Names) (a b : Form) (left : ℕ) (s t : Strategy) → read_strategy names a left ≡ Ok s → read_strategy names b left ≡ Ok t → read_each names (more a (more b none)) left ≡ Ok (s ∷ t ∷ [])
each_two names a b left s t first second = each_more names a (more b none) left s (t ∷ []) first (each_one names b left t second)

-- a form over all its arguments
all_read : (names : Names) (word : Head) (form : Form) (args : Forms) (left : ℕ) (parts : List Strategy) (of : ℕ → List Strategy → Result Strategy StratError) (s : Strategy)
    (by : (at : ℕ) (arg : Form) (args : Forms) (part : Result Strategy StratError) (rest : Result (List Strategy) StratError) → strategy_form at arg args part rest (Some word) ≡ and_then (in_front part rest) (of at)) →
    (is : IsStrategyForm word form args) → read_each names args left ≡ Ok parts → 1 ≤ length parts → of is.place parts ≡ Ok s → read_strategy names form (suc left) ≡ Ok s
unfolding read_each
all_read names word form none left [] of s by is read some fits = absurd (omega arith)
all_read names word form none left (p ∷ ps) of s by is read some fits = absurd cc
all_read names word form (more arg args) left parts of s by is read some fits =
    strategy_read names word form arg args left is ∙ by is.place arg args (read_strategy names arg left) (read_each names args left) ∙ ap (λ r. and_then r (of is.place)) read ∙ fits

-- the settings of forms
setting_fits : (word : List ℕ) (place : ℕ) (value : Form) (key : ParamKey) (z : ℤ) → key_of word ≡ Some key → number_of value ≡ Some z → is_within key z ≡ true →
    read_setting (atom kind.Keyword word place) value ≡ Ok (Some (key, z))
setting_fits word place value key z is number fits = rw (is, number, fits) refl

settings_none : read_settings none ≡ Ok (Some [])
unfolding read_settings
settings_none = refl

settings_more : (key value : Form) (forms : Forms) (setting : ParamKey × ℤ) (settings : List (ParamKey × ℤ)) →
    read_setting key value ≡ Ok (Some setting) → read_settings forms ≡ Ok (Some settings) → read_settings (more key (more value forms)) ≡ Ok (Some (setting ∷ settings))
unfolding read_settings
settings_more key value forms setting settings first rest =
    ap (λ r. and_then r (λ setting. and_then (read_settings forms) (λ settings. Ok (with_setting setting settings)))) first ∙ ap (λ r. and_then r (λ settings. Ok (with_setting (Some setting) settings))) rest

spelled_settings_read : (forms : Forms) (settings : List (ParamKey × ℤ)) → SpellSettings forms settings → read_settings forms ≡ Ok (Some settings)
spelled_settings_read _ _ no_settings = settings_none
spelled_settings_read _ _ (more_settings {forms = forms} {settings = settings} word place value key z is number fits rest) =
    settings_more (atom kind.Keyword word place) value forms (key, z) settings (setting_fits word place value key z is number fits) (spelled_settings_read forms settings rest)

settings_fit : (at : ℕ) (s : Strategy) (settings : List (ParamKey × ℤ)) → 1 ≤ length settings → with_settings at s (Some settings) ≡ Ok (strategy.Params s settings)
settings_fit at s [] h = absurd (omega arith)
settings_fit at s (setting ∷ settings) h = refl

-- a form over its first argument as a strategy
part_read : (names : Names) (word : Head) (form arg : Form) (args : Forms) (left : ℕ) (part s : Strategy) (of : ℕ → Forms → Strategy → Result Strategy StratError)
    (by : (at : ℕ) (first : Result Strategy StratError) (rest : Result (List Strategy) StratError) → strategy_form at arg args first rest (Some word) ≡ and_then first (of at args)) →
    (is : IsStrategyForm word form (more arg args)) → read_strategy names arg left ≡ Ok part → of is.place args part ≡ Ok s → read_strategy names form (suc left) ≡ Ok s
part_read names word form arg args left part s of by is read fits =
    strategy_read names word form arg args left is ∙ by is.place (read_strategy names arg left) (read_each names args left) ∙ ap (λ r. and_then r (of is.place args)) read ∙ fits

if_read : (names : Names) (form a b c : Form) (left : ℕ) (p : ProbeExpr) (chosen other : Strategy) → IsStrategyForm head.If form (more a (more b (more c none))) →
    read_probe a ≡ Ok p → read_each names (more b (more c none)) left ≡ Ok (chosen ∷ other ∷ []) → read_strategy names form (suc left) ≡ Ok (strategy.If p chosen other)
if_read names form a b c left p chosen other is probe parts = strategy_read names head.If form a (more b (more c none)) left is ∙ rw (probe, parts) refl

when_read : (names : Names) (form a b : Form) (left : ℕ) (p : ProbeExpr) (part : Strategy) → IsStrategyForm head.When form (more a (more b none)) →
    read_probe a ≡ Ok p → read_each names (more b none) left ≡ Ok (part ∷ []) → read_strategy names form (suc left) ≡ Ok (strategy.When p part)
when_read names form a b left p part is probe parts = strategy_read names head.When form a (more b none) left is ∙ rw (probe, parts) refl

fail_if_read : (names : Names) (form a : Form) (left : ℕ) (p : ProbeExpr) → IsStrategyForm head.FailIf form (more a none) → read_probe a ≡ Ok p → read_strategy names form (suc left) ≡ Ok (strategy.FailIf p)
fail_if_read names form a left p is probe = strategy_read names head.FailIf form a none left is ∙ rw probe refl

repeat_fits : (at : ℕ) (b : Form) (part : Strategy) (turns : ℕ) → numeral_of b ≡ Some turns → turns < 2 ^ 32 → repeat_of at (more b none) part ≡ Ok (strategy.Repeat part turns)
repeat_fits at b part turns is h = let low : turns ≤ 4294967295 = omega arith in rw (limited_fits at 4294967295 b turns is low) refl

try_for_fits : (at : ℕ) (b : Form) (part : Strategy) (limit : ℕ) → numeral_of b ≡ Some limit → limit ≤ 2 ^ 62 → try_for_of at (more b none) part ≡ Ok (strategy.TryFor part limit)
try_for_fits at b part limit is h = let low : limit ≤ 4611686018427387904 = omega arith in rw (limited_fits at 4611686018427387904 b limit is low) refl

params_fit : (at : ℕ) (args : Forms) (part : Strategy) (settings : List (ParamKey × ℤ)) → read_settings args ≡ Ok (Some settings) → 1 ≤ length settings → params_of at args part ≡ Ok (strategy.Params part settings)
params_fit at args part settings read some = ap (λ r. and_then r (with_settings at part)) read ∙ settings_fit at part settings some

at_most_one : (n : ℕ) → 2 ≤ n → 1 ≤ n
at_most_one n h = omega arith

then_fits : (at : ℕ) (parts : List Strategy) → 2 ≤ length parts → then_of at parts ≡ Ok (strategy.Then parts)
then_fits at parts h = ap (λ r. and_then r (λ all. Ok (strategy.Then all))) (least_fits 2 at parts h)

or_else_fits : (at : ℕ) (parts : List Strategy) → 2 ≤ length parts → or_else_of at parts ≡ Ok (strategy.OrElse parts)
or_else_fits at parts h = ap (λ r. and_then r (λ all. Ok (strategy.OrElse all))) (least_fits 2 at parts h)

par_or_fits : (at : ℕ) (parts : List Strategy) → 2 ≤ length parts → length parts ≤ BRANCHES → par_or_of at parts ≡ Ok (strategy.ParOr parts)
par_or_fits at parts h few = ap (λ r. and_then r (branches at)) (least_fits 2 at parts h) ∙ branches_fit at parts few

-- the answer of a strategy up to an equation
same_strategy : {r : Result Strategy StratError} {s t : Strategy} → r ≡ Ok t → s ≡ t → r ≡ Ok s
same_strategy e f = e ∙ ap (λ q. Ok q) (sym f)

mutual
  pub spelled_read : (names : Names) (n : ℕ) (form : Form) (s : Strategy) → Spells names n form s → read_strategy names form n ≡ Ok s
  spelled_read names n form s (by_name left name level is simple known same) =
      ap (read_strategy names form) level ∙ same_strategy (name_is_read names form name left (word_is form name is) simple known) same
  spelled_read names n form s (by_then left args parts level is inner two same) =
      ap (read_strategy names form) level
      ∙ same_strategy (all_read names head.Then form args left parts then_of (strategy.Then parts) (λ at arg rest part each. refl) is (spelled_each_read names left args parts inner) (at_most_one (length parts) two) (then_fits is.place parts two)) same
  spelled_read names n form s (by_or_else left args parts level is inner two same) =
      ap (read_strategy names form) level
      ∙ same_strategy (all_read names head.OrElse form args left parts or_else_of (strategy.OrElse parts) (λ at arg rest part each. refl) is (spelled_each_read names left args parts inner) (at_most_one (length parts) two) (or_else_fits is.place parts two)) same
  spelled_read names n form s (by_par_or left args parts level is inner two few same) =
      ap (read_strategy names form) level
      ∙ same_strategy (all_read names head.ParOr form args left parts par_or_of (strategy.ParOr parts) (λ at arg rest part each. refl) is (spelled_each_read names left args parts inner) (at_most_one (length parts) two) (par_or_fits is.place parts two few)) same
  spelled_read names n form s (by_par_then left a b first second level is one two same) =
      ap (read_strategy names form) level
      ∙ same_strategy (all_read names head.ParThen form (more a (more b none)) left (first ∷ second ∷ []) par_then_of (strategy.ParThen first second) (λ at arg rest part each. refl) is
      (each_two names a b left first second (spelled_read names left a first one) (spelled_read names left b second two)) (omega arith) refl) same
  spelled_read names n form s (by_if left a b c p chosen other level is test one two same) =
      ap (read_strategy names form) level
      ∙ same_strategy (if_read names form a b c left p chosen other is (spelled_probe_read a p test) (each_two names b c left chosen other (spelled_read names left b chosen one) (spelled_read names left c other two))) same
  spelled_read names n form s (by_when left a b p part level is test one same) =
      ap (read_strategy names form) level ∙ same_strategy (when_read names form a b left p part is (spelled_probe_read a p test) (each_one names b left part (spelled_read names left b part one))) same
  spelled_read names n form s (by_fail_if left a p level is test same) = ap (read_strategy names form) level ∙ same_strategy (fail_if_read names form a left p is (spelled_probe_read a p test)) same
  spelled_read names n form s (by_repeat left a part level is one same) =
      ap (read_strategy names form) level
      ∙ same_strategy (part_read names head.Repeat form a none left part (strategy.Repeat part TURNS) repeat_of (λ at first rest. refl) is (spelled_read names left a part one) refl) same
  spelled_read names n form s (by_repeat_times left a b part turns level is one number fits same) =
      ap (read_strategy names form) level
      ∙ same_strategy (part_read names head.Repeat form a (more b none) left part (strategy.Repeat part turns) repeat_of (λ at first rest. refl) is (spelled_read names left a part one) (repeat_fits is.place b part turns number fits)) same
  spelled_read names n form s (by_params left a args part settings level is one inner some same) =
      ap (read_strategy names form) level
      ∙ same_strategy (part_read names head.UsingParams form a args left part (strategy.Params part settings) params_of (λ at first rest. refl) is (spelled_read names left a part one)
      (params_fit is.place args part settings (spelled_settings_read args settings inner) some)) same
  spelled_read names n form s (by_try_for left a b part limit level is one number fits same) =
      ap (read_strategy names form) level
      ∙ same_strategy (part_read names head.TryFor form a (more b none) left part (strategy.TryFor part limit) try_for_of (λ at first rest. refl) is (spelled_read names left a part one) (try_for_fits is.place b part limit number fits)) same

  pub spelled_each_read : (names : Names) (left : ℕ) (forms : Forms) (ss : List Strategy) → SpellEach names left forms ss → read_each names forms left ≡ Ok ss
  spelled_each_read names left _ _ no_parts = each_none names left
  spelled_each_read names left _ _ (more_parts {form = form} {forms = forms} {s = s} {ss = ss} first rest) =
      each_more names form forms left s ss (spelled_read names left form s first) (spelled_each_read names left forms ss rest)
