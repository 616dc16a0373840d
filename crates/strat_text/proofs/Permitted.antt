-- A strategy that a form spells is allowed, and its names are known.
use Rattle.std.proofs.Common.{◌≡◌, ◌≢◌, ℕ, suc, ◌-◌, ◌^◌, ◌≤◌, ◌<◌, Bool, true, false, ◌&&◌, nat_le, not, ℤ, List, length, map, Option, None, Some, Result, Ok, Err, refl, ap, sym, ◌∙◌, arith}
use Rattle.std.specs.Prelude.{nat_lt, if◌then◌else◌, codes, IfOk}
use Rattle.std.specs.List.{list_all}
use Rattle.std.specs.Str.{bytes_eq}
use Rattle.std.proofs.lemmas.Bool.{and_from}
use Rattle.std.proofs.lemmas.Bool.Decides.{nat_tests}
use Rattle.strat_text.specs.declared.error.StratError.{StratError}
use Rattle.strat_text.specs.declared.probe.ProbeExpr.{ProbeExpr}
use Rattle.strat_text.specs.declared.probe.ProbeExpr.TheVariants as probe
use Rattle.strat_text.specs.declared.strategy.ParamKey.{ParamKey}
use Rattle.strat_text.specs.declared.strategy.Strategy.{Strategy}
use Rattle.strat_text.specs.declared.strategy.TheConstants.{BRANCHES, TURNS, DEPTH}
use Rattle.strat_text.specs.Allowed.{allowed_probe_layer, is_allowed_probe, all_true, are_settings, is_allowed}
use Rattle.strat_text.specs.Form.{Form, Forms}
use Rattle.strat_text.specs.Grammar.{Names, SpellsProbe, by_word, by_number, by_lt, by_le, by_gt, by_ge, by_eq, by_and, by_or, by_not, SpellProbes, no_probes, more_probes, SpellSettings, no_settings, more_settings, Spells, by_name, by_then, by_or_else, by_par_or, by_par_then, by_if, by_when, by_fail_if, by_repeat, by_repeat_times, by_params, by_try_for, SpellEach, no_parts, more_parts}
use Rattle.strat_text.specs.Known.{known_layer, are_known}
use Rattle.strat_text.specs.Number.{is_wide, is_within}
use Rattle.strat_text.specs.Within.{fits}
use Rattle.strat_text.specs.Words.{probe_named}
use Rattle.strat_text.proofs.Fits.{fits-Prim, fits-Then, fits-OrElse, fits-ParOr, fits-ParThen, fits-If, fits-When, fits-FailIf, fits-Repeat, fits-Params, fits-TryFor, allowed-Size, allowed-NumExprs, allowed-Depth, allowed-NumConsts, allowed-IsPropositional, allowed-IsCanonical, allowed-IsBounded, allowed-Is01, allowed-MaxBits, allowed-Lt, allowed-Le, allowed-Gt, allowed-Ge, allowed-Eq, allowed-And, allowed-Or, allowed-Not}
use Rattle.strat_text.proofs.Layers.{fold-Num, fold-Prim, fold-Then, fold-OrElse, fold-ParOr, fold-ParThen, fold-If, fold-When, fold-FailIf, fold-Repeat, fold-Params, fold-TryFor}

at_least : (least n : ℕ) → least ≤ n → nat_le least n ≡ true
at_least least n h = grind (arith, nat_tests)

less : (n most : ℕ) → n < most → nat_lt n most ≡ true
less n most h = grind (arith, nat_tests)

-- probes

same_probe : (a b : ProbeExpr) → ◌≡◌ {A = Option ProbeExpr} (Some a) (Some b) → b ≡ a
same_probe a b e = cc

no_probe : (p : ProbeExpr) → ◌≡◌ {A = Option ProbeExpr} None (Some p) → is_allowed_probe p ≡ true
no_probe p e = absurd cc

-- a probe that is a word is that word, or one of the others
word_or : (b : Bool) (word p : ProbeExpr) (others : Option ProbeExpr) → (p ≡ word → true ≡ is_allowed_probe p) → (others ≡ Some p → is_allowed_probe p ≡ true) →
    (if b then Some word else others) ≡ Some p → is_allowed_probe p ≡ true
word_or true word p others here there e = sym (here (same_probe word p e))
word_or false word p others here there e = there e

word_allowed : (word : List ℕ) (p : ProbeExpr) → probe_named word ≡ Some p → is_allowed_probe p ≡ true
unfolding probe_named
word_allowed word p =
    word_or (bytes_eq word (codes "size")) probe.Size p _ (allowed-Size p)
    (word_or (bytes_eq word (codes "num-exprs")) probe.NumExprs p _ (allowed-NumExprs p)
    (word_or (bytes_eq word (codes "depth")) probe.Depth p _ (allowed-Depth p)
    (word_or (bytes_eq word (codes "num-consts")) probe.NumConsts p _ (allowed-NumConsts p)
    (word_or (bytes_eq word (codes "is-propositional")) probe.IsPropositional p _ (allowed-IsPropositional p)
    (word_or (bytes_eq word (codes "is-canonical")) probe.IsCanonical p _ (allowed-IsCanonical p)
    (word_or (bytes_eq word (codes "is-bounded")) probe.IsBounded p _ (allowed-IsBounded p)
    (word_or (bytes_eq word (codes "is-01")) probe.Is01 p _ (allowed-Is01 p)
    (word_or (bytes_eq word (codes "max-bits")) probe.MaxBits p None (allowed-MaxBits p) (no_probe p)))))))))

number_allowed : (z : ℤ) (p : ProbeExpr) → is_wide z ≡ false → p ≡ probe.Num z → is_allowed_probe p ≡ true
unfolding is_allowed_probe
number_allowed z p fits same = ap is_allowed_probe same ∙ fold-Num Bool allowed_probe_layer z ∙ ap not fits

mutual
  pub spelled_probe_allowed : (form : Form) (p : ProbeExpr) → SpellsProbe form p → is_allowed_probe p ≡ true
  spelled_probe_allowed form p (by_word word is named) = word_allowed word p named
  spelled_probe_allowed form p (by_number z is fits same) = number_allowed z p fits same
  spelled_probe_allowed form p (by_lt a b left right is first second same) =
      allowed-Lt p left right same ∙ and_from (is_allowed_probe left) (is_allowed_probe right) (spelled_probe_allowed a left first) (spelled_probe_allowed b right second)
  spelled_probe_allowed form p (by_le a b left right is first second same) =
      allowed-Le p left right same ∙ and_from (is_allowed_probe left) (is_allowed_probe right) (spelled_probe_allowed a left first) (spelled_probe_allowed b right second)
  spelled_probe_allowed form p (by_gt a b left right is first second same) =
      allowed-Gt p left right same ∙ and_from (is_allowed_probe left) (is_allowed_probe right) (spelled_probe_allowed a left first) (spelled_probe_allowed b right second)
  spelled_probe_allowed form p (by_ge a b left right is first second same) =
      allowed-Ge p left right same ∙ and_from (is_allowed_probe left) (is_allowed_probe right) (spelled_probe_allowed a left first) (spelled_probe_allowed b right second)
  spelled_probe_allowed form p (by_eq a b left right is first second same) =
      allowed-Eq p left right same ∙ and_from (is_allowed_probe left) (is_allowed_probe right) (spelled_probe_allowed a left first) (spelled_probe_allowed b right second)
  spelled_probe_allowed form p (by_and args parts is inner some same) =
      allowed-And p parts same ∙ and_from (nat_le 1 (length parts)) (list_all is_allowed_probe parts) (at_least 1 (length parts) some) (spelled_probes_allowed args parts inner)
  spelled_probe_allowed form p (by_or args parts is inner some same) =
      allowed-Or p parts same ∙ and_from (nat_le 1 (length parts)) (list_all is_allowed_probe parts) (at_least 1 (length parts) some) (spelled_probes_allowed args parts inner)
  spelled_probe_allowed form p (by_not a part is one same) = allowed-Not p part same ∙ spelled_probe_allowed a part one

  pub spelled_probes_allowed : (forms : Forms) (ps : List ProbeExpr) → SpellProbes forms ps → list_all is_allowed_probe ps ≡ true
  spelled_probes_allowed _ _ no_probes = refl
  spelled_probes_allowed _ _ (more_probes {form = form} {forms = forms} {p = p} {ps = ps} first rest) =
      and_from (is_allowed_probe p) (list_all is_allowed_probe ps) (spelled_probe_allowed form p first) (spelled_probes_allowed forms ps rest)

-- settings

spelled_settings_allowed : (forms : Forms) (settings : List (ParamKey × ℤ)) → SpellSettings forms settings → are_settings settings ≡ true
spelled_settings_allowed _ _ no_settings = refl
spelled_settings_allowed _ _ (more_settings {forms = forms} {settings = settings} word place value key z named number fits rest) =
    and_from (is_within key z) (are_settings settings) fits (spelled_settings_allowed forms settings rest)

-- strategies

module _ (n left : ℕ) (level : n ≡ suc left) where
  has_level : n ≢ 0
  has_level = λ none. let no : ⊥ = omega arith in no

  below : n - 1 ≡ left
  below = omega arith

  fits_below : (s : Strategy) → fits s left ≡ true → fits s (n - 1) ≡ true
  fits_below s h = ap (fits s) below ∙ h

  all_below : (ss : List Strategy) → list_all (λ s. fits s left) ss ≡ true → list_all (λ s. fits s (n - 1)) ss ≡ true
  all_below ss h = ap (λ m. list_all (λ s. fits s m) ss) below ∙ h

  two_below : (ss : List Strategy) → 2 ≤ length ss → list_all (λ s. fits s left) ss ≡ true → (nat_le 2 (length ss) && list_all (λ s. fits s (n - 1)) ss) ≡ true
  two_below ss two h = and_from (nat_le 2 (length ss)) (list_all (λ s. fits s (n - 1)) ss) (at_least 2 (length ss) two) (all_below ss h)

  both_below : (a b : Strategy) → fits a left ≡ true → fits b left ≡ true → (fits a (n - 1) && fits b (n - 1)) ≡ true
  both_below a b h k = and_from (fits a (n - 1)) (fits b (n - 1)) (fits_below a h) (fits_below b k)

mutual
  pub spelled_fits : (names : Names) (n : ℕ) (form : Form) (s : Strategy) → Spells names n form s → fits s n ≡ true
  spelled_fits names n form s (by_name left name level is simple known same) = fits-Prim s name n same (has_level n left level) ∙ simple
  spelled_fits names n form s (by_then left args parts level is inner two same) =
      fits-Then s parts n same (has_level n left level) ∙ two_below n left level parts two (spelled_each_fits names left args parts inner)
  spelled_fits names n form s (by_or_else left args parts level is inner two same) =
      fits-OrElse s parts n same (has_level n left level) ∙ two_below n left level parts two (spelled_each_fits names left args parts inner)
  spelled_fits names n form s (by_par_or left args parts level is inner two few same) =
      fits-ParOr s parts n same (has_level n left level)
      ∙ and_from (nat_le 2 (length parts) && nat_le (length parts) BRANCHES) (list_all (λ s. fits s (n - 1)) parts)
      (and_from (nat_le 2 (length parts)) (nat_le (length parts) BRANCHES) (at_least 2 (length parts) two) (at_least (length parts) BRANCHES few))
      (all_below n left level parts (spelled_each_fits names left args parts inner))
  spelled_fits names n form s (by_par_then left a b first second level is one two same) =
      fits-ParThen s first second n same (has_level n left level) ∙ both_below n left level first second (spelled_fits names left a first one) (spelled_fits names left b second two)
  spelled_fits names n form s (by_if left a b c p chosen other level is test one two same) =
      fits-If s p chosen other n same (has_level n left level)
      ∙ and_from (is_allowed_probe p) (fits chosen (n - 1) && fits other (n - 1)) (spelled_probe_allowed a p test)
      (both_below n left level chosen other (spelled_fits names left b chosen one) (spelled_fits names left c other two))
  spelled_fits names n form s (by_when left a b p part level is test one same) =
      fits-When s p part n same (has_level n left level)
      ∙ and_from (is_allowed_probe p) (fits part (n - 1)) (spelled_probe_allowed a p test) (fits_below n left level part (spelled_fits names left b part one))
  spelled_fits names n form s (by_fail_if left a p level is test same) = fits-FailIf s p n same (has_level n left level) ∙ spelled_probe_allowed a p test
  spelled_fits names n form s (by_repeat left a part level is one same) =
      fits-Repeat s part TURNS n same (has_level n left level)
      ∙ and_from (fits part (n - 1)) (nat_lt TURNS (2 ^ 32)) (fits_below n left level part (spelled_fits names left a part one)) refl
  spelled_fits names n form s (by_repeat_times left a b part turns level is one number low same) =
      fits-Repeat s part turns n same (has_level n left level)
      ∙ and_from (fits part (n - 1)) (nat_lt turns (2 ^ 32)) (fits_below n left level part (spelled_fits names left a part one)) (less turns (2 ^ 32) low)
  spelled_fits names n form s (by_params left a args part settings level is one inner there same) =
      fits-Params s part settings n same (has_level n left level)
      ∙ and_from (fits part (n - 1)) (nat_le 1 (length settings) && are_settings settings) (fits_below n left level part (spelled_fits names left a part one))
      (and_from (nat_le 1 (length settings)) (are_settings settings) (at_least 1 (length settings) there) (spelled_settings_allowed args settings inner))
  spelled_fits names n form s (by_try_for left a b part limit level is one number low same) =
      fits-TryFor s part limit n same (has_level n left level)
      ∙ and_from (fits part (n - 1)) (nat_le limit (2 ^ 62)) (fits_below n left level part (spelled_fits names left a part one)) (at_least limit (2 ^ 62) low)

  pub spelled_each_fits : (names : Names) (left : ℕ) (forms : Forms) (ss : List Strategy) → SpellEach names left forms ss → list_all (λ s. fits s left) ss ≡ true
  spelled_each_fits names left _ _ no_parts = refl
  spelled_each_fits names left _ _ (more_parts {form = form} {forms = forms} {s = s} {ss = ss} first rest) =
      and_from (fits s left) (list_all (λ s. fits s left) ss) (spelled_fits names left form s first) (spelled_each_fits names left forms ss rest)

-- names

mutual
  unfolding are_known

  pub spelled_known : (names : Names) (n : ℕ) (form : Form) (s : Strategy) → Spells names n form s → are_known names s ≡ true
  spelled_known names n form s (by_name left name level is simple known same) = ap (are_known names) same ∙ fold-Prim Bool (known_layer names) name ∙ known
  spelled_known names n form s (by_then left args parts level is inner two same) =
      ap (are_known names) same ∙ fold-Then Bool (known_layer names) parts ∙ spelled_each_known names left args parts inner
  spelled_known names n form s (by_or_else left args parts level is inner two same) =
      ap (are_known names) same ∙ fold-OrElse Bool (known_layer names) parts ∙ spelled_each_known names left args parts inner
  spelled_known names n form s (by_par_or left args parts level is inner two few same) =
      ap (are_known names) same ∙ fold-ParOr Bool (known_layer names) parts ∙ spelled_each_known names left args parts inner
  spelled_known names n form s (by_par_then left a b first second level is one two same) =
      ap (are_known names) same ∙ fold-ParThen Bool (known_layer names) first second
      ∙ and_from (are_known names first) (are_known names second) (spelled_known names left a first one) (spelled_known names left b second two)
  spelled_known names n form s (by_if left a b c p chosen other level is test one two same) =
      ap (are_known names) same ∙ fold-If Bool (known_layer names) p chosen other
      ∙ and_from (are_known names chosen) (are_known names other) (spelled_known names left b chosen one) (spelled_known names left c other two)
  spelled_known names n form s (by_when left a b p part level is test one same) = ap (are_known names) same ∙ fold-When Bool (known_layer names) p part ∙ spelled_known names left b part one
  spelled_known names n form s (by_fail_if left a p level is test same) = ap (are_known names) same ∙ fold-FailIf Bool (known_layer names) p
  spelled_known names n form s (by_repeat left a part level is one same) = ap (are_known names) same ∙ fold-Repeat Bool (known_layer names) part TURNS ∙ spelled_known names left a part one
  spelled_known names n form s (by_repeat_times left a b part turns level is one number low same) =
      ap (are_known names) same ∙ fold-Repeat Bool (known_layer names) part turns ∙ spelled_known names left a part one
  spelled_known names n form s (by_params left a args part settings level is one inner there same) =
      ap (are_known names) same ∙ fold-Params Bool (known_layer names) part settings ∙ spelled_known names left a part one
  spelled_known names n form s (by_try_for left a b part limit level is one number low same) =
      ap (are_known names) same ∙ fold-TryFor Bool (known_layer names) part limit ∙ spelled_known names left a part one

  pub spelled_each_known : (names : Names) (left : ℕ) (forms : Forms) (ss : List Strategy) → SpellEach names left forms ss → all_true (map (are_known names) ss) ≡ true
  spelled_each_known names left _ _ no_parts = refl
  spelled_each_known names left _ _ (more_parts {form = form} {forms = forms} {s = s} {ss = ss} first rest) =
      and_from (are_known names s) (all_true (map (are_known names) ss)) (spelled_known names left form s first) (spelled_each_known names left forms ss rest)

-- for what a call answers

pub answer_allowed : (names : Names) (form : Form) (answer : Result Strategy StratError) → IfOk answer (Spells names DEPTH form) → IfOk answer (λ s. is_allowed s ≡ true)
unfolding is_allowed fits
answer_allowed names form (Ok s) spells = spelled_fits names DEPTH form s spells
answer_allowed names form (Err e) spells = spells

pub answer_known : (names : Names) (form : Form) (n : ℕ) (answer : Result Strategy StratError) → IfOk answer (Spells names n form) → IfOk answer (λ s. are_known names s ≡ true)
answer_known names form n (Ok s) spells = spelled_known names n form s spells
answer_known names form n (Err e) spells = spells
