-- The fault that is told is the first of all faults.
use Rattle.std.proofs.Common.{◌≡◌, ℕ, zero, suc, Bool, true, false, ◌&&◌, ℤ, pos, List, [], ◌∷◌, ◌++◌, length, Option, None, Some, Result, Ok, Err, refl, ap, sym, subst, ◌∙◌, arith, append_assoc}
use Rattle.std.proofs.lemmas.Bool.Decides.{nat_tests}
use Rattle.std.specs.Prelude.{nat_le, nat_lt}
use Rattle.sexp_read.specs.Lexical.{is_simple_symbol}
use Rattle.sexp_read.specs.declared.sexp.AtomKind.{AtomKind}
use Rattle.sexp_read.specs.declared.sexp.AtomKind.TheVariants as kind
use Rattle.strat_text.specs.declared.error.StratError.{StratError}
use Rattle.strat_text.specs.declared.error.StratError.TheVariants.{UnknownReducer, UnknownProbe, UnknownParam, BadStrategy, Memory}
use Rattle.strat_text.specs.declared.words.Head.{Head}
use Rattle.strat_text.specs.declared.words.Head.TheVariants as head
use Rattle.strat_text.specs.declared.words.Operator.{Operator}
use Rattle.strat_text.specs.declared.words.Operator.TheVariants as operator
use Rattle.strat_text.specs.declared.probe.ProbeExpr.{ProbeExpr}
use Rattle.strat_text.specs.declared.probe.ProbeExpr.TheVariants as probe
use Rattle.strat_text.specs.declared.strategy.ParamKey.{ParamKey}
use Rattle.strat_text.specs.declared.strategy.Strategy.{Strategy}
use Rattle.strat_text.specs.declared.strategy.Strategy.TheVariants as strategy
use Rattle.strat_text.specs.declared.strategy.TheConstants.{BRANCHES, TURNS}
use Rattle.strat_text.specs.Form.{Form, atom, list, Forms, none, more, numeral_of, place_of, value_from}
use Rattle.strat_text.specs.Words.{head_in, operator_in, probe_named, key_of}
use Rattle.strat_text.specs.Number.{number_of, minus_of, is_wide, is_within}
use Rattle.strat_text.specs.Grammar.{Names, is_known, SpellProbes, no_probes, more_probes, SpellEach, no_parts, more_parts}
use Rattle.strat_text.specs.Given.{Gives, Tells}
use Rattle.strat_text.proofs.Spelled.{no_answer, same_answer, both, read_probes_spelled, read_each_spelled}
use Rattle.strat_text.specs.Reading.{and_then, in_front, one_of, two_of, least_of, probe_number, probe_word, probe_form, read_probe, read_probes, read_key, key_read, read_value, value_read, read_setting, read_settings, with_setting, with_settings, name_read, strategy_form, read_strategy, read_each, then_of, or_else_of, par_or_of, par_then_of, if_of, when_of, fail_if_of, only, limited, within, repeat_of, try_for_of, params_of}
use Rattle.strat_text.specs.Faults.{count, bad_unless, is_number, word_faults, probe_form_faults, probe_faults, probes_faults, key_known, key_faults, key_in, range_faults, settings_faults, are_pairs, is_keyword_form, is_some_number, name_faults, limit_faults, is_numeral_form, turns_faults, is_turns, is_limit, strategy_form_faults, faults, each_faults}

-- there is no fault where something is read, and else the fault is the first
Agrees : {A : Type 0} → Result A StratError → List StratError → Type 0
Agrees (Ok a) fs = fs ≡ []
Agrees (Err e) fs = (rest : List StratError) × (fs ≡ e ∷ rest)

alone : (A : Type 0) (e : StratError) → Agrees {A = A} (Err e) (e ∷ [])
unfolding Agrees
alone A e = ([], refl)

fine : {A : Type 0} (a : A) → Agrees {A = A} (Ok a) []
unfolding Agrees
fine a = refl

-- the faults of one reading before those of the next
agrees_then : {A B : Type 0} (r : Result A StratError) (next : A → Result B StratError) (fs gs : List StratError) → Agrees r fs → ((a : A) → r ≡ Ok a → Agrees (next a) gs) → Agrees (and_then r next) (fs ++ gs)
unfolding Agrees
agrees_then (Ok a) next fs gs h go = rw h (go a refl)
agrees_then (Err e) next fs gs h go = (h.0 ++ gs, ap (λ l. l ++ gs) h.1)

-- what is made of a reading has its faults
agrees_made : {A B : Type 0} (r : Result A StratError) (make : A → B) (fs : List StratError) → Agrees r fs → Agrees (and_then r (λ a. Ok (make a))) fs
unfolding Agrees
agrees_made (Ok a) make fs h = h
agrees_made (Err e) make fs h = h

agrees_front : {A : Type 0} (r : Result A StratError) (rest : Result (List A) StratError) (fs gs : List StratError) → Agrees r fs → Agrees rest gs → Agrees (in_front r rest) (fs ++ gs)
agrees_front r rest fs gs h k = agrees_then r (λ a. and_then rest (λ all. Ok (a ∷ all))) fs gs h (λ a is. agrees_made rest (λ all. a ∷ all) gs k)

-- a test that holds where the parts are as many as they may be
agrees_unless : {A : Type 0} (b c : Bool) (at : ℕ) (r : Result A StratError) → b ≡ c → Agrees r (bad_unless b at) → Agrees r (bad_unless c at)
agrees_unless b c at r same h = subst (λ x. Agrees r (bad_unless x at)) same h

and_false : (b : Bool) → (b && false) ≡ false
and_false true = refl
and_false false = refl

two_agree : {A B : Type 0} (at : ℕ) (parts : List A) (make : A × A → B) → Agrees (and_then (two_of at parts) (λ pair. Ok (make pair))) (bad_unless (nat_le 2 (length parts) && nat_le (length parts) 2) at)
two_agree at [] make = alone _ (BadStrategy at)
two_agree at (a ∷ []) make = alone _ (BadStrategy at)
two_agree at (a ∷ b ∷ []) make = fine (make (a, b))
two_agree at (a ∷ b ∷ c ∷ rest) make = let test : nat_le (length (a ∷ b ∷ c ∷ rest)) 2 ≡ false = grind (arith, nat_tests) in rw (test, and_false (nat_le 2 (length (a ∷ b ∷ c ∷ rest)))) (alone _ (BadStrategy at))

one_agrees : {A B : Type 0} (at : ℕ) (parts : List A) (make : A → B) → Agrees (and_then (one_of at parts) (λ part. Ok (make part))) (bad_unless (nat_le 1 (length parts) && nat_le (length parts) 1) at)
one_agrees at [] make = alone _ (BadStrategy at)
one_agrees at (a ∷ []) make = fine (make a)
one_agrees at (a ∷ b ∷ rest) make = let test : nat_le (length (a ∷ b ∷ rest)) 1 ≡ false = grind (arith, nat_tests) in rw (test, and_false (nat_le 1 (length (a ∷ b ∷ rest)))) (alone _ (BadStrategy at))

least_agrees : {A : Type 0} (least at : ℕ) (parts : List A) → Agrees (least_of least at parts) (bad_unless (nat_le least (length parts)) at)
least_agrees least at parts = by (nat_le least (length parts)) refl
  where
    by : (b : Bool) → nat_le least (length parts) ≡ b → Agrees (least_of least at parts) (bad_unless (nat_le least (length parts)) at)
    by true e = rw e (fine parts)
    by false e = rw e (alone _ (BadStrategy at))

number_agrees : (at : ℕ) (z : Option ℤ) → Agrees (probe_number at z) (bad_unless (is_number z) at)
number_agrees at None = alone _ (BadStrategy at)
number_agrees at (Some z) = by (is_wide z) refl
  where
    by : (b : Bool) → is_wide z ≡ b → Agrees (probe_number at (Some z)) (bad_unless (is_number (Some z)) at)
    by true e = rw e (alone _ (BadStrategy at))
    by false e = rw e (fine (probe.Num z))

word_agrees : (at : ℕ) (o : Option ProbeExpr) → Agrees (probe_word at o) (word_faults at o)
word_agrees at None = alone _ (UnknownProbe at)
word_agrees at (Some p) = fine p

atom_agrees : (is : AtomKind) (text : List ℕ) (at : ℕ) → Agrees (read_probe (atom is text at)) (probe_faults (atom is text at))
unfolding read_probe probe_faults
atom_agrees kind.Symbol text at = word_agrees at (probe_named text)
atom_agrees kind.Quoted text at = alone _ (BadStrategy at)
atom_agrees kind.Numeral text at = number_agrees at (Some (pos (value_from 0 text)))
atom_agrees kind.Decimal text at = alone _ (BadStrategy at)
atom_agrees kind.Bits text at = alone _ (BadStrategy at)
atom_agrees kind.Text text at = alone _ (BadStrategy at)
atom_agrees kind.Keyword text at = alone _ (BadStrategy at)

-- as many as spell them
probes_count : (forms : Forms) (ps : List ProbeExpr) → SpellProbes forms ps → length ps ≡ count forms
probes_count _ _ no_probes = refl
probes_count _ _ (more_probes {form = _} {forms = forms} {p = _} {ps = ps} h rest) = ap suc (probes_count forms ps rest)

parts_count : (names : Names) (left : ℕ) (forms : Forms) (ss : List Strategy) → SpellEach names left forms ss → length ss ≡ count forms
parts_count names left _ _ no_parts = refl
parts_count names left _ _ (more_parts {form = _} {forms = forms} {s = _} {ss = ss} h rest) = ap suc (parts_count names left forms ss rest)

module _ (args : Forms) (at : ℕ) (inner : Agrees (read_probes args) (probes_faults args)) where
  pair_agrees : (make : ProbeExpr → ProbeExpr → ProbeExpr) →
      Agrees (and_then (read_probes args) (λ parts. and_then (two_of at parts) (λ pair. Ok (make pair.0 pair.1)))) (probes_faults args ++ bad_unless (nat_le 2 (count args) && nat_le (count args) 2) at)
  pair_agrees make = agrees_then (read_probes args) (λ parts. and_then (two_of at parts) (λ pair. Ok (make pair.0 pair.1))) (probes_faults args) (bad_unless (nat_le 2 (count args) && nat_le (count args) 2) at) inner (λ ps e.
      subst (λ n. Agrees (and_then (two_of at ps) (λ pair. Ok (make pair.0 pair.1))) (bad_unless (nat_le 2 n && nat_le n 2) at)) (probes_count args ps (read_probes_spelled args ps e)) (two_agree at ps (λ pair. make pair.0 pair.1)))

  row_agrees : (make : List ProbeExpr → ProbeExpr) → Agrees (and_then (read_probes args) (λ parts. and_then (least_of 1 at parts) (λ all. Ok (make all)))) (probes_faults args ++ bad_unless (nat_le 1 (count args)) at)
  row_agrees make = agrees_then (read_probes args) (λ parts. and_then (least_of 1 at parts) (λ all. Ok (make all))) (probes_faults args) (bad_unless (nat_le 1 (count args)) at) inner (λ ps e.
      subst (λ n. Agrees (and_then (least_of 1 at ps) (λ all. Ok (make all))) (bad_unless (nat_le 1 n) at)) (probes_count args ps (read_probes_spelled args ps e))
      (agrees_made (least_of 1 at ps) make (bad_unless (nat_le 1 (length ps)) at) (least_agrees 1 at ps)))

  not_agrees : Agrees (and_then (read_probes args) (λ parts. and_then (one_of at parts) (λ part. Ok (probe.Not part)))) (probes_faults args ++ bad_unless (nat_le 1 (count args) && nat_le (count args) 1) at)
  not_agrees = agrees_then (read_probes args) (λ parts. and_then (one_of at parts) (λ part. Ok (probe.Not part))) (probes_faults args) (bad_unless (nat_le 1 (count args) && nat_le (count args) 1) at) inner (λ ps e.
      subst (λ n. Agrees (and_then (one_of at ps) (λ part. Ok (probe.Not part))) (bad_unless (nat_le 1 n && nat_le n 1) at)) (probes_count args ps (read_probes_spelled args ps e)) (one_agrees at ps (λ part. probe.Not part)))

  form_agrees : (o : Option Operator) → Agrees (probe_form at args (read_probes args) o) (probe_form_faults at args (probes_faults args) o)
  form_agrees None = alone _ (BadStrategy at)
  form_agrees (Some operator.Minus) = number_agrees at (minus_of args)
  form_agrees (Some operator.Lt) = pair_agrees (λ a b. probe.Lt a b)
  form_agrees (Some operator.Le) = pair_agrees (λ a b. probe.Le a b)
  form_agrees (Some operator.Gt) = pair_agrees (λ a b. probe.Gt a b)
  form_agrees (Some operator.Ge) = pair_agrees (λ a b. probe.Ge a b)
  form_agrees (Some operator.Eq) = pair_agrees (λ a b. probe.Eq a b)
  form_agrees (Some operator.And) = row_agrees (λ all. probe.And all)
  form_agrees (Some operator.Or) = row_agrees (λ all. probe.Or all)
  form_agrees (Some operator.Not) = not_agrees

nothing_agrees : (at : ℕ) → Agrees (read_probe (list none at)) (probe_faults (list none at))
unfolding read_probe probe_faults
nothing_agrees at = alone _ (BadStrategy at)

list_agrees : (first : Form) (args : Forms) (at : ℕ) → Agrees (read_probes args) (probes_faults args) → Agrees (read_probe (list (more first args) at)) (probe_faults (list (more first args) at))
unfolding read_probe probe_faults
list_agrees first args at inner = form_agrees args at inner (operator_in first)

probes_none : Agrees (read_probes none) (probes_faults none)
unfolding read_probes probes_faults
probes_none = fine []

probes_more : (form : Form) (forms : Forms) → Agrees (read_probe form) (probe_faults form) → Agrees (read_probes forms) (probes_faults forms) → Agrees (read_probes (more form forms)) (probes_faults (more form forms))
unfolding read_probes probes_faults
probes_more form forms h rest = agrees_front (read_probe form) (read_probes forms) (probe_faults form) (probes_faults forms) h rest

mutual
  probe_agrees : (form : Form) → Agrees (read_probe form) (probe_faults form)
  probe_agrees (atom is text at) = atom_agrees is text at
  probe_agrees (list none at) = nothing_agrees at
  probe_agrees (list (more first args) at) = list_agrees first args at (probes_agree args)

  probes_agree : (forms : Forms) → Agrees (read_probes forms) (probes_faults forms)
  probes_agree none = probes_none
  probes_agree (more form forms) = probes_more form forms (probe_agrees form) (probes_agree forms)

-- settings

key_agrees : (at : ℕ) (o : Option ParamKey) → Agrees (key_read at o) (key_known at o)
key_agrees at None = alone _ (UnknownParam at)
key_agrees at (Some key) = fine (Some key)

read_key_agrees : (form : Form) → Agrees (read_key form) (key_faults form)
read_key_agrees (atom kind.Symbol text at) = fine None
read_key_agrees (atom kind.Quoted text at) = fine None
read_key_agrees (atom kind.Numeral text at) = fine None
read_key_agrees (atom kind.Decimal text at) = fine None
read_key_agrees (atom kind.Bits text at) = fine None
read_key_agrees (atom kind.Text text at) = fine None
read_key_agrees (atom kind.Keyword text at) = key_agrees at (key_of text)
read_key_agrees (list items at) = fine None

key_found : (at : ℕ) (o found : Option ParamKey) → key_read at o ≡ Ok found → found ≡ o
key_found at None found h = no_answer (UnknownParam at) found h
key_found at (Some key) found h = sym (same_answer (Some key) found h)

read_key_found : (form : Form) (found : Option ParamKey) → read_key form ≡ Ok found → found ≡ key_in form
read_key_found (atom kind.Symbol text at) found h = sym (same_answer None found h)
read_key_found (atom kind.Quoted text at) found h = sym (same_answer None found h)
read_key_found (atom kind.Numeral text at) found h = sym (same_answer None found h)
read_key_found (atom kind.Decimal text at) found h = sym (same_answer None found h)
read_key_found (atom kind.Bits text at) found h = sym (same_answer None found h)
read_key_found (atom kind.Text text at) found h = sym (same_answer None found h)
read_key_found (atom kind.Keyword text at) found h = key_found at (key_of text) found h
read_key_found (list items at) found h = sym (same_answer None found h)

value_agrees : (at : ℕ) (key : ParamKey) (z : Option ℤ) → Agrees (value_read at key z) (range_faults at (Some key) z)
value_agrees at key None = fine None
value_agrees at key (Some z) = by (is_within key z) refl
  where
    by : (b : Bool) → is_within key z ≡ b → Agrees (value_read at key (Some z)) (range_faults at (Some key) (Some z))
    by true e = rw e (fine (Some (key, z)))
    by false e = rw e (alone _ (BadStrategy at))

read_value_agrees : (form : Form) (key : Option ParamKey) → Agrees (read_value form key) (range_faults (place_of form) key (number_of form))
read_value_agrees form None = fine None
read_value_agrees form (Some key) = value_agrees (place_of form) key (number_of form)

setting_agrees : (key value : Form) → Agrees (read_setting key value) (key_faults key ++ range_faults (place_of value) (key_in key) (number_of value))
setting_agrees key value = agrees_then (read_key key) (read_value value) (key_faults key) (range_faults (place_of value) (key_in key) (number_of value)) (read_key_agrees key)
    (λ found h. subst (λ k. Agrees (read_value value found) (range_faults (place_of value) k (number_of value))) (read_key_found key found h) (read_value_agrees value found))

settings_agree : (forms : Forms) → Agrees (read_settings forms) (settings_faults forms)
unfolding read_settings settings_faults
settings_agree none = fine (Some [])
settings_agree (more key none) = agrees_made (read_key key) (λ _. None) (key_faults key) (read_key_agrees key)
settings_agree (more key (more value rest)) =
    subst (Agrees (and_then (read_setting key value) (λ setting. and_then (read_settings rest) (λ settings. Ok (with_setting setting settings)))))
    (append_assoc (key_faults key) (range_faults (place_of value) (key_in key) (number_of value)) (settings_faults rest))
    (agrees_then (read_setting key value) (λ setting. and_then (read_settings rest) (λ settings. Ok (with_setting setting settings))) (key_faults key ++ range_faults (place_of value) (key_in key) (number_of value)) (settings_faults rest)
    (setting_agrees key value) (λ setting h. agrees_made (read_settings rest) (λ settings. with_setting setting settings) (settings_faults rest) (settings_agree rest)))

-- what settings are there
there : {A : Type 0} → Option A → Bool
there None = false
there (Some a) = true

with_there : (setting : Option (ParamKey × ℤ)) (rest : Option (List (ParamKey × ℤ))) → there (with_setting setting rest) ≡ (there setting && there rest)
unfolding there
with_there None rest = refl
with_there (Some setting) None = refl
with_there (Some setting) (Some rest) = refl

value_there : (at : ℕ) (key : ParamKey) (z : Option ℤ) (setting : Option (ParamKey × ℤ)) → value_read at key z ≡ Ok setting → there setting ≡ is_some_number z
unfolding there
value_there at key None setting h = subst (λ s. there s ≡ false) (same_answer None setting h) refl
value_there at key (Some z) setting h = by (is_within key z) refl
  where
    by : (b : Bool) → is_within key z ≡ b → there setting ≡ true
    by true e = subst (λ s. there s ≡ true) (same_answer (Some (key, z)) setting (sym (rw e refl) ∙ h)) refl
    by false e = no_answer (BadStrategy at) setting (sym (rw e refl) ∙ h)

known_there : (at : ℕ) (o : Option ParamKey) (value : Form) (setting : Option (ParamKey × ℤ)) → and_then (key_read at o) (read_value value) ≡ Ok setting → there setting ≡ is_some_number (number_of value)
known_there at None value setting h = no_answer (UnknownParam at) setting h
known_there at (Some key) value setting h = value_there (place_of value) key (number_of value) setting h

no_key_there : (value : Form) (setting : Option (ParamKey × ℤ)) → ◌≡◌ {A = Result (Option (ParamKey × ℤ)) StratError} (Ok None) (Ok setting) → there setting ≡ false
unfolding there
no_key_there value setting h = subst (λ s. there s ≡ false) (same_answer None setting h) refl

setting_there : (key value : Form) (setting : Option (ParamKey × ℤ)) → read_setting key value ≡ Ok setting → there setting ≡ (is_keyword_form key && is_some_number (number_of value))
setting_there (atom kind.Symbol text at) value setting h = no_key_there value setting h
setting_there (atom kind.Quoted text at) value setting h = no_key_there value setting h
setting_there (atom kind.Numeral text at) value setting h = no_key_there value setting h
setting_there (atom kind.Decimal text at) value setting h = no_key_there value setting h
setting_there (atom kind.Bits text at) value setting h = no_key_there value setting h
setting_there (atom kind.Text text at) value setting h = no_key_there value setting h
setting_there (atom kind.Keyword text at) value setting h = known_there at (key_of text) value setting h
setting_there (list items at) value setting h = no_key_there value setting h

and_assoc : (a b c : Bool) → ((a && b) && c) ≡ (a && b && c)
and_assoc true b c = refl
and_assoc false b c = refl

settings_there : (forms : Forms) (settings : Option (List (ParamKey × ℤ))) → read_settings forms ≡ Ok settings → there settings ≡ are_pairs forms
unfolding read_settings there
settings_there none settings h = subst (λ s. there s ≡ true) (same_answer (Some []) settings h) refl
settings_there (more key none) settings h = let outer = both (read_key key) (λ _. Ok None) settings h in subst (λ s. there s ≡ false) (same_answer None settings outer.goes) refl
settings_there (more key (more value rest)) settings h =
    let outer = both (read_setting key value) (λ setting. and_then (read_settings rest) (λ all. Ok (with_setting setting all))) settings h in
    let inner = both (read_settings rest) (λ all. Ok (with_setting outer.first all)) settings outer.goes in
    ap there (sym (same_answer (with_setting outer.first inner.first) settings inner.goes)) ∙ with_there outer.first inner.first
    ∙ ap (λ b. b && there inner.first) (setting_there key value outer.first outer.reads) ∙ ap (λ b. (is_keyword_form key && is_some_number (number_of value)) && b) (settings_there rest inner.first inner.reads)
    ∙ and_assoc (is_keyword_form key) (is_some_number (number_of value)) (are_pairs rest)

-- settings are there, and one or more
full : Option (List (ParamKey × ℤ)) → Bool
full None = false
full (Some []) = false
full (Some (setting ∷ settings)) = true

with_full : (at : ℕ) (s : Strategy) (given : Option (List (ParamKey × ℤ))) → Agrees (with_settings at s given) (bad_unless (full given) at)
unfolding full
with_full at s None = alone _ (BadStrategy at)
with_full at s (Some []) = alone _ (BadStrategy at)
with_full at s (Some (setting ∷ settings)) = fine (strategy.Params s (setting ∷ settings))

full_there : (setting : Option (ParamKey × ℤ)) (rest : Option (List (ParamKey × ℤ))) → full (with_setting setting rest) ≡ there (with_setting setting rest)
unfolding full there
full_there None rest = refl
full_there (Some setting) None = refl
full_there (Some setting) (Some rest) = refl

and_true : (b : Bool) → (b && true) ≡ b
and_true true = refl
and_true false = refl

some_count : (form : Form) (forms : Forms) → nat_le 1 (count (more form forms)) ≡ true
some_count form forms = grind (arith, nat_tests)

full_is : (forms : Forms) (settings : Option (List (ParamKey × ℤ))) → read_settings forms ≡ Ok settings → full settings ≡ (are_pairs forms && nat_le 1 (count forms))
unfolding read_settings full
full_is none settings h = subst (λ s. full s ≡ false) (same_answer (Some []) settings h) refl
full_is (more key none) settings h = let outer = both (read_key key) (λ _. Ok None) settings h in subst (λ s. full s ≡ false) (same_answer None settings outer.goes) refl
full_is (more key (more value rest)) settings h =
    let outer = both (read_setting key value) (λ setting. and_then (read_settings rest) (λ all. Ok (with_setting setting all))) settings h in
    let inner = both (read_settings rest) (λ all. Ok (with_setting outer.first all)) settings outer.goes in
    let made : with_setting outer.first inner.first ≡ settings = same_answer (with_setting outer.first inner.first) settings inner.goes in
    subst (λ s. full s ≡ there s) made (full_there outer.first inner.first) ∙ settings_there (more key (more value rest)) settings h ∙ sym (and_true (are_pairs (more key (more value rest))))
    ∙ ap (λ b. are_pairs (more key (more value rest)) && b) (sym (some_count key (more value rest)))

-- strategies

only_agrees : {A : Type 0} (at : ℕ) (forms : Forms) (a : A) → Agrees (only at forms a) (bad_unless (nat_le (count forms) 0) at)
only_agrees at none a = fine a
only_agrees at (more form forms) a = let test : nat_le (count (more form forms)) 0 ≡ false = grind (arith, nat_tests) in rw test (alone _ (BadStrategy at))

within_agrees : (most place n : ℕ) → Agrees (within most place n) (bad_unless (nat_le n most) place)
within_agrees most place n = by (nat_le n most) refl
  where
    by : (b : Bool) → nat_le n most ≡ b → Agrees (within most place n) (bad_unless (nat_le n most) place)
    by true e = rw e (fine n)
    by false e = rw e (alone _ (BadStrategy place))

-- a number and then the end of the form
limited_agrees : (at most : ℕ) (form : Form) (forms : Forms) (make : ℕ → Strategy) (z : Option ℕ) →
    Agrees (and_then (limited at most form z) (λ n. only at forms (make n))) (limit_faults (place_of form) most z ++ bad_unless (is_numeral_form z && nat_le (count forms) 0) at)
limited_agrees at most form forms make None = alone _ (BadStrategy at)
limited_agrees at most form forms make (Some n) =
    agrees_then (within most (place_of form) n) (λ n. only at forms (make n)) (bad_unless (nat_le n most) (place_of form)) (bad_unless (nat_le (count forms) 0) at) (within_agrees most (place_of form) n) (λ m e. only_agrees at forms (make m))

no_more : (form : Form) (forms : Forms) (b : Bool) → (b && nat_le (count (more form forms)) 0) ≡ false
no_more form forms b = let test : nat_le (count (more form forms)) 0 ≡ false = grind (arith, nat_tests) in rw (test, and_false b) refl

repeat_agrees : (at : ℕ) (args : Forms) (s : Strategy) → Agrees (repeat_of at args s) (turns_faults 4294967295 args ++ bad_unless (is_turns args) at)
repeat_agrees at none s = fine (strategy.Repeat s TURNS)
repeat_agrees at (more form none) s =
    subst (λ b. Agrees (repeat_of at (more form none) s) (limit_faults (place_of form) 4294967295 (numeral_of form) ++ bad_unless b at)) (and_true (is_numeral_form (numeral_of form)))
    (limited_agrees at 4294967295 form none (λ turns. strategy.Repeat s turns) (numeral_of form))
repeat_agrees at (more form (more next rest)) s =
    subst (λ b. Agrees (repeat_of at (more form (more next rest)) s) (limit_faults (place_of form) 4294967295 (numeral_of form) ++ bad_unless b at)) (no_more next rest (is_numeral_form (numeral_of form)))
    (limited_agrees at 4294967295 form (more next rest) (λ turns. strategy.Repeat s turns) (numeral_of form))

try_agrees : (at : ℕ) (args : Forms) (s : Strategy) → Agrees (try_for_of at args s) (turns_faults 4611686018427387904 args ++ bad_unless (is_limit args) at)
try_agrees at none s = alone _ (BadStrategy at)
try_agrees at (more form none) s =
    subst (λ b. Agrees (try_for_of at (more form none) s) (limit_faults (place_of form) 4611686018427387904 (numeral_of form) ++ bad_unless b at)) (and_true (is_numeral_form (numeral_of form)))
    (limited_agrees at 4611686018427387904 form none (λ limit. strategy.TryFor s limit) (numeral_of form))
try_agrees at (more form (more next rest)) s =
    subst (λ b. Agrees (try_for_of at (more form (more next rest)) s) (limit_faults (place_of form) 4611686018427387904 (numeral_of form) ++ bad_unless b at)) (no_more next rest (is_numeral_form (numeral_of form)))
    (limited_agrees at 4611686018427387904 form (more next rest) (λ limit. strategy.TryFor s limit) (numeral_of form))

params_agree : (at : ℕ) (args : Forms) (s : Strategy) → Agrees (params_of at args s) (settings_faults args ++ bad_unless (are_pairs args && nat_le 1 (count args)) at)
params_agree at args s = agrees_then (read_settings args) (with_settings at s) (settings_faults args) (bad_unless (are_pairs args && nat_le 1 (count args)) at) (settings_agree args)
    (λ given e. subst (λ b. Agrees (with_settings at s given) (bad_unless b at)) (full_is args given e) (with_full at s given))

least_shift : (n : ℕ) → nat_le 2 (suc n) ≡ nat_le 1 n
least_shift n = by (nat_le 1 n) refl
  where
    by : (b : Bool) → nat_le 1 n ≡ b → nat_le 2 (suc n) ≡ b
    by true e = grind (arith, nat_tests)
    by false e = grind (arith, nat_tests)

most_shift : (n m : ℕ) → nat_le (suc n) m ≡ nat_lt n m
most_shift n m = by (nat_lt n m) refl
  where
    by : (b : Bool) → nat_lt n m ≡ b → nat_le (suc n) m ≡ b
    by true e = grind (arith, nat_tests)
    by false e = grind (arith, nat_tests)

one_shift : (n : ℕ) → nat_le (suc n) 2 ≡ nat_le n 1
one_shift n = by (nat_le n 1) refl
  where
    by : (b : Bool) → nat_le n 1 ≡ b → nat_le (suc n) 2 ≡ b
    by true e = grind (arith, nat_tests)
    by false e = grind (arith, nat_tests)

branches_agree : (at : ℕ) (parts : List Strategy) → Agrees (par_or_of at parts) (bad_unless (nat_le 2 (length parts) && nat_le (length parts) BRANCHES) at)
branches_agree at parts = by (nat_le 2 (length parts)) (nat_le (length parts) BRANCHES) refl refl
  where
    by : (b c : Bool) → nat_le 2 (length parts) ≡ b → nat_le (length parts) BRANCHES ≡ c → Agrees (par_or_of at parts) (bad_unless (nat_le 2 (length parts) && nat_le (length parts) BRANCHES) at)
    by false c e f = rw e (alone _ (BadStrategy at))
    by true true e f = rw (e, f) (fine (strategy.ParOr parts))
    by true false e f = rw (e, f) (alone _ (BadStrategy at))

name_agrees : (names : Names) (text : List ℕ) (at : ℕ) → Agrees (name_read names text at) (name_faults names text at)
name_agrees names text at = by (is_simple_symbol text) (is_known names text) refl refl
  where
    by : (a b : Bool) → is_simple_symbol text ≡ a → is_known names text ≡ b → Agrees (name_read names text at) (name_faults names text at)
    by false b e f = rw e (alone _ (BadStrategy at))
    by true true e f = rw (e, f) (fine (strategy.Prim text))
    by true false e f = rw (e, f) (alone _ (UnknownReducer at))

atom_strategy : (names : Names) (is : AtomKind) (text : List ℕ) (at left : ℕ) → Agrees (read_strategy names (atom is text at) (suc left)) (faults names (atom is text at) (suc left))
unfolding read_strategy faults
atom_strategy names kind.Symbol text at left = name_agrees names text at
atom_strategy names kind.Quoted text at left = alone _ (BadStrategy at)
atom_strategy names kind.Numeral text at left = alone _ (BadStrategy at)
atom_strategy names kind.Decimal text at left = alone _ (BadStrategy at)
atom_strategy names kind.Bits text at left = alone _ (BadStrategy at)
atom_strategy names kind.Text text at left = alone _ (BadStrategy at)
atom_strategy names kind.Keyword text at left = alone _ (BadStrategy at)

module _ (names : Names) (arg : Form) (args : Forms) (at left : ℕ) (part : Agrees (read_strategy names arg left) (faults names arg left)) (each : Agrees (read_each names args left) (each_faults names args left)) where
  front_count : (ss : List Strategy) → in_front (read_strategy names arg left) (read_each names args left) ≡ Ok ss → length ss ≡ suc (count args)
  front_count ss h =
      let first = both (read_strategy names arg left) (λ a. and_then (read_each names args left) (λ all. Ok (a ∷ all))) ss h in
      let rest = both (read_each names args left) (λ all. Ok (first.first ∷ all)) ss first.goes in
      ap length (sym (same_answer (first.first ∷ rest.first) ss rest.goes)) ∙ ap suc (parts_count names left args rest.first (read_each_spelled names args left rest.first rest.reads))

  front_agrees : Agrees (in_front (read_strategy names arg left) (read_each names args left)) (faults names arg left ++ each_faults names args left)
  front_agrees = agrees_front (read_strategy names arg left) (read_each names args left) (faults names arg left) (each_faults names args left) part each

  -- a form over all its arguments, which tests their number
  all_agree : (of : List Strategy → Result Strategy StratError) (test : ℕ → Bool) (b : Bool) → test (suc (count args)) ≡ b → ((ss : List Strategy) → Agrees (of ss) (bad_unless (test (length ss)) at)) →
      Agrees (and_then (in_front (read_strategy names arg left) (read_each names args left)) of) ((faults names arg left ++ each_faults names args left) ++ bad_unless b at)
  all_agree of test b same h = agrees_then (in_front (read_strategy names arg left) (read_each names args left)) of (faults names arg left ++ each_faults names args left) (bad_unless b at) front_agrees
      (λ ss e. subst (λ c. Agrees (of ss) (bad_unless c at)) (ap test (front_count ss e) ∙ same) (h ss))

  rest_agrees : (of : List Strategy → Result Strategy StratError) (test : ℕ → Bool) → ((ss : List Strategy) → Agrees (of ss) (bad_unless (test (length ss)) at)) →
      Agrees (and_then (read_each names args left) of) (each_faults names args left ++ bad_unless (test (count args)) at)
  rest_agrees of test h = agrees_then (read_each names args left) of (each_faults names args left) (bad_unless (test (count args)) at) each
      (λ ss e. subst (λ n. Agrees (of ss) (bad_unless (test n) at)) (parts_count names left args ss (read_each_spelled names args left ss e)) (h ss))

  strategy_agrees : (word : Option Head) → Agrees (strategy_form at arg args (read_strategy names arg left) (read_each names args left) word) (strategy_form_faults at arg args (faults names arg left) (each_faults names args left) word)
  strategy_agrees None = alone _ (BadStrategy at)
  strategy_agrees (Some head.Then) = all_agree (then_of at) (nat_le 2) (nat_le 1 (count args)) (least_shift (count args)) (λ ss. agrees_made (least_of 2 at ss) (λ all. strategy.Then all) (bad_unless (nat_le 2 (length ss)) at) (least_agrees 2 at ss))
  strategy_agrees (Some head.OrElse) = all_agree (or_else_of at) (nat_le 2) (nat_le 1 (count args)) (least_shift (count args)) (λ ss. agrees_made (least_of 2 at ss) (λ all. strategy.OrElse all) (bad_unless (nat_le 2 (length ss)) at) (least_agrees 2 at ss))
  strategy_agrees (Some head.ParOr) = all_agree (par_or_of at) (λ n. nat_le 2 n && nat_le n BRANCHES) (nat_le 1 (count args) && nat_lt (count args) BRANCHES) (rw (least_shift (count args), most_shift (count args) BRANCHES) refl) (λ ss. branches_agree at ss)
  strategy_agrees (Some head.ParThen) = all_agree (par_then_of at) (λ n. nat_le 2 n && nat_le n 2) (nat_le 1 (count args) && nat_le (count args) 1) (rw (least_shift (count args), one_shift (count args)) refl) (λ ss. two_agree at ss (λ pair. strategy.ParThen pair.0 pair.1))
  strategy_agrees (Some head.If) = agrees_then (read_probe arg) (λ p. and_then (read_each names args left) (if_of at p)) (probe_faults arg) (each_faults names args left ++ bad_unless (nat_le 2 (count args) && nat_le (count args) 2) at) (probe_agrees arg)
      (λ p e. rest_agrees (if_of at p) (λ n. nat_le 2 n && nat_le n 2) (λ ss. two_agree at ss (λ pair. strategy.If p pair.0 pair.1)))
  strategy_agrees (Some head.When) = agrees_then (read_probe arg) (λ p. and_then (read_each names args left) (when_of at p)) (probe_faults arg) (each_faults names args left ++ bad_unless (nat_le 1 (count args) && nat_le (count args) 1) at) (probe_agrees arg)
      (λ p e. rest_agrees (when_of at p) (λ n. nat_le 1 n && nat_le n 1) (λ ss. one_agrees at ss (λ one. strategy.When p one)))
  strategy_agrees (Some head.FailIf) = agrees_then (read_probe arg) (fail_if_of at args) (probe_faults arg) (bad_unless (nat_le (count args) 0) at) (probe_agrees arg) (λ p e. only_agrees at args (strategy.FailIf p))
  strategy_agrees (Some head.Repeat) = agrees_then (read_strategy names arg left) (repeat_of at args) (faults names arg left) (turns_faults 4294967295 args ++ bad_unless (is_turns args) at) part (λ s e. repeat_agrees at args s)
  strategy_agrees (Some head.UsingParams) = agrees_then (read_strategy names arg left) (params_of at args) (faults names arg left) (settings_faults args ++ bad_unless (are_pairs args && nat_le 1 (count args)) at) part (λ s e. params_agree at args s)
  strategy_agrees (Some head.TryFor) = agrees_then (read_strategy names arg left) (try_for_of at args) (faults names arg left) (turns_faults 4611686018427387904 args ++ bad_unless (is_limit args) at) part (λ s e. try_agrees at args s)

list_strategy : (names : Names) (first arg : Form) (args : Forms) (at left : ℕ) → Agrees (read_strategy names arg left) (faults names arg left) → Agrees (read_each names args left) (each_faults names args left) →
    Agrees (read_strategy names (list (more first (more arg args)) at) (suc left)) (faults names (list (more first (more arg args)) at) (suc left))
unfolding read_strategy faults
list_strategy names first arg args at left part each = strategy_agrees names arg args at left part each (head_in first)

deep_atom : (names : Names) (is : AtomKind) (text : List ℕ) (at : ℕ) → Agrees (read_strategy names (atom is text at) 0) (faults names (atom is text at) 0)
unfolding read_strategy faults
deep_atom names is text at = alone _ (BadStrategy at)

deep_list : (names : Names) (items : Forms) (at : ℕ) → Agrees (read_strategy names (list items at) 0) (faults names (list items at) 0)
unfolding read_strategy faults
deep_list names items at = alone _ (BadStrategy at)

short_none : (names : Names) (at left : ℕ) → Agrees (read_strategy names (list none at) (suc left)) (faults names (list none at) (suc left))
unfolding read_strategy faults
short_none names at left = alone _ (BadStrategy at)

short_one : (names : Names) (first : Form) (at left : ℕ) → Agrees (read_strategy names (list (more first none) at) (suc left)) (faults names (list (more first none) at) (suc left))
unfolding read_strategy faults
short_one names first at left = alone _ (BadStrategy at)

each_none : (names : Names) (left : ℕ) → Agrees (read_each names none left) (each_faults names none left)
unfolding read_each each_faults
each_none names left = fine []

each_more : (names : Names) (form : Form) (forms : Forms) (left : ℕ) → Agrees (read_strategy names form left) (faults names form left) → Agrees (read_each names forms left) (each_faults names forms left) →
    Agrees (read_each names (more form forms) left) (each_faults names (more form forms) left)
unfolding read_each each_faults
each_more names form forms left h rest = agrees_front (read_strategy names form left) (read_each names forms left) (faults names form left) (each_faults names forms left) h rest

mutual
  reading_agrees : (names : Names) (form : Form) (n : ℕ) → Agrees (read_strategy names form n) (faults names form n)
  reading_agrees names (atom is text at) zero = deep_atom names is text at
  reading_agrees names (atom is text at) (suc left) = atom_strategy names is text at left
  reading_agrees names (list items at) zero = deep_list names items at
  reading_agrees names (list none at) (suc left) = short_none names at left
  reading_agrees names (list (more first none) at) (suc left) = short_one names first at left
  reading_agrees names (list (more first (more arg args)) at) (suc left) = list_strategy names first arg args at left (reading_agrees names arg left) (each_agree names args left)

  each_agree : (names : Names) (forms : Forms) (left : ℕ) → Agrees (read_each names forms left) (each_faults names forms left)
  each_agree names none left = each_none names left
  each_agree names (more form forms) left = each_more names form forms left (reading_agrees names form left) (each_agree names forms left)

-- what a call answers tells the first fault
pub answer_tells : (names : Names) (form : Form) (n : ℕ) (answer : Result Strategy StratError) → Gives answer (read_strategy names form n) → Tells answer (faults names form n)
unfolding Agrees
answer_tells names form n (Ok s) h = subst (λ r. Agrees r (faults names form n)) h (reading_agrees names form n)
answer_tells names form n (Err (UnknownReducer at)) h = subst (λ r. Agrees r (faults names form n)) h (reading_agrees names form n)
answer_tells names form n (Err (UnknownProbe at)) h = subst (λ r. Agrees r (faults names form n)) h (reading_agrees names form n)
answer_tells names form n (Err (UnknownParam at)) h = subst (λ r. Agrees r (faults names form n)) h (reading_agrees names form n)
answer_tells names form n (Err (BadStrategy at)) h = subst (λ r. Agrees r (faults names form n)) h (reading_agrees names form n)
answer_tells names form n (Err (Memory cause)) h = tt
