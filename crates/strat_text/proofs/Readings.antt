-- What lists are read as, by their first word.
use Rattle.std.proofs.Common.{◌≡◌, ℕ, zero, suc, ◌-◌, ◌<◌, ◌≤◌, ℤ, Option, arith, List, [], ◌∷◌, length, drop, get_or, append_assoc, append-nil, None, Some, Result, Ok, Err, refl, ap, sym, ◌∙◌}
use Rattle.sexp_read.specs.declared.sexp.Sexp.{Sexp}
use Rattle.sexp_read.specs.declared.sexp.AtomKind.{AtomKind}
use Rattle.strat_text.specs.declared.error.StratError.{StratError}
use Rattle.strat_text.specs.declared.error.StratError.TheVariants.{BadStrategy}
use Rattle.strat_text.specs.declared.words.Operator.{Operator}
use Rattle.strat_text.specs.declared.words.Operator.TheVariants as operator
use Rattle.strat_text.specs.declared.probe.ProbeExpr.{ProbeExpr}
use Rattle.strat_text.specs.Form.{Form, atom, list, Forms, none, more, behind, place_of, form_of, forms_of}
use Rattle.strat_text.specs.Words.{operator_before}
use Rattle.strat_text.specs.Number.{minus_of}
use Rattle.strat_text.specs.declared.strategy.ParamKey.{ParamKey}
use Rattle.strat_text.specs.Grammar.{Names}
use Rattle.strat_text.specs.Reading.{and_then, probe_form, probe_number, probe_combined, read_probe, read_probes, read_key, read_setting, read_settings, with_setting, appended, alone, read_strategy, read_each, strategy_atom, list_read}
use Rattle.strat_text.specs.Given.{behind_settings}
use Rattle.strat_text.proofs.Each.{ReadsEach}

pub read_probe_list : (items : Forms) (at : ℕ) → read_probe (list items at) ≡ probe_form at (behind items) (read_probes (behind items)) (operator_before items)
unfolding read_probe
read_probe_list none at = refl
read_probe_list (more first args) at = refl

pub form_none : (items : Forms) (at : ℕ) → operator_before items ≡ None → read_probe (list items at) ≡ Err (BadStrategy at)
form_none items at is = read_probe_list items at ∙ ap (probe_form at (behind items) (read_probes (behind items))) is

pub form_minus : (items : Forms) (at : ℕ) → operator_before items ≡ Some operator.Minus → read_probe (list items at) ≡ probe_number at (minus_of (behind items))
form_minus items at is = read_probe_list items at ∙ ap (probe_form at (behind items) (read_probes (behind items))) is

-- a form of an operator other than the minus
combined_form : (at : ℕ) (args : Forms) (parts : Result (List ProbeExpr) StratError) (o : Operator) → (o ≡ operator.Minus → ⊥) → probe_form at args parts (Some o) ≡ and_then parts (probe_combined at o)
combined_form at args parts operator.Minus other = absurd (other refl)
combined_form at args parts operator.Lt other = refl
combined_form at args parts operator.Le other = refl
combined_form at args parts operator.Gt other = refl
combined_form at args parts operator.Ge other = refl
combined_form at args parts operator.Eq other = refl
combined_form at args parts operator.And other = refl
combined_form at args parts operator.Or other = refl
combined_form at args parts operator.Not other = refl

pub form_combined : (items : Forms) (at : ℕ) (o : Operator) → operator_before items ≡ Some o → (o ≡ operator.Minus → ⊥) →
    read_probe (list items at) ≡ and_then (read_probes (behind items)) (probe_combined at o)
form_combined items at o is other = read_probe_list items at ∙ ap (probe_form at (behind items) (read_probes (behind items))) is ∙ combined_form at (behind items) (read_probes (behind items)) o other

-- s-expressions as probes, one after the other
pub probes_each : (bytes : List ℕ) → ReadsEach (λ (x : Sexp). read_probe (form_of bytes x)) (λ (xs : List Sexp). read_probes (forms_of bytes xs))
unfolding read_probes
probes_each bytes = record { none = refl; more = λ x xs. refl }

-- s-expressions as strategies, one after the other
pub strategies_each : (names : Names) (bytes : List ℕ) (left : ℕ) → ReadsEach (λ (x : Sexp). read_strategy names (form_of bytes x) left) (λ (xs : List Sexp). read_each names (forms_of bytes xs) left)
unfolding read_each
strategies_each names bytes left = record { none = refl; more = λ x xs. refl }

-- no level is left
pub read_strategy_deep : (names : Names) (form : Form) → read_strategy names form 0 ≡ Err (BadStrategy (place_of form))
unfolding read_strategy
read_strategy_deep names (atom is text at) = refl
read_strategy_deep names (list items at) = refl

pub read_strategy_atom : (names : Names) (is : AtomKind) (text : List ℕ) (at left : ℕ) → (left ≡ 0 → ⊥) → read_strategy names (atom is text at) left ≡ strategy_atom names is text at
unfolding read_strategy
read_strategy_atom names is text at zero some = absurd (some refl)
read_strategy_atom names is text at (suc left) some = refl

list_is : (names : Names) (items : Forms) (at left : ℕ) → read_strategy names (list items at) (suc left) ≡ list_read names at left items
unfolding read_strategy
list_is names none at left = refl
list_is names (more first none) at left = refl
list_is names (more first (more arg args)) at left = refl

pub read_strategy_list : (names : Names) (items : Forms) (at left : ℕ) → (left ≡ 0 → ⊥) → read_strategy names (list items at) left ≡ list_read names at (left - 1) items
read_strategy_list names items at zero some = absurd (some refl)
read_strategy_list names items at (suc left) some = let one : suc left - 1 ≡ left = omega arith in rw one (list_is names items at left)

-- the settings of a list
two_first : {X : Type 0} (xs : List X) (a b : X) → 2 ≤ length xs → a ≡ get_or xs 0 a → b ≡ get_or xs 1 b → xs ≡ a ∷ b ∷ drop 2 xs
two_first [] a b h p q = absurd (omega arith)
two_first (x ∷ []) a b h p q = absurd (omega arith)
two_first (x ∷ y ∷ xs) a b h p q = rw (p, q) refl

joined_settings : (front : Option (List (ParamKey × ℤ))) (setting : Option (ParamKey × ℤ)) (rest : Option (List (ParamKey × ℤ))) →
    appended (appended front (alone setting)) rest ≡ appended front (with_setting setting rest)
joined_settings None setting rest = refl
joined_settings (Some front) None rest = refl
joined_settings (Some front) (Some setting) None = refl
joined_settings (Some front) (Some setting) (Some rest) = ap (λ all. Some all) (append_assoc front (setting ∷ []) rest)

settings_next : (front : Option (List (ParamKey × ℤ))) (r : Result (Option (ParamKey × ℤ)) StratError) (rest : Result (Option (List (ParamKey × ℤ))) StratError) →
    behind_settings front (and_then r (λ setting. and_then rest (λ settings. Ok (with_setting setting settings)))) ≡ and_then r (λ setting. behind_settings (appended front (alone setting)) rest)
settings_next front (Err e) rest = refl
settings_next front (Ok setting) (Err e) = refl
settings_next front (Ok setting) (Ok rest) = ap (λ all. Ok all) (sym (joined_settings front setting rest))

pub settings_split : (bytes : List ℕ) (front : Option (List (ParamKey × ℤ))) (xs : List Sexp) (key value : Sexp) → 2 ≤ length xs → key ≡ get_or xs 0 key → value ≡ get_or xs 1 value →
    behind_settings front (read_settings (forms_of bytes xs))
    ≡ and_then (read_setting (form_of bytes key) (form_of bytes value)) (λ setting. behind_settings (appended front (alone setting)) (read_settings (forms_of bytes (drop 2 xs))))
unfolding read_settings
settings_split bytes front xs key value h p q =
    ap (λ all. behind_settings front (read_settings (forms_of bytes all))) (two_first xs key value h p q)
    ∙ settings_next front (read_setting (form_of bytes key) (form_of bytes value)) (read_settings (forms_of bytes (drop 2 xs)))

pub settings_ahead : (rest : Result (Option (List (ParamKey × ℤ))) StratError) → behind_settings (Some []) rest ≡ rest
settings_ahead (Err e) = refl
settings_ahead (Ok None) = refl
settings_ahead (Ok (Some settings)) = refl

-- no item, or one without arguments
pub list_read_empty : (names : Names) (at left : ℕ) (bytes : List ℕ) (items : List Sexp) → length items < 2 → list_read names at left (forms_of bytes items) ≡ Err (BadStrategy at)
list_read_empty names at left bytes [] h = refl
list_read_empty names at left bytes (a ∷ []) h = refl
list_read_empty names at left bytes (a ∷ b ∷ rest) h = absurd (omega arith)

appended_nothing : (front : Option (List (ParamKey × ℤ))) → appended front (Some []) ≡ front
appended_nothing None = refl
appended_nothing (Some front) = ap (λ all. Some all) (append-nil front)

appended_none : (front : Option (List (ParamKey × ℤ))) → appended front None ≡ None
appended_none None = refl
appended_none (Some front) = refl

-- nothing stands behind the settings
pub settings_end : (bytes : List ℕ) (front : Option (List (ParamKey × ℤ))) (xs : List Sexp) → length xs < 1 → behind_settings front (read_settings (forms_of bytes xs)) ≡ Ok front
unfolding read_settings
settings_end bytes front [] h = ap (λ all. Ok all) (appended_nothing front)
settings_end bytes front (a ∷ rest) h = absurd (omega arith)

key_alone : (front : Option (List (ParamKey × ℤ))) (r : Result (Option ParamKey) StratError) → behind_settings front (and_then r (λ key. Ok None)) ≡ and_then r (λ key. Ok None)
key_alone front (Ok key) = ap (λ all. Ok all) (appended_none front)
key_alone front (Err e) = refl

-- a parameter without a value stands behind the settings
pub settings_odd : (bytes : List ℕ) (front : Option (List (ParamKey × ℤ))) (xs : List Sexp) (key : Sexp) → length xs < 2 → 1 ≤ length xs → key ≡ get_or xs 0 key →
    behind_settings front (read_settings (forms_of bytes xs)) ≡ and_then (read_key (form_of bytes key)) (λ _. Ok None)
unfolding read_settings
settings_odd bytes front [] key h g is = absurd (omega arith)
settings_odd bytes front (a ∷ []) key h g is = rw is (key_alone front (read_key (form_of bytes a)))
settings_odd bytes front (a ∷ b ∷ rest) key h g is = absurd (omega arith)
