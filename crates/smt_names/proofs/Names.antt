-- Names that are free, and those that aren't.
use Rattle.std.proofs.Common.{◌≡◌, ℕ, Bool, true, false, List, Option, None, Some, Ok, Err, refl, ap, sym}
use Rattle.std.specs.Prelude.{is_some, ◌||◌}
use Rattle.std.specs.Map.{lookup}
use Rattle.std.specs.Str.{bytes_eq}
use Rattle.qterm.specs.Tree.{Tree}
use Rattle.smt_theory.specs.Operator.{is_theory_name}
use Rattle.smt_words.specs.declared.error.What.TheVariants.{Redeclared}
use Rattle.smt_names.specs.Reading.{refusal}
use Rattle.smt_names.specs.Table.{Entry, symbols_in}
use Rattle.smt_names.specs.Text.{is_name_text}
use Rattle.smt_names.specs.Names.{free_name, is_taken}
use Rattle.smt_names.proofs.Lookups.{meaning_some}

-- a name that is taken
pub free_taken : (at place : ℕ) (test : List ℕ → Bool) (o : Option (List ℕ)) (name : List ℕ) → Some name ≡ o → is_name_text name ≡ true → test name ≡ true → free_name at place test o ≡ Err (refusal Redeclared place)
free_taken at place test o name is text taken = rw (sym is, text, taken) refl

-- a name that is not
pub free_free : (at place : ℕ) (test : List ℕ → Bool) (o : Option (List ℕ)) (name : List ℕ) → Some name ≡ o → is_name_text name ≡ true → test name ≡ false → free_name at place test o ≡ Ok name
free_free at place test o name is text free = rw (sym is, text, free) refl

-- what the code looks up
pub taken_seen : (ts : List Tree) (symbols : List Entry) (name : List ℕ) → is_taken (symbols_in ts symbols) name ≡ (is_theory_name name || is_some (lookup (bytes_eq name) symbols))
taken_seen ts symbols name = ap (λ b. is_theory_name name || b) (meaning_some ts symbols name)

none_some : {A : Type 0} (o : Option A) → is_some o ≡ false → o ≡ None
none_some None h = refl
none_some (Some a) h = cc

right_false : (a b : Bool) → (a || b) ≡ false → b ≡ false
right_false true b h = cc
right_false false b h = h

-- a name that is not taken is not there
pub untaken : (symbols : List Entry) (name : List ℕ) → (is_theory_name name || is_some (lookup (bytes_eq name) symbols)) ≡ false → lookup (bytes_eq name) symbols ≡ None
untaken symbols name h = none_some (lookup (bytes_eq name) symbols) (right_false (is_theory_name name) (is_some (lookup (bytes_eq name) symbols)) h)
