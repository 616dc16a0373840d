-- States with one more symbol, or one more term that counts.
use Rattle.std.proofs.Common.{◌≡◌, ℕ, List, [], ◌∷◌, ◌++◌, refl, ap, sym, subst, append-nil}
use Rattle.qterm.specs.Tree.{Tree}
use Rattle.qterm.specs.Store.{tree_at, trees_of, Has}
use Rattle.qterm.proofs.Alls.{All-push}
use Rattle.qterm.proofs.Extending.{Extends_refl}
use Rattle.qterm.proofs.KidsLaws.{trees_of-append}
use Rattle.smt_names.specs.declared.meaning.Meaning.{Meaning as MeaningId}
use Rattle.smt_names.specs.declared.state.State.{State as StateId}
use Rattle.smt_names.specs.Table.{Entry, meaning_in, symbol_in, symbols_in, IsThere, AreThere}
use Rattle.smt_names.specs.Given.{seen, IsIn, Goes}
use Rattle.smt_names.proofs.Readings.{goes_stays}

-- symbols behind others
pub symbols_append : (ts : List Tree) (es fs : List Entry) → symbols_in ts (es ++ fs) ≡ symbols_in ts es ++ symbols_in ts fs
symbols_append ts [] fs = refl
symbols_append ts (e ∷ es) fs = ap (λ l. symbol_in ts e ∷ l) (symbols_append ts es fs)

-- one name more that has a meaning
abbrev pub with_name : List Entry → List ℕ → MeaningId → List Entry
with_name es name m = es ++ (name, m) ∷ []

pub with_name_in : (ts : List Tree) (es : List Entry) (name : List ℕ) (m : MeaningId) → symbols_in ts (with_name es name m) ≡ symbols_in ts es ++ (name, meaning_in ts m) ∷ []
with_name_in ts es name m = symbols_append ts es ((name, m) ∷ [])

pub with_name_there : (ts : List Tree) (es : List Entry) (name : List ℕ) (m : MeaningId) → IsThere ts m → AreThere ts es → AreThere ts (with_name es name m)
with_name_there ts es name m h all = All-push (λ (e : Entry). IsThere ts e.1) es (name, m) all h

-- ---- states
-- a state with one symbol more
abbrev pub named_state : StateId → List ℕ → MeaningId → StateId
named_state s name m = record s { symbols = with_name s.symbols name m }

pub seen_named : (ts : List Tree) (s : StateId) (name : List ℕ) (m : MeaningId)
    → seen ts (named_state s name m) ≡ record { symbols = (seen ts s).symbols ++ (name, meaning_in ts m) ∷ []; bound = (seen ts s).bound; in_body = s.in_body }
seen_named ts s name m = λ i. record { symbols = with_name_in ts s.symbols name m i; bound = trees_of ts s.bound; in_body = s.in_body }

pub goes_named : (ts : List Tree) (s : StateId) (name : List ℕ) (m : MeaningId) → IsThere ts m → IsIn ts s → Goes ts s ts (named_state s name m)
goes_named ts s name m h there = record {
  extends = Extends_refl ts;
  there = record { symbols = with_name_there ts s.symbols name m h there.symbols; scopes = there.scopes; bound = there.bound };
  symbols = ((name, m) ∷ [], refl);
}

-- a state with one term more that counts
abbrev pub bound_state : StateId → ℕ → StateId
bound_state s id = record s { bound = s.bound ++ id ∷ [] }

pub seen_bound : (ts : List Tree) (s : StateId) (id : ℕ) → seen ts (bound_state s id) ≡ record { symbols = (seen ts s).symbols; bound = (seen ts s).bound ++ tree_at ts id ∷ []; in_body = s.in_body }
seen_bound ts s id = λ i. record { symbols = symbols_in ts s.symbols; bound = trees_of-append ts s.bound (id ∷ []) i; in_body = s.in_body }

pub goes_bound : (ts : List Tree) (s : StateId) (id : ℕ) → Has ts id → IsIn ts s → Goes ts s ts (bound_state s id)
goes_bound ts s id h there = record {
  extends = Extends_refl ts;
  there = record { symbols = there.symbols; scopes = there.scopes; bound = All-push (Has ts) s.bound id there.bound h };
  symbols = ([], sym (append-nil s.symbols));
}

-- the state as it was
pub goes_same : (ts : List Tree) (s t : StateId) → t ≡ s → IsIn ts s → Goes ts s ts t
goes_same ts s t e there = subst (Goes ts s ts) (sym e) (goes_stays ts ts s (Extends_refl ts) there)
