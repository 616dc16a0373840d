-- Levels that are open, each told by where it begins, and what opening and closing some changes.
use Rattle.std.specs.Prelude.{◌≡◌, ℕ, ◌-◌, List, [], ◌∷◌, ◌++◌, length, take, replicate}
use Rattle.std.proofs.Common.{get_or}
use Rattle.qterm.specs.declared.name.Name.{Name}
use Rattle.qterm.specs.Tree.{Tree, Var}
use Rattle.qterm.specs.Store.{Shows}
use Rattle.smt_names.specs.declared.meaning.Meaning.TheVariants.{Declared}
use Rattle.smt_names.specs.Table.{Entry}
use Rattle.smt_command.specs.declared.levels.Level.{Level}

-- where a level begins that is opened behind these symbols and assertions
abbrev pub mark : {A B : Type 0} → List A → List B → Level
mark symbols asserts = record { symbols = length symbols; asserts = length asserts }

-- so many more levels
abbrev pub opened : {A B : Type 0} → ℕ → List Level → List A → List B → List Level
opened n levels symbols asserts = levels ++ replicate n (mark symbols asserts)

-- the levels without the last n
abbrev pub left : ℕ → List Level → List Level
left n levels = take (length levels - n) levels

-- where the first of the last n levels begins
abbrev pub kept : {A B : Type 0} → ℕ → List Level → List A → List B → Level
kept n levels symbols asserts = get_or levels (length levels - n) (mark symbols asserts)

-- the symbols that came before the last n levels
abbrev pub symbols_left : {A B : Type 0} → ℕ → List Level → List A → List B → List A
symbols_left n levels symbols asserts = take (kept n levels symbols asserts).symbols symbols

-- the assertions that came before them
abbrev pub asserts_left : {A B : Type 0} → ℕ → List Level → List A → List B → List B
asserts_left n levels symbols asserts = take (kept n levels symbols asserts).asserts asserts

-- the name is one more symbol, whose term is the name
pub record IsDeclared (ts : List Tree) (name : Name) (old new : List Entry) : Type 0 where
  pub id : ℕ
  pub added : new ≡ old ++ (name.text, Declared id name.sort) ∷ []
  pub shows : Shows ts id (Var name)
