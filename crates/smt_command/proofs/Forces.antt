-- What is in force, over the numbers of terms and over their trees.
use Rattle.std.proofs.Common.{◌≡◌, ◌-◌, ◌+◌, ℕ, zero, suc, List, [], ◌∷◌, ◌++◌, length, take, get_or, refl, ap, sym, ◌∙◌, arith}
use Rattle.std.specs.Prelude.{replicate, false, Option, None, Some, is_some}
use Rattle.std.specs.Map.{lookup}
use Rattle.std.specs.Str.{bytes_eq}
use Rattle.std.proofs.lemmas.List.{length-map, length-append, length-take-le, length-replicate}
use Rattle.std.proofs.Math.Seq.{take-append_seam}
use Rattle.qterm.specs.declared.name.Name.{Name}
use Rattle.qterm.specs.Tree.{Tree, Var}
use Rattle.qterm.specs.Store.{Extends, tree_at, trees_of}
use Rattle.qterm.proofs.Extending.{trees_of_extends}
use Rattle.qterm.proofs.KidsLaws.{length-trees_of, trees_of-append}
use Rattle.qterm.proofs.Alls.{All-head, All-tail, All-nil, All-cons}
use Rattle.smt_names.specs.declared.meaning.Meaning.{Meaning as MeaningId}
use Rattle.smt_names.specs.Table.{Entry, Declared, symbol_in, symbols_in, meaning_of, IsThere, AreThere}
use Rattle.smt_names.specs.Given.{IsFront}
use Rattle.smt_names.proofs.Readings.{symbols_extends}
use Rattle.smt_names.proofs.Lookups.{meaning_some}
use Rattle.term_limits.specs.Limits.{Counted, IsCounted}
use Rattle.smt_command.specs.declared.levels.Level.{Level}
use Rattle.smt_command.specs.declared.symbols.Symbols.{Symbols}
use Rattle.smt_command.specs.Levels.{IsDeclared, mark, opened, left, kept, symbols_left, asserts_left}
use Rattle.smt_command.specs.Change.{in_force, nothing, declare, assert, push, pop}

-- ---- symbols over the trees of a store
-- one more symbol
symbols_push : (ts : List Tree) (es : List Entry) (e : Entry) → symbols_in ts (es ++ e ∷ []) ≡ symbols_in ts es ++ symbol_in ts e ∷ []
symbols_push ts [] e = refl
symbols_push ts (x ∷ es) e = ap (λ l. symbol_in ts x ∷ l) (symbols_push ts es e)

-- the first symbols
symbols_take : (ts : List Tree) (n : ℕ) (es : List Entry) → symbols_in ts (take n es) ≡ take n (symbols_in ts es)
symbols_take ts zero es = refl
symbols_take ts (suc n) [] = refl
symbols_take ts (suc n) (x ∷ es) = ap (λ l. symbol_in ts x ∷ l) (symbols_take ts n es)

-- as many as there are entries
symbols_length : (ts : List Tree) (es : List Entry) → length (symbols_in ts es) ≡ length es
symbols_length ts es = length-map es (symbol_in ts)

-- the first assertions
trees_of-take : (ts : List Tree) (n : ℕ) (ids : List ℕ) → trees_of ts (take n ids) ≡ take n (trees_of ts ids)
trees_of-take ts zero ids = refl
trees_of-take ts (suc n) [] = refl
trees_of-take ts (suc n) (id ∷ ids) = ap (λ l. tree_at ts id ∷ l) (trees_of-take ts n ids)

-- the first symbols are there
pub there_take : (ts : List Tree) (n : ℕ) (es : List Entry) → AreThere ts es → AreThere ts (take n es)
there_take ts zero es h = All-nil (λ (e : Entry). IsThere ts e.1)
there_take ts (suc n) [] h = All-nil (λ (e : Entry). IsThere ts e.1)
there_take ts (suc n) (x ∷ es) h =
    All-cons (λ (e : Entry). IsThere ts e.1) x (take n es) (All-head (λ (e : Entry). IsThere ts e.1) x es h) (there_take ts n es (All-tail (λ (e : Entry). IsThere ts e.1) x es h))

-- a name that means nothing is not there
pub unseen : (ts : List Tree) (es : List Entry) (text : List ℕ) → meaning_of (symbols_in ts es) text ≡ None → lookup (bytes_eq text) es ≡ None
unseen ts es text h = by (lookup (bytes_eq text) es) (sym (meaning_some ts es text) ∙ ap is_some h)
  where
    by : (o : Option MeaningId) → is_some o ≡ false → o ≡ None
    by None e = refl
    by (Some m) e = cc

-- what came behind is taken away again
pub front_taken : {A : Type 0} (front all : List A) → IsFront front all → take (length front) all ≡ front
front_taken front all h = ap (take (length front)) h.1 ∙ take-append_seam front h.0

-- where a level begins, over the trees of a store
mark_in : (ts : List Tree) (es : List Entry) (ids : List ℕ) → mark es ids ≡ mark (symbols_in ts es) (trees_of ts ids)
mark_in ts es ids = λ i. record { symbols = sym (symbols_length ts es) i; asserts = sym (length-trees_of ts ids) i }

-- where the first of the last levels begins
kept_in : (ts : List Tree) (n : ℕ) (levels : List Level) (es : List Entry) (ids : List ℕ) → kept n levels es ids ≡ kept n levels (symbols_in ts es) (trees_of ts ids)
kept_in ts n levels es ids = ap (get_or levels (length levels - n)) (mark_in ts es ids)

-- ---- changes
module _ (ts : List Tree) (old new : Symbols) where
  -- nothing changes
  pub force_stays : new.state.symbols ≡ old.state.symbols → new.asserts.ids ≡ old.asserts.ids → new.levels ≡ old.levels → in_force ts new ≡ in_force ts old
  force_stays s a l = λ i. record { symbols = symbols_in ts (s i); asserts = trees_of ts (a i); levels = l i }

  -- one more assertion
  pub force_assert : (id : ℕ) → new.state.symbols ≡ old.state.symbols → new.asserts.ids ≡ old.asserts.ids ++ id ∷ [] → new.levels ≡ old.levels → in_force ts new ≡ assert (tree_at ts id) (in_force ts old)
  force_assert id s a l =
      let asserts : trees_of ts new.asserts.ids ≡ trees_of ts old.asserts.ids ++ tree_at ts id ∷ [] = ap (trees_of ts) a ∙ trees_of-append ts old.asserts.ids (id ∷ []) in
      λ i. record { symbols = symbols_in ts (s i); asserts = asserts i; levels = l i }

  -- levels are opened
  pub force_push : (n : ℕ) → new.state.symbols ≡ old.state.symbols → new.asserts.ids ≡ old.asserts.ids → new.levels ≡ opened n old.levels old.state.symbols old.asserts.ids → in_force ts new ≡ push n (in_force ts old)
  force_push n s a l =
      let levels : new.levels ≡ opened n old.levels (symbols_in ts old.state.symbols) (trees_of ts old.asserts.ids) = l ∙ ap (λ (k : Level). old.levels ++ replicate n k) (mark_in ts old.state.symbols old.asserts.ids) in
      λ i. record { symbols = symbols_in ts (s i); asserts = trees_of ts (a i); levels = levels i }

  -- levels are closed
  pub force_pop : (n : ℕ) → new.state.symbols ≡ symbols_left n old.levels old.state.symbols old.asserts.ids → new.asserts.ids ≡ asserts_left n old.levels old.state.symbols old.asserts.ids → new.levels ≡ left n old.levels → in_force ts new ≡ pop n (in_force ts old)
  force_pop n s a l =
      let k = kept n old.levels old.state.symbols old.asserts.ids in
      let same = kept_in ts n old.levels old.state.symbols old.asserts.ids in
      let symbols : symbols_in ts new.state.symbols ≡ symbols_left n old.levels (symbols_in ts old.state.symbols) (trees_of ts old.asserts.ids) =
      ap (symbols_in ts) s ∙ symbols_take ts k.symbols old.state.symbols ∙ ap (λ (m : Level). take m.symbols (symbols_in ts old.state.symbols)) same in
      let asserts : trees_of ts new.asserts.ids ≡ asserts_left n old.levels (symbols_in ts old.state.symbols) (trees_of ts old.asserts.ids) =
      ap (trees_of ts) a ∙ trees_of-take ts k.asserts old.asserts.ids ∙ ap (λ (m : Level). take m.asserts (trees_of ts old.asserts.ids)) same in
      λ i. record { symbols = symbols i; asserts = asserts i; levels = l i }

  -- nothing is left
  pub force_reset : new.state.symbols ≡ [] → new.asserts.ids ≡ [] → new.levels ≡ [] → in_force ts new ≡ nothing
  force_reset s a l = λ i. record { symbols = symbols_in ts (s i); asserts = trees_of ts (a i); levels = l i }

  -- a name is declared
  pub force_declare : (us : List Tree) (name : Name) → Extends ts us → AreThere ts old.state.symbols → IsCounted ts old.asserts → IsDeclared us name old.state.symbols new.state.symbols → new.asserts ≡ old.asserts → new.levels ≡ old.levels → in_force us new ≡ declare name (in_force ts old)
  force_declare us name e h counted d a l =
      let symbols : symbols_in us new.state.symbols ≡ symbols_in ts old.state.symbols ++ (name.text, Declared (Var name) name.sort) ∷ [] =
      ap (symbols_in us) d.added ∙ symbols_push us old.state.symbols _
      ∙ (λ i. symbols_extends ts us old.state.symbols e h i ++ (name.text, Declared (d.shows.is i) name.sort) ∷ []) in
      let asserts : trees_of us new.asserts.ids ≡ trees_of ts old.asserts.ids = ap (λ (c : Counted). trees_of us c.ids) a ∙ trees_of_extends ts us old.asserts.ids e counted.has in
      λ i. record { symbols = symbols i; asserts = asserts i; levels = l i }

-- what is in force is the same over a store that grew
pub force_extends : (ts us : List Tree) (old new : Symbols) → Extends ts us → AreThere ts old.state.symbols → IsCounted ts old.asserts → new.state.symbols ≡ old.state.symbols → new.asserts.ids ≡ old.asserts.ids → new.levels ≡ old.levels → in_force us new ≡ in_force ts old
force_extends ts us old new e h counted s a l =
    let symbols : symbols_in us new.state.symbols ≡ symbols_in ts old.state.symbols = ap (symbols_in us) s ∙ symbols_extends ts us old.state.symbols e h in
    let asserts : trees_of us new.asserts.ids ≡ trees_of ts old.asserts.ids = ap (trees_of us) a ∙ trees_of_extends ts us old.asserts.ids e counted.has in
    λ i. record { symbols = symbols i; asserts = asserts i; levels = l i }

-- ---- how many levels there are
pub opened_length : {A B : Type 0} (n : ℕ) (levels : List Level) (symbols : List A) (asserts : List B) → length (opened n levels symbols asserts) ≡ length levels + n
opened_length n levels symbols asserts = length-append levels (replicate n (mark symbols asserts)) ∙ ap (λ k. length levels + k) (length-replicate n (mark symbols asserts))

pub left_length : (n : ℕ) (levels : List Level) → length (left n levels) ≡ length levels - n
left_length n levels = length-take-le (length levels - n) levels (omega arith)
