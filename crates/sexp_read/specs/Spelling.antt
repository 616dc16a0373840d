-- How an s-expression is spelled: the marks of its tokens in order, by the tree alone.
use Rattle.std.specs.Prelude.{◌≡◌, ◌≤◌, ◌+◌, max, ℕ, List, [], ◌∷◌, ◌++◌}
use Rattle.sexp_read.specs.declared.sexp.AtomKind.{AtomKind}
use Rattle.sexp_read.specs.declared.token.Kind.TheVariants as kind
use Rattle.sexp_read.specs.declared.sexp.Sexp.{Sexp, fold-Sexp}
use Rattle.sexp_read.specs.declared.sexp.Sexp.TheOpen.{Sexp-F}
use Rattle.sexp_read.specs.declared.sexp.Next.{Next}
use Rattle.sexp_read.specs.declared.sexp.Next.TheVariants.{Item, End, Bad}
use Rattle.sexp_read.specs.declared.parsing.TheConstants.{NESTING}
use Rattle.sexp_read.specs.Atoms.{end_of}
use Rattle.sexp_read.specs.Token.{Piece}

-- an opening parenthesis where it stands, a closing one by the place behind it, an atom by its kind and both ends,
-- a bad token where it stands
pub data Mark : Type 0 where
  opens : ℕ → Mark
  closes : ℕ → Mark
  atom : AtomKind → ℕ → ℕ → Mark
  bad : ℕ → Mark

-- the marks of tokens; blanks and comments have none
abbrev pub marks : List Piece → List Mark
marks [] = []
marks ((kind.Space, start, end) ∷ ts) = marks ts
marks ((kind.Open, start, end) ∷ ts) = opens start ∷ marks ts
marks ((kind.Close, start, end) ∷ ts) = closes end ∷ marks ts
marks ((kind.Atom is, start, end) ∷ ts) = atom is start end ∷ marks ts
marks ((kind.Wrong, start, end) ∷ ts) = bad start ∷ marks ts

-- rows of marks in one row
abbrev pub concat : List (List Mark) → List Mark
concat [] = []
concat (m ∷ ms) = m ++ concat ms

-- the marks of an s-expression from those of its items
abbrev pub spelled_layer : Sexp-F (List Mark) → List Mark
spelled_layer (Sexp-F.Atom kind start end) = atom kind start end ∷ []
spelled_layer (Sexp-F.List items start end) = opens start ∷ concat items ++ closes end ∷ []

-- an atom is itself, a list its items in order between parentheses
unfoldable pub spelled : Sexp → List Mark
spelled = fold-Sexp (List Mark) spelled_layer

-- The s-expression is spelled by the tokens from the place on, as far as these.
abbrev pub Spells : List Piece → Sexp → Type 0
Spells ts sexp = (front rest : List Piece) × (ts ≡ front ++ rest) × (marks front ≡ spelled sexp)

-- an item is spelled by the tokens
abbrev pub SpellsItem : List Piece → Next → Type 0
SpellsItem ts (Item sexp end) = Spells ts sexp
SpellsItem ts End = Unit {0}
SpellsItem ts (Bad place what) = Unit {0}

-- the greatest of the numbers
abbrev pub deepest : List ℕ → ℕ
deepest [] = 0
deepest (n ∷ ns) = max n (deepest ns)

-- how deep an s-expression nests, from how deep its items do
abbrev pub nesting_layer : Sexp-F ℕ → ℕ
nesting_layer (Sexp-F.Atom kind start end) = 0
nesting_layer (Sexp-F.List items start end) = 1 + deepest items

-- how deep lists stand in one another: an atom 0, a list one more than the deepest of its items
unfoldable pub nesting_of : Sexp → ℕ
nesting_of = fold-Sexp ℕ nesting_layer

-- What the first tokens spell is what is read, if it nests as deep as is allowed.
abbrev pub ReadsWhatIsSpelled : List Piece → Next → Type 0
ReadsWhatIsSpelled ts next = (front rest : List Piece) (sexp : Sexp) → ts ≡ front ++ rest → marks front ≡ spelled sexp → nesting_of sexp ≤ NESTING → next ≡ Item sexp (end_of sexp)
