-- Why no s-expression stands at a place, by the tokens from there on: those before the fault begin an s-expression
-- and do not end it.
use Rattle.std.specs.Prelude.{◌≡◌, ◌≢◌, ◌≤◌, ◌<◌, ◌+◌, ◌⊎◌, ⊤, ℕ, List, [], ◌∷◌, take, drop}
use Rattle.sexp_read.specs.declared.sexp.BadText.TheVariants.{Lexical, Unclosed, TooDeep}
use Rattle.sexp_read.specs.declared.sexp.Next.{Next}
use Rattle.sexp_read.specs.declared.sexp.Next.TheVariants.{Item, End, Bad}
use Rattle.sexp_read.specs.declared.parsing.TheConstants.{NESTING}
use Rattle.sexp_read.specs.declared.token.Kind.{Kind}
use Rattle.sexp_read.specs.declared.token.Kind.TheVariants as kind
use Rattle.sexp_read.specs.Spelling.{Mark, opens, marks}
use Rattle.sexp_read.specs.Token.{Piece}

-- how many parentheses open among tokens
abbrev pub openings : List Piece → ℕ
openings [] = 0
openings ((kind.Space, start, end) ∷ ts) = openings ts
openings ((kind.Open, start, end) ∷ ts) = 1 + openings ts
openings ((kind.Close, start, end) ∷ ts) = openings ts
openings ((kind.Atom is, start, end) ∷ ts) = openings ts
openings ((kind.Wrong, start, end) ∷ ts) = openings ts

-- how many parentheses close among tokens
abbrev pub closings : List Piece → ℕ
closings [] = 0
closings ((kind.Space, start, end) ∷ ts) = closings ts
closings ((kind.Open, start, end) ∷ ts) = closings ts
closings ((kind.Close, start, end) ∷ ts) = 1 + closings ts
closings ((kind.Atom is, start, end) ∷ ts) = closings ts
closings ((kind.Wrong, start, end) ∷ ts) = closings ts

-- how many bad tokens there are
abbrev pub bad_tokens : List Piece → ℕ
bad_tokens [] = 0
bad_tokens ((kind.Space, start, end) ∷ ts) = bad_tokens ts
bad_tokens ((kind.Open, start, end) ∷ ts) = bad_tokens ts
bad_tokens ((kind.Close, start, end) ∷ ts) = bad_tokens ts
bad_tokens ((kind.Atom is, start, end) ∷ ts) = bad_tokens ts
bad_tokens ((kind.Wrong, start, end) ∷ ts) = 1 + bad_tokens ts

-- Tokens that have no bad one among them, end no s-expression, and never have more lists open than are allowed.
pub record IsUnfinished (ts : List Piece) : Type 0 where
  pub clean : bad_tokens ts ≡ 0
  pub unended : (k : ℕ) → marks (take k ts) ≢ [] → closings (take k ts) < openings (take k ts)
  pub shallow : (k : ℕ) → openings (take k ts) ≤ closings (take k ts) + NESTING

-- a token of this kind stands first, at this place
abbrev pub BeginsWith : Kind → ℕ → List Piece → Type 0
BeginsWith is place [] = ⊥
BeginsWith is place (t ∷ ts) = (t.0 ≡ is) × (t.1 ≡ place)

-- The first fault is a bad token, or a closing parenthesis behind blanks and comments alone.
abbrev pub HasBadToken : ℕ → List Piece → Type 0
HasBadToken place ts = (k : ℕ) × IsUnfinished (take k ts) × (BeginsWith kind.Wrong place (drop k ts) ⊎ (BeginsWith kind.Close place (drop k ts) × (marks (take k ts) ≡ [])))

-- The first fault is an opening parenthesis where as many lists are open as are allowed.
abbrev pub NestsTooDeep : ℕ → List Piece → Type 0
NestsTooDeep place ts = (k : ℕ) × IsUnfinished (take k ts) × BeginsWith kind.Open place (drop k ts) × (openings (take k ts) ≡ closings (take k ts) + NESTING)

-- All tokens stand within one list, which opens at the place.
abbrev pub StaysOpen : ℕ → List Piece → Type 0
StaysOpen place ts = IsUnfinished ts × ((more : List Mark) × (marks ts ≡ opens place ∷ more))

-- An answer other than an item has its cause in the tokens: none but blanks and comments, or the first fault.
abbrev pub HasReason : List Piece → Next → Type 0
HasReason ts (Item sexp end) = ⊤
HasReason ts End = marks ts ≡ []
HasReason ts (Bad place Lexical) = HasBadToken place ts
HasReason ts (Bad place TooDeep) = NestsTooDeep place ts
HasReason ts (Bad place Unclosed) = StaysOpen place ts
