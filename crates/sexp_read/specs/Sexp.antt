-- The s-expression that tokens begin with, by a stack of the lists that are open, the innermost first.
use Rattle.std.specs.Prelude.{◌≡◌, ◌<◌, ◌≤◌, ℕ, if◌then◌else◌, nat_le, List, [], ◌∷◌, ◌++◌, length, drop, Option, None, Some}
use Rattle.sexp_read.specs.declared.sexp.Sexp.{Sexp}
use Rattle.sexp_read.specs.declared.sexp.Sexp.TheVariants.{Atom, List as Items}
use Rattle.sexp_read.specs.declared.sexp.BadText.TheVariants.{Lexical, Unclosed, TooDeep}
use Rattle.sexp_read.specs.declared.sexp.Next.{Next}
use Rattle.sexp_read.specs.declared.sexp.Next.TheVariants.{Item, End, Bad}
use Rattle.sexp_read.specs.declared.parsing.Frame.{Frame}
use Rattle.sexp_read.specs.declared.parsing.TheConstants.{NESTING}
use Rattle.sexp_read.specs.declared.token.Kind.TheVariants as kind
use Rattle.sexp_read.specs.Token.{Piece, tokens}

-- a list that has just been opened at a place
abbrev pub opened : ℕ → Frame
opened start = record { start = start; items = [] }

-- an open list with one item more
abbrev pub with_item : Frame → Sexp → Frame
with_item frame item = record frame { items = frame.items ++ item ∷ [] }

-- an open list that ends before a place
abbrev pub whole_list : Frame → ℕ → Sexp
whole_list frame end = Items frame.items frame.start end

-- where the outermost of the open lists begins
abbrev pub outermost : Frame → List Frame → ℕ
outermost frame [] = frame.start
outermost frame (next ∷ more) = outermost next more

-- What tokens are read as, where these lists are open: an atom or a whole list is an item of the innermost open list,
-- and the answer where none is open.
unfoldable pub read : List Piece → List Frame → Next
read [] [] = End
read [] (frame ∷ more) = Bad (outermost frame more) Unclosed
read ((kind.Space, start, end) ∷ ts) opens = read ts opens
read ((kind.Wrong, start, end) ∷ ts) opens = Bad start Lexical
read ((kind.Atom is, start, end) ∷ ts) [] = Item (Atom is start end) end
read ((kind.Atom is, start, end) ∷ ts) (frame ∷ more) = read ts (with_item frame (Atom is start end) ∷ more)
read ((kind.Open, start, end) ∷ ts) opens = if nat_le NESTING (length opens) then Bad start TooDeep else read ts (opened start ∷ opens)
read ((kind.Close, start, end) ∷ ts) [] = Bad start Lexical
read ((kind.Close, start, end) ∷ ts) (frame ∷ []) = Item (whole_list frame end) end
read ((kind.Close, start, end) ∷ ts) (frame ∷ next ∷ more) = read ts (with_item next (whole_list frame end) ∷ more)

-- What stands at a place of the bytes.
unfoldable pub next_at : List ℕ → ℕ → Next
next_at bytes place = read (tokens (drop place bytes) place) []

-- An item is put into the innermost list, or is the answer where none is open.
abbrev pub IsPlaced : Sexp → ℕ → List Frame → List Frame → Option Next → Type 0
IsPlaced item end [] new next = next ≡ Some (Item item end)
IsPlaced item end (frame ∷ more) new next = (new ≡ with_item frame item ∷ more) × (next ≡ None)

-- A token leads from some open lists to others, whatever comes after it, or it ends the s-expression.
abbrev pub Turns : Piece → List Frame → List Frame → Option Next → Type 0
Turns t old new None = (ts : List Piece) → read (t ∷ ts) old ≡ read ts new
Turns t old new (Some next) = (ts : List Piece) → read (t ∷ ts) old ≡ next

-- An item ends there; another answer says nothing.
abbrev pub EndsAt : ℕ → Next → Type 0
EndsAt at (Item item end) = end ≡ at
EndsAt at End = Unit {0}
EndsAt at (Bad place what) = Unit {0}

-- An item ends behind the one place, and not past the other.
abbrev pub EndsWithin : ℕ → ℕ → Next → Type 0
EndsWithin low high (Item item end) = (low < end) × (end ≤ high)
EndsWithin low high End = Unit {0}
EndsWithin low high (Bad place what) = Unit {0}
