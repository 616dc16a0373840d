-- S-expressions with the texts of their atoms in place of the places where these end.
use Rattle.std.specs.Prelude.{ℕ, ◌+◌, ◌*◌, ◌-◌, List, [], ◌∷◌, map, Option, None, Some}
use Rattle.sexp_read.specs.declared.sexp.AtomKind.{AtomKind}
use Rattle.sexp_read.specs.declared.sexp.AtomKind.TheVariants as kind
use Rattle.sexp_read.specs.declared.sexp.Sexp.{Sexp, fold-Sexp}
use Rattle.sexp_read.specs.declared.sexp.Sexp.TheOpen.{Sexp-F}
use Rattle.sexp_read.specs.Atoms.{text_at}

mutual
  -- an atom with its kind and its text, or a list, with the place of the first byte
  pub data Form : Type 0 where
    atom : AtomKind → List ℕ → ℕ → Form
    list : Forms → ℕ → Form

  -- forms in a row
  pub data Forms : Type 0 where
    none : Forms
    more : Form → Forms → Forms

-- the list of forms as a row
abbrev pub row : List Form → Forms
row [] = none
row (f ∷ fs) = more f (row fs)

-- no byte where there is no text
abbrev pub some_text : Option (List ℕ) → List ℕ
some_text None = []
some_text (Some text) = text

-- one level of an s-expression
abbrev pub form_layer : List ℕ → Sexp-F Form → Form
form_layer bytes (Sexp-F.Atom is start end) = atom is (some_text (text_at bytes start end)) start
form_layer bytes (Sexp-F.List items start end) = list (row items) start

-- an s-expression that was read from these bytes, as a form
unfoldable pub form_of : List ℕ → Sexp → Form
form_of bytes = fold-Sexp Form (form_layer bytes)

-- s-expressions as a row of forms
abbrev pub forms_of : List ℕ → List Sexp → Forms
forms_of bytes items = row (map (form_of bytes) items)

-- the place of the first byte
abbrev pub place_of : Form → ℕ
place_of (atom is text place) = place
place_of (list items place) = place

-- the forms behind the first one
abbrev pub behind : Forms → Forms
behind none = none
behind (more form forms) = forms

-- the text of a simple symbol
abbrev pub symbol_text : AtomKind → List ℕ → Option (List ℕ)
symbol_text kind.Symbol text = Some text
symbol_text kind.Quoted text = None
symbol_text kind.Numeral text = None
symbol_text kind.Decimal text = None
symbol_text kind.Bits text = None
symbol_text kind.Text text = None
symbol_text kind.Keyword text = None

-- the text of a form that is a simple symbol
abbrev pub symbol_of : Form → Option (List ℕ)
symbol_of (atom is text place) = symbol_text is text
symbol_of (list items place) = None

-- the number that digits go on with behind others
abbrev pub value_from : ℕ → List ℕ → ℕ
value_from value [] = value
value_from value (digit ∷ digits) = value_from (value * 10 + (digit - 48)) digits

-- the digits of a numeral
abbrev pub digits_in : AtomKind → List ℕ → Option (List ℕ)
digits_in kind.Symbol text = None
digits_in kind.Quoted text = None
digits_in kind.Numeral text = Some text
digits_in kind.Decimal text = None
digits_in kind.Bits text = None
digits_in kind.Text text = None
digits_in kind.Keyword text = None

-- the digits of a form that is a numeral
abbrev pub digits_of : Form → Option (List ℕ)
digits_of (atom is text place) = digits_in is text
digits_of (list items place) = None

-- the number of digits, where there are some
abbrev pub value_of : Option (List ℕ) → Option ℕ
value_of None = None
value_of (Some digits) = Some (value_from 0 digits)

-- the number of an atom that is a numeral
abbrev pub numeral_value : AtomKind → List ℕ → Option ℕ
numeral_value is text = value_of (digits_in is text)

-- the number of a form that is a numeral
abbrev pub numeral_of : Form → Option ℕ
numeral_of form = value_of (digits_of form)
