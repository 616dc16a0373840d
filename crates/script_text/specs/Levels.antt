-- The levels of a session: where each was opened, and what is left once some are closed.
use Rattle.std.specs.Prelude.{ℕ, ◌-◌, false, length, take, slice_get, Option, Some, None}
use Rattle.script_text.specs.declared.session.Mark.{Mark}
use Rattle.script_text.specs.declared.session.Session.{Session}

-- how many names and assertions there are
abbrev pub mark_in : Session → Mark
mark_in s = record { names = length s.names; asserts = length s.asserts }

-- the names and the assertions that there were at a mark, below which there are so many levels
abbrev pub cut_to : Session → ℕ → Option Mark → Session
cut_to s left (Some mark) = record s { names = take mark.names s.names; asserts = take mark.asserts s.asserts; marks = take left s.marks; shows = false }
cut_to s left None = record s { shows = false }

-- the session after so many levels were closed
abbrev pub closed : Session → ℕ → Session
closed s levels = let left = length s.marks - levels in cut_to s left (slice_get s.marks left)
