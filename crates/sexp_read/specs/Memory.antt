-- What a source and a sink over memory tell: their bytes, the pieces in which they go, and the calls that fail.
use Rattle.std.specs.Prelude.{◌≡◌, ◌+◌, ◌-◌, ◌<◌, ◌^◌, ◌⊎◌, ℕ, List, length, drop, min, Contains}
use Rattle.sexp_read.specs.declared.memory.MemSource.{MemSource}
use Rattle.sexp_read.specs.declared.memory.MemSink.{MemSink}

-- the bytes left
abbrev pub left_of : MemSource → List ℕ
left_of s = drop s.taken s.bytes.items

-- how many reads have failed, and how many were made, up to the last u64
abbrev pub read_faults_of : MemSource → ℕ
read_faults_of s = s.faults

abbrev pub reads_of : MemSource → ℕ
reads_of s = s.calls

-- the most bytes of one read
abbrev pub read_piece_of : MemSource → ℕ
read_piece_of s = s.piece

-- the numbers of the reads that fail
abbrev pub failing_reads_of : MemSource → List ℕ
failing_reads_of s = s.failing.items

-- A read is made: its number is one more, and the listed numbers and the piece stay.
pub record CountsRead (old new : MemSource) : Type 0 where
  pub number : reads_of new ≡ min (reads_of old + 1) (2 ^ 64 - 1)
  pub listed : failing_reads_of new ≡ failing_reads_of old
  pub piece : read_piece_of new ≡ read_piece_of old

-- the bytes written, and how many of them are flushed
abbrev pub written_of : MemSink → List ℕ
written_of s = s.bytes.items

abbrev pub flushed_of : MemSink → ℕ
flushed_of s = s.flushed

-- how many calls have failed, and how many were made, up to the last u64
abbrev pub write_faults_of : MemSink → ℕ
write_faults_of s = s.faults

abbrev pub writes_of : MemSink → ℕ
writes_of s = s.calls

-- how many bytes have room in all, and the most bytes of one write
abbrev pub room_of : MemSink → ℕ
room_of s = s.room

abbrev pub write_piece_of : MemSink → ℕ
write_piece_of s = s.piece

-- the numbers of the calls that fail
abbrev pub failing_writes_of : MemSink → List ℕ
failing_writes_of s = s.failing.items

-- A call is made: its number is one more, and the listed numbers, the piece and the room stay.
pub record CountsWrite (old new : MemSink) : Type 0 where
  pub number : writes_of new ≡ min (writes_of old + 1) (2 ^ 64 - 1)
  pub listed : failing_writes_of new ≡ failing_writes_of old
  pub piece : write_piece_of new ≡ write_piece_of old
  pub room : room_of new ≡ room_of old

-- how many bytes of a text the sink takes, if the call does not fail
abbrev pub taken_of : MemSink → List ℕ → ℕ
taken_of s text = min (min (length text) (write_piece_of s)) (room_of s - length (written_of s))

-- A write fails: its number is listed, or no room is left for a text.
abbrev pub FailsWrite : MemSink → ℕ → List ℕ → Type 0
FailsWrite s number text = Contains (failing_writes_of s) number ⊎ (taken_of s text < min 1 (length text))
