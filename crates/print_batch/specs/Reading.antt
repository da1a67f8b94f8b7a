-- A batch that the program reads: which it takes, how that ends, what it leaves in the output, and what is printed. FORMAT 23.
use Rattle.std.specs.Prelude.{ℕ, ◌≤◌, ◌≡◌, Bool, cond, List, ltb, length, take, Option, Result, Ok, Err}
use Rattle.std.specs.Io.KnownBytes.{Appends, Consumes}
use Rattle.std.specs.declared.io.Error.{Error}
use Rattle.batch.specs.Answer.{output_after}
use Rattle.printed_batch.specs.PrintedBatch.{printed_batch}
use Rattle.print_batch.specs.declared.Unprinted.{Unprinted}
use Rattle.print_batch.specs.declared.Unprinted.TheVariants.{Unreadable, TooLong, NotWritten}

-- a batch that is taken has no more bytes
abbrev pub longest_batch : ℕ
longest_batch = 4194304

-- the bytes that are lent for its output
abbrev pub read_output : ℕ
read_output = 2097152

abbrev pub is_longer : List ℕ → Bool
is_longer s = ltb longest_batch (length s)

-- ---- the batch s

-- how it ends, where writing all of it ended so
abbrev pub as_written : Result (Unit {0}) Error → Result (Unit {0}) Unprinted
as_written (Ok u) = Ok u
as_written (Err why) = Err (NotWritten why)

unfoldable pub ending_of : List ℕ → Result (Unit {0}) Error → Result (Unit {0}) Unprinted
ending_of s written = cond (is_longer s) (Err TooLong) (as_written written)

-- the output, o before: of a longer batch nothing is checked, of any other it is what `check_batch` leaves
unfoldable pub output_left : List ℕ → List ℕ → List ℕ
output_left s o = cond (is_longer s) o (output_after s o)

pub record PrintedAs (s o o' : List ℕ) (e : Result (Unit {0}) Unprinted) : Type 0 where
  pub written : Result (Unit {0}) Error
  pub ending : e ≡ ending_of s written
  pub output : o' ≡ output_left s o

-- ---- what was read to a buffer b: its first n bytes, or nothing, and then the output stays

abbrev pub ending_read : Result ℕ Error → List ℕ → Result (Unit {0}) Error → Result (Unit {0}) Unprinted
ending_read (Ok n) b written = ending_of (take n b) written
ending_read (Err why) b written = Err (Unreadable why)

abbrev pub output_after_read : Result ℕ Error → List ℕ → List ℕ → List ℕ
output_after_read (Ok n) b o = output_left (take n b) o
output_after_read (Err why) b o = o

pub record ReadAs (read : Result ℕ Error) (b o o' : List ℕ) (e : Result (Unit {0}) Unprinted) : Type 0 where
  pub written : Result (Unit {0}) Error
  pub ending : e ≡ ending_read read b written
  pub output : o' ≡ output_after_read read b o

-- the same of some reading
pub record SomeRead (b o o' : List ℕ) (e : Result (Unit {0}) Unprinted) : Type 0 where
  pub read : Result ℕ Error
  pub left : ReadAs read b o o' e

-- a batch that is taken was read from a reader, and all that is printed for it was written; the number is the length of the output buffer
pub record PrintedFrom (unread left : Option (List ℕ)) (room : ℕ) (old new : Option (List ℕ)) : Type 0 where
  pub batch : List ℕ
  pub read : Consumes unread left batch
  pub taken : length batch ≤ longest_batch
  pub printed : Appends old new (printed_batch batch room)
