-- Laws of a batch that is read: too long, printed, or not read at all.
use Prim.Native.Nat.{ℕ, ◌<◌, ◌≤◌}
use mathlib.Core.Path.{◌≡◌, refl, ap, ◌∙◌, subst}
use mathlib.Core.Bool.{Bool, true, false, cond}
use mathlib.Core.List.{List}
use lib.ListN.{length, take, drop, replicate, length-replicate}
use borrow.Author.Tests.{lt-ltb, le-ltb, ltb-false}
use Rattle.std.specs.Prelude.{Option, Result, Ok, Err, IfOk, OnOk, MatchResult, IsErrAnd}
use Rattle.std.specs.Io.KnownBytes.{Appends, Consumes}
use Rattle.std.proofs.lemmas.Result.{err_from_is_err_and}
use Rattle.std.specs.declared.io.Error.{Error}
use Rattle.batch.specs.Answer.{output_after}
use Rattle.print_batch.specs.Reading.{longest_batch, is_longer, as_written, ending_of, output_left, PrintedAs, ReadAs, SomeRead, PrintedFrom}
use Rattle.printed_batch.specs.PrintedBatch.{printed_batch}
use Rattle.print_batch.specs.declared.Unprinted.{Unprinted}
use Rattle.print_batch.specs.declared.Unprinted.TheVariants.{Unreadable, TooLong, NotWritten}

pub printed-longer : {s o : List ℕ} → longest_batch < length s → PrintedAs s o o (Err TooLong)
unfolding ending_of output_left
printed-longer {s = s} l = let t = lt-ltb longest_batch (length s) l in record { written = Ok tt; ending = rw t; output = rw t }

-- whether or not all of it could be written
pub printed-as : (w : Result (Unit {0}) Error) {s o o' : List ℕ} → length s ≤ longest_batch → o' ≡ output_after s o → PrintedAs s o o' (as_written w)
unfolding ending_of output_left
printed-as w {s = s} l q = let t = le-ltb longest_batch (length s) l in record { written = w; ending = rw t; output = rw t q }

pub mapped : (r : Result (Unit {0}) Error) (e : Result (Unit {0}) Unprinted) → MatchResult r (λ x. e ≡ Ok x) (λ w. IsErrAnd e (λ y. y ≡ NotWritten w)) → e ≡ as_written r
mapped (Ok x) e m = m
mapped (Err w) e m = let p = err_from_is_err_and e m in p.1 ∙ ap Err p.2

-- nothing could be read
pub failed : (r : Result ℕ Error) (why : Unprinted) (b o : List ℕ) → MatchResult r (λ x. ◌≡◌ {A = Result ℕ Unprinted} (Err why) (Ok x)) (λ w. why ≡ Unreadable w) → SomeRead b o o (Err why)
failed (Ok n) why b o m = cc
failed (Err w) why b o m = record { read = Err w; left = record { written = Ok tt; ending = ap Err m; output = refl } }

-- n bytes were
pub read_ok : (r : Result ℕ Error) (n : ℕ) → MatchResult r (λ x. ◌≡◌ {A = Result ℕ Unprinted} (Ok n) (Ok x)) (λ w. ⊥) → r ≡ Ok n
read_ok (Ok m) n h = cc
read_ok (Err w) n h = absurd h

-- what was printed of n bytes that were read
pub read_as : {read : Result ℕ Error} {n : ℕ} {b o o' t : List ℕ} {e : Result (Unit {0}) Unprinted} → read ≡ Ok n → PrintedAs t o o' e → t ≡ take n (drop 0 b) → ReadAs read b o o' e
read_as {n = n} {b = b} {o = o} {o' = o'} {e = e} k p q = let r : PrintedAs (take n b) o o' e = rw (← q) p in record { written = r.written; ending = rw k r.ending; output = rw k r.output }

pub nothing_read : {read : Result ℕ Error} {why : Error} {b o : List ℕ} → read ≡ Err why → ReadAs read b o o (Err (Unreadable why))
nothing_read k = record { written = Ok tt; ending = rw k; output = rw k }

-- a batch that is printed isn't too long
taken : {s o o' : List ℕ} {u : Unit {0}} → PrintedAs s o o' (Ok u) → length s ≤ longest_batch
unfolding ending_of
taken {s} {u = u} v = arm (is_longer s) refl v.ending
  where
    arm : (x : Bool) → is_longer s ≡ x → Ok u ≡ cond x (Err TooLong) (as_written v.written) → length s ≤ longest_batch
    arm true e h = cc
    arm false e h = ltb-false longest_batch (length s) e

pub printed-from : {s o o' : List ℕ} (e : Result (Unit {0}) Unprinted) (a b old new : Option (List ℕ)) (room : ℕ) → OnOk e (Appends old new (printed_batch s room)) → PrintedAs s o o' e → Consumes a b s → OnOk e (PrintedFrom a b room old new)
printed-from {s} (Ok u) a b old new room p v c = record { batch = s; read = c; taken = taken v; printed = p }
printed-from (Err why) a b old new room p v c = tt

-- the same of a reading that is given
pub printed-read : (r : Result ℕ Error) {s o o' : List ℕ} (e : Result (Unit {0}) Unprinted) (a b old new : Option (List ℕ)) (room : ℕ) → IfOk r (λ n. Consumes a b (take n s)) → IfOk r (λ n. OnOk e (Appends old new (printed_batch (take n s) room))) → ReadAs r s o o' e → OnOk e (PrintedFrom a b room old new)
printed-read (Ok n) e a b old new room c p v = printed-from e a b old new room p (record { written = v.written; ending = v.ending; output = v.output }) c
printed-read (Err w) e a b old new room c p v = rw v.ending tt

-- an output of so many bytes
pub lent-room : (e : Result (Unit {0}) Unprinted) (a b old new : Option (List ℕ)) (n : ℕ) → OnOk e (PrintedFrom a b (length {A = ℕ} (replicate n 0)) old new) → OnOk e (PrintedFrom a b n old new)
lent-room e a b old new n v = subst (λ m. OnOk e (PrintedFrom a b m old new)) (length-replicate {A = ℕ} n 0) v

-- an array has room for more bytes than m, if its length is above; of any length, since large ones can't be counted out
pub room-for-more : (m n : ℕ) → m < n → m < length {A = ℕ} (replicate n 0)
room-for-more m n l = rw (length-replicate {A = ℕ} n 0) l
