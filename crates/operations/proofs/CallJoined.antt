-- Where a call is done, its result's words join to the operation on the joined operands: Joined, with what Answering says of that answer.
use mathlib.Core.Path.{refl}
use mathlib.Core.List.{List}
use Prim.Native.Nat.{ℕ}
use lib.ListN.{length}
use borrow.Author.Tests.{eq-eqb}
use Rattle.masked_call.specs.Shares.{call_answer}
use Rattle.operations.specs.Masked.{Joins, CallJoins}
use Rattle.masked_call.proofs.Answering.{ready}

pub call_joins : (plan : List ℕ) (op : ℕ → ℕ → ℕ) → Joins plan op → CallJoins plan op
call_joins plan op joins x y result work tape wx wy wt e =
    let r = ready plan (length x) (length y) (length result) (length work) (length tape) (call_answer plan x y result work tape) refl e in
    rw (eq-eqb _ 0 e)
    (joins (length x) r.least r.most x y tape (record { size = refl; words = wx }) (record { size = r.others; words = wy }) wt r.enough)
