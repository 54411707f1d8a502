-- What was granted for all that a center holds.
use Rattle.m2_shared.specs.Gates.{pass_places}
use Rattle.std.proofs.Common.{List, [], ◌∷◌, ◌++◌}
use Rattle.std.specs.List.{AllByRecursion}
use Rattle.m2_fabric.specs.declared.socket.SocketId.{SocketId}
use Rattle.m2_record.specs.Calls.{Owns}
use Rattle.m2_record.specs.RecordNow.{RecordNow}
use Rattle.m2_center.specs.Center.{CenterNow, IsCenter}
use Rattle.m2_center.specs.Finishing.{AllOwn, IsGranted, rest_of}
use Rattle.m2_turn.specs.Sessions.{IsSupplied, Supply}
use Rattle.m2_bytes.proofs.m2_lemmas.Lists.{all_so}

pub all_own : (s : Supply) (made : List SocketId) (rs : List RecordNow) → AllByRecursion (IsSupplied s made) rs → AllOwn s.places rs
all_own s made rs all = all_so (IsSupplied s made) (Owns s.places) (λ r is. is.owned) rs all

pub rest_granted : {D : Type 0} (c : CenterNow D) → IsCenter c → IsGranted (pass_places c.bytes) (rest_of c)
rest_granted c is = record {
  records = all_own (record { places = pass_places c.bytes; least = c.numbers.least }) c.port.made c.records is.consistent.records;
  out = is.out;
  queued = is.queued;
}

-- of those before the last, and of it
pub before_last : {X : Type 0} (P : X → Type 0) (xs : List X) (x : X) → AllByRecursion P (xs ++ x ∷ []) → AllByRecursion P xs × P x
before_last P [] x all = (tt, all.0)
before_last P (y ∷ xs) x all = let rest = before_last P xs x all.1 in ((all.0, rest.0), rest.1)
