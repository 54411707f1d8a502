-- A record stays supplied by what it works with.
use Rattle.m2_shared.specs.Gates.{places}
use Rattle.std.proofs.Common.{◌≡◌, ℕ, Bool, true, false, List, Option, Some, None, Ok, Err, sym, subst, cond}
use Rattle.std.specs.Prelude.{IfSome, IsSome, Result}
use Rattle.m2_fabric.specs.declared.end.News.{News}
use Rattle.m2_fabric.specs.declared.socket.SocketId.{SocketId}
use Rattle.m2_fabric.specs.End.{SeenEnd}
use Rattle.m2_feed.specs.FeedNow.{FeedNow}
use Rattle.m2_journal.specs.declared.facts.PlanStep.{PlanStep}
use Rattle.m2_session.specs.declared.event.Event.TheVariants as event
use Rattle.m2_record.specs.Calls.{AddsStep, Connects, after_missing, after_news, is_feed, with_opened}
use Rattle.m2_record.specs.m2_core.Calls.{IsOpening}
use Rattle.m2_record.specs.RecordNow.{RecordNow}
use Rattle.m2_record.proofs.Owning.{tells-owned}
use Rattle.m2_record_trace.specs.SideNow.{IsSupplied, Means}
use Rattle.m2_bytes.proofs.m2_lemmas.Booleans.{false_isnt_true}

pub supplied_same : (m : Means) (old new : RecordNow) → new ≡ old → IsSupplied m old → IsSupplied m new
supplied_same m old new e h = subst (IsSupplied m) (sym e) h

pub supplied_planned : (answer : Result (Unit {0}) PlanStep) (x : PlanStep) (m : Means) (old new : RecordNow) → AddsStep answer x old new → IsSupplied m old → IsSupplied m new
supplied_planned (Ok _) x m old new e h = subst (IsSupplied m) (sym e) (record { owned = record { feed = h.owned.feed; parcels = h.owned.parcels }; top = h.top })
supplied_planned (Err back) x m old new e h = subst (IsSupplied m) (sym e.1) h

either_supplied : (b : Bool) (m : Means) (x y : RecordNow) → IsSupplied m x → IsSupplied m y → IsSupplied m (cond b x y)
either_supplied true m x y h k = h
either_supplied false m x y h k = k

pub supplied_heard : (socket : SocketId) (news : News) (bytes : List ℕ) (m : Means) (r : RecordNow) → IsSupplied m r → IsSupplied m (after_news socket news bytes r)
supplied_heard socket news bytes m r h =
    either_supplied (is_feed socket r) m _ _ (record { owned = record { feed = h.owned.feed; parcels = h.owned.parcels }; top = h.top }) (record { owned = record { feed = h.owned.feed; parcels = h.owned.parcels }; top = h.top })

pub supplied_missed : (now : ℕ) (m : Means) (r : RecordNow) → IsSupplied m r → IsSupplied m (after_missing now r)
supplied_missed now m r h = record { owned = record { feed = h.owned.feed; parcels = h.owned.parcels }; top = h.top }

pub supplied_room : (m : Means) (old new : RecordNow) → new ≡ record old { room = new.room } → IsSupplied m old → IsSupplied m new
supplied_room m old new e h = subst (IsSupplied m) (sym e) (record { owned = record { feed = h.owned.feed; parcels = h.owned.parcels }; top = h.top })

-- ---- a socket that was opened

opened_at : (o : Option FeedNow) (end : SeenEnd) (m : Means) (old new : RecordNow) → IfSome o (λ v. IsOpening old.core.facts end v × (new ≡ record (with_opened v end.id old) { room = new.room })) → IsSome o → IsSupplied m old → IsSupplied m new
opened_at (Some v) end m old new h s k = subst (IsSupplied m) (sym h.1) (record { owned = record { feed = tells-owned event.Dialled (places m.throttles) old.core.live k.owned.feed; parcels = k.owned.parcels }; top = k.top })
opened_at None end m old new h s k = absurd (false_isnt_true s)

pub supplied_opened : (end : SeenEnd) (m : Means) (old new : RecordNow) → Connects end old new → IsSupplied m old → IsSupplied m new
supplied_opened end m old new h k = opened_at new.core.live.feed end m old new h.0 h.1 k
