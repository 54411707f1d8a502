-- What is handed on in a turn whose first stages leave the queue as it was.
use Rattle.std.proofs.Common.{◌≡◌, List, [], sym, ap, subst, ◌∙◌, append-nil}
use Rattle.m2_dispatch.specs.Heard.{Heard}
use Rattle.m2_dispatch.specs.Dispatch.{Queued}
use Rattle.m2_dispatch.specs.declared.parcel.Parcel.{Parcel}
use Rattle.m2_shared.specs.Gates.{Places}
use Rattle.m2_turn.specs.HandingOn.{HandsOn}

-- nothing is handed on
pub kept_on : {D : Type 0} (heard : D → List Heard) (places : Places) (old new : Queued D) (into : List Parcel) → new ≡ old → HandsOn heard places old.inner new.inner into into
kept_on {D} heard places old new into same = record {
  more = [];
  last = sym (append-nil into);
  heard_more = ap (λ (q : Queued D). heard q.inner) same ∙ sym (append-nil (heard old.inner));
  no_discard = tt;
  owned = tt;
}

-- what is handed on behind them
pub on_behind : {D : Type 0} (heard : D → List Heard) (places : Places) (old mid new : Queued D) (into behind : List Parcel) → mid ≡ old → HandsOn heard places mid.inner new.inner into behind →
    HandsOn heard places old.inner new.inner into behind
on_behind {D} heard places old mid new into behind same on = subst (λ (q : Queued D). HandsOn heard places q.inner new.inner into behind) same on
