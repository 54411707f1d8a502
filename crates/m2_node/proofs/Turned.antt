-- A center has taken a turn, and what it has handed on is dispatched.
use Rattle.std.proofs.Common.{◌≡◌, ◌⊎◌, inl, inr, ℕ, List, [], ◌++◌, map, Some, sym, ap, subst, ◌∙◌}
use Rattle.std.specs.Prelude.{slice_get, slice_set}
use Rattle.m2_dispatch.specs.Heard.{Heard, heard_by}
use Rattle.m2_dispatch.specs.Parcel.{AllOwned, heard_for_all}
use Rattle.m2_dispatch.specs.declared.logged.Logged.{Logged}
use Rattle.m2_dispatch.specs.declared.parcel.Parcel.{Parcel}
use Rattle.m2_dispatch.specs.m2_shared.Gates.{Places, places}
use Rattle.m2_dispatch.specs.m2_shared.declared.throttles.Throttles.{Throttles}
use Rattle.m2_mailbox.specs.Merge.{IsMerge}
use Rattle.m2_script.specs.m2_center.Center.{CenterNow}
use Rattle.m2_script.specs.m2_center.m2_turn.HandingOn.{HandsOn}
use Rattle.m2_node.specs.Dispatching.{DispatcherNow, HasDispatched}
use Rattle.m2_node.specs.Handing.{IsDispatched, handed_by}
use Rattle.m2_node.specs.Way.{PollsSo}
use Rattle.m2_node.proofs.Merging.{merge_at}

-- nothing waited before, so what is last is all of it
all_of_it : (at : Places) (old new : List Logged) (into behind : List Parcel) → into ≡ [] → (on : HandsOn heard_by at old new into behind) → behind ≡ on.more
all_of_it at old new into behind none on = on.last ∙ ap (λ ps. ps ++ on.more) none

pub owned_on : (at : Places) (old new : List Logged) (into behind : List Parcel) → into ≡ [] → HandsOn heard_by at old new into behind → AllOwned at behind
owned_on at old new into behind none on = subst (AllOwned at) (sym (all_of_it at old new into behind none on)) on.owned

pub dispatched_on : (t : Throttles) (cs : List (CenterNow (List Logged))) (j : ℕ) (x y : CenterNow (List Logged)) (d e : DispatcherNow) (into behind : List Parcel) → slice_get cs j ≡ Some x → into ≡ [] →
    HandsOn heard_by (places t) x.queued.inner y.queued.inner into behind → HasDispatched behind d e → IsDispatched t cs d → IsDispatched t (slice_set cs j y) e
dispatched_on t cs j x y d e into behind here none on does is = record {
  at = does.throttles ∙ is.at;
  shared = is.shared;
  handed = λ lasted. subst (IsMerge Heard (map handed_by (slice_set cs j y))) (sym (does.heard lasted))
      (merge_at handed_by cs j x y (heard_by d.log) (heard_for_all behind) here
      (on.heard_more ∙ ap (λ ps. handed_by x ++ heard_for_all ps) (sym (all_of_it (places t) x.queued.inner y.queued.inner into behind none on)))
      (is.handed (does.lasted lasted)));
}

-- what a center has handed on in a turn, where its thread may have waited at the port behind it
pub on_rested : (t u : Throttles) (was x y z : CenterNow (List Logged)) (into behind : List Parcel) → u ≡ t → x ≡ was → (z ≡ y) ⊎ PollsSo y z →
    HandsOn heard_by (places u) x.queued.inner y.queued.inner into behind → HandsOn heard_by (places t) was.queued.inner z.queued.inner into behind
on_rested t u was x y z into behind throttles center waits on =
    subst (λ (q : List Logged). HandsOn heard_by (places t) was.queued.inner q into behind) (sym (queued waits))
    (subst (λ (c : CenterNow (List Logged)). HandsOn heard_by (places t) c.queued.inner y.queued.inner into behind) center
    (subst (λ (v : Throttles). HandsOn heard_by (places v) x.queued.inner y.queued.inner into behind) throttles on))
  where
    queued : (z ≡ y) ⊎ PollsSo y z → z.queued.inner ≡ y.queued.inner
    queued (inl same) = ap (λ (c : CenterNow (List Logged)). c.queued.inner) same
    queued (inr polls) = ap (λ (c : CenterNow (List Logged)). c.queued.inner) polls
