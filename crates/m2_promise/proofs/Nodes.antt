-- A node that takes a turn, and one whose ends are told of the other side: it is kept still, and its plans are as they were.
use Rattle.std.proofs.Common.{◌≡◌, ℕ, List, [], ◌∷◌, ◌++◌, None, Ok, refl, sym, ap, ◌∙◌, append-nil}
use Rattle.std.specs.List.{AllByRecursion}
use Rattle.m2_dispatch.specs.Heard.{Heard}
use Rattle.m2_links_go_on.specs.m2_weave.m2_journal.SideFacts.{SideFacts}
use Rattle.m2_script.specs.m2_record.Due.{next_step}
use Rattle.m2_script.specs.m2_record.IsRecord.{IsRecord}
use Rattle.m2_script.specs.m2_record.RecordNow.{RecordNow}
use Rattle.m2_script.specs.m2_center.Center.{CenterNow}
use Rattle.m2_script.specs.m2_center.Reaching.{rest_in}
use Rattle.m2_script.specs.m2_cluster.Node.{IsWholeNode, NodeNow, NodeTurns, rest_of_node}
use Rattle.m2_links_go_on.specs.m2_growth.Holding.{AreOwn}
use Rattle.m2_links_go_on.specs.m2_growth.Records.{RecordsGrow}
use Rattle.m2_links_go_on.specs.Center.{holding_of}
use Rattle.m2_links_go_on.specs.ClusterTold.{OneByOne, SameRecord}
use Rattle.m2_links_go_on.proofs.Turning.{turn_grows}
use Rattle.m2_links_go_on.proofs.Untold.{same_records}
use Rattle.m2_links_go_on.proofs.CenterTurns.{turns_stay_logged}
use Rattle.m2_links_go_on.proofs.Rest.{rest_stays_logged}
use Rattle.m2_script.specs.Made.{side_of}
use Rattle.m2_script.specs.Script.{Deed}
use Rattle.m2_promise.specs.Planned.{GoesOnBy, IsKeptNode, IsTaken, steps_for}
use Rattle.m2_links_go_on.proofs.KeptPlans.{KeepPlans, planned_of}
use Rattle.m2_links_go_on.proofs.PeerTurns.{rest_stays_of_peers, turn_keeps_plans}
use Rattle.m2_promise.proofs.PlanLists.{all_over, each_so}
use Rattle.m2_promise.proofs.Taken.{no_fewer, taken_still}

-- ---- a record whose plan is as it was

pub record IsSameSide (r s : RecordNow) : Type 0 where
  pub side : side_of s ≡ side_of r
  pub plan : s.plan ≡ r.plan

pub same_side : (r : RecordNow) → IsSameSide r r
same_side r = record { side = refl; plan = refl }

pub side_by : (r s : RecordNow) → s.place ≡ r.place → s.core.facts ≡ r.core.facts → side_of s ≡ side_of r
side_by r s place facts = ap (λ p. record { place = p; facts = s.core.facts }) place ∙ ap (λ (f : SideFacts). record { place = r.place; facts = f }) facts

-- it goes on by deeds that plan nothing for it
pub goes_on_still : (i : ℕ) (ds : List Deed) (r s : RecordNow) → steps_for i r.place ds ≡ [] → IsSameSide r s → GoesOnBy i ds r s
goes_on_still i ds r s none same = record { side = same.side; plan = same.plan ∙ sym (append-nil r.plan) ∙ ap (λ l. r.plan ++ l) (sym none) }

-- ---- a node

-- it is kept, and its plans are as they were
pub record StaysKept {D : Type 0} (heard : D → List Heard) (old new : NodeNow D) : Type 0 where
  pub kept : IsKeptNode heard new
  pub sides : OneByOne IsSameSide old.center.records new.center.records

-- ---- its turn

same_sides : (rs ss : List RecordNow) → RecordsGrow rs ss → KeepPlans rs ss → OneByOne IsSameSide rs ss
same_sides [] [] g e = tt
same_sides (r ∷ rs) (s ∷ ss) g e =
    let first : planned_of s ≡ planned_of r = cc in
    let rest : KeepPlans rs ss = cc in
    (record { side = side_by r s g.0.place g.0.facts; plan = ap (λ p. p.1) first }, same_sides rs ss g.1 rest)
same_sides [] (s ∷ ss) g e = absurd g
same_sides (r ∷ rs) [] g e = absurd g

all_taken : (rs ss : List RecordNow) → RecordsGrow rs ss → OneByOne IsSameSide rs ss → AllByRecursion IsRecord rs → AllByRecursion IsRecord ss →
    AllByRecursion IsTaken rs → AllByRecursion IsTaken ss
all_taken [] [] g e are later all = tt
all_taken (r ∷ rs) (s ∷ ss) g e are later all = (
  taken_still r s e.0.plan (no_fewer r s are.0 later.0 g.0.journal) all.0,
  all_taken rs ss g.1 e.1 are.1 later.1 all.1,
)
all_taken [] (s ∷ ss) g e are later all = absurd g
all_taken (r ∷ rs) [] g e are later all = absurd g

module _ {D : Type 0} (heard : D → List Heard) where
  pub turn_stays_kept : (E : Type 0) (now : ℕ) (old new : NodeNow D) → NodeTurns E heard now (Ok tt) old new → AreOwn (holding_of old.center) → IsWholeNode old →
      IsWholeNode new →
      IsKeptNode heard old → StaysKept heard old new
  turn_stays_kept E now old new t own whole later kept =
      let grown = (turn_grows D E heard _ (Ok tt) old.center new.center t.turns own).grows.records in
      let plans = turn_keeps_plans E heard _ (Ok tt) old.center new.center t.turns kept.peers in
      let sides = same_sides old.center.records new.center.records grown plans.0 in
      record {
        kept = record {
          logged = turns_stay_logged E heard _ (Ok tt) old.center new.center t.turns own whole.records later.records kept.logged;
          taken = all_taken old.center.records new.center.records grown sides whole.records later.records kept.taken;
          peers = plans.1;
        };
        sides = sides;
      }

  -- ---- what its ends are told

  told_side : (r s : RecordNow) → SameRecord r s → IsSameSide r s
  told_side r s same = record { side = side_by r s same.place same.facts; plan = same.plan }

  told_taken : (r s : RecordNow) → SameRecord r s → IsTaken r → IsTaken s
  told_taken r s same taken = ap next_step same.all ∙ taken

  pub told_stays_kept : (old new : NodeNow D) → rest_of_node new ≡ rest_of_node old → IsKeptNode heard old → StaysKept heard old new
  told_stays_kept old new e kept =
      let rest : rest_in new.center ≡ rest_in old.center = ap (λ (x : NodeNow D). record x.center { port = record x.center.port { waiting = None } }) e in
      let same = same_records old.center.records new.center.records (ap (λ (c : CenterNow D). c.records) rest) in
      record {
        kept = record {
          logged = rest_stays_logged heard old.center new.center rest kept.logged;
          taken = all_over SameRecord IsTaken IsTaken told_taken old.center.records new.center.records same kept.taken;
          peers = rest_stays_of_peers heard old.center new.center rest kept.peers;
        };
        sides = each_so SameRecord IsSameSide told_side old.center.records new.center.records same;
      }
