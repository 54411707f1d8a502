-- The records of a scenario's node before its first line did nothing, and each is between the node and another.
use Rattle.std.proofs.Common.{◌≡◌, ◌==◌, ◌<◌, ◌+◌, inl, inr, ℕ, false, List, [], ◌∷◌, length, map, Some, refl, sym, ap, subst, ◌∙◌, arith}
use Rattle.std.specs.Prelude.{slice_get}
use Rattle.std.specs.List.{AllByRecursion}
use Rattle.std.proofs.lemmas.Option.{get_or_from_slice_get, slice_get_within}
use Rattle.m2_fabric.specs.m2_addr.declared.addr.TheConstants.Addr.{MSGR2}
use Rattle.m2_lives.specs.m2_bytes_fit.Halves.{KeepsRanges}
use Rattle.m2_script.specs.m2_record.IsRecord.{IsRecord}
use Rattle.m2_script.specs.m2_record.RecordNow.{RecordNow, ends_of}
use Rattle.m2_promise.specs.Beginning.{IsUnused}
use Rattle.m2_promise.specs.Running.{IsRecordAt}
use Rattle.m2_promise.specs.Planned.{IsTaken}
use Rattle.m2_scenario.specs.declared.link.Link.{Link}
use Rattle.m2_scenario.specs.declared.node.Node.{Node}
use Rattle.m2_scenario.specs.Draft.{DraftLine}
use Rattle.m2_scenario.specs.Valid.{HasMsgr2, IsLink, IsSound}
use Rattle.m2_script.specs.Made.{records_of, roomless}
use Rattle.m2_script.specs.Nodes.{HasNodeRanges, address_of}
use Rattle.m2_script.proofs.Apart.{get_address}
use Rattle.m2_script.proofs.Over.{IsOver, JoinsSo, all_so, joins_so}
use Rattle.m2_fabric.proofs.m2_lemmas.Lists.{all_at}

-- what two facts of each give
all_both : (P Q R : RecordNow → Type 0) → ((r : RecordNow) → P r → Q r → R r) → (rs : List RecordNow) → AllByRecursion P rs → AllByRecursion Q rs → AllByRecursion R rs
all_both P Q R so [] p q = tt
all_both P Q R so (r ∷ rs) p q = (so r p.0 q.0, all_both P Q R so rs p.1 q.1)

-- a record with nothing in it
record IsEmpty (r : RecordNow) : Type 0 where
  journal : r.journal ≡ []
  trails : r.trails ≡ []
  ends : ends_of r ≡ []
  handed : r.handed ≡ 0
  plan : r.plan ≡ []

module _ (nodes : List Node) (links : List Link) (lines : List DraftLine) (sound : IsSound nodes links lines) (ranges : AllByRecursion HasNodeRanges nodes) (k : ℕ) (rs : List RecordNow) (is : map roomless rs ≡ records_of nodes links k (k + 1)) where
  none_in : (l : Link) (r : RecordNow) → IsLink (length nodes) l → IsOver nodes k (k + 1) l r → IsEmpty r
  none_in l r fits v = subst IsEmpty (sym v.is) (record { journal = refl; trails = refl; ends = refl; handed = refl; plan = refl })

  all_empty : AllByRecursion IsEmpty rs
  all_empty = all_so nodes links lines sound k (k + 1) rs is IsEmpty IsEmpty none_in (λ r e. record { journal = e.journal; trails = e.trails; ends = e.ends; handed = e.handed; plan = e.plan })

  pub all_unused : AllByRecursion IsRecord rs → AllByRecursion IsUnused rs
  all_unused are = all_both IsRecord IsEmpty IsUnused (λ r p e. record { is = p; journal = e.journal; trails = e.trails; ends = e.ends }) rs are all_empty

  pub none_handed : AllByRecursion (λ (r : RecordNow). r.handed ≡ 0) rs
  none_handed = all_both IsEmpty IsEmpty (λ (r : RecordNow). r.handed ≡ 0) (λ r e f. e.handed) rs all_empty all_empty

  pub no_plans : AllByRecursion (λ (r : RecordNow). r.plan ≡ []) rs
  no_plans = all_both IsEmpty IsEmpty (λ (r : RecordNow). r.plan ≡ []) (λ r e f. e.plan) rs all_empty all_empty

  pub all_taken : AllByRecursion IsTaken rs
  all_taken = all_both IsEmpty IsEmpty IsTaken (λ r e f. ap (λ steps. slice_get steps r.steps) e.plan) rs all_empty all_empty

  -- ---- between the node and another

  of_msgr2 : (x : Node) → slice_get nodes k ≡ Some x → x.at.kind ≡ MSGR2
  of_msgr2 x e = subst HasMsgr2 (get_or_from_slice_get nodes k x x e) (sound.msgr2 k x (slice_get_within nodes k x e))

  in_range : (l : Link) (r : RecordNow) → IsOver nodes k (k + 1) l r → KeepsRanges r.core.facts
  in_range l r v =
      let mine : HasNodeRanges v.mine = all_at HasNodeRanges nodes k v.mine v.mine_there ranges in
      let peer : HasNodeRanges v.peer = all_at HasNodeRanges nodes r.place v.peer v.peer_there ranges in
      let few : k < length nodes = slice_get_within nodes k v.mine v.mine_there in
      subst KeepsRanges (sym (ap (λ (s : RecordNow). s.core.facts) v.is)) (record {
        entity = mine.entity;
        peer = peer.at;
        mine = mine.at;
        kind = of_msgr2 v.mine v.mine_there;
        place = omega (arith, few, sound.few_nodes);
        supports = mine.supports;
        requires_ = mine.requires_;
      })

  is_other : (l : Link) (r : RecordNow) → IsLink (length nodes) l → IsOver nodes k (k + 1) l r → (r.place == k) ≡ false
  is_other l r fits v = go (joins_so k r.place l v.joined)
    where
      apart : (a b : ℕ) → (a ≡ b → ⊥) → (a == b) ≡ false
      apart a b differ = grind (arith, differ)

      go : JoinsSo k r.place l → (r.place == k) ≡ false
      go (inl e) = apart r.place k (λ same. fits.different (e.0 ∙ sym (e.1 ∙ same)))
      go (inr e) = apart r.place k (λ same. fits.different (e.0 ∙ same ∙ sym e.1))

  at_side : (l : Link) (r : RecordNow) → IsLink (length nodes) l → IsOver nodes k (k + 1) l r → IsRecordAt (map address_of nodes) k r
  at_side l r fits v = record {
    mine = get_address nodes k v.mine v.mine_there ∙ ap Some (sym (ap (λ (s : RecordNow). s.core.facts.mine) v.is));
    peer = get_address nodes r.place v.peer v.peer_there ∙ ap Some (sym (ap (λ (s : RecordNow). s.core.facts.peer) v.is));
    other = is_other l r fits v;
    ranges = in_range l r v;
  }

  pub all_sides : AllByRecursion (IsRecordAt (map address_of nodes) k) rs
  all_sides =
      all_so nodes links lines sound k (k + 1) rs is (IsRecordAt (map address_of nodes) k) (IsRecordAt (map address_of nodes) k) at_side
      (λ r a. record { mine = a.mine; peer = a.peer; other = a.other; ranges = a.ranges })
