-- Through a history of two lossless sides all that was posted stays in their queues' histories, and no full reset is obeyed.
use Rattle.std.proofs.Common.{◌≡◌, ℕ, ◌+◌, not, true, false, List, [], ◌∷◌, length, Option, Some, None, sym, subst, arith}
use Rattle.std.specs.List.{AllByRecursion}
use Rattle.m2_queues.specs.QueueLaws.{EachPriorityKeepsItsOrder}
use Rattle.m2_session.specs.declared.event.Event.TheVariants as event
use Rattle.m2_journal.specs.Items as item
use Rattle.m2_journal.specs.Items.{JournalItem}
use Rattle.m2_journal.specs.Lawful.{Lawful, MayObey, OnFeedAt}
use Rattle.m2_journal.specs.Replay.{after_items}
use Rattle.m2_journal.specs.SideFacts.{SideFacts}
use Rattle.m2_journal.specs.State.{Feed, State, start}
use Rattle.m2_journal.specs.Steps.{after, event_on}
use Rattle.m2_never_reset.specs.CrossingLaws.{CookiesAreMints, LosslessIsInOrder}
use Rattle.m2_never_reset.specs.Link.{new_link}
use Rattle.m2_never_reset.specs.Steps.{Run, done}
use Rattle.m2_never_reset.specs.LinkOf.{role_of, letters, link_of}
use Rattle.m2_never_reset.specs.Orders.{SideItem, near_item, far_item, near_items, far_items, near_after, far_after, trouble_in}
use Rattle.m2_never_reset.specs.Orders.{AreNodes, NoTroubleInHistories, MessagesComeInOrder, AcceptedIsSettled, posted_in, posts_in, IsNoFullReset, LosslessIsNeverReset}
use Rattle.m2_never_reset.specs.Trouble.{trouble_at, trouble_told}
use Rattle.m2_never_reset.proofs.Lossless.{sides}
use Rattle.m2_never_reset.proofs.Orders.{Known, IsOrder, order_of, IsReached, replayed, at_start, ends}
use Rattle.m2_never_reset.proofs.Posted.{Goes, entry-goes, as_posted, goes_on, same}

-- ---- resets

none_full : (f : SideFacts) (i : JournalItem) (s other : State) → Lawful f i s → trouble_at f i s other ≡ 0 → IsNoFullReset i
none_full f (item.obeyed true) s other l e = at s.feed l e
  where
    at : (o : Option Feed) → OnFeedAt o (MayObey s true) →
        trouble_told (event_on o (λ d. Some (event.GotReset true))) s.session (length (letters s.deliveries) + length (letters other.deliveries)) ≡ 0 → ⊥
    at (Some d) may z = omega (arith, z)
    at None may z = may
none_full f (item.obeyed false) s other l e = tt
none_full f _ s other l e = tt

obey_none : (f g : SideFacts) (order : List SideItem) (a b : State) → IsOrder f g order a b → trouble_in f g order a b ≡ 0 →
    AllByRecursion IsNoFullReset (near_items order) × AllByRecursion IsNoFullReset (far_items order)
obey_none f g [] a b h e = (tt, tt)
obey_none f g (near_item i ∷ more) a b h e =
    let rest = obey_none f g more (after f i a) b h.1 (omega (arith, e)) in
    ((none_full f i a b h.0.lawful (omega (arith, e)), rest.0), rest.1)
obey_none f g (far_item i ∷ more) a b h e =
    let rest = obey_none f g more a (after g i b) h.1 (omega (arith, e)) in
    (rest.0, (none_full g i b a h.0.lawful (omega (arith, e)), rest.1))

-- ---- posts

module _ (known : Known) (mints : CookiesAreMints) (ordered : LosslessIsInOrder) (queues : EachPriorityKeepsItsOrder) where
  module _ (f g : SideFacts) (nodes : AreNodes f g) where
    abbrev Leads : (n : ℕ) (a b : State) → Type 0
    Leads n a b = Run (role_of f) (role_of g) new_link (link_of n a b)

    through : (n : ℕ) (order : List SideItem) (a b : State) → IsReached f g a b → IsOrder f g order a b → Leads n a b → trouble_in f g order a b ≡ 0 →
        Goes a.out (posts_in (near_items order)) (after_items f (near_items order) a).out × Goes b.out (posts_in (far_items order)) (after_items g (far_items order) b).out
    through n [] a b reached h run e = (same a.out, same b.out)
    through n (near_item i ∷ more) a b reached h run e =
        let base = (ordered (role_of f) (role_of g) (link_of n a b) (sides mints f g nodes) run).far.base in
        let one = ends known f g nodes.near_keeps nodes.far_keeps n (near_item i ∷ []) a b reached (h.0, tt) in
        let first = entry-goes f i a b h.0.not_down (omega (arith, e)) (λ z. omega (arith, z, base)) in
        let next : Leads (n + (trouble_at f i a b + 0)) (after f i a) b =
        known.go_on (role_of f) (role_of g) new_link (link_of n a b) (link_of (n + (trouble_at f i a b + 0)) (after f i a) b) run one.run in
        let rest = through (n + (trouble_at f i a b + 0)) more (after f i a) b one.reached h.1 next (omega (arith, e)) in
        (goes_on a.out (after f i a).out (after_items f (near_items more) (after f i a)).out (posted_in i) (posts_in (near_items more)) first rest.0, rest.1)
    through n (far_item i ∷ more) a b reached h run e =
        let base = (ordered (role_of f) (role_of g) (link_of n a b) (sides mints f g nodes) run).near.base in
        let one = ends known f g nodes.near_keeps nodes.far_keeps n (far_item i ∷ []) a b reached (h.0, tt) in
        let first = entry-goes g i b a h.0.not_down (omega (arith, e)) (λ z. omega (arith, z, base)) in
        let next : Leads (n + (trouble_at g i b a + 0)) a (after g i b) =
        known.go_on (role_of f) (role_of g) new_link (link_of n a b) (link_of (n + (trouble_at g i b a + 0)) a (after g i b)) run one.run in
        let rest = through (n + (trouble_at g i b a + 0)) more a (after g i b) one.reached h.1 next (omega (arith, e)) in
        (rest.0, goes_on b.out (after g i b).out (after_items g (far_items more) (after g i b)).out (posted_in i) (posts_in (far_items more)) first rest.1)

  pub never_reset : NoTroubleInHistories → MessagesComeInOrder → AcceptedIsSettled → LosslessIsNeverReset
  never_reset none comes settled f g order nodes history =
      let quiet = none f g order nodes history in
      let in_turn = order_of f g order history in
      let start_of_both = at_start known f g in
      let new_run : Leads f g nodes 0 (start f) (start g) = subst (λ l. Run (role_of f) (role_of g) new_link l) (sym (known.new.link f g)) (done new_link) in
      let posted = through f g nodes 0 order (start f) (start g) start_of_both in_turn new_run quiet in
      let reached = (ends known f g nodes.near_keeps nodes.far_keeps 0 order (start f) (start g) start_of_both in_turn).reached in
      let obeyed = obey_none f g order (start f) (start g) in_turn quiet in
      let over = comes f g order nodes history in
      record {
        no_trouble = quiet;
        near_obeys_none = obeyed.0;
        far_obeys_none = obeyed.1;
        cookies = settled f g order nodes history;
        brought_over = over;
        near_posted = λ key. as_posted queues f key (not g.policy.lossy) (far_after g order).out (letters (near_after f order).deliveries) (posts_in (far_items order))
            (replayed known g (far_after g order) reached.far).sound.queue posted.1 over.near.prefix;
        far_posted = λ key. as_posted queues g key (not f.policy.lossy) (near_after f order).out (letters (far_after g order).deliveries) (posts_in (near_items order))
            (replayed known f (near_after f order) reached.near).sound.queue posted.0 over.far.prefix;
      }
