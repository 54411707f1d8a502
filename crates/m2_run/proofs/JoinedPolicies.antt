-- The two records of a link have the link's policies, and numbers of two different nodes.
use Rattle.std.proofs.Common.{◌≡◌, ◌≢◌, ℕ, suc, ◌<◌, ◌≤◌, ◌%◌, ◌^◌, ◌⊎◌, inl, inr, Bool, true, false, ◌&&◌, ◌==◌, if◌then◌else◌, List, [], ◌∷◌, ◌++◌, get_or, Option, Some, None, refl, sym, ap, subst, ◌∙◌, arith}
use Rattle.std.specs.Prelude.{AllPairs, slice_get}
use Rattle.std.specs.List.{AllByRecursion}
use Rattle.std.specs.Option.{option_to_list}
use Rattle.std.proofs.lemmas.Bool.{cases_lt, eq-eqb, eqb-true}
use Rattle.std.proofs.lemmas.Option.{get_or_from_slice_get, none-some, same_Some, slice_get_within}
use Rattle.m2_bytes.proofs.m2_lemmas.Booleans.{both_true, or_left, or_right}
use Rattle.m2_node.specs.m2_script.m2_center.Center.{CenterNow}
use Rattle.m2_node.specs.m2_links_go_on.Made.{SideMade, node_made, side_made}
use Rattle.m2_dispatch.specs.declared.logged.Logged.{Logged}
use Rattle.m2_node.specs.m2_links_go_on.m2_history.m2_channel.m2_never_reset.Orders.{AreNodes}
use Rattle.m2_node.specs.m2_links_go_on.m2_history.m2_channel.Lossy.{AreLossy}
use Rattle.m2_journal.specs.SideFacts.{SideFacts}
use Rattle.m2_policy.specs.Policy.{allows}
use Rattle.m2_policy.specs.declared.policy.Policy.{Policy}
use Rattle.m2_node.specs.m2_script.m2_record.RecordNow.{RecordNow}
use Rattle.m2_scenario.specs.Draft.{joins}
use Rattle.m2_scenario.specs.Valid.{JoinOthers}
use Rattle.m2_scenario.specs.declared.line.Line.{Line}
use Rattle.m2_scenario.specs.declared.link.Link.{Link}
use Rattle.m2_scenario.specs.declared.node.Node.{Node}
use Rattle.m2_node.specs.m2_script.Made.{new_towards, other_of, over, records_of}
use Rattle.m2_node.specs.m2_script.declared.made.Towards.{Towards}
use Rattle.m2_run.proofs.JoinedSides.{sides_are, through}
use Rattle.m2_run.proofs.SideLists.{all_filtered}
use Rattle.m2_node.specs.Homes.{at_home, is_at_home}
use Rattle.m2_node.specs.Planned.{side_in, waiting}
use Rattle.m2_node.specs.Way.{made_in}

-- ---- a link that is joined by a record

-- the other node of a link of the node at place k, and this one's policy towards it
pub record LeadsTo (k : ℕ) (m : Link) (place : ℕ) (policy : Policy) : Type 0 where
  pub which : ((m.a ≡ k) × (m.b ≡ place) × (m.of_a ≡ policy)) ⊎ ((m.b ≡ k) × (m.a ≡ place) × (m.of_b ≡ policy))

leads_to : (k : ℕ) (m : Link) (t : Towards) → other_of k m ≡ Some t → LeadsTo k m t.place t.policy
leads_to k m t e = by (m.a == k) (m.b == k) refl refl e
  where
    by : (x y : Bool) → (m.a == k) ≡ x → (m.b == k) ≡ y →
        (if x then Some (record { place = m.b; policy = m.of_a }) else if y then Some (record { place = m.a; policy = m.of_b }) else None) ≡ Some t → LeadsTo k m t.place t.policy
    by true y p q h =
        let same : record { place = m.b; policy = m.of_a } ≡ t = same_Some (record { place = m.b; policy = m.of_a }) t h in
        record { which = inl (eqb-true m.a k p, ap (λ (o : Towards). o.place) same, ap (λ (o : Towards). o.policy) same) }
    by false true p q h =
        let same : record { place = m.a; policy = m.of_b } ≡ t = same_Some (record { place = m.a; policy = m.of_b }) t h in
        record { which = inr (eqb-true m.b k q, ap (λ (o : Towards). o.place) same, ap (λ (o : Towards). o.policy) same) }
    by false false p q h = absurd (none-some t h)

-- ---- a record

-- It is over a link of the node at place k, and waits as one of a run.
pub record IsOverLink (links : List Link) (k : ℕ) (r : RecordNow) : Type 0 where
  pub at : ℕ
  pub link : Link
  pub there : slice_get links at ≡ Some link
  pub leads : LeadsTo k link r.place r.core.facts.policy
  pub salt : r.core.facts.node.salt < 2 ^ 16

mod_below : (word : ℕ) → word % 65536 < 2 ^ 16
mod_below word = omega arith

module _ (nodes : List Node) (k word : ℕ) where
  between : (all : List Link) (at : ℕ) (m : Link) (t : Towards) (mine peer : Option Node) (s : RecordNow) → slice_get all at ≡ Some m → other_of k m ≡ Some t →
      new_towards mine peer k word t ≡ Some s → IsOverLink all k s
  between all at m t (Some x) (Some y) s there e h =
      subst (IsOverLink all k) (same_Some _ s h) (record { at = at; link = m; there = there; leads = leads_to k m t e; salt = mod_below word })
  between all at m t (Some x) None s there e h = absurd (none-some s h)
  between all at m t None peer s there e h = absurd (none-some s h)

  over_it : (all : List Link) (at : ℕ) (m : Link) (s : RecordNow) → slice_get all at ≡ Some m → over nodes k word (other_of k m) ≡ Some s → IsOverLink all k s
  over_it all at m s there e = by (other_of k m) refl e
    where
      by : (o : Option Towards) → other_of k m ≡ o → over nodes k word o ≡ Some s → IsOverLink all k s
      by None p h = absurd (none-some s h)
      by (Some t) p h = between all at m t (slice_get nodes k) (slice_get nodes t.place) s there p h

  all_over_it : (all links : List Link) → ((i : ℕ) (m : Link) → slice_get links i ≡ Some m → (at : ℕ) × (slice_get all at ≡ Some m)) → AllByRecursion (IsOverLink all k) (records_of nodes links k word)
  all_over_it all [] found = tt
  all_over_it all (m ∷ links) found = by (over nodes k word (other_of k m)) refl (all_over_it all links (λ i y e. found (suc i) y e))
    where
      by : (o : Option RecordNow) → over nodes k word (other_of k m) ≡ o → AllByRecursion (IsOverLink all k) (records_of nodes links k word) →
          AllByRecursion (IsOverLink all k) (option_to_list o ++ records_of nodes links k word)
      by None e rest = rest
      by (Some s) e rest = let its = found 0 m refl in (over_it all its.0 m s its.1 e, rest)

by_side : (links : List Link) (lines : List Line) (k : ℕ) (r s : RecordNow) → side_made r ≡ side_in lines k s → IsOverLink links k s → IsOverLink links k r
by_side links lines k r s same its = record {
  at = its.at;
  link = its.link;
  there = its.there;
  leads = subst (λ (f : SideFacts). LeadsTo k its.link r.place f.policy) (sym facts) (subst (λ p. LeadsTo k its.link p s.core.facts.policy) (sym place) its.leads);
  salt = subst (λ (f : SideFacts). f.node.salt < 2 ^ 16) (sym facts) its.salt;
}
  where
    place : r.place ≡ s.place
    place = ap (λ (x : SideMade). x.place) same

    facts : r.core.facts ≡ waiting s.core.facts
    facts = ap (λ (x : SideMade). x.facts) same

pub all_over_link : (nodes : List Node) (links : List Link) (lines : List Line) (k j word : ℕ) (x : Node) (c : CenterNow (List Logged)) → node_made c ≡ made_in nodes links lines k j word x →
    AllByRecursion (IsOverLink links k) c.records
all_over_link nodes links lines k j word x c e =
    through side_made (side_in lines k) (IsOverLink links k) (λ s. IsOverLink links k s × (is_at_home nodes x.centers j s.place ≡ true)) (λ r s same its. by_side links lines k r s same its.0) c.records
    (at_home nodes x.centers j (records_of nodes links k word)) (sides_are nodes links lines k word j x c e)
    (all_filtered (IsOverLink links k) (λ (s : RecordNow). is_at_home nodes x.centers j s.place) (records_of nodes links k word) (all_over_it nodes k word links links (λ i m e. (i, e))))

-- ---- of one link

true_false : true ≡ false → ⊥
true_false e = cc

-- two links that join the same nodes are one
same_link : (links : List Link) → AllPairs JoinOthers links → (i j : ℕ) (l m : Link) → slice_get links i ≡ Some l → slice_get links j ≡ Some m → joins m.a m.b l ≡ true → joins l.a l.b m ≡ true → l ≡ m
same_link links pairs i j l m e f h g = by (cases_lt i j)
  where
    is_l : get_or links i l ≡ l
    is_l = get_or_from_slice_get links i l l e

    is_m : get_or links j l ≡ m
    is_m = get_or_from_slice_get links j m l f

    past : (i ≡ j) ⊎ (j < i) → l ≡ m
    past (inl same) = same_Some l m (sym e ∙ ap (slice_get links) same ∙ f)
    past (inr before) =
        let others : JoinOthers (get_or links j l) (get_or links i l) = pairs j i l before (slice_get_within links i l e) in
        absurd (true_false (sym g ∙ subst (λ (z : Link). JoinOthers z l) is_m (subst (λ (z : Link). JoinOthers (get_or links j l) z) is_l others)))

    same_or_past : j ≤ i → (i ≡ j) ⊎ (j < i)
    same_or_past below = elim (cases_lt j i) [ inl d ↦ inr d | inr d ↦ inl (omega (arith, below, d)) ]

    by : (i < j) ⊎ (j ≤ i) → l ≡ m
    by (inl before) =
        let others : JoinOthers (get_or links i l) (get_or links j l) = pairs i j l before (slice_get_within links j m f) in
        absurd (true_false (sym h ∙ subst (λ (z : Link). JoinOthers z m) is_l (subst (λ (z : Link). JoinOthers (get_or links i l) z) is_m others)))
    by (inr below) = past (same_or_past below)

straight : (a b : ℕ) (l : Link) → l.a ≡ a → l.b ≡ b → joins a b l ≡ true
straight a b l p q = or_left ((l.a == a) && (l.b == b)) ((l.a == b) && (l.b == a)) (both_true (l.a == a) (l.b == b) (eq-eqb l.a a p) (eq-eqb l.b b q))

across : (a b : ℕ) (l : Link) → l.a ≡ b → l.b ≡ a → joins a b l ≡ true
across a b l p q = or_right ((l.a == a) && (l.b == b)) ((l.a == b) && (l.b == a)) (both_true (l.a == b) (l.b == a) (eq-eqb l.a b p) (eq-eqb l.b a q))

module _ (links : List Link) (pairs : AllPairs JoinOthers links) (i : ℕ) (l : Link) (there : slice_get links i ≡ Some l) (different : l.a ≢ l.b) where
  pub near_policy : (r : RecordNow) → IsOverLink links l.a r → r.place ≡ l.b → r.core.facts.policy ≡ l.of_a
  near_policy r its place = by its.leads.which
    where
      by : ((its.link.a ≡ l.a) × (its.link.b ≡ r.place) × (its.link.of_a ≡ r.core.facts.policy)) ⊎ ((its.link.b ≡ l.a) × (its.link.a ≡ r.place) × (its.link.of_b ≡ r.core.facts.policy)) →
          r.core.facts.policy ≡ l.of_a
      by (inl (a, b, is)) =
          let same = same_link links pairs i its.at l its.link there its.there (straight its.link.a its.link.b l (sym a) (sym (b ∙ place))) (straight l.a l.b its.link a (b ∙ place)) in
          sym is ∙ ap (λ (z : Link). z.of_a) (sym same)
      by (inr (b, a, is)) =
          let same = same_link links pairs i its.at l its.link there its.there (across its.link.a its.link.b l (sym b) (sym (a ∙ place))) (across l.a l.b its.link (a ∙ place) b) in
          absurd (different (sym b ∙ ap (λ (z : Link). z.b) (sym same)))

  pub far_policy : (r : RecordNow) → IsOverLink links l.b r → r.place ≡ l.a → r.core.facts.policy ≡ l.of_b
  far_policy r its place = by its.leads.which
    where
      by : ((its.link.a ≡ l.b) × (its.link.b ≡ r.place) × (its.link.of_a ≡ r.core.facts.policy)) ⊎ ((its.link.b ≡ l.b) × (its.link.a ≡ r.place) × (its.link.of_b ≡ r.core.facts.policy)) →
          r.core.facts.policy ≡ l.of_b
      by (inl (a, b, is)) =
          let same = same_link links pairs i its.at l its.link there its.there (across its.link.a its.link.b l (sym (b ∙ place)) (sym a)) (across l.a l.b its.link a (b ∙ place)) in
          absurd (different (ap (λ (z : Link). z.a) same ∙ a))
      by (inr (b, a, is)) =
          let same = same_link links pairs i its.at l its.link there its.there (straight its.link.a its.link.b l (sym (a ∙ place)) (sym b)) (straight l.a l.b its.link (a ∙ place) b) in
          sym is ∙ ap (λ (z : Link). z.of_b) (sym same)

-- ---- two nodes

-- where the link is lossless
pub are_nodes : (l : Link) (a b : RecordNow) → allows l.of_a l.of_b ≡ true → l.a ≢ l.b → l.of_a.lossy ≡ false → l.of_b.lossy ≡ false → a.core.facts.policy ≡ l.of_a → b.core.facts.policy ≡ l.of_b →
    a.core.facts.node.number ≡ l.a → b.core.facts.node.number ≡ l.b → a.core.facts.node.salt < 2 ^ 16 → b.core.facts.node.salt < 2 ^ 16 → AreNodes a.core.facts b.core.facts
are_nodes l a b allowed different near far p q m n s t = record {
  allowed = ap (λ x. allows x b.core.facts.policy) p ∙ ap (allows l.of_a) q ∙ allowed;
  near_keeps = ap (λ (x : Policy). x.lossy) p ∙ near;
  far_keeps = ap (λ (x : Policy). x.lossy) q ∙ far;
  places = λ e. different (sym m ∙ e ∙ n);
  near_salt = s;
  far_salt = t;
}

-- where it is lossy on either side
pub are_lossy : (l : Link) (a b : RecordNow) → allows l.of_a l.of_b ≡ true → a.core.facts.policy ≡ l.of_a → b.core.facts.policy ≡ l.of_b → (l.of_a.lossy ≡ true) ⊎ (l.of_b.lossy ≡ true) →
    AreLossy a.core.facts b.core.facts
are_lossy l a b allowed p q lossy = record {
  allowed = ap (λ x. allows x b.core.facts.policy) p ∙ ap (allows l.of_a) q ∙ allowed;
  lossy = by lossy;
}
  where
    by : (l.of_a.lossy ≡ true) ⊎ (l.of_b.lossy ≡ true) → (a.core.facts.policy.lossy ≡ true) ⊎ (b.core.facts.policy.lossy ≡ true)
    by (inl is) = inl (ap (λ (x : Policy). x.lossy) p ∙ is)
    by (inr is) = inr (ap (λ (x : Policy). x.lossy) q ∙ is)
