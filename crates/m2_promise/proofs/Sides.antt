-- The records of a node over a scenario's links: of each link that joins it there is one, and each is of such a link.
use Rattle.std.proofs.Common.{◌≡◌, ◌≢◌, ℕ, suc, ◌<◌, ◌⊎◌, inl, inr, Bool, true, false, ◌&&◌, ◌||◌, ◌==◌, ◌%◌, if◌then◌else◌, List, [], ◌∷◌, length, map, Option, Some, None, refl, sym, ap, subst, ◌∙◌}
use Rattle.std.specs.Prelude.{slice_get}
use Rattle.std.specs.List.{list_any}
use Rattle.std.specs.Option.{option_to_list}
use Rattle.std.proofs.lemmas.Bool.{eq-eqb, eqb-true}
use Rattle.std.proofs.lemmas.Option.{none-some, same_Some, slice_get_within}
use Rattle.m2_links_go_on.specs.m2_growth.Halves.{IsOneOf}
use Rattle.m2_links_go_on.proofs.m2_growth.Among.{in_part, mapped_one, one_back, one_front}
use Rattle.m2_links_go_on.specs.m2_weave.m2_journal.SideFacts.{SideFacts}
use Rattle.m2_scenario.specs.Order.{IsPeer}
use Rattle.m2_script.specs.m2_record.IsRecord.{new_record}
use Rattle.m2_script.specs.m2_record.RecordNow.{RecordNow}
use Rattle.m2_scenario.specs.declared.link.Link.{Link}
use Rattle.m2_scenario.specs.declared.node.Node.{Node}
use Rattle.m2_scenario.specs.Draft.{joins}
use Rattle.m2_script.specs.declared.made.Towards.{Towards}
use Rattle.m2_promise.specs.AtEnd.{HaveTheSame, Named, named}
use Rattle.m2_script.specs.Made.{facts_of, new_towards, other_of, over, records_of}
use Rattle.m2_dispatch.specs.m2_shared.Gates.{peer_type}
use Rattle.m2_fabric.proofs.m2_lemmas.Booleans.{from_false_true}

-- ---- lists

-- one that passes the test
pub record Passes {X : Type 0} (test : X → Bool) (xs : List X) : Type 0 where
  pub item : X
  pub one : IsOneOf item xs
  pub passes : test item ≡ true

pub passing : {X : Type 0} (test : X → Bool) (xs : List X) → list_any test xs ≡ true → Passes test xs
passing test [] h = from_false_true h
passing {X} test (x ∷ xs) h = at (test x) refl h (passing test xs)
  where
    at : (b : Bool) → test x ≡ b → b || list_any test xs ≡ true → (list_any test xs ≡ true → Passes test xs) → Passes test (x ∷ xs)
    at true e g rest = record { item = x; one = inl refl; passes = e }
    at false e g rest = let it = rest g in record { item = it.item; one = inr it.one; passes = it.passes }

pub passed : {X : Type 0} (test : X → Bool) (x : X) (xs : List X) → IsOneOf x xs → test x ≡ true → list_any test xs ≡ true
passed test x [] one h = absurd one
passed test x (y ∷ xs) (inl e) h = ap (λ b. b || list_any test xs) (ap test (sym e) ∙ h)
passed test x (y ∷ xs) (inr one) h = at (test y) (passed test x xs one h)
  where
    at : (b : Bool) → list_any test xs ≡ true → b || list_any test xs ≡ true
    at true g = refl
    at false g = g

-- ---- a record over a link

-- what a node and a link tell a record
abbrev told_by : (mine peer : Node) (number word : ℕ) → Towards → SideFacts
told_by mine peer number word t = record { mine = mine.at; peer = peer.at; policy = t.policy; node = facts_of mine number word }

abbrev pub named_by : (mine : Node) (number word : ℕ) → Towards → Named
named_by mine number word t = record { place = t.place; policy = t.policy; number = number; fast = mine.fast; salt = word % 65536 }

module _ (nodes : List Node) (number word : ℕ) where
  abbrev of_link : Link → Option RecordNow
  of_link l = over nodes number word (other_of number l)

  one_over : (l : Link) (r : RecordNow) (links : List Link) → of_link l ≡ Some r → IsOneOf l links → IsOneOf r (records_of nodes links number word)
  one_over l r [] e h = absurd h
  one_over l r (m ∷ links) e (inl same) =
      one_front r (option_to_list (of_link m)) (records_of nodes links number word) (subst (λ o. IsOneOf r (option_to_list o)) (sym (ap of_link (sym same) ∙ e)) (inl refl))
  one_over l r (m ∷ links) e (inr h) = one_back r (option_to_list (of_link m)) (records_of nodes links number word) (one_over l r links e h)

  -- the link that it is over
  record IsOver (links : List Link) (r : RecordNow) : Type 0 where
    link : Link
    one : IsOneOf link links
    is : of_link link ≡ Some r

  only : (l : Link) (r : RecordNow) (o : Option RecordNow) → of_link l ≡ o → IsOneOf r (option_to_list o) → of_link l ≡ Some r
  only l r None e h = absurd h
  only l r (Some s) e (inl same) = e ∙ ap Some (sym same)
  only l r (Some s) e (inr h) = absurd h

  is_over : (links : List Link) (r : RecordNow) → IsOneOf r (records_of nodes links number word) → IsOver links r
  is_over [] r h = absurd h
  is_over (l ∷ links) r h = by (in_part r (option_to_list (of_link l)) (records_of nodes links number word) h) (is_over links r)
    where
      by : IsOneOf r (option_to_list (of_link l)) ⊎ IsOneOf r (records_of nodes links number word) → (IsOneOf r (records_of nodes links number word) → IsOver links r) → IsOver (l ∷ links) r
      by (inl one) rest = record { link = l; one = inl refl; is = only l r (of_link l) refl one }
      by (inr one) rest = let it = rest one in record { link = it.link; one = inr it.one; is = it.is }

  -- where it is towards
  at_place : (t : Towards) (r : RecordNow) → over nodes number word (Some t) ≡ Some r → (r.place ≡ t.place) × (t.place < length nodes)
  at_place t r e = by (slice_get nodes number) (slice_get nodes t.place) refl e
    where
      by : (mine peer : Option Node) → slice_get nodes t.place ≡ peer → new_towards mine peer number word t ≡ Some r → (r.place ≡ t.place) × (t.place < length nodes)
      by None peer f g = absurd (none-some r g)
      by (Some m) None f g = absurd (none-some r g)
      by (Some m) (Some p) f g =
          (ap (λ (x : RecordNow). x.place) (sym (same_Some (new_record (told_by m p number word t) t.place (peer_type p.entity)) r g)), slice_get_within nodes t.place p f)

  or_true : (b : Bool) → b || true ≡ true
  or_true true = refl
  or_true false = refl

  -- so the link joins the two
  joined_at : (l : Link) (r : RecordNow) → of_link l ≡ Some r → (joins r.place number l ≡ true) × (r.place < length nodes)
  joined_at l r e = by (l.a == number) refl (l.b == number) refl e
    where
      by_a : (l.a == number) ≡ true → (r.place ≡ l.b) × (l.b < length nodes) → (joins r.place number l ≡ true) × (r.place < length nodes)
      by_a a its = (
        ap (λ c. ((l.a == r.place) && (l.b == number)) || (c && (l.b == r.place))) a ∙ ap (λ c. ((l.a == r.place) && (l.b == number)) || c) (eq-eqb l.b r.place (sym its.0))
            ∙ or_true ((l.a == r.place) && (l.b == number)),
        subst (λ n. n < length nodes) (sym its.0) its.1,
      )

      by_b : (l.b == number) ≡ true → (r.place ≡ l.a) × (l.a < length nodes) → (joins r.place number l ≡ true) × (r.place < length nodes)
      by_b b its = (
        ap (λ c. ((l.a == r.place) && c) || ((l.a == number) && (l.b == r.place))) b ∙ ap (λ c. (c && true) || ((l.a == number) && (l.b == r.place))) (eq-eqb l.a r.place (sym its.0)),
        subst (λ n. n < length nodes) (sym its.0) its.1,
      )

      by : (c : Bool) → (l.a == number) ≡ c → (d : Bool) → (l.b == number) ≡ d →
          over nodes number word (if c then Some (record { place = l.b; policy = l.of_a }) else if d then Some (record { place = l.a; policy = l.of_b }) else None) ≡ Some r →
          (joins r.place number l ≡ true) × (r.place < length nodes)
      by true a d b g = by_a a (at_place (record { place = l.b; policy = l.of_a }) r g)
      by false a true b g = by_b b (at_place (record { place = l.a; policy = l.of_b }) r g)
      by false a false b g = absurd (none-some r g)

  -- ---- the records of the node, at whatever they have done

  module _ (links : List Link) (records : List RecordNow) (same : HaveTheSame (map named records) (map named (records_of nodes links number word))) where
    -- of whom a record is, a link joins with the node
    of_one : (r : RecordNow) → IsOneOf r records → IsPeer (length nodes) links number r.place
    of_one r one = by (unmapped (named r) (records_of nodes links number word) (same.there (named r) (mapped_one named r records one)))
      where
        unmapped : (x : Named) (rs : List RecordNow) → IsOneOf x (map named rs) → (s : RecordNow) × IsOneOf s rs × (x ≡ named s)
        unmapped x [] h = absurd h
        unmapped x (s ∷ rs) (inl e) = (s, inl refl, e)
        unmapped x (s ∷ rs) (inr h) = let it = unmapped x rs h in (it.0, inr it.1, it.2)

        by : (s : RecordNow) × IsOneOf s (records_of nodes links number word) × (named r ≡ named s) → IsPeer (length nodes) links number r.place
        by its =
            let is = is_over links its.0 its.1 in
            let so = joined_at is.link its.0 is.is in
            let place : its.0.place ≡ r.place = ap (λ (x : Named). x.place) (sym its.2) in
            record {
              within = subst (λ n. n < length nodes) place so.1;
              joined = passed (joins r.place number) is.link links is.one (subst (λ n. joins n number is.link ≡ true) place so.0);
            }

    pub peer_joined : (p : ℕ) → list_any (λ (r : RecordNow). r.place == p) records ≡ true → IsPeer (length nodes) links number p
    peer_joined p h =
        let it = passing (λ (r : RecordNow). r.place == p) records h in
        subst (IsPeer (length nodes) links number) (eqb-true it.item.place p it.passes) (of_one it.item it.one)

-- one that is named so, and where
pub record HasNamed (name : Named) (records : List RecordNow) : Type 0 where
  pub at : ℕ
  pub item : RecordNow
  pub there : slice_get records at ≡ Some item
  pub one : IsOneOf item records
  pub is : named item ≡ name

found : (name : Named) (rs : List RecordNow) → IsOneOf name (map named rs) → HasNamed name rs
found name [] h = absurd h
found name (r ∷ rs) (inl e) = record { at = 0; item = r; there = refl; one = inl refl; is = sym e }
found name (r ∷ rs) (inr h) = let it = found name rs h in record { at = suc it.at; item = it.item; there = it.there; one = inr it.one; is = it.is }

-- of a link of the node there is a record
module _ (nodes : List Node) (links : List Link) (number word : ℕ) (records : List RecordNow) (same : HaveTheSame (map named records) (map named (records_of nodes links number word))) where
  pub record_over : (l : Link) (t : Towards) (mine peer : Node) → IsOneOf l links → other_of number l ≡ Some t → slice_get nodes number ≡ Some mine → slice_get nodes t.place ≡ Some peer →
      HasNamed (named_by mine number word t) records
  record_over l t mine peer one other m p =
      let r = new_record (told_by mine peer number word t) t.place (peer_type peer.entity) in
      let made : over nodes number word (other_of number l) ≡ Some r =
      ap (over nodes number word) other ∙ ap (λ o. new_towards o (slice_get nodes t.place) number word t) m ∙ ap (λ o. new_towards (Some mine) o number word t) p in
      found (named_by mine number word t) records (same.back (named_by mine number word t) (mapped_one named r (records_of nodes links number word) (one_over nodes number word l r links made one)))

-- ---- the two nodes of a link

abbrev to_b : Link → Option Towards
to_b l = Some (record { place = l.b; policy = l.of_a })

abbrev to_a : Link → Option Towards
to_a l = Some (record { place = l.a; policy = l.of_b })

pub from_a : (l : Link) → other_of l.a l ≡ Some (record { place = l.b; policy = l.of_a })
from_a l = ap (λ c. if c then to_b l else if l.b == l.a then to_a l else None) (eq-eqb l.a l.a refl)

pub from_b : (l : Link) → l.a ≢ l.b → other_of l.b l ≡ Some (record { place = l.a; policy = l.of_b })
from_b l apart = by (l.a == l.b) refl
  where
    by : (c : Bool) → (l.a == l.b) ≡ c → (if c then to_b l else if l.b == l.b then to_a l else None) ≡ to_a l
    by true e = absurd (apart (eqb-true l.a l.b e))
    by false e = ap (λ c. if c then to_a l else None) (eq-eqb l.b l.b refl)
